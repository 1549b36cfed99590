-- Which of the mechanisms that a client offers the server picks (MS-SPNG 3.1.5).
use Rattle.std.specs.Prelude.{ℕ, List, [], ◌∷◌, ◌&&◌, ◌++◌, position, Option, None, Some, Bool}
use Rattle.std.specs.Prelude.{true, false, if◌then◌else◌}
use Rattle.sspi_tokens.specs.declared.oid.MechKind.{MechKind}
use Rattle.sspi_tokens.specs.declared.oid.MechKind.TheVariants as kinds
use Rattle.sspi_tokens.specs.Oids.{ms_krb5, krb5, ntlm_ssp, kind_of}
use Rattle.sspi_negotiate.specs.declared.package_list.PackageListConfig.{PackageListConfig}
use Rattle.sspi_negotiate.specs.declared.pick.Choice.{Choice}
use Rattle.sspi_negotiate.specs.declared.pick.Choice.TheVariants.{MsKerberos, Kerberos, Ntlm}
use Rattle.sspi_negotiate.specs.declared.pick.Picked.{Picked}
use Rattle.sspi_negotiate.specs.declared.protocol.Protocol.{Protocol}
use Rattle.sspi_negotiate.specs.Hand.{is_kerberos_hand}

abbrev pub oid_of : Choice → List ℕ
oid_of MsKerberos = ms_krb5
oid_of Kerberos = krb5
oid_of Ntlm = ntlm_ssp

-- whether an identifier names this mechanism
abbrev pub is_kind : Choice → MechKind → Bool
is_kind MsKerberos kinds.MsKerberos = true
is_kind MsKerberos kinds.Kerberos = false
is_kind MsKerberos kinds.Ntlm = false
is_kind MsKerberos kinds.Other = false
is_kind Kerberos kinds.MsKerberos = false
is_kind Kerberos kinds.Kerberos = true
is_kind Kerberos kinds.Ntlm = false
is_kind Kerberos kinds.Other = false
is_kind Ntlm kinds.MsKerberos = false
is_kind Ntlm kinds.Kerberos = false
is_kind Ntlm kinds.Ntlm = true
is_kind Ntlm kinds.Other = false

-- its first position in the list
abbrev pub place_of : Choice → List (List ℕ) → Option ℕ
place_of choice list = position (λ oid. is_kind choice (kind_of oid)) list

-- the mechanism if it is offered, else `other`
abbrev pub found_or : Choice → Option ℕ → Option Picked → Option Picked
found_or choice None other = other
found_or choice (Some index) other = Some (record { choice = choice; index = index })

abbrev pub picked_or : Bool → Choice → List (List ℕ) → Option Picked → Option Picked
picked_or false choice list other = other
picked_or true choice list other = found_or choice (place_of choice list) other

-- Kerberos under its identifier of Windows 2000, then under its own, if it may be used and is
-- selected; then NTLM, if it may be used
abbrev pub pick : List (List ℕ) → PackageListConfig → Protocol → Option Picked
pick list packages protocol =
    picked_or (packages.kerberos && is_kerberos_hand protocol) MsKerberos list
    (picked_or (packages.kerberos && is_kerberos_hand protocol) Kerberos list
    (picked_or packages.ntlm Ntlm list None))

-- what a client offers: Kerberos, under both identifiers, if it is selected, and NTLM if it may be
-- used
abbrev pub offered : Protocol → PackageListConfig → List (List ℕ)
offered protocol packages =
    (if is_kerberos_hand protocol then ms_krb5 ∷ krb5 ∷ [] else []) ++
    (if packages.ntlm then ntlm_ssp ∷ [] else [])
