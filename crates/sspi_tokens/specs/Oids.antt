-- The identifiers of the mechanisms, as content bytes (X.690 8.19).
use Rattle.std.specs.Prelude.{ℕ, List, [], ◌∷◌, Option, None, Some, if◌then◌else◌}
use Rattle.std.specs.Str.{bytes_eq}
use Rattle.sspi_tokens.specs.declared.oid.MechKind.{MechKind}
use Rattle.sspi_tokens.specs.declared.oid.MechKind.TheVariants.{MsKerberos, Kerberos, Ntlm, Other}

-- 1.3.6.1.5.5.2
abbrev pub spnego : List ℕ
spnego = 0x2B ∷ 0x06 ∷ 0x01 ∷ 0x05 ∷ 0x05 ∷ 0x02 ∷ []

-- 1.2.840.48018.1.2.2
abbrev pub ms_krb5 : List ℕ
ms_krb5 = 0x2A ∷ 0x86 ∷ 0x48 ∷ 0x82 ∷ 0xF7 ∷ 0x12 ∷ 0x01 ∷ 0x02 ∷ 0x02 ∷ []

-- 1.2.840.113554.1.2.2
abbrev pub krb5 : List ℕ
krb5 = 0x2A ∷ 0x86 ∷ 0x48 ∷ 0x86 ∷ 0xF7 ∷ 0x12 ∷ 0x01 ∷ 0x02 ∷ 0x02 ∷ []

-- 1.3.6.1.4.1.311.2.2.10
abbrev pub ntlm_ssp : List ℕ
ntlm_ssp = 0x2B ∷ 0x06 ∷ 0x01 ∷ 0x04 ∷ 0x01 ∷ 0x82 ∷ 0x37 ∷ 0x02 ∷ 0x02 ∷ 0x0A ∷ []

-- the mechanism that these content bytes name
unfoldable pub kind_of : List ℕ → MechKind
kind_of oid =
    if bytes_eq oid ms_krb5 then MsKerberos
    else if bytes_eq oid krb5 then Kerberos
    else if bytes_eq oid ntlm_ssp then Ntlm
    else Other

-- the identifier of a mechanism
abbrev pub identifier_of : MechKind → Option (List ℕ)
identifier_of MsKerberos = Some ms_krb5
identifier_of Kerberos = Some krb5
identifier_of Ntlm = Some ntlm_ssp
identifier_of Other = None
