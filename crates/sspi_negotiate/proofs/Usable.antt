-- A server picks NTLM only if it may be used.
use Rattle.std.proofs.Common.{◌≡◌, ◌&&◌, ℕ, List, Option, None, Some, Bool, true, false, refl}
use Rattle.sspi_negotiate.specs.declared.package_list.PackageListConfig.{PackageListConfig}
use Rattle.sspi_negotiate.specs.declared.pick.Choice.{Choice}
use Rattle.sspi_negotiate.specs.declared.pick.Choice.TheVariants.{MsKerberos, Kerberos, Ntlm}
use Rattle.sspi_negotiate.specs.declared.pick.Picked.{Picked}
use Rattle.sspi_negotiate.specs.declared.protocol.Protocol.{Protocol}
use Rattle.sspi_negotiate.specs.Hand.{is_kerberos_hand}
use Rattle.sspi_negotiate.specs.Pick.{found_or, picked_or, place_of, pick}
use Rattle.sspi_negotiate.specs.Usable.{OnNtlm, IsUsable}

found_usable : (packages : PackageListConfig) (choice : Choice) (place : Option ℕ) (other : Option Picked) →
    OnNtlm choice (packages.ntlm ≡ true) → IsUsable packages other → IsUsable packages (found_or choice place other)
found_usable packages choice None other h k = k
found_usable packages choice (Some index) other h k = h

or_usable : (packages : PackageListConfig) (usable : Bool) (choice : Choice) (list : List (List ℕ)) (other : Option Picked) →
    (usable ≡ true → OnNtlm choice (packages.ntlm ≡ true)) → IsUsable packages other →
    IsUsable packages (picked_or usable choice list other)
or_usable packages false choice list other h k = k
or_usable packages true choice list other h k = found_usable packages choice (place_of choice list) other (h refl) k

pub pick_usable : (list : List (List ℕ)) (packages : PackageListConfig) (protocol : Protocol) →
    IsUsable packages (pick list packages protocol)
pick_usable list packages protocol =
    let kerberos = packages.kerberos && is_kerberos_hand protocol in
    let ntlm = picked_or packages.ntlm Ntlm list None in
    or_usable packages kerberos MsKerberos list (picked_or kerberos Kerberos list ntlm) (λ b. tt)
    (or_usable packages kerberos Kerberos list ntlm (λ b. tt) (or_usable packages packages.ntlm Ntlm list None (λ h. h) tt))
