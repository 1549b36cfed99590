-- What no step of a negotiation undoes.
use Rattle.std.specs.Prelude.{◌≡◌, ◌≢◌, Bool, true, false}
use Rattle.sspi_negotiate.specs.declared.branch.Branch.{Branch}
use Rattle.sspi_negotiate.specs.declared.branch.Branch.TheVariants.{Idle, Opening, Answering}
use Rattle.sspi_negotiate.specs.declared.package_list.PackageListConfig.{PackageListConfig}
use Rattle.sspi_negotiate.specs.declared.protocol.Protocol.{Protocol}
use Rattle.sspi_negotiate.specs.declared.protocol.Protocol.TheVariants.{Kerberos, Ntlm}
use Rattle.sspi_negotiate.specs.declared.state.NegotiateState.TheVariants.{Initial}
use Rattle.sspi_negotiate.specs.Values.{Values}

abbrev pub may_use : PackageListConfig → Protocol → Bool
may_use packages Ntlm = packages.ntlm
may_use packages Kerberos = packages.kerberos

abbrev pub is_opening : Branch → Bool
is_opening Idle = false
is_opening (Opening first) = true
is_opening (Answering token) = false

abbrev pub is_answering : Branch → Bool
is_answering Idle = false
is_answering (Opening first) = false
is_answering (Answering token) = true

-- the list of mechanisms was offered or, on a server, read
pub record HasList (v : Values) : Type 0 where
  pub begun : v.state ≢ Initial
  pub made : is_opening v.branch ≡ false

-- no package is enabled again, and the selected mechanism may be used if that was so before
pub record KeepsPackages (old : PackageListConfig) (held : Protocol) (new : PackageListConfig)
    (hand : Protocol) : Type 0 where
  pub ntlm : new.ntlm ≡ true → old.ntlm ≡ true
  pub kerberos : new.kerberos ≡ true → old.kerberos ≡ true
  pub in_hand : may_use old held ≡ true → may_use new hand ≡ true

-- in addition, the list of mechanisms stays once it is there
pub record Keeps (old new : Values) : Type 0 where
  pub packages : KeepsPackages old.packages old.hand new.packages new.hand
  pub list : HasList old → new.list ≡ old.list
