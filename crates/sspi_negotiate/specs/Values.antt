-- What one end of a negotiation knows besides the selected mechanism.
use Rattle.std.specs.Prelude.{ℕ, List, Option, Bool, true, false}
use Rattle.sspi_names.specs.declared.credentials.CredentialsBuffers.{CredentialsBuffers}
use Rattle.sspi_names.specs.declared.identity.AuthIdentity.{AuthIdentity}
use Rattle.sspi_names.specs.declared.kdc_table.KdcEntry.{KdcEntry}
use Rattle.sspi_negotiate.specs.declared.branch.Branch.{Branch}
use Rattle.sspi_negotiate.specs.declared.branch.Branch.TheVariants as branches
use Rattle.sspi_negotiate.specs.declared.package_list.PackageListConfig.{PackageListConfig}
use Rattle.sspi_negotiate.specs.declared.protocol.NegotiatedProtocol.{NegotiatedProtocol}
use Rattle.sspi_negotiate.specs.declared.protocol.Protocol.{Protocol}
use Rattle.sspi_negotiate.specs.declared.state.NegotiateState.{NegotiateState}
use Rattle.sspi_negotiate.specs.declared.state.Role.{Role}
use Rattle.sspi_negotiate.specs.Hand.{hand_of}

-- what the steps read and change
pub record Values : Type 0 where
  pub role : Role
  pub state : NegotiateState
  -- the name of the selected mechanism, and the packages that may be used
  pub hand : Protocol
  pub packages : PackageListConfig
  -- the mechanisms that the client offered; empty until then
  pub list : List (List ℕ)
  -- whether the list must be protected by MICs
  pub need : Bool
  -- the credentials that a client keeps, and the identities that a server knows
  pub kept : Option CredentialsBuffers
  pub known : List AuthIdentity
  -- what a mechanism selected later is made from
  pub computer : List ℕ
  pub kdcs : List KdcEntry
  -- which step waits for a KDC
  pub branch : Branch

-- one end: the same, with the selected mechanism itself in place of its name
pub record Negotiation (M : Type 0) : Type 0 where
  pub role : Role
  pub state : NegotiateState
  pub packages : PackageListConfig
  pub list : List (List ℕ)
  pub need : Bool
  pub kept : Option CredentialsBuffers
  pub known : List AuthIdentity
  pub computer : List ℕ
  pub kdcs : List KdcEntry
  pub branch : Branch
  pub mech : M

abbrev pub values_of : {N K : Type 0} → Negotiation (NegotiatedProtocol N K) → Values
values_of s = record {
  role = s.role;
  state = s.state;
  hand = hand_of s.mech;
  packages = s.packages;
  list = s.list;
  need = s.need;
  kept = s.kept;
  known = s.known;
  computer = s.computer;
  kdcs = s.kdcs;
  branch = s.branch;
}

-- whether a step waits for a KDC
abbrev pub is_waiting : Branch → Bool
is_waiting branches.Idle = false
is_waiting (branches.Opening opening) = true
is_waiting (branches.Answering token) = true
