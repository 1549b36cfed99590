-- Two ends that understand each other.
use Rattle.std.specs.Prelude.{◌≡◌}
use Rattle.sspi_mech.specs.KerberosStage.{KerberosState, own_direction, peer_direction}

-- one key, and the second takes the direction that the first makes
pub record IsPeer (m p : KerberosState) : Type 0 where
  pub key : m.protection.key ≡ p.protection.key
  pub direction : own_direction m.stage ≡ peer_direction p.stage
