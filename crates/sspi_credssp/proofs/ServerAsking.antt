-- At which statuses a server looks up its peer.
use Rattle.std.proofs.Common.{◌≡◌, Some, refl}
use Rattle.sspi_types.specs.declared.security_status.SecurityStatus.{SecurityStatus}
use Rattle.sspi_types.specs.declared.security_status.SecurityStatus.TheVariants as statuses
use Rattle.sspi_credssp.specs.Proxy.{look_ups_at}
use Rattle.sspi_credssp.specs.Turn.{IsOver}

pub over_looks : (s : SecurityStatus) → IsOver (Some s) → 1 ≡ look_ups_at (Some s)
over_looks statuses.Ok over = refl
over_looks statuses.ContinueNeeded over = absurd over
over_looks statuses.CompleteNeeded over = refl
over_looks statuses.CompleteAndContinue over = absurd over
over_looks statuses.LocalLogon over = absurd over
over_looks statuses.ContextExpired over = absurd over
over_looks statuses.IncompleteCredentials over = absurd over
over_looks statuses.Renegotiate over = absurd over
over_looks statuses.NoLsaContext over = absurd over
