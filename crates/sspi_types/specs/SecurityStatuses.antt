-- The number of each status.
use Rattle.std.specs.Prelude.{ℕ}
use Rattle.sspi_types.specs.declared.security_status.SecurityStatus.{SecurityStatus}
use Rattle.sspi_types.specs.declared.security_status.SecurityStatus.TheVariants.{Ok, ContinueNeeded}
use Rattle.sspi_types.specs.declared.security_status.SecurityStatus.TheVariants.{CompleteNeeded}
use Rattle.sspi_types.specs.declared.security_status.SecurityStatus.TheVariants.{CompleteAndContinue}
use Rattle.sspi_types.specs.declared.security_status.SecurityStatus.TheVariants.{LocalLogon}
use Rattle.sspi_types.specs.declared.security_status.SecurityStatus.TheVariants.{ContextExpired}
use Rattle.sspi_types.specs.declared.security_status.SecurityStatus.TheVariants.{IncompleteCredentials}
use Rattle.sspi_types.specs.declared.security_status.SecurityStatus.TheVariants.{Renegotiate}
use Rattle.sspi_types.specs.declared.security_status.SecurityStatus.TheVariants.{NoLsaContext}

-- the number of each status (winerror.h, SECURITY_STATUS codes that are not errors)
abbrev pub security_status_number : SecurityStatus → ℕ
security_status_number Ok = 0x00000
security_status_number ContinueNeeded = 0x90312
security_status_number CompleteNeeded = 0x90313
security_status_number CompleteAndContinue = 0x90314
security_status_number LocalLogon = 0x90315
security_status_number ContextExpired = 0x90317
security_status_number IncompleteCredentials = 0x90320
security_status_number Renegotiate = 0x90321
security_status_number NoLsaContext = 0x90323
