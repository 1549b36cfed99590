use Rattle.sspi_names.proofs.CodeUnits.{IsUtf16-paired, IsUtf16-small, IsUtf16-from_paired}
use Rattle.sspi_names.proofs.laws.well_formed_is_paired.Goals as goal

pub returns : goal.returns
returns c = record { paired = IsUtf16-paired; small = IsUtf16-small; well_formed = IsUtf16-from_paired }
