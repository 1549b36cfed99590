use Rattle.std.proofs.Common.{arith}
use Rattle.sspi_names.proofs.CodeUnits.{even_ok}
use Rattle.sspi_names.proofs.utf16.Utf16Text.is_text_le.Goals as goal

pub returns-then-bytes-eq0 : goal.returns-then-bytes-eq0
returns-then-bytes-eq0 c = even_ok c.args.bytes.now c.is_well_formed.result (omega arith) c.is_well_formed.ensures
