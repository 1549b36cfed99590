use Rattle.sspi_names.proofs.CodeUnits.{decode_le-bytes_le, decoded}
use Rattle.sspi_names.proofs.laws.code_units_and_bytes.Goals as goal

pub returns : goal.returns
returns c = record { read = decode_le-bytes_le; bytes = decoded }
