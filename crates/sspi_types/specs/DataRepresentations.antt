-- The number of each data representation.
use Rattle.std.specs.Prelude.{ℕ}
use Rattle.sspi_types.specs.declared.data_representation.DataRepresentation.{DataRepresentation}
use Rattle.sspi_types.specs.declared.data_representation.DataRepresentation.TheVariants.{Network}
use Rattle.sspi_types.specs.declared.data_representation.DataRepresentation.TheVariants.{Native}

-- the number of each representation (sspi.h, SECURITY_*_DREP)
abbrev pub data_representation_number : DataRepresentation → ℕ
data_representation_number Network = 0x00
data_representation_number Native = 0x10
