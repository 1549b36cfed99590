-- Identifier octets with tag numbers below 31 (X.690 8.1.2): class, primitive or constructed, tag
-- number.
use Rattle.std.specs.Prelude.{ℕ, ◌+◌, ◌%◌}
use Rattle.sspi_ber.specs.declared.identifier.Pc.{Pc}
use Rattle.sspi_ber.specs.declared.identifier.Pc.TheVariants.{Primitive, Construct}
use Rattle.sspi_ber.specs.declared.identifier.Tag.{Tag}
use Rattle.sspi_ber.specs.declared.identifier.Tag.TheVariants.{Boolean, Integer, BitString}
use Rattle.sspi_ber.specs.declared.identifier.Tag.TheVariants.{OctetString}
use Rattle.sspi_ber.specs.declared.identifier.Tag.TheVariants.{ObjectIdentifier, Enumerated}
use Rattle.sspi_ber.specs.declared.identifier.Tag.TheVariants.{Sequence}

-- bit 6: the encoding is constructed
abbrev pub encoding_bit : Pc → ℕ
encoding_bit Primitive = 0
encoding_bit Construct = 0x20

-- the tag numbers of the universal class (X.690 8.2 to 8.10, X.680 8.4)
abbrev pub tag_number : Tag → ℕ
tag_number Boolean = 0x01
tag_number Integer = 0x02
tag_number BitString = 0x03
tag_number OctetString = 0x04
tag_number ObjectIdentifier = 0x06
tag_number Enumerated = 0x0A
tag_number Sequence = 0x10

abbrev pub universal_identifier : Tag → Pc → ℕ
universal_identifier tag pc = tag_number tag + encoding_bit pc

-- the context-specific class, with the low five bits of the tag number
abbrev pub contextual_identifier : ℕ → Pc → ℕ
contextual_identifier number pc = 0x80 + encoding_bit pc + number % 32
