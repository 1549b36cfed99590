-- What a reader finds where it refuses a piece, and how many bytes are left there.
use Rattle.std.specs.Prelude.{ℕ, ◌-◌, ◌==◌, nat_lt, List, [], ◌∷◌, ◌++◌, length, take, codes}
use Rattle.std.specs.Prelude.{decimal, Ok, Err, if◌then◌else◌}
use Rattle.hex.specs.Hex.{encode_lower}
use Rattle.sspi_ber.specs.Forms.{big_endian, is_integer_size}
use Rattle.sspi_ber.specs.Pieces.{Read, is_octet_count, header_at}
use Rattle.sspi_explain.specs.declared.found.Found.{Found}
use Rattle.sspi_explain.specs.declared.found.Found.TheVariants.{Tag, NoTag, LengthOctet, NoLength}
use Rattle.sspi_explain.specs.declared.found.Found.TheVariants.{LongLength, Integer, Nonce, Short}
use Rattle.sspi_explain.specs.Texts.{count_text}

unfoldable pub octet_text : ℕ → List ℕ
octet_text octet = encode_lower (octet ∷ [])

unfoldable pub found_text : Found → List ℕ
found_text (Tag wanted found) = codes "tag " ++ octet_text wanted ++ codes " wanted, " ++
    octet_text found ++ codes " found"
found_text (NoTag wanted) = codes "tag " ++ octet_text wanted ++ codes " wanted, end of bytes"
found_text (LengthOctet octet) = codes "length: first octet " ++ octet_text octet
found_text NoLength = codes "length: end of bytes"
found_text (LongLength length) = codes "length " ++ decimal length ++ codes " above 1048576"
found_text (Integer size) = codes "integer of " ++ count_text size
found_text (Nonce size) = codes "nonce of " ++ count_text size
found_text (Short wanted left) = count_text wanted ++ codes " wanted, " ++ decimal left ++
    codes " left"

-- in a length that is refused
abbrev pub found_in_octets : ℕ → ℕ → List ℕ → Found
found_in_octets first count rest =
    if is_octet_count count
    then (if nat_lt (length rest) count then NoLength
    else LongLength (big_endian (take count rest)))
    else LengthOctet first

unfoldable pub found_in_length : List ℕ → Found
found_in_length [] = NoLength
found_in_length (first ∷ rest) = found_in_octets first (first - 0x80) rest

-- in a refused header of this tag
unfoldable pub found_in_header : ℕ → List ℕ → ℕ × Found
found_in_header tag [] = (0, NoTag tag)
found_in_header tag (byte ∷ rest) =
    if byte == tag then (length rest, found_in_length rest)
    else (length (byte ∷ rest), Tag tag byte)

-- in an INTEGER that is refused
abbrev pub found_behind : List ℕ → Read ℕ → ℕ × Found
found_behind bytes (Ok n) =
    if is_integer_size n.0 then (length n.1, Short n.0 (length n.1))
    else (length bytes - 1, Integer n.0)
found_behind bytes (Err fault) = found_in_header 0x02 bytes

unfoldable pub found_in_integer : List ℕ → ℕ × Found
found_in_integer bytes = found_behind bytes (header_at 0x02 bytes)
