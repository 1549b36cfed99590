-- The shortest encoding of each piece (X.690 8.1.3.4, 8.1.3.5, 8.3.2).
use Rattle.std.specs.Prelude.{◌≡◌, ℕ, ◌+◌, ◌/◌, ◌%◌, nat_lt, Bool, true, false, List, [], ◌∷◌, ◌++◌}
use Rattle.std.specs.Prelude.{length, Result, Ok, Err, if◌then◌else◌}
use Rattle.sspi_ber.specs.declared.wire_kind.WireKind.{WireKind}
use Rattle.sspi_ber.specs.declared.wire_kind.WireKind.TheVariants.{InvalidData}

-- a number up to the limit in as few octets as hold it, the most significant one first
unfoldable pub length_octets : ℕ → List ℕ
length_octets n =
    if nat_lt n 0x100 then n ∷ []
    else if nat_lt n 0x10000 then n / 0x100 ∷ n % 0x100 ∷ []
    else n / 0x10000 ∷ n / 0x100 % 0x100 ∷ n % 0x100 ∷ []

unfoldable pub len_short : ℕ → List ℕ
len_short n = if nat_lt n 0x80 then n ∷ [] else (0x80 + length (length_octets n)) ∷ length_octets n

-- a tag and the length of a content of n bytes
unfoldable pub header : ℕ → ℕ → List ℕ
header tag n = tag ∷ len_short n

-- a tag, the length of the content, and the content
unfoldable pub element : ℕ → List ℕ → List ℕ
element tag content = header tag (length content) ++ content

-- how many bytes an element with n bytes of content takes
unfoldable pub element_size : ℕ → ℕ
element_size n = 1 + length (len_short n) + n

-- the content bytes of an integer: as few as keep its highest bit clear, and never more than four
unfoldable pub int_content : ℕ → List ℕ
int_content v =
    if nat_lt v 0x80 then v ∷ []
    else if nat_lt v 0x8000 then v / 0x100 ∷ v % 0x100 ∷ []
    else if nat_lt v 0x800000 then v / 0x10000 ∷ v / 0x100 % 0x100 ∷ v % 0x100 ∷ []
    else v / 0x1000000 ∷ v / 0x10000 % 0x100 ∷ v / 0x100 % 0x100 ∷ v % 0x100 ∷ []

unfoldable pub int_short : ℕ → List ℕ
int_short v = element 0x02 (int_content v)

-- a size if the lengths fit, and `InvalidData` if one does not
abbrev pub IsSizeIf : Bool → Result ℕ WireKind → ℕ → Type 0
IsSizeIf true result size = result ≡ Ok size
IsSizeIf false result size = result ≡ Err InvalidData
