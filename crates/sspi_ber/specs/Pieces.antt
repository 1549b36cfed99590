-- What reading a list of bytes from left to right gives, a value and the bytes after it, or the
-- first fault; and the pieces of BER read in this way. A fault of a length's first byte, or of an
-- integer's length, comes before the end of the bytes after it.
use Rattle.std.specs.Prelude.{ℕ, List, Result, Ok, Err, replicate, Option, None, Some, ◌-◌, nat_lt}
use Rattle.std.specs.Prelude.{nat_le, Bool, ◌&&◌, ◌==◌, [], ◌∷◌}
use Rattle.std.specs.Prelude.{length, take, drop, if◌then◌else◌}
use Rattle.sspi_ber.specs.Forms.{max_content, max_length_octets, big_endian, is_integer_size}

-- the first fault: the bytes end before the piece does, or the piece is malformed
pub data Fault : Type 0 where
  Ended Invalid : Fault

-- a value, and the bytes that follow it
abbrev pub Read : Type 0 → Type 0
Read A = Result (A × List ℕ) Fault

infixl 10 ◌>>=◌
abbrev pub ◌>>=◌ : {A B : Type 0} → Result A Fault → (A → Result B Fault) → Result B Fault
(Ok x) >>= next = next x
(Err fault) >>= next = Err fault

-- each fault counts as the end of the bytes
abbrev pub as_ended : {A : Type 0} → Result A Fault → Result A Fault
as_ended (Ok x) = Ok x
as_ended (Err fault) = Err Ended

-- the fault, if there is one
abbrev pub fault_of : {A : Type 0} → Result A Fault → Option Fault
fault_of (Ok x) = None
fault_of (Err fault) = Some fault

-- this many zero bytes
abbrev pub zeros : ℕ → List ℕ
zeros count = replicate {A = ℕ} count 0

-- ---- the pieces

abbrev pub byte_at : List ℕ → Read ℕ
byte_at [] = Err Ended
byte_at (byte ∷ rest) = Ok (byte, rest)

unfoldable pub bytes_at : ℕ → List ℕ → Read (List ℕ)
bytes_at n bytes = if nat_lt (length bytes) n then Err Ended else Ok (take n bytes, drop n bytes)

unfoldable pub number_at : ℕ → List ℕ → Read ℕ
number_at size bytes = do
  content ← bytes_at size bytes
  Ok (big_endian content.0, content.1)

-- this many octets as a number up to the limit
unfoldable pub limited_at : ℕ → List ℕ → Read ℕ
limited_at count bytes = do
  n ← number_at count bytes
  if nat_le n.0 max_content then Ok n else Err Invalid

-- how many octets may follow the first one of a length in the long form
abbrev pub is_octet_count : ℕ → Bool
is_octet_count count = nat_le 1 count && nat_le count max_length_octets

unfoldable pub length_at : List ℕ → Read ℕ
length_at bytes = do
  first ← byte_at bytes
  if nat_lt first.0 0x80 then Ok first
      else if is_octet_count (first.0 - 0x80) then limited_at (first.0 - 0x80) first.1
      else Err Invalid

unfoldable pub header_at : ℕ → List ℕ → Read ℕ
header_at tag bytes = do
  first ← byte_at bytes
  if first.0 == tag then length_at first.1 else Err Invalid

-- the length in a header, and how many bytes the header takes
unfoldable pub sized_header_at : ℕ → List ℕ → Read (ℕ × ℕ)
sized_header_at tag bytes = do
  n ← header_at tag bytes
  Ok ((n.0, length bytes - length n.1), n.1)

unfoldable pub element_at : ℕ → List ℕ → Read (List ℕ)
element_at tag bytes = do
  n ← header_at tag bytes
  bytes_at n.0 n.1

unfoldable pub integer_at : List ℕ → Read ℕ
integer_at bytes = do
  n ← header_at 0x02 bytes
  if is_integer_size n.0 then number_at n.0 n.1 else Err Invalid

-- the length after a tag, or nothing if another byte comes next, or none
unfoldable pub tag_or_absent_at : ℕ → List ℕ → Read (Option ℕ)
tag_or_absent_at tag [] = Ok (None, [])
tag_or_absent_at tag (byte ∷ rest) = if byte == tag
    then (length_at rest >>= λ n. Ok (Some n.0, n.1)) else Ok (None, byte ∷ rest)

abbrev pub present_at : {A : Type 0} → (List ℕ → Read A) → Option ℕ → List ℕ → Read (Option A)
present_at inner None bytes = Ok (None, bytes)
present_at inner (Some n) bytes = inner bytes >>= λ x. Ok (Some x.0, x.1)

-- an optional field: after its tag and a length comes what inner reads; the length is not compared
unfoldable pub field_at : {A : Type 0} → ℕ → (List ℕ → Read A) → List ℕ → Read (Option A)
field_at tag inner bytes = do
  n ← tag_or_absent_at tag bytes
  present_at inner n.0 n.1

-- a tag, a length that is not compared, and what inner reads
unfoldable pub tagged_at : {A : Type 0} → ℕ → (List ℕ → Read A) → List ℕ → Read A
tagged_at tag inner bytes = do
  n ← header_at tag bytes
  inner n.1
