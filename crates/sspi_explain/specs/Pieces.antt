-- The pieces from which every message is read: what the reader's own piece gives and, where that is
-- refused, what is there instead.
use Rattle.std.specs.Prelude.{ℕ, ◌-◌, ◌==◌, Bool, true, false, List, Option, None, Some, length}
use Rattle.std.specs.Prelude.{if◌then◌else◌}
use Rattle.sspi_ber.specs.Pieces.{Fault, Ended, Invalid, header_at, bytes_at, tag_or_absent_at}
use Rattle.sspi_tsreq.specs.Reading.{low_at}
use Rattle.sspi_explain.specs.declared.field.Field.{Field}
use Rattle.sspi_explain.specs.declared.found.Found.{Found}
use Rattle.sspi_explain.specs.declared.found.Found.TheVariants.{Short, Nonce}
use Rattle.sspi_explain.specs.Found.{found_text, found_in_header, found_in_integer}
use Rattle.sspi_explain.specs.Page.{Sheet, refused}
use Rattle.sspi_explain.specs.Told.{Spot, spot, offset, At, Told, Goes, Ends, told, ◌>>=◌}

-- a refusal, with what was found and how many bytes are left there
abbrev pub refused_as : Sheet → ℕ → Field → ℕ × Found → Fault → Sheet
refused_as page end field found fault =
    refused (end - found.0) field fault (found_text found.1) page

-- a tag and a length
unfoldable pub header_told : ℕ → Field → Sheet → Spot → Told ℕ
header_told tag field page place =
    told page place (refused_as page place.end field (found_in_header tag place.rest))
    (header_at tag place.rest)

-- n bytes
unfoldable pub bytes_told : ℕ → Field → Sheet → Spot → Told (List ℕ)
bytes_told n field page place =
    told page place (refused_as page place.end field (
      length place.rest,
      Short n (length place.rest),
    )) (bytes_at n place.rest)

unfoldable pub element_told : ℕ → Field → Sheet → Spot → Told (List ℕ)
element_told tag field page place = do
  n ← header_told tag field page place
  bytes_told n.value field n.page n.place

-- the content of an element, to be read in turn
unfoldable pub inside_told : ℕ → Field → Sheet → Spot → Told Spot
inside_told tag field page place = do
  content ← element_told tag field page place
  Goes (record {
    page = content.page;
    value = spot content.value (offset content.place);
    place =
        content.place;
  })

-- the length after this tag, if the tag comes next
unfoldable pub there_told : ℕ → Field → Sheet → Spot → Told (Option ℕ)
there_told tag field page place =
    told page place (refused_as page place.end field (found_in_header tag place.rest))
    (tag_or_absent_at tag place.rest)

-- the low 32 bits of an INTEGER
unfoldable pub low_told : Field → Sheet → Spot → Told ℕ
low_told field page place =
    told page place (refused_as page place.end field (found_in_integer place.rest))
    (low_at place.rest)

abbrev pub nonce_content : Field → ℕ → At ℕ → Told (List ℕ)
nonce_content field left n =
    if n.value == 32
    then bytes_told n.value field n.page n.place
    else Ends (refused_as n.page n.place.end field (left, Nonce n.value) Invalid) Invalid

-- the 32 bytes of a nonce; any other length is the fault
unfoldable pub nonce_told : Field → Sheet → Spot → Told (List ℕ)
nonce_told field page place = do
  n ← header_told 0x04 field page place
  nonce_content field (length place.rest - 1) n

-- what is inside a field, if the field is present
abbrev pub present : {A : Type 0} → Option ℕ → At (Option ℕ) → (Sheet → Spot → Told A) →
    Told (Option A)
present None at inside = Goes (record { page = at.page; value = None; place = at.place })
present (Some n) at inside =
    inside at.page at.place >>= λ x. Goes
    (record { page = x.page; value = Some x.value; place = x.place })

abbrev pub if_there : {A : Type 0} → At (Option ℕ) → (Sheet → Spot → Told A) → Told (Option A)
if_there at inside = present at.value at inside
