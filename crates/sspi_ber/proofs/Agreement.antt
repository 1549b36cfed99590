-- The laws that public functions state.
use Rattle.std.proofs.Common.{◌≡◌, ℕ, ◌+◌, ◌<◌, ◌≤◌, ◌^◌, sym, subst, List, [], ◌∷◌, ◌++◌, length, get_or, Ok, refl, arith, inl, inr}
use Rattle.std.proofs.lemmas.Bool.{cases_lt, lt-ltb, le-ltb}
use Rattle.sspi_ber.specs.Forms.{IsLength, IsElement, IsInteger, IsNotNegative, big_endian, max_content}
use Rattle.sspi_ber.specs.Pieces.{length_at, element_at, integer_at}
use Rattle.sspi_ber.specs.Short.{length_octets, len_short, element, int_content, int_short}
use Rattle.sspi_ber.proofs.PiecesMatch.{length_match, integer_match, element_match}
use Rattle.sspi_ber.proofs.Short.{octets_one, octets_two, octets_three, short_length, short_integer}
use Rattle.sspi_ber.proofs.Short.{short_element, int_one, int_two, int_three, int_four}

pub length_takes : (bytes : List ℕ) (n : ℕ) (rest : List ℕ) → length_at bytes ≡ Ok (n, rest) → (text : List ℕ) × IsLength text n
    × (bytes ≡ text ++ rest)
length_takes = length_match.takes

pub length_again : (text : List ℕ) (n : ℕ) (rest : List ℕ) → IsLength text n → length_at (text ++ rest) ≡ Ok (n, rest)
length_again = length_match.again

pub integer_takes : (bytes : List ℕ) (value : ℕ) (rest : List ℕ) → integer_at bytes ≡ Ok (value, rest) →
    (text : List ℕ) × IsInteger text value × (bytes ≡ text ++ rest)
integer_takes = integer_match.takes

pub integer_again : (text : List ℕ) (value : ℕ) (rest : List ℕ) → IsInteger text value → integer_at (text ++ rest) ≡ Ok (value, rest)
integer_again = integer_match.again

pub element_takes : (tag : ℕ) (bytes content rest : List ℕ) → element_at tag bytes ≡ Ok (content, rest) →
    (text : List ℕ) × IsElement tag text content × (bytes ≡ text ++ rest)
element_takes tag = (element_match tag).takes

pub element_again : (tag : ℕ) (text content rest : List ℕ) → IsElement tag text content → element_at tag (text ++ rest) ≡ Ok (content, rest)
element_again tag = (element_match tag).again

pub short_length_again : (n : ℕ) (more : List ℕ) → n ≤ max_content → length_at (len_short n ++ more) ≡ Ok (n, more)
short_length_again n more le = length_match.again (len_short n) n more (short_length n le)

pub short_integer_again : (value : ℕ) (more : List ℕ) → integer_at (int_short value ++ more) ≡ Ok (value, more)
short_integer_again value more = integer_match.again (int_short value) value more (short_integer value)

pub short_element_again : (tag : ℕ) (content more : List ℕ) → length content ≤ max_content →
    element_at tag (element tag content ++ more) ≡ Ok (content, more)
short_element_again tag content more le = (element_match tag).again (element tag content) content more (short_element tag content le)

-- how many octets hold a number
octets_within_one : (n : ℕ) → n < 0x100 → length (length_octets n) ≡ 1
octets_within_one n lt = rw (octets_one n lt) refl

octets_within_two : (n : ℕ) → n < 0x10000 → length (length_octets n) ≤ 2
octets_within_two n lt = elim (cases_lt n 0x100) [
  | inl small ↦ (let e = octets_within_one n small in omega arith)
  | inr ge ↦ rw (octets_two n ge lt) (omega arith)
]

octets_within_three : (n : ℕ) → length (length_octets n) ≤ 3
octets_within_three n = elim (cases_lt n 0x10000) [
  | inl small ↦ (let le = octets_within_two n small in omega arith)
  | inr ge ↦ rw (octets_three n ge) (omega arith)
]

one_byte : (n : ℕ) → n < 0x80 → length (len_short n) ≡ 1
unfolding len_short
one_byte n lt = rw (lt-ltb n 0x80 lt) refl

-- a long form takes one more octet, and a short form no more than that
with_first : (n count : ℕ) → 1 ≤ count → length (length_octets n) ≤ count → length (len_short n) ≤ 1 + count
unfolding len_short
with_first n count some le = elim (cases_lt n 0x80) [
  | inl lt ↦ (let e = one_byte n lt in omega arith)
  | inr ge ↦ rw (le-ltb n 0x80 ge) (omega arith)
]

pub none_shorter : (text : List ℕ) (n : ℕ) → ((i : ℕ) → get_or text i 0 < 256) → IsLength text n → length (len_short n) ≤ length text
none_shorter [] n bytes t = absurd t
none_shorter (a ∷ []) n bytes t = let one : length (len_short n) ≡ 1 = one_byte n (omega arith) in omega arith
none_shorter (a ∷ b ∷ []) n bytes t =
    let high : b < 256 = bytes 1 in
    let is : n ≡ big_endian (b ∷ []) = t.stands_for in
    with_first n 1 (omega arith) (omega (arith, octets_within_one n (omega arith)))
none_shorter (a ∷ b ∷ c ∷ []) n bytes t =
    let high : b < 256 = bytes 1 in
    let low : c < 256 = bytes 2 in
    let is : n ≡ big_endian (b ∷ c ∷ []) = t.stands_for in
    with_first n 2 (omega arith) (octets_within_two n (omega arith))
none_shorter (a ∷ b ∷ c ∷ d ∷ more) n bytes t = let three = with_first n 3 (omega arith) (octets_within_three n) in omega arith

content_one : (v : ℕ) → v < 0x80 → length (int_content v) ≡ 1
content_one v lt = rw (int_one v lt) refl

content_two : (v : ℕ) → v < 0x8000 → length (int_content v) ≤ 2
content_two v lt = elim (cases_lt v 0x80) [
  | inl small ↦ (let e = content_one v small in omega arith)
  | inr ge ↦ rw (int_two v ge lt) (omega arith)
]

content_three : (v : ℕ) → v < 0x800000 → length (int_content v) ≤ 3
content_three v lt = elim (cases_lt v 0x8000) [
  | inl small ↦ (let e = content_two v small in omega arith)
  | inr ge ↦ rw (int_three v ge lt) (omega arith)
]

content_four : (v : ℕ) → length (int_content v) ≤ 4
content_four v = elim (cases_lt v 0x800000) [
  | inl small ↦ (let e = content_three v small in omega arith)
  | inr ge ↦ rw (int_four v ge) (omega arith)
]

pub no_content_shorter : (content : List ℕ) → ((i : ℕ) → get_or content i 0 < 256) → IsNotNegative content →
    length (int_content (big_endian content)) ≤ length content
no_content_shorter [] bytes clear = absurd clear
no_content_shorter (a ∷ []) bytes clear = let one = content_one (big_endian (a ∷ [])) (omega arith) in omega arith
no_content_shorter (a ∷ b ∷ []) bytes clear = let low : b < 256 = bytes 1 in content_two (big_endian (a ∷ b ∷ [])) (omega arith)
no_content_shorter (a ∷ b ∷ c ∷ []) bytes clear =
    let second : b < 256 = bytes 1 in
    let low : c < 256 = bytes 2 in
    content_three (big_endian (a ∷ b ∷ c ∷ [])) (omega arith)
no_content_shorter (a ∷ b ∷ c ∷ d ∷ more) bytes clear = let four = content_four (big_endian (a ∷ b ∷ c ∷ d ∷ more)) in omega arith

pub content_not_negative : (v : ℕ) → v < 2 ^ 31 → IsNotNegative (int_content v)
content_not_negative v lt =
    elim (cases_lt v 0x80) [
      | inl one ↦ subst IsNotNegative (sym (int_one v one)) one
      | inr ge ↦ elim (cases_lt v 0x8000) [
        | inl two ↦ subst IsNotNegative (sym (int_two v ge two)) (omega arith)
        | inr more ↦ elim (cases_lt v 0x800000) [
          | inl three ↦ subst IsNotNegative (sym (int_three v more three)) (omega arith)
          | inr most ↦ subst IsNotNegative (sym (int_four v most)) (omega arith)
        ]
      ]
    ]

pub content_is_four : (v : ℕ) → 2 ^ 31 ≤ v → length (int_content v) ≡ 4
content_is_four v ge = let most : 0x800000 ≤ v = omega arith in rw (int_four v most) refl

pub ruleset agreement = (
  length_takes,
  length_again,
  integer_takes,
  integer_again,
  element_takes,
  element_again,
  short_length_again,
  short_integer_again,
  short_element_again,
  none_shorter,
  no_content_shorter,
  content_not_negative,
  content_is_four,
)
