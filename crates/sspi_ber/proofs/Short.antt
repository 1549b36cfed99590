-- The shortest encoding of each piece is one of its forms.
use Rattle.std.proofs.Common.{◌≡◌, ℕ, ◌+◌, ◌/◌, ◌%◌, ◌<◌, ◌≤◌, true, List, [], ◌∷◌, ◌++◌, length, refl, sym, ap, ◌∙◌, subst, arith, inl, inr}
use Rattle.std.proofs.lemmas.Bool.{cases_lt, lt-ltb, le-ltb}
use Rattle.sspi_ber.specs.Forms.{max_content, IsLength, IsElement, IsTagged, IsInteger, big_endian, is_integer_size}
use Rattle.sspi_ber.specs.Short.{length_octets, len_short, header, element, int_content, int_short}

len_small : (n : ℕ) → n < 0x80 → len_short n ≡ n ∷ []
unfolding len_short
len_small n lt = rw (lt-ltb n 0x80 lt) refl

len_long : (n : ℕ) → 0x80 ≤ n → len_short n ≡ (0x80 + length (length_octets n)) ∷ length_octets n
unfolding len_short
len_long n ge = rw (le-ltb n 0x80 ge) refl

pub octets_one : (n : ℕ) → n < 0x100 → length_octets n ≡ n ∷ []
unfolding length_octets
octets_one n lt = rw (lt-ltb n 0x100 lt) refl

pub octets_two : (n : ℕ) → 0x100 ≤ n → n < 0x10000 → length_octets n ≡ n / 0x100 ∷ n % 0x100 ∷ []
unfolding length_octets
octets_two n ge lt = rw (le-ltb n 0x100 ge, lt-ltb n 0x10000 lt) refl

pub octets_three : (n : ℕ) → 0x10000 ≤ n → length_octets n ≡ n / 0x10000 ∷ n / 0x100 % 0x100 ∷ n % 0x100 ∷ []
unfolding length_octets
octets_three n ge = let above : 0x100 ≤ n = omega arith in rw (le-ltb n 0x100 above, le-ltb n 0x10000 ge) refl

-- the octets of a number, in the long form
long_octets : (first n : ℕ) → first ≡ 0x80 + length (length_octets n) → n ≤ max_content → IsLength (first ∷ length_octets n) n
long_octets first n counted le =
    elim (cases_lt n 0x100) [
      | inl one ↦
          let is = octets_one n one in
          subst (λ (l : List ℕ). IsLength (first ∷ l) n) (sym is)
          (record {
            counted = counted ∙ ap (λ (l : List ℕ). 0x80 + length l) is;
            few = omega arith;
            stands_for = omega arith;
            limited = le;
          })
      | inr ge ↦ elim (cases_lt n 0x10000) [
        | inl two ↦
            let is = octets_two n ge two in
            subst (λ (l : List ℕ). IsLength (first ∷ l) n) (sym is)
            (record {
              counted = counted ∙ ap (λ (l : List ℕ). 0x80 + length l) is;
              few = omega arith;
              stands_for = omega arith;
              limited = le;
            })
        | inr three ↦
            let is = octets_three n three in
            subst (λ (l : List ℕ). IsLength (first ∷ l) n) (sym is)
            (record {
              counted = counted ∙ ap (λ (l : List ℕ). 0x80 + length l) is;
              few = omega arith;
              stands_for = omega arith;
              limited = le;
            })
      ]
    ]

pub short_length : (n : ℕ) → n ≤ max_content → IsLength (len_short n) n
short_length n le =
    elim (cases_lt n 0x80) [
      | inl lt ↦ subst (λ (l : List ℕ). IsLength l n) (sym (len_small n lt)) (lt, refl)
      | inr ge ↦ subst (λ (l : List ℕ). IsLength l n) (sym (len_long n ge)) (long_octets _ n refl le)
    ]

pub short_element : (tag : ℕ) (content : List ℕ) → length content ≤ max_content → IsElement tag (element tag content) content
unfolding element header
short_element tag content le = record { len = len_short (length content); spelled = refl; measured = short_length (length content) le }

pub short_tagged : (tag : ℕ) (inner : List ℕ) → length inner ≤ max_content → IsTagged tag (element tag inner) inner
unfolding element header
short_tagged tag inner le = record {
  len = len_short (length inner);
  number = length inner;
  spelled = refl;
  measured = short_length (length inner) le;
}

-- the content of an integer, whatever its size
record IsContent (v : ℕ) (content : List ℕ) : Type 0 where
  small : length content ≤ 4
  sized : is_integer_size (length content) ≡ true
  stands_for : v ≡ big_endian content

pub int_one : (v : ℕ) → v < 0x80 → int_content v ≡ v ∷ []
unfolding int_content
int_one v lt = rw (lt-ltb v 0x80 lt) refl

pub int_two : (v : ℕ) → 0x80 ≤ v → v < 0x8000 → int_content v ≡ v / 0x100 ∷ v % 0x100 ∷ []
unfolding int_content
int_two v ge lt = rw (le-ltb v 0x80 ge, lt-ltb v 0x8000 lt) refl

pub int_three : (v : ℕ) → 0x8000 ≤ v → v < 0x800000 → int_content v ≡ v / 0x10000 ∷ v / 0x100 % 0x100 ∷ v % 0x100 ∷ []
unfolding int_content
int_three v ge lt = let above : 0x80 ≤ v = omega arith in rw (le-ltb v 0x80 above, le-ltb v 0x8000 ge, lt-ltb v 0x800000 lt) refl

pub int_four : (v : ℕ) → 0x800000 ≤ v → int_content v ≡ v / 0x1000000 ∷ v / 0x10000 % 0x100 ∷ v / 0x100 % 0x100 ∷ v % 0x100 ∷ []
unfolding int_content
int_four v ge =
    let above : 0x80 ≤ v = omega arith in
    let higher : 0x8000 ≤ v = omega arith in
    rw (le-ltb v 0x80 above, le-ltb v 0x8000 higher, le-ltb v 0x800000 ge) refl

-- the whole INTEGER, by its size
pub one_byte_integer : (v : ℕ) → v < 0x80 → int_short v ≡ 2 ∷ 1 ∷ v ∷ []
unfolding int_short element header len_short
one_byte_integer v lt = ap (λ (l : List ℕ). element 2 l) (int_one v lt)

pub two_byte_integer : (v : ℕ) → 0x80 ≤ v → v < 0x8000 → int_short v ≡ 2 ∷ 2 ∷ v / 0x100 ∷ v % 0x100 ∷ []
unfolding int_short element header len_short
two_byte_integer v ge lt = ap (λ (l : List ℕ). element 2 l) (int_two v ge lt)

pub three_byte_integer : (v : ℕ) → 0x8000 ≤ v → v < 0x800000 →
    int_short v ≡ 2 ∷ 3 ∷ v / 0x10000 ∷ v / 0x100 % 0x100 ∷ v % 0x100 ∷ []
unfolding int_short element header len_short
three_byte_integer v ge lt = ap (λ (l : List ℕ). element 2 l) (int_three v ge lt)

pub four_byte_integer : (v : ℕ) → 0x800000 ≤ v →
    int_short v ≡ 2 ∷ 4 ∷ v / 0x1000000 ∷ v / 0x10000 % 0x100 ∷ v / 0x100 % 0x100 ∷ v % 0x100 ∷ []
unfolding int_short element header len_short
four_byte_integer v ge = ap (λ (l : List ℕ). element 2 l) (int_four v ge)

-- an INTEGER of one byte inside another element
pub small_wrapped_integer : (tag v : ℕ) → v < 0x80 → element tag (int_short v) ≡ tag ∷ 3 ∷ 2 ∷ 1 ∷ v ∷ []
unfolding element header len_short
small_wrapped_integer tag v lt = ap (element tag) (one_byte_integer v lt)

pub ruleset short_integers = (one_byte_integer, two_byte_integer, three_byte_integer, four_byte_integer)

short_content : (v : ℕ) → IsContent v (int_content v)
short_content v =
    elim (cases_lt v 0x80) [
      | inl lt ↦ subst (IsContent v) (sym (int_one v lt)) (record { small = omega arith; sized = refl; stands_for = omega arith })
      | inr ge ↦ elim (cases_lt v 0x8000) [
        | inl lt ↦ subst (IsContent v) (sym (int_two v ge lt)) (record { small = omega arith; sized = refl; stands_for = omega arith })
        | inr more ↦ elim (cases_lt v 0x800000) [
          | inl lt ↦ subst (IsContent v) (sym (int_three v more lt))
              (record { small = omega arith; sized = refl; stands_for = omega arith })
          | inr most ↦ subst (IsContent v) (sym (int_four v most)) (record { small = omega arith; sized = refl; stands_for = omega arith })
        ]
      ]
    ]

pub short_integer : (v : ℕ) → IsInteger (int_short v) v
unfolding int_short
short_integer v =
    let c = short_content v in
    let le : length (int_content v) ≤ max_content = omega (arith, c.small) in
    record { content = int_content v; element = short_element 0x02 (int_content v) le; sized = c.sized; stands_for = c.stands_for }

-- both headers of an OCTET STRING inside another element, when both lengths have one octet
abbrev pub short_headers : ℕ → ℕ → List ℕ
short_headers tag n = tag ∷ (n + 2) ∷ 0x04 ∷ n ∷ []

pub short_wrapped : (tag : ℕ) (value : List ℕ) → length value < 0x7E →
    element tag (element 0x04 value) ≡ short_headers tag (length value) ++ value
unfolding element header
short_wrapped tag value lt =
    let inner : element 0x04 value ≡ 0x04 ∷ length value ∷ value =
    ap (λ (l : List ℕ). (0x04 ∷ l) ++ value) (len_small (length value) (omega arith)) in
    let size : length (0x04 ∷ length value ∷ value) ≡ length value + 2 = omega arith in
    ap (element tag) inner
    ∙ ap (λ (l : List ℕ). (tag ∷ l) ++ (0x04 ∷ length value ∷ value)) (len_small (length (0x04 ∷ length value ∷ value)) (omega arith))
    ∙ ap (λ (n : ℕ). tag ∷ n ∷ 0x04 ∷ length value ∷ value) size
