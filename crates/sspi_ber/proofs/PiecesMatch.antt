-- Each reader of a piece agrees with the form of that piece.
use Rattle.std.proofs.Common.{◌≡◌, ℕ, ◌-◌, ◌<◌, ◌≤◌, Bool, true, false, ◌&&◌, cond, eqb, ltb, leb, List, [], ◌∷◌, ◌++◌}
use Rattle.std.proofs.Common.{length, take, drop, Option, None, Some, Ok, Err, refl, sym, ap, ◌∙◌, subst, arith, ◌⊎◌, inl, inr}
use Rattle.std.proofs.lemmas.Bool.{ltb-true, ltb-false, lt-ltb, le-ltb, leb-true, le-leb, eqb-true, eq-eqb, eqb-false}
use Rattle.std.proofs.lemmas.List.{take_at, drop_at, take-append-drop, length-take, length-append}
use Rattle.sspi_ber.specs.Pieces.{Ended, Invalid, Read, ◌>>=◌, byte_at, bytes_at, is_octet_count, limited_at, length_at, header_at}
use Rattle.sspi_ber.specs.Pieces.{element_at, number_at, integer_at, tag_or_absent_at, present_at, field_at, tagged_at}
use Rattle.sspi_ber.specs.Forms.{max_content, max_length_octets, IsLength, IsLongLength, IsHeader, IsElement, IsInteger, big_endian}
use Rattle.sspi_ber.specs.Forms.{is_integer_size, IsNotNext, IsWrapped, IsField}
use Rattle.sspi_ber.proofs.Absent.{absent}
use Rattle.sspi_ber.proofs.Match.{Matches, Matches-then, Matches-map, Matches-if, Matches-nothing}
use Rattle.sspi_ber.proofs.Match.{Matches-same, Then, Mapped, bind_ok, both_are, read_of, changed}

-- which way a test went
pub chosen : {A : Type 0} (b : Bool) (x y z : A) → cond b x y ≡ z → ((b ≡ true) × (x ≡ z)) ⊎ ((b ≡ false) × (y ≡ z))
chosen true x y z e = inl (refl, e)
chosen false x y z e = inr (refl, e)

-- ---- bytes

byte_takes : (bytes : List ℕ) (x : ℕ) (rest : List ℕ) → byte_at bytes ≡ Ok (x, rest) → (text : List ℕ) × (text ≡ x ∷ [])
    × (bytes ≡ text ++ rest)
byte_takes [] x rest e = absurd cc
byte_takes (b ∷ bytes) x rest e = let same = both_are b x bytes rest e in
    (x ∷ [], refl, ap (λ (c : ℕ). c ∷ bytes) same.0 ∙ ap (λ (l : List ℕ). x ∷ l) same.1)

pub byte_match : Matches byte_at (λ text x rest. text ≡ x ∷ [])
byte_match = record { takes = byte_takes; again = λ text x rest e. ap (λ (l : List ℕ). byte_at (l ++ rest)) e }

bytes_takes : (n : ℕ) (bytes x rest : List ℕ) → bytes_at n bytes ≡ Ok (x, rest) → (text : List ℕ) × ((text ≡ x) × (length x ≡ n))
    × (bytes ≡ text ++ rest)
unfolding bytes_at
bytes_takes n bytes x rest e =
    elim (chosen (ltb (length bytes) n) (Err Ended) (Ok (take n bytes, drop n bytes)) (Ok (x, rest)) e) [
      | inl (b, f) ↦ absurd cc
      | inr (b, f) ↦
          let same = both_are (take n bytes) x (drop n bytes) rest f in
          let long : n ≤ length bytes = ltb-false _ _ b in (
            x,
            (refl, ap length (sym same.0) ∙ (omega (arith, length-take n bytes))),
            sym (take-append-drop n bytes)
                ∙ ap (λ (l : List ℕ). l ++ drop n bytes) same.0 ∙ ap (λ (l : List ℕ). x ++ l) same.1,
          )
    ]

bytes_again : (n : ℕ) (text x rest : List ℕ) → (text ≡ x) × (length x ≡ n) → bytes_at n (text ++ rest) ≡ Ok (x, rest)
unfolding bytes_at
bytes_again n text x rest t =
    let e : length text ≡ n = ap length t.0 ∙ t.1 in
    let long : ltb (length (text ++ rest)) n ≡ false = le-ltb _ _ (omega (arith, length-append text rest)) in
    rw (long, take_at text rest n e, drop_at text rest n e, t.0) refl

pub bytes_match : (n : ℕ) → Matches (bytes_at n) (λ text x rest. (text ≡ x) × (length x ≡ n))
bytes_match n = record { takes = bytes_takes n; again = bytes_again n }

-- ---- numbers

abbrev IsBlock : ℕ → List ℕ → List ℕ → List ℕ → Type 0
IsBlock n text x rest = (text ≡ x) × (length x ≡ n)

number_match : (n : ℕ) → Matches (number_at n) (Mapped big_endian (IsBlock n))
unfolding number_at
number_match n = Matches-map big_endian (bytes_at n) (IsBlock n) (bytes_match n)

-- ---- lengths

-- this many octets that represent a number up to the limit
abbrev IsLimited : ℕ → List ℕ → ℕ → Type 0
IsLimited count text n = (length text ≡ count) × (n ≡ big_endian text) × (n ≤ max_content)

pub limited_takes : (count : ℕ) (bytes : List ℕ) (n : ℕ) (rest : List ℕ) → limited_at count bytes ≡ Ok (n, rest)
    → (text : List ℕ) × IsLimited count text n × (bytes ≡ text ++ rest)
unfolding limited_at
limited_takes count bytes n rest e =
    let b = bind_ok (number_at count bytes) (λ x. cond (leb x.0 max_content) (Ok x) (Err Invalid)) (n, rest) e in
    elim (chosen (leb b.0.0 max_content) (Ok b.0) (Err Invalid) (Ok (n, rest)) b.2) [
      | inl (fits, f) ↦
          let same = both_are b.0.0 n b.0.1 rest f in
          let t = (number_match count).takes bytes b.0.0 b.0.1 b.1 in
          let block = t.1.1 in (
            t.0,
            (
              ap length block.0 ∙ block.1,
              sym same.0 ∙ t.1.2 ∙ ap big_endian (sym block.0),
              subst (λ (m : ℕ). m ≤ max_content) same.0 (leb-true _ _ fits),
            ),
            t.2 ∙ ap (λ (l : List ℕ). t.0 ++ l) same.1,
          )
      | inr (over, f) ↦ absurd cc
    ]

limited_again : (count : ℕ) (text : List ℕ) (n : ℕ) (rest : List ℕ) → IsLimited count text n →
    limited_at count (text ++ rest) ≡ Ok (n, rest)
unfolding limited_at
limited_again count text n rest t =
    let read : number_at count (text ++ rest) ≡ Ok (n, rest) = (number_match count).again text n rest (text, (refl, t.0), t.1) in
    let fits : leb n max_content ≡ true = le-leb _ _ t.2 in
    rw (read, fits) refl

both_hold : (s t : Bool) → (s && t) ≡ true → (s ≡ true) × (t ≡ true)
both_hold true t e = (refl, e)
both_hold false t e = absurd cc

few : (count : ℕ) → is_octet_count count ≡ true → (1 ≤ count) × (count ≤ max_length_octets)
few count e = let b = both_hold (leb 1 count) (leb count max_length_octets) e in (leb-true _ _ b.0, leb-true _ _ b.1)

few_again : (count : ℕ) → 1 ≤ count → count ≤ max_length_octets → is_octet_count count ≡ true
few_again count some le = rw (le-leb 1 count some, le-leb count max_length_octets le) refl

-- which form the first octet begins
behind : (first : ℕ) (bytes : List ℕ) (n : ℕ) (rest : List ℕ) → length_at (first ∷ bytes) ≡ Ok (n, rest)
    → (first < 0x80) × (first ≡ n) × (bytes ≡ rest) ⊎ ((0x80 ≤ first) × (is_octet_count (first - 0x80) ≡ true)
    × (limited_at (first - 0x80) bytes ≡ Ok (n, rest)))
unfolding length_at
behind first bytes n rest e =
    elim (chosen (ltb first 0x80) (Ok (first, bytes)) (cond (is_octet_count (first - 0x80)) (limited_at (first - 0x80) bytes)
    (Err Invalid)) (Ok (n, rest)) e) [
      | inl (b, f) ↦ inl (let same = both_are first n bytes rest f in (ltb-true _ _ b, same.0, same.1))
      | inr (b, f) ↦ elim (chosen (is_octet_count (first - 0x80)) (limited_at (first - 0x80) bytes) (Err Invalid) (Ok (n, rest)) f) [
        | inl (c, g) ↦ inr (ltb-false _ _ b, c, g)
        | inr (c, g) ↦ absurd cc
      ]
    ]

long_form : (first : ℕ) (octets : List ℕ) (n : ℕ) → 1 ≤ length octets → IsLongLength first octets n → IsLength (first ∷ octets) n
long_form first [] n some t = absurd (let no : ⊥ = omega (arith, some) in no)
long_form first (high ∷ more) n some t = t

length_takes : (bytes : List ℕ) (n : ℕ) (rest : List ℕ) → length_at bytes ≡ Ok (n, rest) → (text : List ℕ) × IsLength text n
    × (bytes ≡ text ++ rest)
unfolding length_at
length_takes [] n rest e = absurd cc
length_takes (first ∷ bytes) n rest e =
    elim (behind first bytes n rest e) [
      | inl (lt, same, after) ↦ (first ∷ [], (lt, sym same), ap (λ (l : List ℕ). first ∷ l) after)
      | inr (ge, is, f) ↦
          let t = limited_takes (first - 0x80) bytes n rest f in
          let count : length t.0 ≡ first - 0x80 = t.1.0 in
          let c = few (first - 0x80) is in (
            first ∷ t.0,
            long_form first t.0 n (rw count c.0)
                (record { counted = omega (arith, ge, count); few = rw count c.1; stands_for = t.1.1; limited = t.1.2 }),
            ap (λ (l : List ℕ). first ∷ l) t.2,
          )
    ]

length_again : (text : List ℕ) (n : ℕ) (rest : List ℕ) → IsLength text n → length_at (text ++ rest) ≡ Ok (n, rest)
unfolding length_at
length_again [] n rest t = absurd t
length_again (first ∷ []) n rest t = rw (lt-ltb first 0x80 t.0, t.1) refl
length_again (first ∷ high ∷ more) n rest t =
    let long : ltb first 0x80 ≡ false = le-ltb _ _ (omega (arith, t.counted)) in
    let count : first - 0x80 ≡ length (high ∷ more) = omega (arith, t.counted) in
    let is : is_octet_count (first - 0x80) ≡ true = few_again (first - 0x80) (omega (arith, count)) (rw count t.few) in
    rw (long, is) (limited_again (first - 0x80) (high ∷ more) n rest (sym count, t.stands_for, t.limited))

pub length_match : Matches length_at (λ text n rest. IsLength text n)
length_match = record { takes = length_takes; again = length_again }

-- ---- headers and elements

header_takes : (tag : ℕ) (bytes : List ℕ) (n : ℕ) (rest : List ℕ) → header_at tag bytes ≡ Ok (n, rest) →
    (text : List ℕ) × IsHeader tag text n × (bytes ≡ text ++ rest)
unfolding header_at
header_takes tag [] n rest e = absurd cc
header_takes tag (a ∷ bytes) n rest e =
    elim (chosen (eqb a tag) (length_at bytes) (Err Invalid) (Ok (n, rest)) e) [
      | inl (b, f) ↦
          let t = length_takes bytes n rest f in (
            tag ∷ t.0,
            record { len = t.0; spelled = refl; measured = t.1 },
            ap (λ (c : ℕ). c ∷ bytes) (eqb-true _ _ b)
                ∙ ap (λ (l : List ℕ). tag ∷ l) t.2,
          )
      | inr (b, f) ↦ absurd cc
    ]

header_again : (tag : ℕ) (text : List ℕ) (n : ℕ) (rest : List ℕ) → IsHeader tag text n → header_at tag (text ++ rest) ≡ Ok (n, rest)
unfolding header_at
header_again tag text n rest t =
    ap (λ (l : List ℕ). header_at tag (l ++ rest)) t.spelled ∙ rw (eq-eqb tag tag refl) (length_again t.len n rest t.measured)

pub header_match : (tag : ℕ) → Matches (header_at tag) (λ text n rest. IsHeader tag text n)
header_match tag = record { takes = header_takes tag; again = header_again tag }

element_to : (tag : ℕ) (text content rest : List ℕ)
    → Then (λ first n after. IsHeader tag first n) (λ n second x after. (second ≡ x) × (length x ≡ n)) text content rest →
    IsElement tag text content
element_to tag text content rest t = record {
  len = t.first_is.len;
  spelled = t.parts ∙ ap (λ (l : List ℕ). l ++ t.second) t.first_is.spelled ∙ ap (λ (l : List ℕ). tag ∷ (t.first_is.len ++ l))
      t.second_is.0;
  measured = subst (λ (n : ℕ). IsLength t.first_is.len n) (sym t.second_is.1) t.first_is.measured;
}

element_from : (tag : ℕ) (text content rest : List ℕ) → IsElement tag text content
    → Then (λ first n after. IsHeader tag first n) (λ n second x after. (second ≡ x) × (length x ≡ n)) text content rest
element_from tag text content rest t = record {
  x = length content;
  first = tag ∷ t.len;
  second = content;
  parts = t.spelled;
  first_is = record { len = t.len; spelled = refl; measured = t.measured };
  second_is = (refl, refl);
}

pub element_match : (tag : ℕ) → Matches (element_at tag) (λ text content rest. IsElement tag text content)
unfolding element_at
element_match tag =
    Matches-same (element_at tag) (Then (λ first n after. IsHeader tag first n)
    (λ n second x after. (second ≡ x) × (length x ≡ n))) (λ text content rest. IsElement tag text content)
    (element_to tag) (element_from tag)
    (Matches-then (header_at tag) bytes_at (λ first n after. IsHeader tag first n)
    (λ n second x after. (second ≡ x) × (length x ≡ n)) (header_match tag) bytes_match)

-- ---- integers

abbrev IsContent : ℕ → List ℕ → ℕ → List ℕ → Type 0
IsContent n text value rest = (is_integer_size n ≡ true) × Mapped big_endian (IsBlock n) text value rest

abbrev IsHead : ℕ → List ℕ → ℕ → List ℕ → Type 0
IsHead tag text n rest = IsHeader tag text n

abbrev sized_at : ℕ → List ℕ → Read ℕ
sized_at n bytes = cond (is_integer_size n) (number_at n bytes) (Err Invalid)

sized_match : (n : ℕ) → Matches (sized_at n) (IsContent n)
sized_match n = Matches-if (is_integer_size n) Invalid (number_at n) (Mapped big_endian (IsBlock n)) (number_match n)

integer_to : (text : List ℕ) (value : ℕ) (rest : List ℕ) → Then (IsHead 0x02) IsContent text value rest → IsInteger text value
integer_to text value rest t =
    let content = t.second_is.1.0 in
    let block = t.second_is.1.1 in
    let len = t.first_is.len in
    record {
      content = content;
      element = record {
        len = len;
        spelled = t.parts ∙ ap (λ (l : List ℕ). l ++ t.second) t.first_is.spelled ∙ ap (λ (l : List ℕ). 0x02 ∷ (len ++ l)) block.0;
        measured = subst (λ (n : ℕ). IsLength len n) (sym block.1) t.first_is.measured;
      };
      sized = subst (λ (n : ℕ). is_integer_size n ≡ true) (sym block.1) t.second_is.0;
      stands_for = t.second_is.1.2;
    }

integer_from : (text : List ℕ) (value : ℕ) (rest : List ℕ) → IsInteger text value → Then (IsHead 0x02) IsContent text value rest
integer_from text value rest t = record {
  x = length t.content;
  first = 0x02 ∷ t.element.len;
  second = t.content;
  parts = t.element.spelled;
  first_is = record { len = t.element.len; spelled = refl; measured = t.element.measured };
  second_is = (t.sized, (t.content, (refl, refl), t.stands_for));
}

pub integer_match : Matches integer_at (λ text value rest. IsInteger text value)
unfolding integer_at
integer_match =
    Matches-same integer_at (Then (IsHead 0x02) IsContent) (λ text value rest. IsInteger text value) integer_to integer_from
    (Matches-then (header_at 0x02) sized_at (IsHead 0x02) IsContent (header_match 0x02) sized_match)

-- ---- tags around something

abbrev Inside : {A : Type 0} → (List ℕ → A → Type 0) → ℕ → List ℕ → A → List ℕ → Type 0
Inside Inner n text x rest = Inner text x

tagged_to : {A : Type 0} (tag : ℕ) (Inner : List ℕ → A → Type 0) (text : List ℕ) (x : A) (rest : List ℕ)
    → Then (IsHead tag) (Inside Inner) text x rest → IsWrapped tag Inner text x
tagged_to tag Inner text x rest t = (
  t.second,
  record {
    len = t.first_is.len;
    number = t.x;
    spelled = t.parts
        ∙ ap (λ (l : List ℕ). l ++ t.second) t.first_is.spelled;
    measured = t.first_is.measured;
  },
  t.second_is,
)

tagged_from : {A : Type 0} (tag : ℕ) (Inner : List ℕ → A → Type 0) (text : List ℕ) (x : A) (rest : List ℕ)
    → IsWrapped tag Inner text x → Then (IsHead tag) (Inside Inner) text x rest
tagged_from tag Inner text x rest t = record {
  x = t.1.number;
  first = tag ∷ t.1.len;
  second = t.0;
  parts = t.1.spelled;
  first_is = record { len = t.1.len; spelled = refl; measured = t.1.measured };
  second_is = t.2;
}

pub tagged_match : {A : Type 0} (tag : ℕ) (inner : List ℕ → Read A) (Inner : List ℕ → A → Type 0)
    → Matches inner (λ text x rest. Inner text x) → Matches (tagged_at tag inner) (λ text x rest. IsWrapped tag Inner text x)
unfolding tagged_at
tagged_match tag inner Inner m =
    Matches-same (tagged_at tag inner) (Then (IsHead tag) (Inside Inner)) (λ text x rest. IsWrapped tag Inner text x)
    (tagged_to tag Inner) (tagged_from tag Inner)
    (Matches-then (header_at tag) (λ n. inner) (IsHead tag) (Inside Inner) (header_match tag) (λ n. m))

-- ---- optional fields

abbrev IsTagOrAbsent : ℕ → List ℕ → Option ℕ → List ℕ → Type 0
IsTagOrAbsent tag text None rest = (text ≡ []) × IsNotNext tag rest
IsTagOrAbsent tag text (Some n) rest = IsHeader tag text n

abbrev some_of : ℕ → Option ℕ
some_of n = Some n

absent_or : (tag : ℕ) (byte : ℕ) (bytes : List ℕ) (o : Option ℕ) (rest : List ℕ) → tag_or_absent_at tag (byte ∷ bytes) ≡ Ok (o, rest)
    → (byte ≡ tag) × ((length_at bytes >>= changed some_of) ≡ Ok (o, rest))
    ⊎ ((byte ≡ tag → ⊥) × (read_of None (byte ∷ bytes) ≡ Ok (o, rest)))
unfolding tag_or_absent_at
absent_or tag byte bytes o rest e =
    elim (chosen (eqb byte tag) (length_at bytes >>= changed some_of) (Ok (None, byte ∷ bytes)) (Ok (o, rest)) e) [
      | inl (b, f) ↦ inl (eqb-true _ _ b, f)
      | inr (b, f) ↦ inr (eqb-false _ _ b, f)
    ]

none_at : (tag : ℕ) (bytes : List ℕ) (o : Option ℕ) (rest : List ℕ) → IsNotNext tag bytes → read_of None bytes ≡ Ok (o, rest)
    → (text : List ℕ) × IsTagOrAbsent tag text o rest × (bytes ≡ text ++ rest)
none_at tag bytes o rest other e =
    let same = both_are None o bytes rest e in
    ([], subst (λ (p : Option ℕ). IsTagOrAbsent tag [] p rest) same.0 (refl, subst (IsNotNext tag) same.1 other), same.1)

tag_or_absent_takes : (tag : ℕ) (bytes : List ℕ) (o : Option ℕ) (rest : List ℕ) → tag_or_absent_at tag bytes ≡ Ok (o, rest)
    → (text : List ℕ) × IsTagOrAbsent tag text o rest × (bytes ≡ text ++ rest)
unfolding tag_or_absent_at
tag_or_absent_takes tag [] o rest e = none_at tag [] o rest tt e
tag_or_absent_takes tag (byte ∷ bytes) o rest e =
    elim (absent_or tag byte bytes o rest e) [
      | inl (is, f) ↦
          let b = bind_ok (length_at bytes) (changed some_of) (o, rest) f in
          let same = both_are (some_of b.0.0) o b.0.1 rest b.2 in
          let t = length_takes bytes b.0.0 b.0.1 b.1 in (
            tag ∷ t.0,
            subst (λ (p : Option ℕ). IsTagOrAbsent tag (tag ∷ t.0) p rest) same.0 (record { len = t.0; spelled = refl; measured = t.1 }),
            ap (λ (c : ℕ). c ∷ bytes) is ∙ ap (λ (l : List ℕ). tag ∷ l) (t.2 ∙ ap (λ (l : List ℕ). t.0 ++ l) same.1),
          )
      | inr (other, f) ↦ none_at tag (byte ∷ bytes) o rest other f
    ]

tag_or_absent_again : (tag : ℕ) (text : List ℕ) (o : Option ℕ) (rest : List ℕ) → IsTagOrAbsent tag text o rest →
    tag_or_absent_at tag (text ++ rest) ≡ Ok (o, rest)
unfolding tag_or_absent_at
tag_or_absent_again tag text None rest t = ap (λ (l : List ℕ). tag_or_absent_at tag (l ++ rest)) t.0 ∙ absent tag rest t.1
tag_or_absent_again tag text (Some n) rest t =
    ap (λ (l : List ℕ). tag_or_absent_at tag (l ++ rest)) t.spelled ∙ rw (eq-eqb tag tag refl, length_again t.len n rest t.measured) refl

tag_or_absent_match : (tag : ℕ) → Matches (tag_or_absent_at tag) (IsTagOrAbsent tag)
tag_or_absent_match tag = record { takes = tag_or_absent_takes tag; again = tag_or_absent_again tag }

abbrev Bare : {A : Type 0} → (List ℕ → A → Type 0) → List ℕ → A → List ℕ → Type 0
Bare Inner text x rest = Inner text x

abbrev one_of : {A : Type 0} → A → Option A
one_of x = Some x

abbrev Present : {A : Type 0} → (List ℕ → A → Type 0) → Option ℕ → List ℕ → Option A → List ℕ → Type 0
Present Inner None text y rest = (text ≡ []) × (y ≡ None)
Present Inner (Some n) text y rest = Mapped one_of (Bare Inner) text y rest

present_match : {A : Type 0} (inner : List ℕ → Read A) (Inner : List ℕ → A → Type 0) → Matches inner (Bare Inner) →
    (o : Option ℕ) → Matches (present_at inner o) (Present Inner o)
present_match inner Inner m None = Matches-nothing None
present_match inner Inner m (Some n) = Matches-map one_of inner (Bare Inner) m

field_parts : {A : Type 0} (tag : ℕ) (Inner : List ℕ → A → Type 0) (text first second : List ℕ) (o : Option ℕ) (y : Option A)
    (rest : List ℕ)
    → text ≡ first ++ second → IsTagOrAbsent tag first o (second ++ rest) → Present Inner o second y rest → IsField tag Inner text y rest
field_parts {A} tag Inner text first second None y rest parts f s =
    let nothing : text ≡ [] = parts ∙ ap (λ (l : List ℕ). l ++ second) f.0 ∙ s.0 in
    subst (λ (z : Option A). IsField tag Inner text z rest) (sym s.1) (nothing, subst (λ (l : List ℕ). IsNotNext tag (l ++ rest)) s.0 f.1)
field_parts {A} tag Inner text first second (Some n) y rest parts f s =
    subst (λ (z : Option A). IsField tag Inner text z rest) (sym s.2)
    (second, record { len = f.len; number = n; spelled = parts ∙ ap (λ (l : List ℕ). l ++ second) f.spelled; measured = f.measured }, s.1)

field_to : {A : Type 0} (tag : ℕ) (Inner : List ℕ → A → Type 0) (text : List ℕ) (y : Option A) (rest : List ℕ)
    → Then (IsTagOrAbsent tag) (Present Inner) text y rest → IsField tag Inner text y rest
field_to tag Inner text y rest t = field_parts tag Inner text t.first t.second t.x y rest t.parts t.first_is t.second_is

field_from : {A : Type 0} (tag : ℕ) (Inner : List ℕ → A → Type 0) (text : List ℕ) (y : Option A) (rest : List ℕ)
    → IsField tag Inner text y rest → Then (IsTagOrAbsent tag) (Present Inner) text y rest
field_from tag Inner text None rest t = record {
  x = None;
  first = [];
  second = [];
  parts = t.0;
  first_is = (refl, t.1);
  second_is = (refl, refl);
}
field_from tag Inner text (Some x) rest t = record {
  x = Some t.1.number;
  first = tag ∷ t.1.len;
  second = t.0;
  parts = t.1.spelled;
  first_is = record { len = t.1.len; spelled = refl; measured = t.1.measured };
  second_is = (x, t.2, refl);
}

pub field_match : {A : Type 0} (tag : ℕ) (inner : List ℕ → Read A) (Inner : List ℕ → A → Type 0)
    → Matches inner (λ text x rest. Inner text x) → Matches (field_at tag inner) (IsField tag Inner)
unfolding field_at
field_match tag inner Inner m =
    Matches-same (field_at tag inner) (Then (IsTagOrAbsent tag) (Present Inner)) (IsField tag Inner) (field_to tag Inner)
    (field_from tag Inner)
    (Matches-then (tag_or_absent_at tag) (present_at inner) (IsTagOrAbsent tag) (Present Inner) (tag_or_absent_match tag)
    (present_match inner Inner m))
