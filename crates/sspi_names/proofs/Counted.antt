-- A byte below 128 occurs as often in a text as in its UTF-16; the counts show if forms are mixed.
use Rattle.std.proofs.Common.{◌≡◌, inl, inr, ℕ, suc, ◌+◌, ◌-◌, ◌/◌, ◌%◌, ◌<◌, ◌≤◌, List, [], ◌∷◌, ◌++◌, Bool, true, false, ◌&&◌, ◌||◌}
use Rattle.std.proofs.Common.{cond, if◌then◌else◌, nat_lt, nat_eq, count_by, Some, None, length, drop, refl, sym, ap, ◌∙◌, arith}
use Rattle.std.specs.Prelude.{is_none}
use Rattle.std.specs.List.{list_any, flat_map, after_first, position_or_len}
use Rattle.std.specs.Str.{chars, encode_utf8_all}
use Rattle.std.specs.Char.{encode_utf8}
use Rattle.std.specs.Char.Escape.{encode_utf16}
use Rattle.std.specs.Char.Utf16.{utf16_lossy_chars}
use Rattle.std.proofs.str.Utf16.{one_unit, two_units}
use Rattle.std.proofs.lemmas.Bool.{cases_lt, ne_eqb, eq-eqb, true≢false, lt-ltb, le-ltb}
use Rattle.std.proofs.lemmas.List.{nil_from_length}
use Rattle.std.proofs.lemmas.List.Sums.{sum_by-cons, sum_by-append}
use Rattle.std.proofs.lemmas.Str.{encode_ascii}
use Rattle.sspi_names.specs.Name.{Name, new_name, parse_name, has_at_sign, has_backslash, has_separator, at_sign, backslash, is_backslash}
use Rattle.sspi_names.specs.Utf16.{units_of, text_of, IsUtf16}
use Rattle.sspi_names.proofs.CodeUnits.{spelled_lossy, units_of-text_of}
use Rattle.sspi_names.proofs.Mixed.{behind_first}
use Rattle.sspi_names.proofs.New.{bare_name}
use Rattle.sspi_names.proofs.Places.{is}

abbrev one : Bool → ℕ
one b = cond b 1 0

counted : (k x : ℕ) (xs : List ℕ) → count_by (is k) (x ∷ xs) ≡ one (is k x) + count_by (is k) xs
counted k x xs = sum_by-cons (λ y. one (is k y)) x xs

joined : (k : ℕ) (xs ys : List ℕ) → count_by (is k) (xs ++ ys) ≡ count_by (is k) xs + count_by (is k) ys
joined k xs ys = sum_by-append (λ y. one (is k y)) xs ys

zero_plus : (n : ℕ) → n ≡ 0 + n
zero_plus n = omega arith

-- it occurs if it is counted at least once, and again after that if it is counted at least twice
any_step : (b rest : Bool) (n : ℕ) → rest ≡ nat_lt 0 n → (b || rest) ≡ nat_lt 0 (one b + n)
any_step true rest n e = sym (lt-ltb 0 (1 + n) (omega arith))
any_step false rest n e = e ∙ ap (nat_lt 0) (zero_plus n)

pub any_counted : (k : ℕ) (t : List ℕ) → list_any (is k) t ≡ nat_lt 0 (count_by (is k) t)
any_counted k [] = refl
any_counted k (x ∷ xs) = any_step (is k x) (list_any (is k) xs) (count_by (is k) xs) (any_counted k xs) ∙ ap (nat_lt 0) (sym (counted k x xs))

one_more : (n : ℕ) → nat_lt 0 n ≡ nat_lt 1 (1 + n)
one_more n = elim (cases_lt 0 n) [
  | inl some ↦ lt-ltb 0 n some ∙ sym (lt-ltb 1 (1 + n) (omega arith))
  | inr none ↦ le-ltb 0 n none ∙ sym (le-ltb 1 (1 + n) (omega arith))
]

one_further : (n : ℕ) → 1 + n + 1 ≡ suc (n + 1)
one_further n = omega arith

twice_step : (k x : ℕ) (xs : List ℕ) (b : Bool) → is k x ≡ b → list_any (is k) (after_first (is k) xs) ≡ nat_lt 1 (count_by (is k) xs) →
    list_any (is k) (after_first (is k) (x ∷ xs)) ≡ nat_lt 1 (one b + count_by (is k) xs)
twice_step k x xs true here later = rw here (any_counted k xs ∙ one_more (count_by (is k) xs))
twice_step k x xs false here later =
    rw here (ap (λ d. list_any (is k) (drop d (x ∷ xs))) (one_further (position_or_len (is k) xs)) ∙ later
    ∙ ap (nat_lt 1) (zero_plus (count_by (is k) xs)))

pub twice_counted : (k : ℕ) (t : List ℕ) → list_any (is k) (after_first (is k) t) ≡ nat_lt 1 (count_by (is k) t)
twice_counted k [] = refl
twice_counted k (x ∷ xs) =
    twice_step k x xs (is k x) refl (twice_counted k xs) ∙ ap (nat_lt 1) (sym (counted k x xs))

-- an ASCII character occurs as often in UTF-8 as in UTF-16
apart : (k x : ℕ) (xs : List ℕ) (n : ℕ) → k < 128 → 128 ≤ x → count_by (is k) xs ≡ n → count_by (is k) (x ∷ xs) ≡ n
apart k x xs n ascii high e = counted k x xs ∙ ap (λ b. one b + count_by (is k) xs) (ne_eqb x k (omega arith)) ∙ sym (zero_plus (count_by (is k) xs)) ∙ e

two_high : (k x y : ℕ) → k < 128 → 128 ≤ x → 128 ≤ y → count_by (is k) (x ∷ y ∷ []) ≡ 0
two_high k x y ascii a b = apart k x (y ∷ []) 0 ascii a (apart k y [] 0 ascii b refl)

three_high : (k x y z : ℕ) → k < 128 → 128 ≤ x → 128 ≤ y → 128 ≤ z → count_by (is k) (x ∷ y ∷ z ∷ []) ≡ 0
three_high k x y z ascii a b c = apart k x (y ∷ z ∷ []) 0 ascii a (two_high k y z ascii b c)

-- a continuation byte of UTF-8
on_high : (n : ℕ) → 128 ≤ 128 + n % 64
on_high n = omega arith

high_bytes : (k c : ℕ) → k < 128 → 128 ≤ c → count_by (is k) (encode_utf8 c) ≡ 0
unfolding encode_utf8
high_bytes k c ascii high = elim (cases_lt c 2048) [
  | inl two ↦ rw (le-ltb c 128 high, lt-ltb c 2048 two)
      (two_high k (192 + c / 64) (128 + c % 64) ascii (omega arith) (on_high c))
  | inr more ↦ elim (cases_lt c 65536) [
    | inl three ↦ rw (le-ltb c 128 high, le-ltb c 2048 more, lt-ltb c 65536 three)
        (three_high k (224 + c / 4096) (128 + c / 64 % 64) (128 + c % 64) ascii (omega arith) (on_high (c / 64)) (on_high c))
    | inr four ↦ rw (le-ltb c 128 high, le-ltb c 2048 more, le-ltb c 65536 four)
        (apart k (240 + c / 262144) ((128 + c / 4096 % 64) ∷ (128 + c / 64 % 64) ∷ (128 + c % 64) ∷ []) 0 ascii (omega arith)
        (three_high k (128 + c / 4096 % 64) (128 + c / 64 % 64) (128 + c % 64) ascii (on_high (c / 4096)) (on_high (c / 64)) (on_high c)))
  ]
]

high_units : (k c : ℕ) → k < 128 → 128 ≤ c → count_by (is k) (encode_utf16 c) ≡ 0
high_units k c ascii high = elim (cases_lt c 0x1_0000) [
  | inl small ↦ rw (one_unit c small) (apart k c [] 0 ascii high refl)
  | inr large ↦ rw (two_units c large)
      (two_high k (0xD800 + (c - 0x1_0000) / 0x400) (0xDC00 + (c - 0x1_0000) % 0x400) ascii (omega arith) (omega arith))
]

same_char : (k c : ℕ) → k < 128 → count_by (is k) (encode_utf8 c) ≡ count_by (is k) (encode_utf16 c)
same_char k c ascii = elim (cases_lt c 128) [
  | inl low ↦ ap (count_by (is k)) (encode_ascii c low ∙ sym (one_unit c (omega arith)))
  | inr high ↦ high_bytes k c ascii high ∙ sym (high_units k c ascii high)
]

same_chars : (k : ℕ) (cs : List ℕ) → k < 128 → count_by (is k) (encode_utf8_all cs) ≡ count_by (is k) (flat_map encode_utf16 cs)
same_chars k [] ascii = refl
same_chars k (c ∷ cs) ascii =
    joined k (encode_utf8 c) (encode_utf8_all cs)
    ∙ ap (λ n. n + count_by (is k) (encode_utf8_all cs)) (same_char k c ascii)
    ∙ ap (λ n. count_by (is k) (encode_utf16 c) + n) (same_chars k cs ascii)
    ∙ sym (joined k (encode_utf16 c) (flat_map encode_utf16 cs))

pub same_count : (k : ℕ) (units : List ℕ) → k < 128 → IsUtf16 units → count_by (is k) (text_of units) ≡ count_by (is k) units
unfolding text_of
same_count k units ascii h =
    let lossy : utf16_lossy_chars units ≡ h.characters = ap utf16_lossy_chars h.spelled ∙ spelled_lossy h.characters h.scalars in
    ap (λ cs. count_by (is k) (encode_utf8_all cs)) lossy ∙ same_chars k h.characters ascii ∙ ap (count_by (is k)) (sym h.spelled)

-- the tests of a name, by these counts

abbrev ats : List ℕ → ℕ
ats units = count_by (is at_sign) units

abbrev slashes : List ℕ → ℕ
slashes units = count_by (is backslash) units

at_counted : (units : List ℕ) → IsUtf16 units → has_at_sign (text_of units) ≡ nat_lt 0 (ats units)
at_counted units h = any_counted at_sign (text_of units) ∙ ap (nat_lt 0) (same_count at_sign units (omega arith) h)

slash_counted : (units : List ℕ) → IsUtf16 units → has_backslash (text_of units) ≡ nat_lt 0 (slashes units)
slash_counted units h = any_counted backslash (text_of units) ∙ ap (nat_lt 0) (same_count backslash units (omega arith) h)

slash_twice : (units : List ℕ) → IsUtf16 units → has_backslash (after_first is_backslash (text_of units)) ≡ nat_lt 1 (slashes units)
slash_twice units h = twice_counted backslash (text_of units) ∙ ap (nat_lt 1) (same_count backslash units (omega arith) h)

pub some_at : (n : ℕ) (units : List ℕ) → IsUtf16 units → n ≡ ats units → 0 < n → nat_lt 0 n ≡ has_separator (text_of units)
some_at n units h is some =
    let here : nat_lt 0 (ats units) ≡ true = lt-ltb 0 _ (omega arith) in
    lt-ltb 0 n some ∙ sym (rw (at_counted units h, here) refl)

pub some_slash : (n m : ℕ) (units : List ℕ) → IsUtf16 units → n ≡ ats units → m ≡ slashes units → n ≤ 0
    → nat_lt 0 m ≡ has_separator (text_of units)
some_slash n m units h is also none =
    let gone : nat_lt 0 (ats units) ≡ false = le-ltb 0 _ (omega arith) in
    ap (nat_lt 0) also ∙ sym (slash_counted units h) ∙ sym (rw (at_counted units h, gone) refl)

tested : (at bs twice : Bool) (x y z : Name) → (twice ≡ true → bs ≡ true)
    → is_none (if at then (if bs then None else Some x) else if bs then (if twice then None else Some y) else Some z)
    ≡ (twice || (bs && at))
tested true true true x y z h = refl
tested true true false x y z h = refl
tested true false true x y z h = absurd (cc (h refl))
tested true false false x y z h = refl
tested false true true x y z h = refl
tested false true false x y z h = refl
tested false false true x y z h = absurd (cc (h refl))
tested false false false x y z h = refl

parse_none : (t : List ℕ) → (has_backslash (after_first is_backslash t) ≡ true → has_backslash t ≡ true) → is_none (parse_name t)
    ≡ (has_backslash (after_first is_backslash t) || (has_backslash t && has_at_sign t))
unfolding parse_name
parse_none t h = tested (has_at_sign t) (has_backslash t) (has_backslash (after_first is_backslash t)) _ _ _ h

mixed_by : (units : List ℕ) → IsUtf16 units → is_none (parse_name (text_of units))
    ≡ (nat_lt 1 (slashes units) || (nat_lt 0 (slashes units) && nat_lt 0 (ats units)))
mixed_by units h =
    rw (← slash_twice units h, ← slash_counted units h, ← at_counted units h) (parse_none (text_of units) (behind_first (text_of units)))

pub mixed_twice : (n : ℕ) (units : List ℕ) → IsUtf16 units → n ≡ slashes units → 1 < n → nat_lt 1 n ≡ is_none (parse_name (text_of units))
mixed_twice n units h is twice =
    let here : nat_lt 1 (slashes units) ≡ true = lt-ltb 1 _ (omega arith) in
    lt-ltb 1 n twice ∙ sym (mixed_by units h ∙ rw here refl)

pub mixed_both : (n m : ℕ) (units : List ℕ) → IsUtf16 units → n ≡ slashes units → m ≡ ats units → n ≤ 1 → 0 < n
    → nat_lt 0 m ≡ is_none (parse_name (text_of units))
mixed_both n m units h is also once some =
    let first : nat_lt 1 (slashes units) ≡ false = le-ltb 1 _ (omega arith) in
    let second : nat_lt 0 (slashes units) ≡ true = lt-ltb 0 _ (omega arith) in
    ap (nat_lt 0) also ∙ sym (mixed_by units h ∙ rw (first, second) refl)

pub mixed_not : (n : ℕ) (units : List ℕ) → IsUtf16 units → n ≡ slashes units → n ≤ 0 → nat_lt 0 n ≡ is_none (parse_name (text_of units))
mixed_not n units h is none =
    let first : nat_lt 1 (slashes units) ≡ false = le-ltb 1 _ (omega arith) in
    let second : nat_lt 0 (slashes units) ≡ false = le-ltb 0 _ (omega arith) in
    le-ltb 0 n none ∙ sym (mixed_by units h ∙ rw (first, second) refl)

-- a domain is empty as code units exactly when it is empty as a text

no_text : text_of [] ≡ []
unfolding text_of
no_text = ap (λ cs. encode_utf8_all cs) (spelled_lossy [] refl)

no_units : units_of [] ≡ []
unfolding units_of chars
no_units = refl

some_text : (units : List ℕ) → IsUtf16 units → ¬ (length units ≡ 0) → 0 < length (text_of units)
some_text units h some = elim (cases_lt 0 (length (text_of units))) [
  | inl there ↦ there
  | inr gone ↦
      let none : text_of units ≡ [] = nil_from_length (text_of units) (omega arith) in
      let back : units ≡ [] = sym (units_of-text_of units h) ∙ ap units_of none ∙ no_units in
      absurd (some (ap length back))
]

pub bare_mixed : (user domain : List ℕ) → length domain ≡ 0 → is_none (parse_name (text_of user))
    ≡ is_none (new_name (text_of user) (text_of domain))
bare_mixed user domain empty =
    let none : text_of domain ≡ [] = ap text_of (nil_from_length domain empty) ∙ no_text in
    ap is_none (sym (bare_name (text_of user) (text_of domain) (ap length none)))

told : (b : Bool) (n : Name) → is_none (if b then None else Some n) ≡ b
told true n = refl
told false n = refl

qualified_none : (account domain : List ℕ) → 0 < length domain → is_none (new_name account domain)
    ≡ (has_separator account || has_separator domain)
unfolding new_name
qualified_none account [] some = absurd (omega arith)
qualified_none account (b ∷ domain) some = told (has_separator account || has_separator (b ∷ domain)) _

pub qualified_mixed : (user domain : List ℕ) → IsUtf16 domain → ¬ (length domain ≡ 0)
    → (has_separator (text_of user) || has_separator (text_of domain)) ≡ is_none (new_name (text_of user) (text_of domain))
qualified_mixed user domain h some = sym (qualified_none (text_of user) (text_of domain) (some_text domain h some))

-- whether one of two texts has a separator
pub first_has : (a b x : Bool) → (a || b) ≡ x → a ≡ true → a ≡ x
first_has true b x is here = is
first_has false b x is here = absurd (cc here)

pub second_has : (a b x : Bool) → (a || b) ≡ x → a ≡ false → b ≡ x
second_has true b x is here = absurd (cc here)
second_has false b x is here = is

pub not_empty : (n : ℕ) → nat_eq n 0 ≡ false → ¬ (n ≡ 0)
not_empty n e is = true≢false (sym (eq-eqb n 0 is) ∙ e)
