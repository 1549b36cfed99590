-- UTF-16: characters, code units and bytes, back and forth.
use Rattle.std.proofs.Common.{◌≡◌, ◌⊎◌, inl, inr, ℕ, suc, ◌+◌, ◌-◌, ◌*◌, ◌/◌, ◌%◌, ◌^◌, ◌<◌, ◌≤◌, List, []}
use Rattle.std.proofs.Common.{◌∷◌, ◌++◌, Bool, true, false, ◌&&◌, not, cond, Option, Some, Result, Ok, Err}
use Rattle.std.proofs.Common.{length, get_or, take, drop, map, unwrap_or, refl, sym, ap, ◌∙◌, subst, arith}
use Rattle.std.specs.Prelude.{is_some}
use Rattle.std.specs.Result.{is_ok}
use Rattle.std.specs.List.{All, list_any, flat_map}
use Rattle.std.specs.Str.{IsUtf8, chars, all_scalars, encode_utf8_all}
use Rattle.std.specs.Char.Escape.{encode_utf16}
use Rattle.std.specs.Char.Utf16.{utf16_chars, utf16_lossy_chars, has_unpaired_surrogate, is_high_surrogate}
use Rattle.std.specs.Char.Utf16.{is_low_surrogate, lone_unit_char, surrogate_pair_char}
use Rattle.std.proofs.Math.Utf8.{scalar, scalar_cases, low_scalar}
use Rattle.std.proofs.str.Utf16.{IsPair, one_unit, two_units, pair_units, lone_unit_char_low, lone_unit_char_high, lone_unit_char_surrogate}
use Rattle.std.proofs.lemmas.Bool.{and_parts, and_from, or_parts, true≢false, leb-true, ltb-true}
use Rattle.std.proofs.lemmas.Bool.{le-leb, lt-ltb, le-ltb, ne_eqb, cases_lt, cases_eq}
use Rattle.std.proofs.lemmas.List.{take_all, take_more, append-nil, append_assoc}
use Rattle.std.proofs.lemmas.List.Concat.{flat_map-append}
use Rattle.std.proofs.lemmas.List.Elements.{All-head, All-tail, All-cons, All-append, All-nil}
use Rattle.std.proofs.lemmas.Str.{utf16_chars-nil, utf16_chars_lone, utf16_chars_pair, chars-encodes, encodes-chars, scalars-chars}
use Rattle.sspi_names.specs.declared.error.Utf16Error.{Utf16Error}
use Rattle.sspi_names.specs.declared.error.Utf16Error.TheVariants.{OddLength, UnpairedSurrogate}
use Rattle.sspi_names.specs.Utf16.{units_of, text_of, IsUtf16, bytes_le, units_le, decode_le, unit_bytes}

abbrev pub IsSmall : ℕ → Type 0
IsSmall u = u < 2 ^ 16

-- a surrogate without a partner decodes to no character
abbrev lacks : Option ℕ → Bool
lacks o = not (is_some o)

abbrev or_replacement : Option ℕ → ℕ
or_replacement o = unwrap_or o 0xFFFD

scalar_high : (u : ℕ) → 0xE000 ≤ u → u < 0x110000 → scalar u ≡ true
scalar_high u from below = rw (le-ltb u 55296 (omega arith), le-leb 57344 u from, lt-ltb u 1114112 below)

-- characters to code units to characters

no_pair : (c v : ℕ) → scalar c ≡ true → ¬ (IsPair c v)
no_pair c v s p = elim (scalar_cases c s) [ inl low ↦ omega (arith, p.0) | inr high ↦ omega (arith, p.1, high.0) ]

lone : (c : ℕ) → scalar c ≡ true → lone_unit_char c ≡ Some c
lone c s = elim (scalar_cases c s) [ inl low ↦ lone_unit_char_low c low | inr high ↦ lone_unit_char_high c high.0 ]

below : (c : ℕ) → scalar c ≡ true → c < 0x110000
below c s = elim (scalar_cases c s) [ inl low ↦ omega arith | inr high ↦ high.1 ]

pair : (c : ℕ) → 0x1_0000 ≤ c → c < 0x110000 → IsPair (0xD800 + (c - 0x1_0000) / 0x400) (0xDC00 + (c - 0x1_0000) % 0x400)
pair c large small = (omega arith, omega arith, omega arith, omega arith)

joined : (c : ℕ) → 0x1_0000 ≤ c → surrogate_pair_char (0xD800 + (c - 0x1_0000) / 0x400) (0xDC00 + (c - 0x1_0000) % 0x400) ≡ c
joined c large = omega arith

spelled_char : (c : ℕ) (us : List ℕ) → scalar c ≡ true → utf16_chars (encode_utf16 c ++ us) ≡ Some c ∷ utf16_chars us
spelled_char c us s =
    elim (cases_lt c 0x1_0000) [
      | inl small ↦ rw (one_unit c small) (utf16_chars_lone c us (no_pair c (get_or us 0 0) s) ∙ ap (λ o. o ∷ utf16_chars us) (lone c s))
      | inr large ↦ rw (two_units c large) (utf16_chars_pair _ _ us (pair c large (below c s)) ∙ ap (λ x. Some x ∷ utf16_chars us)
          (joined c large))
    ]

pub spelled_chars : (cs : List ℕ) → all_scalars cs ≡ true → utf16_chars (flat_map encode_utf16 cs) ≡ map Some cs
spelled_chars [] s = utf16_chars-nil
spelled_chars (c ∷ cs) s =
    let parts = and_parts _ _ s in
    spelled_char c (flat_map encode_utf16 cs) parts.0 ∙ ap (λ os. Some c ∷ os) (spelled_chars cs parts.1)

kept : (cs : List ℕ) → map or_replacement (map Some cs) ≡ cs
kept [] = refl
kept (c ∷ cs) = ap (λ ds. c ∷ ds) (kept cs)

all_there : (cs : List ℕ) → list_any lacks (map Some cs) ≡ false
all_there [] = refl
all_there (c ∷ cs) = all_there cs

pub spelled_lossy : (cs : List ℕ) → all_scalars cs ≡ true → utf16_lossy_chars (flat_map encode_utf16 cs) ≡ cs
spelled_lossy cs s = ap (map or_replacement) (spelled_chars cs s) ∙ kept cs

pub spelled_paired : (cs : List ℕ) → all_scalars cs ≡ true → has_unpaired_surrogate (flat_map encode_utf16 cs) ≡ false
spelled_paired cs s = ap (list_any lacks) (spelled_chars cs s) ∙ all_there cs

small_units : (c : ℕ) → scalar c ≡ true → All IsSmall (encode_utf16 c)
small_units c s =
    elim (cases_lt c 0x1_0000) [
      | inl small ↦ rw (one_unit c small) (All-cons IsSmall c [] (omega arith) (All-nil IsSmall))
      | inr large ↦
          let p = pair c large (below c s) in
          let low = 0xDC00 + (c - 0x1_0000) % 0x400 in
          rw (two_units c large) (All-cons IsSmall (0xD800 + (c - 0x1_0000) / 0x400) (low ∷ []) (omega (arith, p.1))
          (All-cons IsSmall low [] (omega (arith, p.3)) (All-nil IsSmall)))
    ]

pub spelled_small : (cs : List ℕ) → all_scalars cs ≡ true → All IsSmall (flat_map encode_utf16 cs)
spelled_small [] s = All-nil IsSmall
spelled_small (c ∷ cs) s =
    let parts = and_parts _ _ s in
    All-append IsSmall (encode_utf16 c) (flat_map encode_utf16 cs) (small_units c parts.0) (spelled_small cs parts.1)

-- code units to characters to code units

-- the characters cs are what the units encode
abbrev Spells : List ℕ → List ℕ → Type 0
Spells units cs = (all_scalars cs ≡ true) × (flat_map encode_utf16 cs ≡ units)

lone_spells : (u : ℕ) (units cs : List ℕ) → IsSmall u → lacks (lone_unit_char u) ≡ false → Spells units cs →
    Spells (u ∷ units) (or_replacement (lone_unit_char u) ∷ cs)
lone_spells u units cs small there h =
    elim (cases_lt u 0xD800) [
      | inl low ↦ rw (lone_unit_char_low u low) (and_from _ _ (low_scalar u low) h.0, rw (one_unit u small) (ap (λ us. u ∷ us) h.1))
      | inr high ↦ elim (cases_lt u 0xE000) [
        | inl surrogate ↦ absurd (true≢false (rw (lone_unit_char_surrogate u high surrogate) at there))
        | inr above ↦ rw (lone_unit_char_high u above) (
          and_from _ _ (scalar_high u above (omega arith)) h.0,
          rw (one_unit u small) (ap (λ us. u ∷ us) h.1),
        )
      ]
    ]

is_pair : (u v : ℕ) → (is_high_surrogate u && is_low_surrogate v) ≡ true → IsPair u v
is_pair u v e =
    let parts = and_parts _ _ e in
    let high = and_parts _ _ parts.0 in
    let low = and_parts _ _ parts.1 in
    (leb-true _ _ high.0, ltb-true _ _ high.1, leb-true _ _ low.0, ltb-true _ _ low.1)

pair_encodes : (u v : ℕ) → IsPair u v → encode_utf16 (surrogate_pair_char u v) ≡ u ∷ v ∷ []
pair_encodes u v p =
    ap encode_utf16 {x = surrogate_pair_char u v} {y = 0x1_0000 + ((u - 0xD800) * 0x400 + (v - 0xDC00))} (omega arith)
    ∙ pair_units u v p.0 p.2 p.3

pair_spells : (u v : ℕ) (units cs : List ℕ) → IsPair u v → Spells units cs → Spells (u ∷ v ∷ units) (surrogate_pair_char u v ∷ cs)
pair_spells u v units cs p h = (
  and_from _ _ (scalar_high (surrogate_pair_char u v) (omega (arith, p.0)) (omega (arith, p.1, p.3))) h.0,
  ap (λ us. us ++ flat_map encode_utf16 cs) (pair_encodes u v p) ∙ ap (λ us. u ∷ v ∷ us) h.1,
)

abbrev next_chars : ℕ → ℕ → List ℕ → Bool → List (Option ℕ)
next_chars u v units b = cond b (Some (surrogate_pair_char u v) ∷ utf16_chars units) (lone_unit_char u ∷ utf16_chars (v ∷ units))

step : (u v : ℕ) (units : List ℕ) (b : Bool) → (is_high_surrogate u && is_low_surrogate v) ≡ b → IsSmall u
    → list_any lacks (next_chars u v units b) ≡ false
    → (has_unpaired_surrogate units ≡ false → Spells units (utf16_lossy_chars units))
    → (has_unpaired_surrogate (v ∷ units) ≡ false → Spells (v ∷ units) (utf16_lossy_chars (v ∷ units)))
    → Spells (u ∷ v ∷ units) (map or_replacement (next_chars u v units b))
step u v units true e small paired on_pair on_lone = pair_spells u v units (utf16_lossy_chars units) (is_pair u v e) (on_pair paired)
step u v units false e small paired on_pair on_lone =
    let parts = or_parts _ _ paired in
    lone_spells u (v ∷ units) (utf16_lossy_chars (v ∷ units)) small parts.0 (on_lone parts.1)

pub spells : (units : List ℕ) → All IsSmall units → has_unpaired_surrogate units ≡ false → Spells units (utf16_lossy_chars units)
unfolding utf16_chars
spells [] small paired = (refl, refl)
spells (u ∷ []) small paired = lone_spells u [] [] (All-head IsSmall u [] small) (or_parts _ _ paired).0 (refl, refl)
spells (u ∷ v ∷ units) small paired =
    let tail = All-tail IsSmall u (v ∷ units) small in
    step u v units (is_high_surrogate u && is_low_surrogate v) refl (All-head IsSmall u (v ∷ units) small) paired
    (spells units (All-tail IsSmall v units tail)) (spells (v ∷ units) tail)

-- what follows for texts

pub units_of-IsUtf16 : (t : List ℕ) → IsUtf8 t → IsUtf16 (units_of t)
unfolding units_of
units_of-IsUtf16 t utf8 = record { characters = chars t; scalars = scalars-chars t utf8; spelled = refl }

pub IsUtf16-paired : (units : List ℕ) → IsUtf16 units → has_unpaired_surrogate units ≡ false
IsUtf16-paired units h = ap has_unpaired_surrogate h.spelled ∙ spelled_paired h.characters h.scalars

pub IsUtf16-small : (units : List ℕ) → IsUtf16 units → All IsSmall units
IsUtf16-small units h = subst (All IsSmall) (sym h.spelled) (spelled_small h.characters h.scalars)

pub IsUtf16-from_paired : (units : List ℕ) → All IsSmall units → has_unpaired_surrogate units ≡ false → IsUtf16 units
IsUtf16-from_paired units small paired =
    let h = spells units small paired in
    record { characters = utf16_lossy_chars units; scalars = h.0; spelled = sym h.1 }

pub text_of-units_of : (t : List ℕ) → IsUtf8 t → text_of (units_of t) ≡ t
unfolding text_of units_of
text_of-units_of t utf8 = ap encode_utf8_all (spelled_lossy (chars t) (scalars-chars t utf8)) ∙ encodes-chars t utf8

pub units_of-text_of : (units : List ℕ) → IsUtf16 units → units_of (text_of units) ≡ units
unfolding text_of units_of
units_of-text_of units h =
    let lossy : utf16_lossy_chars units ≡ h.characters = ap utf16_lossy_chars h.spelled ∙ spelled_lossy h.characters h.scalars in
    ap (λ cs. flat_map encode_utf16 (chars (encode_utf8_all cs))) lossy
    ∙ ap (flat_map encode_utf16) (chars-encodes h.characters h.scalars) ∙ sym h.spelled

pub text_of-IsUtf8 : (units : List ℕ) → IsUtf16 units → IsUtf8 (text_of units)
unfolding text_of
text_of-IsUtf8 units h =
    let lossy : utf16_lossy_chars units ≡ h.characters = ap utf16_lossy_chars h.spelled ∙ spelled_lossy h.characters h.scalars in
    (h.characters, (h.scalars, ap encode_utf8_all (sym lossy)))

-- code units to bytes to code units

two_bytes : (u : ℕ) → u % 256 + 256 * (u / 256) ≡ u
two_bytes u = omega arith

pub units_le-bytes_le : (units : List ℕ) → units_le (bytes_le units) ≡ units
unfolding units_le bytes_le
units_le-bytes_le [] = refl
units_le-bytes_le (u ∷ units) = ap (λ x. x ∷ units_le (bytes_le units)) (two_bytes u) ∙ ap (λ us. u ∷ us) (units_le-bytes_le units)

even_more : (n : ℕ) → suc (suc n) % 2 ≡ n % 2
even_more n = omega arith

bytes_le-even : (units : List ℕ) → length (bytes_le units) % 2 ≡ 0
unfolding bytes_le
bytes_le-even [] = refl
bytes_le-even (u ∷ units) = even_more (length (bytes_le units)) ∙ bytes_le-even units

pub decode_le-bytes_le : (units : List ℕ) → IsUtf16 units → decode_le (bytes_le units) ≡ Ok units
unfolding decode_le
decode_le-bytes_le units h = rw (bytes_le-even units, units_le-bytes_le units, IsUtf16-paired units h)

-- what follows the first character

pub after_single : (u : ℕ) (us : List ℕ) → (u < 0xD800) ⊎ (0xE000 ≤ u) → has_unpaired_surrogate (u ∷ us) ≡ has_unpaired_surrogate us
after_single u us range =
    elim range [
      | inl low ↦ ap (list_any lacks) (utf16_chars_lone u us (λ p. omega (arith, p.0))
          ∙ ap (λ o. o ∷ utf16_chars us) (lone_unit_char_low u low))
      | inr high ↦ ap (list_any lacks) (utf16_chars_lone u us (λ p. omega (arith, p.1))
          ∙ ap (λ o. o ∷ utf16_chars us) (lone_unit_char_high u high))
    ]

pub after_pair : (u v : ℕ) (us : List ℕ) → IsPair u v → has_unpaired_surrogate (u ∷ v ∷ us) ≡ has_unpaired_surrogate us
after_pair u v us p = ap (list_any lacks) (utf16_chars_pair u v us p)

pub unpaired : (u : ℕ) (us : List ℕ) → 0xD800 ≤ u → u < 0xE000 → ¬ (IsPair u (get_or us 0 0)) → has_unpaired_surrogate (u ∷ us) ≡ true
unpaired u us from until apart = ap (list_any lacks) (utf16_chars_lone u us apart
    ∙ ap (λ o. o ∷ utf16_chars us) (lone_unit_char_surrogate u from until))

-- the first two bytes are the first code unit
pub units_le-front : (bytes : List ℕ) → 2 ≤ length bytes
    → units_le bytes ≡ (get_or bytes 0 0 + 256 * get_or bytes 1 0) ∷ units_le (take (length bytes - 2) (drop 2 bytes))
unfolding units_le
units_le-front [] some = absurd (omega arith)
units_le-front (b ∷ []) some = absurd (omega arith)
units_le-front (low ∷ high ∷ bytes) some = ap (λ r. (low + 256 * high) ∷ units_le r)
    (sym (take_all (suc (suc (length bytes)) - 2) bytes (omega arith)))

pub units_le-end : (bytes : List ℕ) → length bytes < 2 → units_le bytes ≡ []
unfolding units_le
units_le-end [] few = refl
units_le-end (b ∷ []) few = refl
units_le-end (low ∷ high ∷ bytes) few = absurd (omega arith)

-- the first two bytes are the partner of the unit u
pub front_pair : (u v : ℕ) (others : List ℕ) → 2 ≤ length others → v ≡ get_or others 0 0 + get_or others 1 0 * 256 → IsPair u v
    → has_unpaired_surrogate (u ∷ units_le others) ≡ has_unpaired_surrogate (units_le (take (length others - 2) (drop 2 others)))
front_pair u v others some is p =
    let first : get_or others 0 0 + 256 * get_or others 1 0 ≡ v = omega arith in
    ap (λ us. has_unpaired_surrogate (u ∷ us)) (units_le-front others some ∙ ap (λ x. x ∷ units_le (take (length others - 2) (drop 2 others))) first)
    ∙ after_pair u v (units_le (take (length others - 2) (drop 2 others))) p

pub front_apart : (u v : ℕ) (others : List ℕ) → 2 ≤ length others → v ≡ get_or others 0 0 + get_or others 1 0 * 256 → 0xD800 ≤ u
    → u < 0xE000 → ¬ (IsPair u v) → has_unpaired_surrogate (u ∷ units_le others) ≡ true
front_apart u v others some is from until apart =
    let rest = units_le (take (length others - 2) (drop 2 others)) in
    let first : get_or others 0 0 + 256 * get_or others 1 0 ≡ v = omega arith in
    ap (λ us. has_unpaired_surrogate (u ∷ us)) (units_le-front others some ∙ ap (λ x. x ∷ rest) first) ∙ unpaired u (v ∷ rest) from until apart

pub alone : (u : ℕ) (others : List ℕ) → length others < 2 → 0xD800 ≤ u → u < 0xE000 → has_unpaired_surrogate (u ∷ units_le others) ≡ true
alone u others few from until =
    ap (λ us. has_unpaired_surrogate (u ∷ us)) (units_le-end others few) ∙ unpaired u [] from until (λ p. omega (arith, p.2))

-- the first two bytes are the unit u
pub taken : (rest : List ℕ) (u : ℕ) (b : Bool) → 2 ≤ length rest → u ≡ get_or rest 0 0 + get_or rest 1 0 * 256
    → has_unpaired_surrogate (u ∷ units_le (take (length rest - 2) (drop 2 rest))) ≡ b → has_unpaired_surrogate (units_le rest) ≡ b
taken rest u b some is e =
    let first : get_or rest 0 0 + 256 * get_or rest 1 0 ≡ u = omega arith in
    ap has_unpaired_surrogate (units_le-front rest some ∙ ap (λ x. x ∷ units_le (take (length rest - 2) (drop 2 rest))) first) ∙ e

pub nothing_unpaired : has_unpaired_surrogate [] ≡ false
nothing_unpaired = ap (list_any lacks) utf16_chars-nil

-- one more code unit is read
pub read_pair : (units rest all : List ℕ) (u : ℕ) → units ++ units_le rest ≡ all → 2 ≤ length rest →
    u ≡ get_or rest 0 0 + get_or rest 1 0 * 256
    → (units ++ u ∷ []) ++ units_le (take (length rest - 2) (drop 2 rest)) ≡ all
read_pair units rest all u e some is =
    let more = units_le (take (length rest - 2) (drop 2 rest)) in
    append_assoc units (u ∷ []) more
    ∙ ap (λ x. units ++ x ∷ more) {x = u} {y = get_or rest 0 0 + 256 * get_or rest 1 0} (omega arith)
    ∙ ap (λ us. units ++ us) (sym (units_le-front rest some)) ∙ e

pub read_all : (units rest all : List ℕ) → units ++ units_le rest ≡ all → length rest < 2 → units ≡ all
read_all units rest all e few = sym (append-nil units) ∙ ap (λ us. units ++ us) (sym (units_le-end rest few)) ∙ e

-- one more code unit is written
pub bytes_le-more : (units : List ℕ) (i : ℕ) (bytes two : List ℕ) → i < length units → get_or units i 0 < 2 ^ 16 →
    bytes ≡ bytes_le (take i units)
    → two ≡ (get_or units i 0 % 256) ∷ (get_or units i 0 / 256 % 256) ∷ [] → bytes ++ two ≡ bytes_le (take (i + 1) units)
unfolding bytes_le
bytes_le-more units i bytes two within small e is =
    let u = get_or units i 0 in
    let last : two ≡ unit_bytes u ++ [] = is ∙ ap (λ h. (u % 256) ∷ h ∷ []) {x = u / 256 % 256} {y = u / 256} (omega arith) in
    ap (λ b. b ++ two) e ∙ ap (λ t. flat_map unit_bytes (take i units) ++ t) last
    ∙ sym (flat_map-append unit_bytes (take i units) (u ∷ [])) ∙ ap (flat_map unit_bytes) (sym (take_more units i 0 within))

-- which bytes are read
pub odd_refused : (bytes : List ℕ) → ¬ (length bytes % 2 ≡ 0) → decode_le bytes ≡ Err OddLength
unfolding decode_le
odd_refused bytes odd = rw (ne_eqb (length bytes % 2) 0 odd)

decoded_even : (bytes : List ℕ) → length bytes % 2 ≡ 0 → decode_le bytes ≡ cond (has_unpaired_surrogate (units_le bytes))
    (Err UnpairedSurrogate) (Ok (units_le bytes))
unfolding decode_le
decoded_even bytes even = rw even

pub even_decoded : (bytes : List ℕ) → length bytes % 2 ≡ 0 → has_unpaired_surrogate (units_le bytes) ≡ false
    → decode_le bytes ≡ Ok (units_le bytes)
even_decoded bytes even paired = decoded_even bytes even ∙ rw paired

pub even_refused : (bytes : List ℕ) → length bytes % 2 ≡ 0 → has_unpaired_surrogate (units_le bytes) ≡ true
    → decode_le bytes ≡ Err UnpairedSurrogate
even_refused bytes even paired = decoded_even bytes even ∙ rw paired

ok_by : (unpaired well_formed : Bool) (units : List ℕ) → unpaired ≡ not well_formed →
    is_ok (cond {A = Result (List ℕ) Utf16Error} unpaired (Err UnpairedSurrogate) (Ok units)) ≡ well_formed
ok_by true true units e = absurd (true≢false e)
ok_by true false units e = refl
ok_by false true units e = refl
ok_by false false units e = absurd (true≢false (sym e))

-- whether there is a text, by both tests
pub even_ok : (bytes : List ℕ) (well_formed : Bool) → length bytes % 2 ≡ 0 → has_unpaired_surrogate (units_le bytes) ≡ not well_formed
    → well_formed ≡ is_ok (decode_le bytes)
even_ok bytes well_formed even e =
    sym (ap is_ok (decoded_even bytes even) ∙ ok_by (has_unpaired_surrogate (units_le bytes)) well_formed (units_le bytes) e)

pub odd_ok : (bytes : List ℕ) → ¬ (length bytes % 2 ≡ 0) → false ≡ is_ok (decode_le bytes)
odd_ok bytes odd = sym (ap is_ok (odd_refused bytes odd))

pub ruleset decoded_ok = (even_ok, odd_ok)

two_more : (n : ℕ) → suc (suc (2 * n)) ≡ 2 * suc n
two_more n = omega arith

pub length_bytes_le : (units : List ℕ) → length (bytes_le units) ≡ 2 * length units
unfolding bytes_le
length_bytes_le [] = refl
length_bytes_le (u ∷ units) = ap (λ n. suc (suc n)) (length_bytes_le units) ∙ two_more (length units)

abbrev refused : Utf16Error → Result (List ℕ) Utf16Error
refused e = Err e

abbrev refused_or : Bool → List ℕ → Result (List ℕ) Utf16Error
refused_or b units = cond b (Err UnpairedSurrogate) (Ok units)

-- code units of bytes have 16 bits
pub units_le-small : (bytes : List ℕ) → ((i : ℕ) → get_or bytes i 0 < 256) → All IsSmall (units_le bytes)
unfolding units_le
units_le-small [] fits = All-nil IsSmall
units_le-small (b ∷ []) fits = All-nil IsSmall
units_le-small (low ∷ high ∷ bytes) fits =
    All-cons IsSmall (low + 256 * high) (units_le bytes) (omega (arith, fits 0, fits 1)) (units_le-small bytes (λ i. fits (suc (suc i))))

even_less : (n : ℕ) → suc (suc n) % 2 ≡ 0 → n % 2 ≡ 0
even_less n e = omega arith

pub bytes_le-units_le : (bytes : List ℕ) → ((i : ℕ) → get_or bytes i 0 < 256) → length bytes % 2 ≡ 0 → bytes_le (units_le bytes) ≡ bytes
unfolding bytes_le units_le
bytes_le-units_le [] fits even = refl
bytes_le-units_le (b ∷ []) fits even = absurd (omega arith)
bytes_le-units_le (low ∷ high ∷ bytes) fits even =
    let rest = bytes_le-units_le bytes (λ i. fits (suc (suc i))) (even_less (length bytes) even) in
    ap (λ x. x ∷ ((low + 256 * high) / 256) ∷ flat_map unit_bytes (units_le bytes)) {x = (low + 256 * high) % 256} {y = low}
    (omega (arith, fits 0))
    ∙ ap (λ x. low ∷ x ∷ flat_map unit_bytes (units_le bytes)) {x = (low + 256 * high) / 256} {y = high} (omega (arith, fits 0))
    ∙ ap (λ bs. low ∷ high ∷ bs) rest

not_ok : (units : List ℕ) {e : Utf16Error} → ¬ (refused e ≡ Ok units)
not_ok units p = cc

by_pairs : (bytes units : List ℕ) → ((i : ℕ) → get_or bytes i 0 < 256) → length bytes % 2 ≡ 0 →
    (b : Bool) → has_unpaired_surrogate (units_le bytes) ≡ b
    → refused_or b (units_le bytes) ≡ Ok units → IsUtf16 units × (bytes_le units ≡ bytes)
by_pairs bytes units fits even true unpaired e = absurd (not_ok units e)
by_pairs bytes units fits even false paired e =
    let P : List ℕ → Type 0 = λ us. IsUtf16 us × (bytes_le us ≡ bytes) in
    let is : units_le bytes ≡ units = cc in
    subst P is (IsUtf16-from_paired (units_le bytes) (units_le-small bytes fits) paired, bytes_le-units_le bytes fits even)

-- what is read is well-formed, and its bytes are those that were read
pub decoded : (bytes units : List ℕ) → ((i : ℕ) → get_or bytes i 0 < 256) → decode_le bytes ≡ Ok units → IsUtf16 units
    × (bytes_le units ≡ bytes)
decoded bytes units fits e =
    elim (cases_eq (length bytes % 2) 0) [
      | inl even ↦ by_pairs bytes units fits even (has_unpaired_surrogate (units_le bytes)) refl (sym (decoded_even bytes even) ∙ e)
      | inr odd ↦ absurd (not_ok units (sym (odd_refused bytes odd) ∙ e))
    ]
