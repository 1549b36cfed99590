-- A text has at most three bytes for each of its UTF-16 code units, so that a name with few of these is short.
use Rattle.std.proofs.Common.{ℕ, ◌*◌, ◌≤◌, ◌<◌, List, [], ◌∷◌, length, ap, arith, inl, inr}
use Rattle.std.proofs.Math.Utf8.{encode, encodes}
use Rattle.std.proofs.lemmas.Bool.{cases_lt, lt-ltb, le-ltb}
use Rattle.std.proofs.lemmas.List.{length-append}
use Rattle.std.proofs.lemmas.Str.{length-encode, len_utf8_bounds, encodes-chars}
use Rattle.std.proofs.str.Utf16.{one_unit, two_units}
use Rattle.std.specs.Char.{len_utf8}
use Rattle.std.specs.Char.Escape.{encode_utf16}
use Rattle.std.specs.List.{flat_map}
use Rattle.std.specs.Str.{IsUtf8, chars}
use Rattle.sspi_names.specs.declared.format.UserNameFormat.{UserNameFormat}
use Rattle.sspi_names.specs.declared.format.UserNameFormat.TheVariants.{UserPrincipalName, DownLevelLogonName}
use Rattle.sspi_names.specs.declared.identity.AuthIdentity.{AuthIdentity}
use Rattle.sspi_names.specs.Identity.{IsIdentity, buffers_of, user_text, domain_text}
use Rattle.sspi_names.specs.Name.{Name, IsName, inner_of}
use Rattle.sspi_names.specs.Utf16.{units_of}
use Rattle.sspi_names.proofs.Identities.{inner_of-IsUtf8}
use Rattle.sspi_completeness.specs.Matching.{IsShort}
use Rattle.sspi_completeness.proofs.NtlmRound.{inner_length}

-- a character of one unit has three bytes at most, and one of two units four
char_bytes : (c : ℕ) → length (encode c) ≤ 3 * length (encode_utf16 c)
char_bytes c = elim (cases_lt c 0x1_0000) [
  | inl small ↦ (let bytes = length-encode c in let few = short_char c small in let one =
      ap (λ (u : List ℕ). length u) (one_unit c small) in omega (arith, bytes, few, one))
  | inr large ↦ (let bytes = length-encode c in let few = len_utf8_bounds c in let two =
      ap (λ (u : List ℕ). length u) (two_units c large) in omega (arith, bytes, few.1, two))
]
  where
    short_char : (c : ℕ) → c < 0x1_0000 → len_utf8 c ≤ 3
    short_char c small = elim (cases_lt c 0x80) [
      | inl a ↦ rw (lt-ltb c 0x80 a) (omega arith)
      | inr a ↦ elim (cases_lt c 0x800) [
        | inl b ↦ rw (le-ltb c 0x80 a, lt-ltb c 0x800 b) (omega arith)
        | inr b ↦ rw (le-ltb c 0x80 a, le-ltb c 0x800 b, lt-ltb c 0x1_0000 small) (omega arith)
      ]
    ]

text_bytes : (cs : List ℕ) → length (encodes cs) ≤ 3 * length (flat_map encode_utf16 cs)
text_bytes [] = omega arith
text_bytes (c ∷ cs) =
    let one = char_bytes c in
    let rest = text_bytes cs in
    let bytes = length-append (encode c) (encodes cs) in
    let units = length-append (encode_utf16 c) (flat_map encode_utf16 cs) in
    omega (arith, one, rest, bytes, units)

units_bound : (text : List ℕ) → IsUtf8 text → length text ≤ 3 * length (units_of text)
unfolding units_of
units_bound text utf8 =
    let same = ap (λ (bs : List ℕ). length bs) (encodes-chars text utf8) in
    let bound = text_bytes (chars text) in
    omega (arith, same, bound)

name_bound : (format : UserNameFormat) (n : Name) → IsName n → length (units_of (user_text format n)) ≤ 8192 →
    length (units_of (domain_text format n)) ≤ 8192 → length (inner_of n) ≤ 49153
name_bound UserPrincipalName n is user domain = let bound = units_bound (inner_of n) (inner_of-IsUtf8 n is) in omega (arith, bound, user)
name_bound DownLevelLogonName n is user domain =
    let account = units_bound n.account is.account_text in
    let qualified = units_bound n.domain is.domain_text in
    let whole = inner_length n in
    omega (arith, account, qualified, whole, user, domain)

pub short_name : (i : AuthIdentity) → IsIdentity i → IsShort i → length (inner_of i.username) ≤ 49153
unfolding buffers_of
short_name i is short = name_bound i.username.format i.username is.name short.user_units short.domain_units
