-- The values of the scenario of a number.
use Rattle.std.proofs.Common.{◌≡◌, ℕ, ◌<◌, ◌^◌, ◌%◌, ◌==◌, ◌||◌, Bool, true, false, List, [], ◌∷◌, ◌++◌, codes, decimal}
use Rattle.std.proofs.Common.{refl, arith}
use Rattle.std.proofs.Common.{if◌then◌else◌, None, Some, ap, sym, subst}
use Rattle.std.proofs.lemmas.Bool.{and_parts}
use Rattle.std.proofs.lemmas.Bool.Decides.{nat_tests}
use Rattle.std.proofs.lemmas.Fmt.{IsAscii-decimal, digits_decimal}
use Rattle.std.proofs.lemmas.Str.{IsUtf8-from_ascii}
use Rattle.std.proofs.lemmas.Str.Ascii.{IsAscii-cons}
use Rattle.std.specs.Char.{is_ascii_digit}
use Rattle.std.specs.Str.{IsAscii, IsUtf8, all_ascii_digits}
use Rattle.sspi_names.specs.Name.{Name, IsName, down_level, new_name, at_sign, backslash, has_at_sign, has_backslash, has_separator}
use Rattle.sspi_scenario.specs.declared.scenario.Scenario.{Scenario}
use Rattle.sspi_scenario.specs.declared.values.Values.{Values}
use Rattle.sspi_scenario.specs.Held.{HoldsValues}
use Rattle.sspi_scenario.specs.Scenario.{defaults}
use Rattle.sspi_scenario.specs.Numbered.{is_old, numbered, user_at, usual_at, with_kerberos, with_loss}
use Rattle.sspi_scenario.specs.Numbered.{with_other_password}
use Rattle.sspi_scenario.proofs.Numerals.{own}

-- ---- a letter and a number

digit_alone : (d : ℕ) → is_ascii_digit d ≡ true → ((d == at_sign) ≡ false) × ((d == backslash) ≡ false)
digit_alone d e = (grind (arith, nat_tests), grind (arith, nat_tests))

digits_alone : (bs : List ℕ) → all_ascii_digits bs ≡ true → (has_at_sign bs ≡ false) × (has_backslash bs ≡ false)
digits_alone [] e = (refl, refl)
digits_alone (d ∷ bs) e =
    let parts = and_parts (is_ascii_digit d) (all_ascii_digits bs) e in
    let first = digit_alone d parts.0 in
    let more = digits_alone bs parts.1 in
    (rw (first.0, more.0) refl, rw (first.1, more.1) refl)

module _ (i : ℕ) (fits : i < 2 ^ 32) where
  wide : i < 2 ^ 64
  wide = omega (arith, fits)

  number_alone : (has_at_sign (decimal i) ≡ false) × (has_backslash (decimal i) ≡ false)
  number_alone = digits_alone (decimal i) (digits_decimal own i wide)

  account_alone : has_separator (codes "u" ++ decimal i) ≡ false
  account_alone = rw (number_alone.0, number_alone.1) refl

  domain_alone : has_separator (codes "D" ++ decimal i) ≡ false
  domain_alone = rw (number_alone.0, number_alone.1) refl

  pub lettered_ascii : (letter : ℕ) → letter < 128 → IsAscii (letter ∷ decimal i)
  lettered_ascii letter small = IsAscii-cons letter (decimal i) small (IsAscii-decimal i wide)

  lettered_text : (letter : ℕ) → letter < 128 → IsUtf8 (letter ∷ decimal i)
  lettered_text letter small = IsUtf8-from_ascii (letter ∷ decimal i) (lettered_ascii letter small)

  pub user_name : IsName (user_at i)
  user_name = record {
    allowed = (account_alone, domain_alone);
    account_text = lettered_text 117 (omega arith);
    domain_text = lettered_text 68 (omega arith);
  }

  pub password_utf8 : IsUtf8 (codes "p" ++ decimal i)
  password_utf8 = lettered_text 112 (omega arith)

named_by : (b : Bool) (n name : Name) → (if b then None else Some n) ≡ Some name → name ≡ n
named_by true n name e = absurd cc
named_by false n name e = cc

named : (account : List ℕ) (d : ℕ) (domain : List ℕ) (name : Name) → new_name account (d ∷ domain) ≡ Some name →
    name ≡ down_level account (d ∷ domain)
unfolding new_name
named account d domain name e =
    named_by (has_separator account || has_separator (d ∷ domain)) (down_level account (d ∷ domain)) name e

-- the name of these texts is the user's
pub named_user : (i : ℕ) (account domain : List ℕ) (name : Name) → account ≡ codes "u" ++ decimal i → domain ≡ codes "D" ++ decimal i →
    new_name account domain ≡ Some name → name ≡ user_at i
named_user i account domain name a d e = named (codes "u" ++ decimal i) 68 (decimal i) name (rw (a, d) at e)

-- ---- the scenario

version_fits : (old : Bool) → (if old then 4 else 6) < 2 ^ 32
version_fits true = omega arith
version_fits false = omega arith

usual_holds : (i : ℕ) → i < 2 ^ 32 → HoldsValues (usual_at i)
usual_holds i fits = record {
  name = user_name i fits;
  password_text = password_utf8 i fits;
  client_bits = version_fits (is_old i);
  server_bits = version_fits (is_old i);
  nonce_length = refl;
  challenge_length = refl;
  ticket_length = tt;
}

with_ticket : (s : Scenario) → HoldsValues s → HoldsValues (with_kerberos s)
with_ticket s h = record {
  name = h.name;
  password_text = h.password_text;
  client_bits = h.client_bits;
  server_bits = h.server_bits;
  nonce_length = h.nonce_length;
  challenge_length = h.challenge_length;
  ticket_length = refl;
}

apart_holds : (loss few kerberos other : Bool) (s : Scenario) → HoldsValues s →
    HoldsValues (if loss then with_loss s else if few then record s { turns = 2 } else if kerberos then with_kerberos s
    else if other then with_other_password s else s)
apart_holds true few kerberos other s h = h
apart_holds false true kerberos other s h = h
apart_holds false false true other s h = with_ticket s h
apart_holds false false false true s h = h
apart_holds false false false false s h = h

pub numbered_holds : (i : ℕ) → i < 2 ^ 32 → HoldsValues (numbered i)
numbered_holds i fits =
    apart_holds ((i % 8) == 3 || (i % 8) == 7) ((i % 8) == 4) ((i % 8) == 5) ((i % 8) == 6) (usual_at i) (usual_holds i fits)

pub told_values : (values : Values) → Some defaults ≡ Some values → values.scenario ≡ defaults.scenario
told_values values e = let same : values ≡ defaults = cc in ap (λ (v : Values). v.scenario) same

pub values_hold : (i : ℕ) → i < 2 ^ 32 → (s : Scenario) → s ≡ numbered i → HoldsValues s
values_hold i fits s is = subst (λ (t : Scenario). HoldsValues t) (sym is) (numbered_holds i fits)
