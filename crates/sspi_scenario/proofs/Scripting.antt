-- How a KDC answers a call, by the words that say so.
use Rattle.std.proofs.Common.{◌≡◌, ℕ, ◌<◌, ◌≤◌, List, Some, None, refl}
use Rattle.std.specs.Prelude.{codes}
use Rattle.std.proofs.lemmas.Bool.{le-leb, lt-leb}
use Rattle.sspi_mech.specs.declared.plain_kdc.Scripted.TheVariants as script
use Rattle.sspi_scenario.specs.Scripts.{scripted_of, code_of, code_in, code_at, numbered_code}
use Rattle.sspi_scenario.proofs.Wording.{differs}

module _ (text : List ℕ) where
  pub is_usual : text ≡ codes "usual" → Some script.Usual ≡ scripted_of text
  unfolding scripted_of
  is_usual e = rw e refl

  pub is_fail : text ≡ codes "fail" → Some script.Fail ≡ scripted_of text
  unfolding scripted_of
  is_fail e = rw e refl

  pub is_code : (text ≡ codes "usual" → ⊥) → (text ≡ codes "fail" → ⊥) → code_of text ≡ scripted_of text
  unfolding scripted_of
  is_code n m = rw (differs text _ n, differs text _ m) refl

module _ (word digits : List ℕ) where
  pub is_number : word ≡ codes "code" → numbered_code digits ≡ code_in word digits
  unfolding code_in
  is_number e = rw e refl

  pub no_code : (word ≡ codes "code" → ⊥) → None ≡ code_in word digits
  unfolding code_in
  no_code n = rw (differs word _ n) refl

pub is_byte : (n : ℕ) → n ≤ 255 → Some (script.Code n) ≡ code_at n
unfolding code_at
is_byte n fits = rw (le-leb n 255 fits) refl

pub no_byte : (n : ℕ) → 255 < n → None ≡ code_at n
unfolding code_at
no_byte n past = rw (lt-leb n 255 past) refl

pub ruleset codes_in_bytes = (is_byte, no_byte)
