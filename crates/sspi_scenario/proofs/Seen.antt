-- Keys kept once each say as much as all of them.
use Rattle.std.proofs.Common.{◌≡◌, Bool, true, false, ◌||◌, List, [], ◌∷◌, ◌++◌, Some, refl, ap, sym, ◌∙◌}
use Rattle.std.specs.Prelude.{fold, if◌then◌else◌}
use Rattle.std.specs.List.{list_any}
use Rattle.std.proofs.lemmas.Bool.{false_from_ne_true}
use Rattle.std.proofs.lemmas.List.Folds.{list_any-append}
use Rattle.std.proofs.lemmas.Slice.Eq.{bytes_eq-Decides}
use Rattle.sspi_scenario.specs.declared.key.Key.{Key}
use Rattle.sspi_scenario.specs.declared.key.Key.TheVariants as key
use Rattle.sspi_scenario.specs.Drafts.{noted}
use Rattle.sspi_scenario.specs.Keys.{key_named, is_same, has}
use Rattle.sspi_scenario.specs.Table.{row}

-- each key is the one that its name means
named : (k : Key) → key_named (row k).name ≡ Some k
unfolding key_named
named key.Mode = refl
named other = refl

pub one : (a b : Key) → is_same a b ≡ true → a ≡ b
unfolding is_same
one a b e =
    let names : (row a).name ≡ (row b).name = (bytes_eq-Decides (row a).name (row b).name).0 e in
    let both : Some a ≡ Some b = sym (named a) ∙ (ap key_named names ∙ named b) in
    cc

pub same : (a b : Key) → a ≡ b → is_same a b ≡ true
unfolding is_same
same a b e = (bytes_eq-Decides (row a).name (row b).name).1 (ap (λ (k : Key). (row k).name) e)

pub apart : (a b : Key) → (a ≡ b → ⊥) → is_same a b ≡ false
apart a b n = false_from_ne_true (is_same a b) (λ e. n (one a b e))

or-true : (b : Bool) → (b || true) ≡ true
or-true true = refl
or-true false = refl

or-false : (b : Bool) → (b || false) ≡ b
or-false true = refl
or-false false = refl

or-assoc : (a b c : Bool) → ((a || b) || c) ≡ (a || (b || c))
or-assoc true b c = refl
or-assoc false b c = refl

module _ (p : Key → Bool) where
  found-cons : (e : Key) (keys : List Key) (k : Key) (b : Bool) → is_same e k ≡ b → p k ≡ true
      → (has keys k ≡ true → list_any p keys ≡ true) → (b || has keys k) ≡ true → (p e || list_any p keys) ≡ true
  found-cons e keys k true h passes more among = let first : p e ≡ true = ap p (one e k h) ∙ passes in rw first refl
  found-cons e keys k false h passes more among = rw (more among) (or-true (p e))

  -- if a key passes and is in a list, something in the list passes
  found : (keys : List Key) (k : Key) → has keys k ≡ true → p k ≡ true → list_any p keys ≡ true
  found [] k h passes = absurd cc
  found (e ∷ keys) k h passes = found-cons e keys k (is_same e k) refl passes (λ more. found keys k more passes) h

  kept : (keys : List Key) (k : Key) (b : Bool) → has keys k ≡ true → p k ≡ b → list_any p keys ≡ (list_any p keys || b)
  kept keys k true h passes = let all : list_any p keys ≡ true = found keys k h passes in rw all refl
  kept keys k false h fails = sym (or-false (list_any p keys))

  note-any : (keys : List Key) (k : Key) (b : Bool) → has keys k ≡ b →
      list_any p (if b then keys else keys ++ k ∷ []) ≡ (list_any p keys || p k)
  note-any keys k true h = kept keys k (p k) h refl
  note-any keys k false h = list_any-append p keys (k ∷ []) ∙ ap (λ (b : Bool). list_any p keys || b) (or-false (p k))

  fold-any : (keys more : List Key) → list_any p (fold noted keys more) ≡ (list_any p keys || list_any p more)
  fold-any keys [] = sym (or-false (list_any p keys))
  fold-any keys (k ∷ more) =
      fold-any (noted keys k) more
      ∙ (ap (λ (b : Bool). b || list_any p more) (note-any keys k (has keys k) refl)
      ∙ or-assoc (list_any p keys) (p k) (list_any p more))

  pub seen-any : (keys : List Key) → list_any p (fold noted [] keys) ≡ list_any p keys
  seen-any keys = fold-any [] keys
