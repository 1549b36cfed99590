-- The lines of a text, one after the other, up to the one to blame or to one with a given key.
use Rattle.std.proofs.Common.{◌≡◌, ◌≢◌, ◌-◌, ◌+◌, ◌<◌, ℕ, Bool, true, false, List, [], ◌∷◌, Option, Some, None, refl, sym, ap, subst, ◌∙◌}
use Rattle.std.proofs.lemmas.Bool.{false_from_ne_true}
use Rattle.std.proofs.lemmas.Slice.Eq.{bytes_eq-Decides}
use Rattle.std.specs.List.{slice_get}
use Rattle.std.specs.Str.{bytes_eq}
use Rattle.sspi_scenario.specs.Lines.{before_space}
use Rattle.sspi_scenario.specs.Reasons.{names_key}

pub names-found : (lines more : List (List ℕ)) (line name : List ℕ) → lines ≡ line ∷ more → before_space line ≡ name →
    names_key lines name ≡ true
names-found lines more line name cut is = rw (cut, (bytes_eq-Decides (before_space line) name).1 is) refl

pub names-more : (lines more : List (List ℕ)) (line name : List ℕ) → lines ≡ line ∷ more → before_space line ≢ name →
    names_key lines name ≡ names_key more name
names-more lines more line name cut not =
    rw (cut, false_from_ne_true (bytes_eq (before_space line) name) (λ e. not ((bytes_eq-Decides (before_space line) name).0 e))) refl
