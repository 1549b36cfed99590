-- What the words of an edit say.
use Rattle.std.proofs.Common.{◌≡◌, ℕ, List, Some, None, refl}
use Rattle.std.specs.Prelude.{codes}
use Rattle.sspi_delegate.specs.declared.edit.EditKind.TheVariants as edit
use Rattle.sspi_scenario.specs.Edits.{kind_alone, kind_by_number, kind_with, add_of, give_of, cut_of, set_of, again_of}
use Rattle.sspi_scenario.proofs.Wording.{differs}

module _ (word : List ℕ) where
  pub is_drop : word ≡ codes "drop" → Some edit.Drop ≡ kind_alone word
  unfolding kind_alone
  is_drop e = rw e refl

  pub is_fail : word ≡ codes "fail" → Some edit.Fail ≡ kind_alone word
  unfolding kind_alone
  is_fail e = rw e refl

  pub none_alone : (word ≡ codes "drop" → ⊥) → (word ≡ codes "fail" → ⊥) → None ≡ kind_alone word
  unfolding kind_alone
  none_alone n m = rw (differs word _ n, differs word _ m) refl

module _ (word argument : List ℕ) where
  pub is_add : word ≡ codes "add" → kind_with word argument ≡ add_of argument
  unfolding kind_with
  is_add e = rw e refl

  pub is_give : word ≡ codes "give" → kind_with word argument ≡ give_of argument
  unfolding kind_with
  is_give e = rw e refl

  pub is_by_number : (word ≡ codes "add" → ⊥) → (word ≡ codes "give" → ⊥) → kind_with word argument ≡ kind_by_number word argument
  unfolding kind_with
  is_by_number n m = rw (differs word _ n, differs word _ m) refl

  pub is_cut : word ≡ codes "cut" → kind_by_number word argument ≡ cut_of argument
  unfolding kind_by_number
  is_cut e = rw e refl

  pub is_set : word ≡ codes "set" → kind_by_number word argument ≡ set_of argument
  unfolding kind_by_number
  is_set e = rw e refl

  pub is_again : word ≡ codes "again" → kind_by_number word argument ≡ again_of argument
  unfolding kind_by_number
  is_again e = rw e refl

  pub none_by_number : (word ≡ codes "cut" → ⊥) → (word ≡ codes "set" → ⊥) → (word ≡ codes "again" → ⊥) →
      kind_by_number word argument ≡ None
  unfolding kind_by_number
  none_by_number n m o = rw (differs word _ n, differs word _ m, differs word _ o) refl

pub ruleset told = (is_add, is_give, is_by_number)

pub ruleset by_number = (is_cut, is_set, is_again, none_by_number)
