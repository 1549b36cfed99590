-- The loop that reads subidentifiers.
use Rattle.std.proofs.Common.{◌≡◌, ℕ, List, [], ◌∷◌, ◌++◌, Option, Some, None, refl, sym, ap}
use Rattle.std.proofs.Common.{append_assoc}
use Rattle.std.specs.Option.{option_map}

-- what has been read so far, before what is still to be read
abbrev pub behind : List ℕ → Option (List ℕ) → Option (List ℕ)
behind before more = option_map (λ numbers. before ++ numbers) more

pub one_more : (before : List ℕ) (number : ℕ) (more : Option (List ℕ))
    → behind before (option_map (λ numbers. number ∷ numbers) more) ≡ behind (before ++ number ∷
    []) more
one_more before number None = refl
one_more before number (Some numbers) = ap Some (sym (append_assoc before (number ∷ []) numbers))
