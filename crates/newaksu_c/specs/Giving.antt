-- What a caller is given, and what its buffer and its count then hold.
use Rattle.std.specs.Prelude.{◌≡◌, ℕ, ◌++◌, List, drop, length, nat_lt, Bool, true, false, Result}
use Rattle.std.specs.Prelude.{Ok, Err}
use Rattle.newaksu_c.specs.Status.{ok, buffer_too_small}

-- by whether the buffer is too small: the bytes as its prefix, or nothing
abbrev pub Fills : Bool → List ℕ → List ℕ → List ℕ → ℕ → Type 0
Fills true bytes before after status = (status ≡ buffer_too_small) × (after ≡ before)
Fills false bytes before after status = (status ≡ ok) ×
    (after ≡ bytes ++ drop (length bytes) before)

-- the bytes, the buffer before and after, the count, the status
abbrev pub Gives : List ℕ → List ℕ → List ℕ → ℕ → ℕ → Type 0
Gives bytes before after written status =
    (written ≡ length bytes) × Fills (nat_lt (length before) (length bytes)) bytes before after
    status

-- what there is to give, or the status that says why not; then the buffer stays as it was
abbrev pub Answers : Result (List ℕ) ℕ → List ℕ → List ℕ → ℕ → ℕ → Type 0
Answers (Ok bytes) before after written status = Gives bytes before after written status
Answers (Err refusal) before after written status = (written ≡ 0) × (after ≡ before) ×
    (status ≡ refusal)
