-- How a function of the library changes a value in place.
use Rattle.std.specs.Prelude.{◌≡◌, ◌≢◌, ℕ, Result, Ok, Err}
use Rattle.newaksu_c.specs.Status.{ok, insufficient_memory}

-- a value that is changed in place to this, or not at all, if memory runs out or the change is
-- refused
abbrev pub Changes : {X : Type 0} → Result X ℕ → X → X → ℕ → Type 0
Changes (Ok x) before after status = (status ≡ ok → after ≡ x) ×
    (status ≢ ok → (status ≡ insufficient_memory) × (after ≡ before))
Changes (Err refusal) before after status = (status ≡ refusal) × (after ≡ before)
