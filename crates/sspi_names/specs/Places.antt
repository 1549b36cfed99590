-- Where a byte occurs in a text.
use Rattle.std.specs.Prelude.{◌≡◌, ◌≢◌, ◌<◌, ℕ, List, length, slice_index}

-- it occurs nowhere
abbrev pub IsNowhere : ℕ → List ℕ → Type 0
IsNowhere c t = (i : ℕ) → i < length t → slice_index t i ≢ c

-- it is at k, and nowhere after k
abbrev pub IsLast : ℕ → List ℕ → ℕ → Type 0
IsLast c t k = (k < length t) × (slice_index t k ≡ c) ×
    ((i : ℕ) → k < i → i < length t → slice_index t i ≢ c)

-- it is at k, and nowhere before k
abbrev pub IsFirst : ℕ → List ℕ → ℕ → Type 0
IsFirst c t k = (k < length t) × (slice_index t k ≡ c) × ((i : ℕ) → i < k → slice_index t i ≢ c)
