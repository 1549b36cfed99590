-- Which status a run has, where a fault or out of memory may take its place.
use Rattle.std.specs.Prelude.{◌≡◌, ℕ, ◌<◌, ◌≤◌, ◌⊎◌}

-- this status, except for a write fault (4) and out of memory (5)
abbrev pub IsUnlessWrite : ℕ → ℕ → Type 0
IsUnlessWrite own status = (status ≡ own) ⊎ ((status ≡ 4) ⊎ (status ≡ 5))

-- the same for one that also yields to a read fault (3)
abbrev pub IsUnlessFault : ℕ → ℕ → Type 0
IsUnlessFault own status = (status ≡ 3) ⊎ IsUnlessWrite own status

-- this status if this many messages of the client are allowed, and 1 if fewer are
abbrev pub EndsAs : ℕ → ℕ → ℕ → ℕ → Type 0
EndsAs own messages turns status = (messages ≤ turns → IsUnlessFault own status) ×
    (turns < messages → IsUnlessFault 1 status)

-- 0 if this many messages of the client are allowed, and 1 if fewer are
abbrev pub EndsMatched : ℕ → ℕ → ℕ → Type 0
EndsMatched = EndsAs 0
