-- How the whole text of a source is read.
use Rattle.std.specs.Prelude.{◌≡◌, ℕ, ◌+◌, ◌<◌, ◌≤◌, ◌⊎◌, List, length, Option, None, Some, Result}
use Rattle.std.specs.Prelude.{Ok, Err}
use Rattle.std.specs.Global.{Vec}
use Rattle.std.specs.Io.KnownBytes.{Consumes, IsAtEnd}
use Rattle.sspi_ber.specs.Outside.{Rose}
use Rattle.sspi_scenario.specs.declared.reading.TextError.{TextError}
use Rattle.sspi_scenario.specs.declared.reading.TextError.TheVariants.{TooLong, Failed}
use Rattle.sspi_scenario.specs.declared.reading.TextError.TheVariants.{InsufficientMemory}

-- the most bytes that the text of a scenario may have, 1 MiB
abbrev pub text_limit : ℕ
text_limit = 1048576

-- if a source exposes what it has left: the text is all of that, or that is longer than the limit
abbrev pub ReadsText : ℕ → Option (List ℕ) → Result (Vec ℕ) TextError → Type 0
ReadsText limit None result = Unit {0}
ReadsText limit (Some bytes) (Ok text) = (text.items ≡ bytes) × (length bytes ≤ limit)
ReadsText limit (Some bytes) (Err TooLong) = limit < length bytes
ReadsText limit (Some bytes) (Err Failed) = Unit {0}
ReadsText limit (Some bytes) (Err InsufficientMemory) = Unit {0}

-- at most `most` bytes were taken of what was left
pub record TakesAtMost (most : ℕ) (before after : Option (List ℕ)) : Type 0 where
  pub taken : List ℕ
  pub consumed : Consumes before after taken
  pub short : length taken ≤ most

-- exactly `count` bytes were taken of what was left
pub record TakesJust (count : ℕ) (before after : Option (List ℕ)) : Type 0 where
  pub taken : List ℕ
  pub consumed : Consumes before after taken
  pub counted : length taken ≡ count

-- the source is at its end; or the first byte past the limit was taken from it, and none after that
abbrev pub IsReadWhole : ℕ → Option (List ℕ) → Option (List ℕ) → Type 0
IsReadWhole limit before after = IsAtEnd after ⊎ TakesJust (limit + 1) before after

-- how far a source is read: to its end for a text, and to the first byte past the limit if it is
-- too long
abbrev pub ReadsSoFar : ℕ → Option (List ℕ) → Option (List ℕ) → Result (Vec ℕ) TextError → Type 0
ReadsSoFar limit before after (Ok text) = Consumes before after text.items × IsAtEnd after
ReadsSoFar limit before after (Err TooLong) = TakesJust (limit + 1) before after
ReadsSoFar limit before after (Err Failed) = Unit {0}
ReadsSoFar limit before after (Err InsufficientMemory) = Unit {0}

-- what reading says of the source's count of faults: a failure raises it, or finds it at its
-- maximum; any other result leaves it unchanged
abbrev pub TextCause : ℕ → ℕ → Result (Vec ℕ) TextError → Type 0
TextCause before now (Ok text) = now ≡ before
TextCause before now (Err TooLong) = now ≡ before
TextCause before now (Err Failed) = (before ≤ now) × Rose before now
TextCause before now (Err InsufficientMemory) = now ≡ before
