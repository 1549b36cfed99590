-- The front of what a source has left.
use Rattle.std.specs.Prelude.{ℕ, ◌<◌, ◌≤◌, List, length, take, Option}
use Rattle.std.specs.Io.KnownBytes.{Consumes, IsAtEnd}

-- this many bytes were taken, which `into` begins with: as many as it has room for, or all
pub record TakesFront (before after : Option (List ℕ)) (into : List ℕ) (count : ℕ) : Type 0 where
  pub within : count ≤ length into
  pub consumed : Consumes before after (take count into)
  pub all : count < length into → IsAtEnd after
