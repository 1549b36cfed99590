-- A source that keeps what it gave.
use Rattle.std.specs.Prelude.{◌≡◌, ℕ, List, [], ◌∷◌, ◌++◌, Option, Some, None, ◌⊎◌, Result, Ok, Err}
use Rattle.sspi_ber.specs.declared.source.SourceError.{SourceError}

-- the source that it reads, and what it gave so far: none once memory for it ran out
pub record KeepingView (S : Type 0) : Type 0 where
  pub source : S
  pub given : Option (List ℕ)

-- this piece is kept after what was kept before, or memory for it ran out and nothing is kept from
-- here on; an empty piece needs no memory
abbrev pub Keeps : Option (List ℕ) → Option (List ℕ) → List ℕ → Type 0
Keeps None now piece = now ≡ None
Keeps (Some given) now [] = now ≡ Some given
Keeps (Some given) now (byte ∷ piece) = (now ≡ Some (given ++ byte ∷ piece)) ⊎ (now ≡ None)

-- what the next byte, if there was one, adds to what is kept
abbrev pub byte_of : Result (Option ℕ) SourceError → List ℕ
byte_of (Ok (Some byte)) = byte ∷ []
byte_of (Ok None) = []
byte_of (Err error) = []
