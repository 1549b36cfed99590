-- How a `Username` holds a name: the text that shows it, and where its separator is.
use Rattle.std.specs.Prelude.{◌≡◌, ◌+◌, ◌<◌, ℕ, List, [], take, drop, length, slice_index}
use Rattle.sspi_names.specs.Name.{Name, IsName, principal, down_level, at_sign, backslash}
use Rattle.sspi_names.specs.declared.shape.Shape.{Shape}
use Rattle.sspi_names.specs.declared.shape.Shape.TheVariants.{Principal, Qualified, Bare}

-- the name with this text and shape
abbrev pub name_at : List ℕ → Shape → Name
name_at inner (Principal at) = principal (take at inner) (drop (at + 1) inner)
name_at inner (Qualified at) = down_level (drop (at + 1) inner) (take at inner)
name_at inner Bare = down_level inner []

-- the separator is at that place
abbrev pub IsPlaced : List ℕ → Shape → Type 0
IsPlaced inner (Principal at) = (at < length inner) × (slice_index inner at ≡ at_sign)
IsPlaced inner (Qualified at) = (0 < at) × (at < length inner) × (slice_index inner at ≡ backslash)
IsPlaced inner Bare = Unit {0}

pub record IsHeld (inner : List ℕ) (shape : Shape) : Type 0 where
  pub placed : IsPlaced inner shape
  pub name : IsName (name_at inner shape)
