-- Messages that begin with two letters, and those that carry a name.
use Rattle.std.specs.Prelude.{ℕ, ◌+◌, ◌*◌, ◌/◌, ◌%◌, ◌==◌, List, [], ◌∷◌, ◌++◌, take, drop, length}
use Rattle.std.specs.Prelude.{Option, None, Some, if◌then◌else◌}
use Rattle.std.specs.Str.{bytes_eq}

-- what follows two letters, or none if the message begins otherwise
abbrev pub after_letters : List ℕ → List ℕ → Option (List ℕ)
after_letters letters message = if bytes_eq (take 2 message) letters then Some (drop 2 message)
    else None

-- exactly 32 bytes
abbrev pub block_in : Option (List ℕ) → Option (List ℕ)
block_in None = None
block_in (Some body) = if length body == 32 then Some body else None

-- the 32 bytes after the letters, if nothing else follows them
abbrev pub read_block : List ℕ → List ℕ → Option (List ℕ)
read_block letters message = block_in (after_letters letters message)

-- a number below 2 ^ 16 as two bytes, the low one first
abbrev pub u16_le : ℕ → List ℕ
u16_le n = (n % 256) ∷ (n / 256) ∷ []

-- two letters, the length of a name, the name, and 32 bytes
abbrev pub named_message : List ℕ → List ℕ → List ℕ → List ℕ
named_message letters name body = letters ++ u16_le (length name) ++ name ++ body

-- what such a message carries: the bytes of the name, and the 32 bytes
pub record Named : Type 0 where
  pub name : List ℕ
  pub body : List ℕ

abbrev pub named_at : ℕ → List ℕ → Option Named
named_at n rest = if length rest == n + 32
    then Some (record { name = take n rest; body = drop n rest }) else None

abbrev pub named_in : Option (List ℕ) → Option Named
named_in None = None
named_in (Some []) = None
named_in (Some (low ∷ [])) = None
named_in (Some (low ∷ high ∷ rest)) = named_at (low + 256 * high) rest

-- the whole message, with nothing after it
abbrev pub read_named : List ℕ → List ℕ → Option Named
read_named letters message = named_in (after_letters letters message)
