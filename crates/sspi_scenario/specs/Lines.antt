-- The lines of a text, and the parts of a line.
use Rattle.std.specs.Prelude.{ℕ, ◌==◌, Bool, true, List, [], ◌∷◌, Option, Some, None, if◌then◌else◌}
use Rattle.std.specs.List.{slice_split, list_any, before_first, after_first}

abbrev pub is_line_feed : ℕ → Bool
is_line_feed b = b == 10

abbrev pub is_space : ℕ → Bool
is_space b = b == 32

-- the parts between LFs; a text that ends with LF has an empty last line, which says nothing
abbrev pub lines_of : List ℕ → List (List ℕ)
lines_of text = slice_split is_line_feed text

-- an empty line, or a comment, which begins with `#`
abbrev pub is_skipped : List ℕ → Bool
is_skipped [] = true
is_skipped (b ∷ line) = b == 35

-- what precedes the first space, or all if there is none, and what follows it
unfoldable pub before_space : List ℕ → List ℕ
before_space text = before_first is_space text

unfoldable pub after_space : List ℕ → List ℕ
after_space text = after_first is_space text

-- both, if there is a space
unfoldable pub parted : List ℕ → Option (List ℕ × List ℕ)
parted text = if list_any is_space text then Some (before_space text, after_space text) else None
