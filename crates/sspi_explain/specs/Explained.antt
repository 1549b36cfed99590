-- A text in which what each message says replaces its line. A message is a line of hex, alone or
-- after one of three marks.
use Rattle.std.specs.Prelude.{ℕ, ◌==◌, ◌&&◌, ◌||◌, Bool, List, [], ◌∷◌, ◌++◌, codes, Result, Ok}
use Rattle.std.specs.Prelude.{Err, if◌then◌else◌}
use Rattle.std.specs.List.{slice_split, flat_map}
use Rattle.hex.specs.declared.error.FromHexError.{FromHexError}
use Rattle.hex.specs.Hex.{decode_of}
use Rattle.sspi_explain.specs.Message.{message_text}

abbrev pub is_line_feed : ℕ → Bool
is_line_feed byte = byte == 10

-- what follows the last LF is a line, unless it is empty
abbrev pub last_line : List ℕ → List (List ℕ)
last_line [] = []
last_line (byte ∷ line) = (byte ∷ line) ∷ []

abbrev pub without_empty_end : List (List ℕ) → List (List ℕ)
without_empty_end [] = []
without_empty_end (line ∷ []) = last_line line
without_empty_end (line ∷ next ∷ more) = line ∷ without_empty_end (next ∷ more)

-- the lines, each ended by LF; the last one may lack its LF
unfoldable pub lines_of : List ℕ → List (List ℕ)
lines_of text = without_empty_end (slice_split is_line_feed text)

abbrev pub is_mark : ℕ → ℕ → Bool
is_mark byte space = (byte == 62 || byte == 60 || byte == 33) && space == 32

-- what precedes the hex of a message: one of the marks of a report, or nothing
unfoldable pub mark_of : List ℕ → List ℕ
mark_of [] = []
mark_of (byte ∷ []) = []
mark_of (byte ∷ space ∷ rest) = if is_mark byte space then byte ∷ space ∷ [] else []

unfoldable pub digits_of : List ℕ → List ℕ
digits_of [] = []
digits_of (byte ∷ []) = byte ∷ []
digits_of (byte ∷ space ∷ rest) = if is_mark byte space then rest else byte ∷ space ∷ rest

abbrev pub as_it_is : List ℕ → List ℕ
as_it_is line = line ++ codes "\n"

abbrev pub explained_by : List ℕ → Result (List ℕ) FromHexError → List ℕ
explained_by line (Ok []) = as_it_is line
explained_by line (Ok (byte ∷ message)) = message_text (mark_of line) (byte ∷ message)
explained_by line (Err error) = as_it_is line

-- a line: what its message says, or the line as it is
unfoldable pub explained_line : List ℕ → List ℕ
explained_line line = explained_by line (decode_of (digits_of line))

unfoldable pub explained : List ℕ → List ℕ
explained text = flat_map explained_line (lines_of text)
