-- What the word `explain` promises.
use Rattle.std.specs.Prelude.{◌≡◌, ℕ, ◌&&◌, nat_le, Bool, true, List, length, Option, IfSome}
use Rattle.std.specs.Str.{is_utf8}
use Rattle.sspi_explain.specs.Explained.{explained}
use Rattle.sspi_program.specs.Commands.{explain_limit}
use Rattle.sspi_program.specs.Status.{IsUnlessFault}

-- not longer than such a text may be, and UTF-8
abbrev pub is_explainable : List ℕ → Bool
is_explainable text = nat_le (length text) explain_limit && is_utf8 text

-- a text that can be explained, and its explanation
pub record IsExplained (source text : List ℕ) : Type 0 where
  pub explainable : is_explainable source ≡ true
  pub told : text ≡ explained source

-- the status and the text that are due, if the source exposes its text
abbrev pub ExplainDue : Option (List ℕ) → ℕ → List ℕ → Type 0
ExplainDue left status text = (status ≡ 0) × IfSome left (λ source. IsExplained source text)

-- a text that can be explained is explained
abbrev pub ExplainEnds : List ℕ → ℕ → Type 0
ExplainEnds text status = is_explainable text ≡ true → IsUnlessFault 0 status
