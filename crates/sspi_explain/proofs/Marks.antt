-- What a message says begins with the mark of its line.
use Rattle.std.proofs.Common.{◌≡◌, ℕ, Bool, true, false, cond, nat_eq, List, [], ◌∷◌, ◌++◌, length}
use Rattle.std.proofs.Common.{Option, None, Some, Ok, refl, ap, ◌∙◌}
use Rattle.std.proofs.Common.{append_assoc, codes}
use Rattle.hex.specs.Hex.{decode_of}
use Rattle.sspi_explain.specs.declared.token.Kind.{Kind}
use Rattle.sspi_explain.specs.Explained.{mark_of, digits_of, explained_by, explained_line}
use Rattle.sspi_explain.specs.Message.{first_line, lines_of, other_text, message_by, message_text}
use Rattle.sspi_explain.specs.Message.{request_page, token_page}
use Rattle.sspi_explain.specs.Request.{request_told}
use Rattle.sspi_explain.specs.Token.{kind_of, kind_name, token_told}
use Rattle.sspi_explain.specs.Texts.{count_text, content_text}
use Rattle.sspi_explain.specs.Told.{spot}

abbrev Begins : List ℕ → List ℕ → Type 0
Begins mark whole = (text : List ℕ) × (whole ≡ mark ++ text)

first_begins : (mark name message more : List ℕ) →
    Begins mark (first_line mark name message ++ more)
first_begins mark name message more = (
  name ++ (codes " " ++ (count_text (length message) ++ (codes "\n" ++ more))),
  simp append_assoc,
)

other_begins : (mark : List ℕ) (kind : Option Kind) (message : List ℕ) →
    Begins mark (other_text mark kind message)
other_begins mark None message =
    (codes "unknown " ++ (content_text message ++ codes "\n"), simp append_assoc)
other_begins mark (Some kind) message =
    first_begins mark (kind_name kind) message
    (lines_of (token_told kind token_page (spot message (length message))))

request_or : (mark message : List ℕ) (b : Bool) (kind : Option Kind) → Begins mark (cond b
    (first_line mark (codes "TSRequest") message ++
    lines_of (request_told request_page (spot message (length message))))
    (other_text mark kind message))
request_or mark message true kind =
    first_begins mark (codes "TSRequest") message
    (lines_of (request_told request_page (spot message (length message))))
request_or mark message false kind = other_begins mark kind message

text_begins : (mark : List ℕ) (byte : ℕ) (rest : List ℕ) →
    Begins mark (message_text mark (byte ∷ rest))
unfolding message_text
text_begins mark byte rest =
    request_or mark (byte ∷ rest) (nat_eq byte 0x30) (kind_of (byte ∷ rest))

pub mark_kept : (line : List ℕ) (byte : ℕ) (message : List ℕ) →
    decode_of (digits_of line) ≡ Ok (byte ∷ message)
    → Begins (mark_of line) (explained_line line)
unfolding explained_line
mark_kept line byte message e =
    let begins = text_begins (mark_of line) byte message in
    (begins.0, ap (λ r. explained_by line r) e ∙ begins.1)
