-- What a message says.
use Rattle.std.specs.Prelude.{ℕ, ◌==◌, List, [], ◌∷◌, ◌++◌, length, codes, Option, None, Some}
use Rattle.std.specs.Prelude.{if◌then◌else◌}
use Rattle.sspi_explain.specs.declared.depth.Depth.TheVariants.{One}
use Rattle.sspi_explain.specs.declared.field.Form.TheVariants as form
use Rattle.sspi_explain.specs.declared.token.Kind.{Kind}
use Rattle.sspi_explain.specs.Page.{Sheet}
use Rattle.sspi_explain.specs.Request.{request_told}
use Rattle.sspi_explain.specs.Texts.{count_text, content_text}
use Rattle.sspi_explain.specs.Token.{kind_of, kind_name, token_told}
use Rattle.sspi_explain.specs.Told.{Told, Goes, Ends, spot}

-- an empty page
abbrev pub request_page : Sheet
request_page = record { form = form.Request; depth = One; text = [] }

abbrev pub token_page : Sheet
token_page = record { form = form.Token; depth = One; text = [] }

-- the lines of the fields, up to the fault if there is one
abbrev pub lines_of : {A : Type 0} → Told A → List ℕ
lines_of (Goes at) = at.page.text
lines_of (Ends page fault) = page.text

-- the first line: what the message is, and its length
abbrev pub first_line : List ℕ → List ℕ → List ℕ → List ℕ
first_line mark name message = mark ++ name ++ codes " " ++ count_text (length message) ++
    codes "\n"

abbrev pub other_text : List ℕ → Option Kind → List ℕ → List ℕ
other_text mark None message = mark ++ codes "unknown " ++ content_text message ++ codes "\n"
other_text mark (Some kind) message =
    first_line mark (kind_name kind) message ++
    lines_of (token_told kind token_page (spot message (length message)))

abbrev pub message_by : List ℕ → List ℕ → List ℕ → List ℕ
message_by mark [] message = other_text mark None message
message_by mark (byte ∷ rest) message =
    if byte == 0x30
    then first_line mark (codes "TSRequest") message ++
    lines_of (request_told request_page (spot message (length message)))
    else other_text mark (kind_of (byte ∷ rest)) message

unfoldable pub message_text : List ℕ → List ℕ → List ℕ
message_text mark message = message_by mark message message
