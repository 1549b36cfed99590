-- The page on which an explanation is written, line by line.
use Rattle.std.specs.Prelude.{ℕ, List, [], ◌∷◌, ◌++◌, codes, decimal}
use Rattle.sspi_ber.specs.Pieces.{Fault, Ended, Invalid}
use Rattle.sspi_explain.specs.declared.depth.Depth.{Depth}
use Rattle.sspi_explain.specs.declared.depth.Depth.TheVariants.{One, Two, Three}
use Rattle.sspi_explain.specs.declared.field.Field.{Field}
use Rattle.sspi_explain.specs.declared.field.Field.TheVariants as field
use Rattle.sspi_explain.specs.declared.field.Form.{Form}
use Rattle.sspi_explain.specs.declared.field.Form.TheVariants.{Request, Token}
use Rattle.sspi_explain.specs.Texts.{content_text}

-- which reader the message is for, how its fields are indented, and the text so far
pub record Sheet : Type 0 where
  pub form : Form
  pub depth : Depth
  pub text : List ℕ

-- ---- the words

abbrev pub blanks : Depth → List ℕ
blanks One = codes "  "
blanks Two = codes "    "
blanks Three = codes "      "

abbrev pub deeper : Depth → Depth
deeper One = Two
deeper Two = Three
deeper Three = Three

abbrev pub field_name : Field → List ℕ
field_name field.Header = codes "header"
field_name field.Version = codes "version"
field_name field.NegoTokens = codes "negoTokens"
field_name field.AuthInfo = codes "authInfo"
field_name field.PubKeyAuth = codes "pubKeyAuth"
field_name field.ErrorCode = codes "errorCode"
field_name field.ClientNonce = codes "clientNonce"
field_name field.MechTypes = codes "mechTypes"
field_name field.ReqFlags = codes "reqFlags"
field_name field.MechToken = codes "mechToken"
field_name field.MechListMic = codes "mechListMIC"
field_name field.NegState = codes "negState"
field_name field.SupportedMech = codes "supportedMech"
field_name field.ResponseToken = codes "responseToken"

abbrev pub fault_name : Fault → List ℕ
fault_name Ended = codes "UnexpectedEof"
fault_name Invalid = codes "InvalidData"

-- the error kind with which a reader of requests refuses: any fault of the header counts as an
-- early end
abbrev pub request_kind : Field → Fault → List ℕ
request_kind field.Header fault = codes "UnexpectedEof"
request_kind other fault = fault_name fault

abbrev pub kind_name : Form → Field → Fault → List ℕ
kind_name Request field fault = request_kind field fault
kind_name Token field fault = codes "InvalidToken"

-- ---- the lines

-- an indentation, an offset, and what is there
abbrev pub line_text : Depth → ℕ → List ℕ → List ℕ
line_text depth at said = blanks depth ++ decimal at ++ codes " " ++ said ++ codes "\n"

abbrev pub with_line : Depth → ℕ → List ℕ → Sheet → Sheet
with_line depth at said page = record page { text = page.text ++ line_text depth at said }

abbrev pub with_field : ℕ → Field → List ℕ → Sheet → Sheet
with_field at field value page = with_line page.depth
    at (field_name field ++ codes " " ++ value) page

abbrev pub with_content : ℕ → Field → List ℕ → Sheet → Sheet
with_content at field content page = with_field at field (content_text content) page

-- what a reader ignores, if anything
abbrev pub with_ignored : Depth → ℕ → List ℕ → Sheet → Sheet
with_ignored depth at [] page = page
with_ignored depth at (byte ∷ bytes) page = with_line depth
    at (codes "ignored " ++ content_text (byte ∷ bytes)) page

-- lines that were composed elsewhere
abbrev pub with_text : List ℕ → Sheet → Sheet
with_text text page = record page { text = page.text ++ text }

-- where a reader refuses the message, with which kind, in which field, and why
abbrev pub refused : ℕ → Field → Fault → List ℕ → Sheet → Sheet
refused at field fault why page =
    with_line page.depth
    at (codes "refused " ++ kind_name page.form field fault ++ codes " " ++ field_name field ++
    codes ": " ++ why) page
