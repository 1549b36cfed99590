-- How much of a stream is taken for one request: its header byte by byte, and then its content.
use Rattle.std.specs.Prelude.{◌≡◌, ◌<◌, ◌⊎◌, ℕ, List, [], ◌∷◌, ◌++◌, length, Option, None, Some}
use Rattle.std.specs.Prelude.{IfSome, Result, Ok, Err}
use Rattle.std.specs.Io.KnownBytes.{Consumes, IsAtEnd}
use Rattle.sspi_ber.specs.Pieces.{Ended, Invalid, element_at}
use Rattle.sspi_ber.specs.Forms.{IsLength}
use Rattle.sspi_ber.specs.declared.wire_kind.WireKind.{WireKind}
use Rattle.sspi_ber.specs.declared.wire_kind.WireKind.TheVariants as kinds
use Rattle.sspi_tsreq.specs.declared.request.TsRequest.{TsRequest}
use Rattle.sspi_tsreq.specs.Quiet.{HasOctets}
use Rattle.sspi_tsreq.specs.Reading.{fault}
use Rattle.sspi_framing.specs.Front.{IsText}

-- bytes are left, and they do not begin with a request
abbrev pub IsBad : Option (List ℕ) → WireKind → Type 0
IsBad left kinds.UnexpectedEof = IfSome left (λ bytes. (bytes ≡ [] → ⊥) ×
    (fault bytes ≡ Some Ended))
IsBad left kinds.InvalidData = IfSome left (λ bytes. (bytes ≡ [] → ⊥) ×
    (fault bytes ≡ Some Invalid))
IsBad left kinds.ReadFault = ⊥
IsBad left kinds.WriteFault = ⊥
IsBad left kinds.InsufficientMemory = ⊥

-- ---- how much of a stream is taken

-- the bytes are a SEQUENCE and all of its content
pub record IsWhole (bytes : List ℕ) : Type 0 where
  pub len : List ℕ
  pub body : List ℕ
  pub parts : bytes ≡ (0x30 ∷ len) ++ body
  pub measured : IsLength len (length body)

-- bytes of a header, or of the content that it announces, are missing, and so far the header is not
-- invalid
abbrev pub IsUnfinished : List ℕ → Type 0
IsUnfinished bytes = element_at 0x30 bytes ≡ Err Ended

-- the bytes before each of these bytes are unfinished: each was still missing when it was taken
abbrev pub AreWanted : List ℕ → Type 0
AreWanted bytes = (front rest : List ℕ) (byte : ℕ) → bytes ≡ front ++ byte ∷ rest →
    IsUnfinished front

-- Bytes of one request were taken: none after its content, and none after the byte that makes its
-- header invalid.
pub record TakesWanted (before after : Option (List ℕ)) : Type 0 where
  pub text : List ℕ
  pub taken : Consumes before after text
  pub wanted : AreWanted text

-- The bytes show the fault: they are unfinished only if the source is at its end, and at
-- `InvalidData` they are whole.
abbrev pub ShowsFault : List ℕ → Option (List ℕ) → WireKind → Type 0
ShowsFault text after kinds.UnexpectedEof = IsUnfinished text → IsAtEnd after
ShowsFault text after kinds.InvalidData = IsWhole text
ShowsFault text after kinds.ReadFault = ⊥
ShowsFault text after kinds.WriteFault = ⊥
ShowsFault text after kinds.InsufficientMemory = ⊥

-- The bytes that show this fault were taken, and no byte more.
pub record TakesToFault (kind : WireKind) (before after : Option (List ℕ)) : Type 0 where
  pub taken : TakesWanted before after
  pub shows : ShowsFault taken.text after kind

-- ---- what memory is needed for

-- The bytes are a valid header, and of its content nothing, or not all: there is no memory for what
-- comes next.
pub record IsBegun (bytes : List ℕ) : Type 0 where
  pub size : ℕ
  pub len : List ℕ
  pub body : List ℕ
  pub parts : bytes ≡ (0x30 ∷ len) ++ body
  pub measured : IsLength len size
  pub part : (body ≡ []) ⊎ (length body < size)

-- the bytes are a request with OCTET STRINGs, which are copied
abbrev pub HasCopies : List ℕ → Type 0
HasCopies bytes = (r : TsRequest) × IsText bytes r × HasOctets r

-- to take a request, or to read it
abbrev pub NeedsMemory : List ℕ → Type 0
NeedsMemory bytes = IsBegun bytes ⊎ HasCopies bytes

-- Bytes of one request were taken as in `TakesWanted`, and they need memory.
pub record TakesNeedy (needs : List ℕ → Type 0) (before after : Option (List ℕ)) : Type 0 where
  pub taken : TakesWanted before after
  pub needy : needs taken.text

-- ---- what is taken, by the answer

-- the bytes of one request: header and content
abbrev pub TakesRequest : {X : Type 0} → (X → List ℕ) → Option (List ℕ) → Option (List ℕ) →
    Result (Option X) WireKind → Type 0
TakesRequest view before after (Ok (Some x)) = Consumes before after (view x) × IsWhole (view x)
TakesRequest view before after (Ok None) = IsAtEnd after × Consumes before after []
TakesRequest view before after (Err kinds.UnexpectedEof) = IsBad before kinds.UnexpectedEof ×
    TakesToFault kinds.UnexpectedEof before after
TakesRequest view before after (Err kinds.InvalidData) = ⊥
TakesRequest view before after (Err kinds.ReadFault) = TakesWanted before after
TakesRequest view before after (Err kinds.WriteFault) = ⊥
TakesRequest view before after (Err kinds.InsufficientMemory) = TakesNeedy IsBegun before after

-- one request, read
abbrev pub GivesNext : Option (List ℕ) → Option (List ℕ) → Result (Option TsRequest) WireKind →
    Type 0
GivesNext before after (Ok (Some r)) = (text : List ℕ) × IsText text r × Consumes before after text
GivesNext before after (Ok None) = IsAtEnd after × Consumes before after []
GivesNext before after (Err kinds.UnexpectedEof) = IsBad before kinds.UnexpectedEof ×
    TakesToFault kinds.UnexpectedEof before after
GivesNext before after (Err kinds.InvalidData) = IsBad before kinds.InvalidData ×
    TakesToFault kinds.InvalidData before after
GivesNext before after (Err kinds.ReadFault) = TakesWanted before after
GivesNext before after (Err kinds.WriteFault) = ⊥
GivesNext before after (Err kinds.InsufficientMemory) = TakesNeedy NeedsMemory before after
