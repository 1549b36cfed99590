-- How the header and the content of one request are taken, and how its bytes are read.
use Rattle.std.specs.Prelude.{◌≡◌, ◌<◌, ◌≤◌, ℕ, List, [], ◌∷◌, ◌++◌, length, take, Option, None}
use Rattle.std.specs.Prelude.{Some, Result, Ok, Err}
use Rattle.std.specs.Io.KnownBytes.{Consumes, IsAtEnd}
use Rattle.sspi_ber.specs.Pieces.{Ended, Invalid, header_at}
use Rattle.sspi_ber.specs.Forms.{IsLength}
use Rattle.sspi_ber.specs.declared.wire_kind.WireKind.{WireKind}
use Rattle.sspi_ber.specs.declared.wire_kind.WireKind.TheVariants.{UnexpectedEof, InvalidData}
use Rattle.sspi_ber.specs.declared.wire_kind.WireKind.TheVariants.{ReadFault, WriteFault}
use Rattle.sspi_ber.specs.declared.wire_kind.WireKind.TheVariants.{InsufficientMemory}
use Rattle.sspi_tsreq.specs.declared.request.TsRequest.{TsRequest}
use Rattle.sspi_tsreq.specs.Reading.{fault}
use Rattle.sspi_framing.specs.Front.{IsText}
use Rattle.sspi_framing.specs.Taking.{HasCopies, IsBad, TakesToFault, TakesWanted}
use Rattle.sspi_framing.specs.declared.header.Header.{Header}

-- the length that a header announces, or that bytes of it are missing
abbrev pub Announces : List ℕ → Result (Option ℕ) WireKind → Type 0
Announces bytes (Ok (Some size)) = (rest : List ℕ) × (header_at 0x30 bytes ≡ Ok (size, rest))
Announces bytes (Ok None) = header_at 0x30 bytes ≡ Err Ended
Announces bytes (Err UnexpectedEof) = header_at 0x30 bytes ≡ Err Invalid
Announces bytes (Err InvalidData) = ⊥
Announces bytes (Err ReadFault) = ⊥
Announces bytes (Err WriteFault) = ⊥
Announces bytes (Err InsufficientMemory) = ⊥

-- the bytes are the header of a SEQUENCE with a content of this size
pub record IsHeaderOf (size : ℕ) (bytes : List ℕ) : Type 0 where
  pub len : List ℕ
  pub spelled : bytes ≡ 0x30 ∷ len
  pub measured : IsLength len size

-- ---- what is taken, by the answer

abbrev pub header_bytes : Header → List ℕ
header_bytes header = take header.count header.octets

-- the header, and nothing after it
abbrev pub TakesHeader : Option (List ℕ) → Option (List ℕ) → Result (Option Header) WireKind →
    Type 0
TakesHeader before after (Ok (Some header)) = Consumes before after (header_bytes header) ×
    IsHeaderOf header.size (header_bytes header) × (header.count ≤ length header.octets)
TakesHeader before after (Ok None) = IsAtEnd after × Consumes before after []
TakesHeader before after (Err UnexpectedEof) = IsBad before UnexpectedEof ×
    TakesToFault UnexpectedEof before after
TakesHeader before after (Err InvalidData) = ⊥
TakesHeader before after (Err ReadFault) = TakesWanted before after
TakesHeader before after (Err WriteFault) = ⊥
TakesHeader before after (Err InsufficientMemory) = ⊥

-- `size` bytes were taken and appended to those that were there
pub record TakesBytes (size : ℕ) (before after : Option (List ℕ)) (old new : List ℕ) : Type 0 where
  pub body : List ℕ
  pub sized : length body ≡ size
  pub taken : Consumes before after body
  pub put : new ≡ old ++ body

-- at most `size` bytes were taken
pub record TakesPart (size : ℕ) (before after : Option (List ℕ)) : Type 0 where
  pub body : List ℕ
  pub sized : length body ≤ size
  pub taken : Consumes before after body

-- all remaining bytes were taken, and they are fewer than `size`
pub record TakesCut (size : ℕ) (before after : Option (List ℕ)) : Type 0 where
  pub body : List ℕ
  pub sized : length body < size
  pub taken : Consumes before after body
  pub at_end : IsAtEnd after

-- Fewer than `size` bytes were taken. If none was, the source is as it was, for it was not asked.
pub record TakesLess {S : Type 0} (left : S → Option (List ℕ)) (size : ℕ) (before after : S) :
    Type 0 where
  pub body : List ℕ
  pub sized : length body < size
  pub taken : Consumes (left before) (left after) body
  pub unasked : body ≡ [] → after ≡ before

-- the content, from a source with these bytes left
abbrev pub TakesBody : {S : Type 0} → (S → Option (List ℕ)) → ℕ → S → S → List ℕ → List ℕ →
    Result (Unit {0}) WireKind → Type 0
TakesBody left size before after old new (Ok done) =
    TakesBytes size (left before) (left after) old new
TakesBody left size before after old new (Err UnexpectedEof) =
    TakesCut size (left before) (left after)
TakesBody left size before after old new (Err InvalidData) = ⊥
TakesBody left size before after old new (Err ReadFault) =
    TakesPart size (left before) (left after)
TakesBody left size before after old new (Err WriteFault) = ⊥
TakesBody left size before after old new (Err InsufficientMemory) =
    TakesLess left size before after

-- ---- what the bytes of a request are read as

-- the bytes do not begin with a request, for this reason
abbrev pub HasFault : List ℕ → WireKind → Type 0
HasFault bytes UnexpectedEof = fault bytes ≡ Some Ended
HasFault bytes InvalidData = fault bytes ≡ Some Invalid
HasFault bytes ReadFault = ⊥
HasFault bytes WriteFault = ⊥
HasFault bytes InsufficientMemory = ⊥

-- bytes that a header bounds are exactly one request, or do not begin with one
abbrev pub IsReadAs : List ℕ → Result TsRequest WireKind → Type 0
IsReadAs bytes (Ok r) = IsText bytes r
IsReadAs bytes (Err UnexpectedEof) = HasFault bytes UnexpectedEof
IsReadAs bytes (Err InvalidData) = HasFault bytes InvalidData
IsReadAs bytes (Err ReadFault) = ⊥
IsReadAs bytes (Err WriteFault) = ⊥
IsReadAs bytes (Err InsufficientMemory) = HasCopies bytes
