-- A walk through a piece, over the request that the reader has from earlier pieces.
use Rattle.std.specs.Prelude.{◌≡◌, ℕ, List, Option, None, Some, Result, ◌<◌, ◌≤◌, ◌++◌, Ok, Err}
use Rattle.sspi_ber.specs.Pieces.{Fault, Read, Invalid, Ended}
use Rattle.sspi_ber.specs.Forms.{max_content}
use Rattle.sspi_ber.specs.declared.wire_kind.WireKind.{WireKind}
use Rattle.sspi_ber.specs.declared.wire_kind.WireKind.TheVariants.{UnexpectedEof, InvalidData}
use Rattle.sspi_ber.specs.declared.wire_kind.WireKind.TheVariants.{ReadFault, WriteFault}
use Rattle.sspi_ber.specs.declared.wire_kind.WireKind.TheVariants.{InsufficientMemory}
use Rattle.sspi_tsreq.specs.declared.place.Element.TheVariants.{Optional, Required}
use Rattle.sspi_tsreq.specs.declared.place.Field.{Field}
use Rattle.sspi_tsreq.specs.declared.place.Inner.{Inner}
use Rattle.sspi_tsreq.specs.declared.place.Inner.TheVariants.{Version, VersionNumber, TokenList}
use Rattle.sspi_tsreq.specs.declared.place.Inner.TheVariants.{TokenItem, Token, Octets, CodeNumber}
use Rattle.sspi_tsreq.specs.declared.place.Inner.TheVariants.{NonceOctets}
use Rattle.sspi_tsreq.specs.declared.place.Next.{Next}
use Rattle.sspi_tsreq.specs.declared.place.Next.TheVariants as next
use Rattle.sspi_tsreq.specs.declared.place.Place.{Place}
use Rattle.sspi_tsreq.specs.declared.place.Place.TheVariants.{AtTag, InLength, InVersion, InCode}
use Rattle.sspi_tsreq.specs.declared.place.Place.TheVariants.{InText, InNonce, Whole, Faulty}
use Rattle.sspi_tsreq.specs.declared.request.TsRequest.{TsRequest}
use Rattle.sspi_tsreq.specs.declared.walk.Slot.{Slot}
use Rattle.sspi_tsreq.specs.declared.walk.Slot.TheVariants.{Kept, Absent, Here}
use Rattle.sspi_tsreq.specs.declared.walk.Walk.{Walk}
use Rattle.sspi_tsreq.specs.Places.{answered, behind, code_then, from_tag, rest_at, version_then}
use Rattle.sspi_tsreq.specs.Places.{length_rest, text_of}
use Rattle.sspi_tsreq.specs.declared.place.LengthStep.{LengthStep}
use Rattle.sspi_tsreq.specs.declared.place.LengthStep.TheVariants.{Part, Known, Bad}
use Rattle.sspi_tsreq.specs.declared.place.Text.{Text}
use Rattle.sspi_tsreq.specs.declared.place.Text.TheVariants.{NegoTokens, AuthInfo, PubKeyAuth}
use Rattle.sspi_tsreq.specs.declared.place.Stage.{Stage}
use Rattle.sspi_tsreq.specs.declared.place.Stage.TheVariants.{OuterTag, OuterLength, Content}
use Rattle.sspi_tsreq.specs.declared.place.Stage.TheVariants.{Refused}
use Rattle.sspi_tsreq.specs.Quiet.{Opened, IsWithout}
use Rattle.sspi_tsreq.specs.declared.reader.TsReader.{TsReader}

abbrev pub slot : Slot → Option (List ℕ) → Option (List ℕ)
slot Kept before = before
slot Absent before = None
slot (Here octets) before = Some octets.now

-- the request after the walk
abbrev pub filled : TsRequest → Walk → TsRequest
filled base walk = record {
  version = walk.version;
  nego_tokens = slot walk.nego_tokens base.nego_tokens;
  auth_info = slot walk.auth_info base.auth_info;
  pub_key_auth = slot walk.pub_key_auth base.pub_key_auth;
  error_code = walk.error_code;
  client_nonce = walk.client_nonce;
}

-- the answer, if these bytes still come
abbrev pub goes_on : Walk → TsRequest → List ℕ → Result TsRequest Fault
goes_on walk base more = answered (rest_at walk.nonce walk.place (filled base walk) more)

abbrev pub from_field : Field → TsRequest → List ℕ → Read TsRequest
from_field field = from_tag (Optional field)

abbrev pub from_inner : Inner → TsRequest → List ℕ → Read TsRequest
from_inner inner = from_tag (Required inner)

-- the next byte is one of an OCTET STRING
abbrev pub IsInText : Place → Type 0
IsInText (AtTag element) = ⊥
IsInText (InLength element part) = ⊥
IsInText (InVersion more value) = ⊥
IsInText (InCode more value) = ⊥
IsInText (InText text more) = Unit {0}
IsInText (InNonce have) = ⊥
IsInText Whole = ⊥
IsInText Faulty = ⊥

-- ---- what allocates nothing

abbrev pub IsHere : Slot → Type 0
IsHere Kept = ⊥
IsHere Absent = ⊥
IsHere (Here octets) = Unit {0}

-- the walk met no OCTET STRING
abbrev pub IsQuiet : Walk → Type 0
IsQuiet walk = (Opened walk.place → ⊥) × ((IsHere walk.nego_tokens → ⊥) ×
    ((IsHere walk.auth_info → ⊥) × (IsHere walk.pub_key_auth → ⊥)))

-- ---- one byte

-- what is read from a byte on is what this step reads from the bytes after it
abbrev pub LeadsTo : Read TsRequest → List ℕ → TsRequest → List ℕ → Next → Type 0
LeadsTo read nonce r more (next.At place) = read ≡ rest_at nonce place r more
LeadsTo read nonce r more (next.Version low) = read ≡ version_then (low, more)
LeadsTo read nonce r more (next.Code low) = read ≡ code_then r (low, more)
LeadsTo read nonce r more (next.Begins text len) = read ≡ behind (Required (Octets text)) r len more
LeadsTo read nonce r more next.Walked = Unit {0}

abbrev pub IsOpening : Next → Type 0
IsOpening (next.At place) = Opened place
IsOpening (next.Version low) = ⊥
IsOpening (next.Code low) = ⊥
IsOpening (next.Begins text len) = Unit {0}
IsOpening next.Walked = ⊥

abbrev pub LengthSteps : Read ℕ → LengthStep → List ℕ → Type 0
LengthSteps read (Part part) more = read ≡ length_rest part more
LengthSteps read (Known n) more = read ≡ Ok (n, more)
LengthSteps read Bad more = read ≡ Err Invalid

-- the effect of the limit on a length of several octets
abbrev pub LengthLasts : LengthStep → ℕ → Type 0
LengthLasts (Part part) len = ⊥
LengthLasts (Known n) len = (n ≡ len) × (len ≤ max_content)
LengthLasts Bad len = max_content < len

-- the request with these bytes in the field
abbrev pub with_text : Text → TsRequest → List ℕ → TsRequest
with_text NegoTokens r octets = record r { nego_tokens = Some octets }
with_text AuthInfo r octets = record r { auth_info = Some octets }
with_text PubKeyAuth r octets = record r { pub_key_auth = Some octets }

-- the identifier octet of a required element
abbrev pub inner_tag : Inner → ℕ
inner_tag Version = 0xA0
inner_tag VersionNumber = 0x02
inner_tag TokenList = 0x30
inner_tag TokenItem = 0x30
inner_tag Token = 0xA0
inner_tag (Octets text) = 0x04
inner_tag CodeNumber = 0x02
inner_tag NonceOctets = 0x04

-- no byte of the content is read yet
abbrev pub IsOuter : Stage → Type 0
IsOuter OuterTag = Unit {0}
IsOuter (OuterLength part) = Unit {0}
IsOuter (Content left place) = ⊥
IsOuter Refused = Unit {0}

-- the request with these bytes appended to the reader's current field
abbrev pub lengthened : Place → TsRequest → List ℕ → TsRequest
lengthened (AtTag element) r octets = r
lengthened (InLength element part) r octets = r
lengthened (InVersion more value) r octets = r
lengthened (InCode more value) r octets = r
lengthened (InText text more) r octets = with_text text r (text_of text r ++ octets)
lengthened (InNonce have) r octets = r
lengthened Whole r octets = r
lengthened Faulty r octets = r

-- another request's texts with this one's version, code and nonce
abbrev pub numbered : TsRequest → TsRequest → TsRequest
numbered r base = record base {
  version = r.version;
  error_code = r.error_code;
  client_nonce = r.client_nonce;
}

-- the result that reports what a list reads as
abbrev pub EndsAs : Result TsRequest Fault → Result TsRequest WireKind → Type 0
EndsAs answer (Ok r) = answer ≡ Ok r
EndsAs answer (Err UnexpectedEof) = answer ≡ Err Ended
EndsAs answer (Err InvalidData) = answer ≡ Err Invalid
EndsAs answer (Err ReadFault) = ⊥
EndsAs answer (Err WriteFault) = ⊥
EndsAs answer (Err InsufficientMemory) = ⊥

-- the stage of the outer header after a step of its length
abbrev pub stage_of : LengthStep → Stage
stage_of (Part part) = OuterLength part
stage_of (Known size) = Content size (AtTag (Required Version))
stage_of Bad = Refused

abbrev pub IsPast : Stage → Type 0
IsPast OuterTag = ⊥
IsPast (OuterLength part) = ⊥
IsPast (Content left place) = left ≡ 0
IsPast Refused = Unit {0}

-- the reader went on through these bytes of the content, from a place over a request, and `left`
-- more are still to come
pub record WentOn (nonce : List ℕ) (place : Place) (r : TsRequest) (body : List ℕ) (left : ℕ)
    (reader : TsReader) : Type 0 where
  pub now : Place
  pub stage : reader.stage ≡ Content left now
  pub goes : (more : List ℕ) → answered (rest_at nonce place r (body ++ more)) ≡ answered
      (rest_at reader.nonce now reader.request more)
  pub quiet : (Opened place → ⊥) → IsWithout 0x04 body → Opened now → ⊥
