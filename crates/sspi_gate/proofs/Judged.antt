-- How the bytes that a header bounds are judged.
use Rattle.std.proofs.Common.{◌≡◌, ◌≢◌, inl, inr, ℕ, List, Option, Err, refl, subst}
use Rattle.std.specs.Io.KnownBytes.{Consumes, Keeps}
use Rattle.sspi_ber.specs.Outside.{CopyCause}
use Rattle.sspi_ber.specs.declared.wire_kind.WireKind.{WireKind}
use Rattle.sspi_ber.specs.declared.wire_kind.WireKind.TheVariants as kinds
use Rattle.sspi_tsreq.specs.declared.request.TsRequest.{TsRequest}
use Rattle.sspi_tsreq.specs.Answer.{IsAnswer}
use Rattle.sspi_tsreq.specs.Quiet.{HasOctets}
use Rattle.sspi_framing.specs.Front.{IsText}
use Rattle.sspi_gate.specs.declared.answer.GateFault.{GateFault}
use Rattle.sspi_gate.specs.declared.answer.GateFault.TheVariants.{Bad, Version, ReadFault, WriteFault, TurnsSpent, InsufficientMemory}
use Rattle.sspi_credssp.specs.declared.turn.End.{End}
use Rattle.sspi_framing.specs.Taking.{IsBegun, IsWhole, TakesNeedy, TakesRequest}
use Rattle.sspi_framing.proofs.Wanted.{whole_wanted}
use Rattle.sspi_framing.proofs.Whole.{is_bad, is_text, to_fault}
use Rattle.sspi_gate.specs.Next.{Fails, TakesWell}
use Rattle.sspi_gate.specs.Step.{Judges}
use Rattle.sspi_gate.specs.Way.{Way}

-- there was no memory for a request
pub lacks_memory : (bytes : List ℕ) (kind : WireKind) → kind ≡ kinds.InsufficientMemory → IsWhole bytes → IsAnswer bytes (Err kind) →
    (r : TsRequest) × IsText bytes r × HasOctets r
lacks_memory bytes kind is w answer =
    let lacks : IsAnswer bytes (Err kinds.InsufficientMemory) = subst (λ (k : WireKind). IsAnswer bytes (Err k)) is answer in
    (lacks.0, is_text bytes lacks.0 lacks.1 w lacks.2, lacks.3)

taken_only : (before after : Way) (bytes : List ℕ) → Consumes before.left after.left bytes → IsWhole bytes →
    after.read_faults ≡ before.read_faults →
    Keeps before.written after.written → after.write_faults ≡ before.write_faults → TakesWell before after
taken_only before after bytes c w reading keeps writing = (
  record { taken = record { text = bytes; taken = c; wanted = whole_wanted bytes w }; written = keeps; writing = writing },
  reading,
)

-- a request that was taken whole and is not handed on
not_handed : (end : End) (first : Option ℕ) (before after : Way) (bytes : List ℕ) (why : GateFault) →
    Consumes before.left after.left bytes → IsWhole bytes → after.read_faults ≡ before.read_faults →
    Keeps before.written after.written → after.write_faults ≡ before.write_faults → Judges end first bytes (Err why) →
    Fails end first before after why
not_handed end first before after bytes (Bad who kind) c w reading keeps writing j = (
  j.0,
  is_bad before.left after.left bytes kind c w j.1,
  to_fault before.left after.left bytes kind c w j.1,
  taken_only before after bytes c w reading keeps writing,
)
not_handed end first before after bytes (Version who) c w reading keeps writing j = (
  j.0,
  record {
    text = bytes;
    request = j.1.0;
    is_request = j.1.1;
    taken = c;
    differs = j.1.2;
    written = keeps;
    reading = reading;
    writing = writing;
  },
)
not_handed end first before after bytes (ReadFault who) c w reading keeps writing j = absurd j
not_handed end first before after bytes (WriteFault who) c w reading keeps writing j = absurd j
not_handed end first before after bytes TurnsSpent c w reading keeps writing j = absurd j
not_handed end first before after bytes InsufficientMemory c w reading keeps writing
    j = inl (
      record { taken = record { text = bytes; taken = c; wanted = whole_wanted bytes w }; needy = inr j },
      taken_only before after bytes c w reading keeps writing,
    )

pub not_passed : (end : End) (first : Option ℕ) (before after : Way) (bytes seen : List ℕ) (why : GateFault) →
    Consumes before.left after.left bytes → IsWhole bytes → after.read_faults ≡ before.read_faults →
    Keeps before.written after.written → after.write_faults ≡ before.write_faults → seen ≡ bytes → Judges end first seen (Err why) →
    Fails end first before after why
not_passed end first before after bytes seen why c w reading keeps writing same j =
    not_handed end first before after bytes why c w reading keeps writing (subst (λ (l : List ℕ). Judges end first l (Err why)) same j)

-- there was no memory to take a request
pub not_kept : (end : End) (first : Option ℕ) (before after : Way) → TakesNeedy IsBegun before.left after.left →
    after.read_faults ≡ before.read_faults → Keeps before.written after.written → after.write_faults ≡ before.write_faults →
    Fails end first before after InsufficientMemory
not_kept end first before after t reading keeps writing = inl (
  record { taken = t.taken; needy = inl t.needy },
  (record { taken = t.taken; written = keeps; writing = writing }, reading),
)

-- what was taken is not a whole request
pub not_whole : {X : Type 0} (view : X → List ℕ) (end : End) (first : Option ℕ) (before after : Way) (kind : WireKind) →
    TakesRequest view before.left after.left (Err kind) → CopyCause {X = Option X} before.read_faults after.read_faults (Err kind) →
    Keeps before.written after.written → after.write_faults ≡ before.write_faults → kind ≢ kinds.ReadFault →
    kind ≢ kinds.InsufficientMemory → Fails end first before after (Bad end kind)
not_whole view end first before after kinds.UnexpectedEof t reading keeps writing read memory =
    (refl, t.0, t.1, (record { taken = t.1.taken; written = keeps; writing = writing }, reading))
not_whole view end first before after kinds.InvalidData t reading keeps writing read memory = absurd t
not_whole view end first before after kinds.ReadFault t reading keeps writing read memory = absurd (read refl)
not_whole view end first before after kinds.WriteFault t reading keeps writing read memory = absurd t
not_whole view end first before after kinds.InsufficientMemory t reading keeps writing read memory = absurd (memory refl)
