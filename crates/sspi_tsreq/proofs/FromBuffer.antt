-- The reader returns the answer that the grammar and the first fault require.
use Rattle.std.proofs.Common.{◌≡◌, ℕ, List, Result, Ok, Err, sym, ap, ◌∙◌, drop, subst}
use Rattle.std.specs.Result.{IfErr, IfOk}
use Rattle.sspi_ber.specs.declared.wire_kind.WireKind.{WireKind}
use Rattle.sspi_ber.specs.declared.wire_kind.WireKind.TheVariants.{UnexpectedEof, InvalidData, ReadFault, WriteFault, InsufficientMemory}
use Rattle.sspi_ber.specs.Pieces.{Fault, Ended, Invalid, Read, fault_of}
use Rattle.sspi_ber.specs.Outside.{Gives, NeedsNoMemory}
use Rattle.sspi_ber.proofs.Match.{both_are}
use Rattle.sspi_tsreq.specs.declared.request.TsRequest.{TsRequest}
use Rattle.sspi_tsreq.specs.Answer.{IsAnswer, IsUnlessMemory}
use Rattle.sspi_tsreq.specs.Reading.{fault}
use Rattle.sspi_tsreq.specs.Quiet.{HasOctets}
use Rattle.sspi_tsreq.specs.Grammar.{IsRequest}
use Rattle.sspi_tsreq.specs.Reading.{request_at}
use Rattle.sspi_tsreq.proofs.RequestMatch.{request_takes, request_again}

-- nothing was read, and no memory was needed for that
pub refused_answer : {X : Type 0} (view : X → TsRequest) (bytes after : List ℕ) (kind : WireKind) →
    Gives view after (Err kind) (request_at bytes) → NeedsNoMemory {X = X} (Err kind) → IsAnswer bytes (Err kind)
refused_answer view bytes after UnexpectedEof h m = ap (λ (x : Read TsRequest). fault_of x) h
refused_answer view bytes after InvalidData h m = ap (λ (x : Read TsRequest). fault_of x) h
refused_answer view bytes after ReadFault h m = h
refused_answer view bytes after WriteFault h m = h
refused_answer view bytes after InsufficientMemory h m = absurd m

-- what was read was copied
pub kept_answer : (bytes after : List ℕ) (r s : TsRequest) → request_at bytes ≡ Ok (s, after) → r ≡ s → IsAnswer bytes (Ok r)
kept_answer bytes after r s h same =
    let e : request_at bytes ≡ Ok (r, after) = h ∙ ap (λ (x : TsRequest). Ok (x, after)) (sym same) in
    let t = request_takes bytes r after e in
    ((t.0, t.1), ap (λ (x : Read TsRequest). fault_of x) e)

-- what was read was copied, or memory ran out
pub copied_answer : (copy : Result TsRequest WireKind) (bytes after : List ℕ) (s : TsRequest) → request_at bytes ≡ Ok (s, after)
    → IfOk copy (λ r. r ≡ s) → IfErr copy (λ kind. (kind ≡ InsufficientMemory) × HasOctets s) → IsAnswer bytes copy
copied_answer (Ok r) bytes after s e same wanting = kept_answer bytes after r s e same
copied_answer (Err kind) bytes after s e same wanting =
    let t = request_takes bytes s after e in
    subst (λ (k : WireKind). IsAnswer bytes (Err k)) (sym wanting.0) (s, t.0, t.1, wanting.1)

not_fault : (bytes : List ℕ) (r : TsRequest) (rest : List ℕ) (fault : Fault) → request_at bytes ≡ Ok (r, rest) →
    request_at bytes ≡ Err fault → ⊥
not_fault bytes r rest fault e f = cc

pub refused_only : {X : Type 0} (view : X → TsRequest) (bytes after : List ℕ) (kind : WireKind) →
    Gives view after (Err kind) (request_at bytes) → NeedsNoMemory {X = X} (Err kind)
    → (r : TsRequest) (count : ℕ) → IsRequest bytes r count → IsUnlessMemory {X = TsRequest} (Err kind) r
refused_only view bytes after UnexpectedEof h m r count t = not_fault bytes r (drop count bytes) Ended (request_again bytes r count t) h
refused_only view bytes after InvalidData h m r count t = not_fault bytes r (drop count bytes) Invalid (request_again bytes r count t) h
refused_only view bytes after ReadFault h m r count t = h
refused_only view bytes after WriteFault h m r count t = h
refused_only view bytes after InsufficientMemory h m r count t = tt

pub copied_only : (copy : Result TsRequest WireKind) (bytes after : List ℕ) (s : TsRequest) → request_at bytes ≡ Ok (s, after)
    → IfOk copy (λ r. r ≡ s) → IfErr copy (λ kind. (kind ≡ InsufficientMemory) × HasOctets s)
    → (r : TsRequest) (count : ℕ) → IsRequest bytes r count → IsUnlessMemory copy r
copied_only (Ok x) bytes after s e same wanting r count t =
    same ∙ (both_are s r after (drop count bytes) (sym e ∙ request_again bytes r count t)).0
copied_only (Err kind) bytes after s e same wanting r count t =
    subst (λ (k : WireKind). IsUnlessMemory {X = TsRequest} (Err k) r) (sym wanting.0) tt
