-- What happens to the request that is due from an end.
use Rattle.std.specs.Prelude.{◌≡◌, ℕ, List, [], ◌∷◌, Option, Result, Ok, Err}
use Rattle.std.specs.Io.KnownBytes.{IsAtEnd}
use Rattle.sspi_tsreq.specs.declared.request.TsRequest.{TsRequest}
use Rattle.sspi_tsreq.specs.Quiet.{HasOctets}
use Rattle.sspi_credssp.specs.declared.turn.End.{End}
use Rattle.sspi_gate.specs.declared.answer.GateFault.TheVariants.{Bad, Version, ReadFault}
use Rattle.sspi_gate.specs.declared.answer.GateFault.TheVariants.{WriteFault, TurnsSpent}
use Rattle.sspi_gate.specs.declared.answer.GateFault.TheVariants.{InsufficientMemory}
use Rattle.sspi_gate.specs.declared.answer.GateFault.{GateFault}
use Rattle.sspi_gate.specs.declared.passing.Seen.{Seen}
use Rattle.sspi_gate.specs.declared.passing.Step.{Step}
use Rattle.sspi_gate.specs.declared.passing.Step.TheVariants.{Passed, Ended, Stopped}
use Rattle.sspi_framing.specs.Front.{IsText}
use Rattle.sspi_framing.specs.Parts.{HasFault}
use Rattle.sspi_gate.specs.Front.{MaySend, refusal}
use Rattle.sspi_gate.specs.Way.{Way, HandsOn}
use Rattle.sspi_gate.specs.Next.{Fails}

-- what is seen of a request
pub record IsSeen (seen : Seen) (r : TsRequest) : Type 0 where
  pub version : seen.version ≡ r.version
  pub refusal : seen.refusal ≡ refusal r

-- A request was handed on, its stream is at its end, or there is a fault. `first` is the version of
-- the end's first request.
abbrev pub IsStep : End → Option ℕ → Way → Way → Step → Type 0
IsStep end first before after (Passed seen) = (r : TsRequest) × HandsOn before after (r ∷ []) ×
    IsSeen seen r × MaySend first r.version
IsStep end first before after Ended = IsAtEnd after.left × HandsOn before after []
IsStep end first before after (Stopped why) = Fails end first before after why

-- How the bytes of a request are judged before they are written. Memory is needed only if they are
-- a request, for its OCTET STRINGs.
abbrev pub Judges : End → Option ℕ → List ℕ → Result Seen GateFault → Type 0
Judges end first bytes (Ok seen) = (r : TsRequest) × IsText bytes r × IsSeen seen r ×
    MaySend first r.version
Judges end first bytes (Err (Bad who kind)) = (who ≡ end) × HasFault bytes kind
Judges end first bytes (Err (Version who)) = (who ≡ end) ×
    ((r : TsRequest) × IsText bytes r × (MaySend first r.version → ⊥))
Judges end first bytes (Err (ReadFault who)) = ⊥
Judges end first bytes (Err (WriteFault who)) = ⊥
Judges end first bytes (Err TurnsSpent) = ⊥
Judges end first bytes (Err InsufficientMemory) = (r : TsRequest) × IsText bytes r × HasOctets r
