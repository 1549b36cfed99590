-- What a relay did, and when each of its answers comes (MS-CSSP 3.1.5: the ends send in turn, the
-- client first).
use Rattle.std.specs.Prelude.{◌≡◌, ◌<◌, ◌≤◌, ◌+◌, ℕ, List, [], ◌∷◌, ◌++◌, length, Some, Result, Ok}
use Rattle.std.specs.Prelude.{Err}
use Rattle.std.specs.Io.KnownBytes.{IsAtEnd}
use Rattle.sspi_types.specs.declared.nstatus.NStatusCode.{NStatusCode}
use Rattle.sspi_credssp.specs.declared.turn.End.{End}
use Rattle.sspi_credssp.specs.declared.turn.End.TheVariants.{Client, Server}
use Rattle.sspi_tsreq.specs.declared.request.TsRequest.{TsRequest}
use Rattle.sspi_gate.specs.declared.answer.Close.{Close}
use Rattle.sspi_gate.specs.declared.answer.Close.TheVariants.{Ended, Refused}
use Rattle.sspi_gate.specs.declared.answer.GateError.{GateError}
use Rattle.sspi_gate.specs.declared.answer.GateFault.{GateFault}
use Rattle.sspi_gate.specs.declared.answer.GateFault.TheVariants.{Bad, Version, ReadFault}
use Rattle.sspi_gate.specs.declared.answer.GateFault.TheVariants.{WriteFault, TurnsSpent}
use Rattle.sspi_gate.specs.declared.answer.GateFault.TheVariants.{InsufficientMemory}
use Rattle.sspi_gate.specs.declared.answer.Relayed.{Relayed}
use Rattle.sspi_gate.specs.Front.{AreCalm, HaveOneVersion, first_version, refusal}
use Rattle.sspi_gate.specs.Next.{Fails}
use Rattle.sspi_gate.specs.Way.{Way, HandsOn}

-- of two, the one of this end
abbrev pub of : {A : Type 0} → End → A → A → A
of Client of_client of_server = of_client
of Server of_client of_server = of_server

-- ---- what was handed on

-- The client's requests went to the server and the server's to the client, and each end kept to its
-- first version.
pub record Passed (up down up_now down_now : Way) (sent answered : List TsRequest) : Type 0 where
  pub from_client : HandsOn up up_now sent
  pub from_server : HandsOn down down_now answered
  pub client_version : HaveOneVersion sent
  pub server_version : HaveOneVersion answered

-- ---- the state of a relay once these requests were handed on

-- Whose request comes next: the client's, if the server has answered them all, and otherwise the
-- server's.
abbrev pub IsDue : End → ℕ → ℕ → Type 0
IsDue Client sent answered = sent ≡ answered
IsDue Server sent answered = sent ≡ answered + 1

-- No answer refused, fewer than `limit` requests were answered, and the next one is due from this
-- end.
pub record GoesOn (limit : ℕ) (end : End) (sent answered : List TsRequest) : Type 0 where
  pub due : IsDue end (length sent) (length answered)
  pub within : length answered < limit
  pub calm : AreCalm answered

-- the client sent `limit` requests, each was answered, and no answer refused
pub record IsSpent (limit : ℕ) (sent answered : List TsRequest) : Type 0 where
  pub all_sent : length sent ≡ limit
  pub all_answered : length answered ≡ limit
  pub calm : AreCalm answered

-- the last request is an answer of the server, which refuses with this code as no earlier one did
pub record IsRefused (limit : ℕ) (code : NStatusCode) (sent answered : List TsRequest) : Type 0
  where
    pub earlier : List TsRequest
    pub last : TsRequest
    pub parts : answered ≡ earlier ++ last ∷ []
    pub calm : AreCalm earlier
    pub refused : refusal last ≡ Some code
    pub all_answered : length sent ≡ length answered
    pub within : length answered ≤ limit

-- The next request was due from an end and was not handed on; the other way did not change.
pub record IsBroken (limit : ℕ) (sent answered : List TsRequest) (up down up_after down_after : Way)
    (why : GateFault) : Type 0 where
  pub end : End
  pub goes_on : GoesOn limit end sent answered
  pub fails : Fails end (first_version (of end sent answered)) (of end up down)
      (of end up_after down_after) why
  pub other : of end down_after up_after ≡ of end down up

-- ---- the answers

abbrev pub Closes : ℕ → List TsRequest → List TsRequest → Way → Way → Close → Type 0
Closes limit sent answered up down (Ended end) = GoesOn limit end sent answered ×
    IsAtEnd (of end up down).left
Closes limit sent answered up down (Refused code) = IsRefused limit code sent answered

abbrev pub GivesUp : ℕ → List TsRequest → List TsRequest → Way → Way → Way → Way → GateFault →
    Type 0
GivesUp limit sent answered up down up_after down_after (Bad end kind) =
    IsBroken limit sent answered up down up_after down_after (Bad end kind)
GivesUp limit sent answered up down up_after down_after (Version end) =
    IsBroken limit sent answered up down up_after down_after (Version end)
GivesUp limit sent answered up down up_after down_after (ReadFault end) =
    IsBroken limit sent answered up down up_after down_after (ReadFault end)
GivesUp limit sent answered up down up_after down_after (WriteFault end) =
    IsBroken limit sent answered up down up_after down_after (WriteFault end)
GivesUp limit sent answered up down up_after down_after TurnsSpent =
    IsSpent limit sent answered × (up_after ≡ up) × (down_after ≡ down)
GivesUp limit sent answered up down up_after down_after InsufficientMemory =
    IsBroken limit sent answered up down up_after down_after InsufficientMemory

-- why a relay that came so far stopped, and what else it had done
abbrev pub Stops : ℕ → List TsRequest → List TsRequest → Way → Way → Way → Way →
    Result Relayed GateError → Type 0
Stops limit sent answered up down up_after down_after (Ok relayed) =
    (relayed.passed ≡ length sent + length answered) ×
    Closes limit sent answered up down relayed.how
    × (up_after ≡ up) × (down_after ≡ down)
Stops limit sent answered up down up_after down_after (Err error) =
    (error.passed ≡ length sent + length answered) ×
    GivesUp limit sent answered up down up_after down_after error.why

-- A whole relay of at most `limit` turns: `up` leads from the client to the server, `down` back.
pub record IsRelay (limit : ℕ) (up down up_after down_after : Way)
    (answer : Result Relayed GateError) : Type 0 where
  pub sent : List TsRequest
  pub answered : List TsRequest
  pub up_last : Way
  pub down_last : Way
  pub passed : Passed up down up_last down_last sent answered
  pub stops : Stops limit sent answered up_last down_last up_after down_after answer
