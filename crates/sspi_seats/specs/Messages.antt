-- How a client's turns, the calls on its session and their answers belong together; each is a list,
-- newest first.
use Rattle.std.specs.Prelude.{◌≡◌, ℕ, List, [], ◌∷◌, Result, Ok, Err}
use Rattle.sspi_tsreq.specs.declared.request.TsRequest.{TsRequest}
use Rattle.sspi_tsreq.specs.Grammar.{first_request}
use Rattle.sspi_credssp.specs.declared.turn.Turn.{Turn}
use Rattle.sspi_credssp.specs.Turn.{message_of}
use Rattle.sspi_delegate.specs.Log.{IsRead, IsSent}
use Rattle.sspi_desk.specs.declared.answer.DeskError.{DeskError}
use Rattle.sspi_desk.specs.declared.answer.Served.{Served}
use Rattle.sspi_desk.specs.declared.answer.Served.TheVariants as served

-- what the client takes after these answers: the request with which the newest one's bytes begin,
-- or its own first request if there is no answer
abbrev pub IsNext : List (Result Served DeskError) → TsRequest → Type 0
IsNext [] request = request ≡ first_request
IsNext (Ok (served.Answer text) ∷ past) request = IsRead text request
IsNext (Ok (served.Finished identity) ∷ past) request = ⊥
IsNext (Err error ∷ past) request = ⊥

-- each turn took what the answers before it gave, and its message was served and answered once
abbrev pub AreServed : List Turn → List (List ℕ) → List (Result Served DeskError) → Type 0
AreServed [] [] [] = Unit {0}
AreServed [] [] (answer ∷ answers) = ⊥
AreServed [] (bytes ∷ calls) answers = ⊥
AreServed (t ∷ turns) [] answers = ⊥
AreServed (t ∷ turns) (bytes ∷ calls) [] = ⊥
AreServed (t ∷ turns) (bytes ∷ calls) (answer ∷ answers) =
    IsNext answers t.delivered × IsSent (message_of t.outcome) bytes × AreServed turns calls answers

-- the same, except for the newest turn, which was not served
abbrev pub AreServedButLast : List Turn → List (List ℕ) → List (Result Served DeskError) → Type 0
AreServedButLast [] calls answers = ⊥
AreServedButLast (t ∷ turns) calls answers = IsNext answers t.delivered ×
    AreServed turns calls answers
