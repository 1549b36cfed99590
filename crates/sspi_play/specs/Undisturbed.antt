-- An exchange that nothing disturbs. Each turn is given the message of the turn before it, as
-- written; each end opens a message of its peer to the text that was sealed; and the server
-- finished. Lists have the newest first.
use Rattle.std.specs.Prelude.{◌≡◌, ℕ, List, [], ◌∷◌, Option, None, Some}
use Rattle.sspi_mech.specs.Meaning.{Meaning}
use Rattle.sspi_tsreq.specs.declared.request.TsRequest.{TsRequest}
use Rattle.sspi_tsreq.specs.Grammar.{first_request}
use Rattle.sspi_tsreq.specs.Spelling.{carried}
use Rattle.sspi_credssp.specs.declared.turn.End.TheVariants.{Server}
use Rattle.sspi_credssp.specs.declared.turn.Turn.{Turn}
use Rattle.sspi_credssp.specs.Acts.{SealsIn, OpensIn}
use Rattle.sspi_credssp.specs.Context.{ContextSetting}
use Rattle.sspi_credssp.specs.Turn.{message_of}
use Rattle.sspi_delegate.specs.Log.{NewestIs, IsFinished}
use Rattle.sspi_delegate.specs.Turns.{ClientEnd, ServerEnd, EachClientTurn, EachServerTurn}
use Rattle.sspi_delegate.specs.Turns.{Alternates, client_turns, server_turns}

-- this request is the message as it was written
abbrev pub IsWritten : Option TsRequest → TsRequest → Type 0
IsWritten None request = ⊥
IsWritten (Some message) request = request ≡ carried message

-- what a turn after these is given: the client's own request if it is the first turn, otherwise the
-- newest message
abbrev pub IsGivenAfter : List Turn → TsRequest → Type 0
IsGivenAfter [] request = request ≡ first_request
IsGivenAfter (t ∷ past) request = IsWritten (message_of t.outcome) request

abbrev pub AreHandedOn : List Turn → Type 0
AreHandedOn [] = Unit {0}
AreHandedOn (t ∷ past) = IsGivenAfter past t.delivered × AreHandedOn past

module _ {C : Type 0} (c : Meaning ContextSetting C) where
  -- what the context `own` opens as its n-th message is the text that `peer` sealed as its n-th.
  -- Each counts from 0: `peer` what it sealed, `own` what it opened
  abbrev pub ReadsSeals : Option C → Option C → Type 0
  ReadsSeals own peer = (n : ℕ) (text opened : List ℕ) (blob : Option (List ℕ)) →
      SealsIn c peer n text blob →
      OpensIn c own n blob opened → opened ≡ text

  pub record IsUndisturbedExchange (client : ClientEnd C) (server : ServerEnd C)
      (turns : List Turn) : Type 0 where
    pub order : Alternates turns
    pub handed_on : AreHandedOn turns
    pub finished : NewestIs Server IsFinished turns
    pub client_each : EachClientTurn c client (client_turns turns)
    pub server_each : EachServerTurn c server (server_turns turns)
    pub client_reads : ReadsSeals client.context server.context
    pub server_reads : ReadsSeals server.context client.context
