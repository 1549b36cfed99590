-- A refused turn of the server, as it is recorded.
use Rattle.std.proofs.Common.{◌≡◌, List, ◌∷◌, refl, Option, None, Some}
use Rattle.sspi_types.specs.declared.error_kind.ErrorKind.{ErrorKind}
use Rattle.sspi_mech.specs.Meaning.{Meaning}
use Rattle.sspi_tsreq.specs.declared.request.TsRequest.{TsRequest}
use Rattle.sspi_credssp.specs.Context.{ContextSetting}
use Rattle.sspi_credssp.specs.Ends.{ServerView}
use Rattle.sspi_credssp.specs.ServerTurn.{ServerTurn, server_frame, server_turn}
use Rattle.sspi_credssp.specs.Turn.{ServerFrame, ShowsAnswer, server_shown}
use Rattle.sspi_credssp.specs.declared.turn.End.TheVariants.{Server}
use Rattle.sspi_credssp.specs.declared.turn.Outcome.TheVariants as outcome
use Rattle.sspi_credssp.specs.declared.turn.Turn.{Turn}
use Rattle.sspi_delegate.specs.Log.{IsServerRefusal}
use Rattle.sspi_delegate.specs.LogKeeping.{recorded}
use Rattle.sspi_delegate.specs.Recorded.{PushedSuch}

-- a refused turn of the server is recorded with the message that informs the client
refusal_told : {C : Type 0} (c : Meaning ContextSetting C) (f : ServerFrame C) (t : Turn) (kind : ErrorKind) (reply : Option TsRequest) →
    ShowsAnswer (server_shown f) t (outcome.Refused kind reply) → IsServerRefusal kind (outcome.Refused kind reply)
refusal_told c f t kind None h = absurd h
refusal_told c f t kind (Some reply) h = refl

pub refusal_pushed : {C P : Type 0} (c : Meaning ContextSetting C) (old mid : ServerView C P) (d : TsRequest) (kind : ErrorKind)
    (reply : Option TsRequest)
    (turns turns2 : List Turn) → ServerTurn c old d (outcome.Refused kind reply) mid →
    turns2 ≡ recorded Server d mid.acts mid.output (outcome.Refused kind reply) ∷ turns →
    PushedSuch Server d (IsServerRefusal kind) turns turns2
refusal_pushed c old mid d kind reply turns turns2 turn is =
    rw is (
      refl,
      refl,
      refl,
      refusal_told c (server_frame c old mid)
          (server_turn c d (outcome.Refused kind reply) mid) kind reply turn.turn.shown.reply,
    )
