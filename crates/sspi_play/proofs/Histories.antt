-- What one more delivery does to the history of its end.
use Rattle.std.proofs.Common.{List, [], ◌∷◌, Result, Ok, Err}
use Rattle.sspi_mech.specs.Meaning.{Meaning}
use Rattle.sspi_tsreq.specs.declared.request.TsRequest.{TsRequest}
use Rattle.sspi_types.specs.declared.error.Error.{Error}
use Rattle.sspi_credssp.specs.Ends.{ClientView}
use Rattle.sspi_credssp.specs.Context.{ContextSetting}
use Rattle.sspi_credssp.specs.declared.turn.Outcome.{Outcome}
use Rattle.sspi_credssp.specs.declared.turn.Outcome.TheVariants as outcome
use Rattle.sspi_credssp.specs.declared.turn.Turn.{Turn}
use Rattle.sspi_delegate.specs.declared.answer.DelegateError.{DelegateError}
use Rattle.sspi_delegate.specs.Chain.{KdcCalls}
use Rattle.sspi_delegate.specs.History.{ClientMakes, ClientHistory, ClientStopped, between}
use Rattle.sspi_delegate.specs.Turns.{GoesOn, AllGoOn, IsUnrefused, NoneRefused}
use Rattle.sspi_delegate.proofs.Histories.{client_stopped_history}
use Rattle.sspi_play.specs.History.{ClientPlayed}

module _ {C D : Type 0} (c : Meaning ContextSetting C) (k : KdcCalls D) where
  made_goes : (old mid : ClientView C) (kdc kdc2 : D) (d : TsRequest) (out : Outcome) → ClientMakes c k old kdc d out mid kdc2 →
      IsUnrefused out → GoesOn out
  made_goes old mid kdc kdc2 d (outcome.Reply reply) makes un = tt
  made_goes old mid kdc kdc2 d (outcome.Final reply) makes un = tt
  made_goes old mid kdc kdc2 d outcome.Finished makes un = absurd makes
  made_goes old mid kdc kdc2 d (outcome.Refused kind reply) makes un = absurd un

  -- a client never finishes: its turns that were not refused all went on
  pub history_goes : (first now : ClientView C) (kdc kdc2 : D) (turns : List Turn) → NoneRefused turns →
      ClientHistory c k first kdc turns now kdc2 → AllGoOn turns
  history_goes first now kdc kdc2 [] un h = tt
  history_goes first now kdc kdc2 (t ∷ past) un h =
      (made_goes h.0 h.3.mid h.1 kdc2 t.delivered t.outcome h.3.makes un.0, history_goes first h.0 kdc h.1 past un.1 h.2)

  pub history_played : {X : Type 0} (due : TsRequest → Type 0) (result : Result X DelegateError) (first now : ClientView C) (kdc kdc2 : D)
      (turns : List Turn) → ClientHistory c k first kdc turns now kdc2 → ClientPlayed c k due first kdc result turns now kdc2
  history_played due (Ok done) first now kdc kdc2 turns h = h
  history_played due (Err error) first now kdc kdc2 turns h = between h

  pub stopped_played : {X : Type 0} (due : TsRequest → Type 0) (result : Result X DelegateError) (first now : ClientView C) (kdc kdc2 : D)
      (error : Error) (turns : List Turn) →
      ClientStopped c k first kdc error turns now kdc2 → ClientPlayed c k due first kdc result turns now kdc2
  stopped_played due result first now kdc kdc2 error turns s =
      history_played due result first now kdc kdc2 turns (client_stopped_history c k first now kdc kdc2 error turns s)
