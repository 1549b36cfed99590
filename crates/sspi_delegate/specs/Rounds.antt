-- What a turn, and half a round, do to an end and to its history.
use Rattle.std.specs.Prelude.{List, [], ◌∷◌, Option, None, Some}
use Rattle.sspi_mech.specs.Meaning.{Meaning}
use Rattle.sspi_names.specs.declared.identity.AuthIdentity.{AuthIdentity}
use Rattle.sspi_tsreq.specs.declared.request.TsRequest.{TsRequest}
use Rattle.sspi_credssp.specs.Ends.{ClientView, ServerView}
use Rattle.sspi_credssp.specs.Context.{ContextSetting}
use Rattle.sspi_credssp.specs.Proxy.{ProxyMeaning}
use Rattle.sspi_delegate.specs.declared.ends.Round.{Round}
use Rattle.sspi_delegate.specs.declared.ends.Round.TheVariants as round
use Rattle.sspi_credssp.specs.declared.turn.Turn.{Turn}
use Rattle.sspi_delegate.specs.Chain.{KdcCalls}
use Rattle.sspi_delegate.specs.History.{ClientHistory, ClientStopped, IsWaiting, ServerHistory}
use Rattle.sspi_delegate.specs.History.{ServerGave, ServerStopped}

abbrev pub newest_alone : List Turn → List Turn
newest_alone [] = []
newest_alone (t ∷ past) = t ∷ []

-- the turns of this transcript that a call with this answer added: one, or none if memory ran out
abbrev pub added_by_client : Round (Unit {0}) → List Turn → List Turn
added_by_client (round.Answered done) turns = newest_alone turns
added_by_client (round.Refused error) turns = newest_alone turns
added_by_client round.Lost turns = []

abbrev pub added_by_server : Round (Option AuthIdentity) → List Turn → List Turn
added_by_server (round.Answered None) turns = newest_alone turns
added_by_server (round.Answered (Some identity)) turns = newest_alone turns
added_by_server (round.Refused error) turns = newest_alone turns
added_by_server round.Lost turns = []

module _ {C D : Type 0} (c : Meaning ContextSetting C) (k : KdcCalls D) where
  -- A turn on this request for which memory ran out: nothing changed the client, or the turn waits
  -- for its KDC.
  pub data ClientLost (request : TsRequest) (first : ClientView C) (kdc : D) (turns : List Turn)
      (now : ClientView C) (kdc2 : D) :
      Type 0 where
    unmoved : ClientHistory c k first kdc turns now kdc2 →
        ClientLost request first kdc turns now kdc2
    suspended : (old : ClientView C) (kdc1 : D) → ClientHistory c k first kdc turns old kdc1 →
        IsWaiting c k old kdc1 request now kdc2 →
        ClientLost request first kdc turns now kdc2

  -- what a turn on this request does to the client's history
  abbrev pub ClientRoundPast : TsRequest → ClientView C → D → Round (Unit {0}) → List Turn →
      ClientView C → D → Type 0
  ClientRoundPast request first kdc (round.Answered done) turns now kdc2 =
      ClientHistory c k first kdc turns now kdc2
  ClientRoundPast request first kdc (round.Refused error) turns now kdc2 =
      ClientStopped c k first kdc error turns now kdc2
  ClientRoundPast request first kdc round.Lost turns now kdc2 =
      ClientLost request first kdc turns now kdc2

module _ {C P : Type 0} (c : Meaning ContextSetting C) (p : ProxyMeaning P) where
  abbrev pub ServerRoundPast : ServerView C P → Round (Option AuthIdentity) → List Turn →
      ServerView C P → Type 0
  ServerRoundPast first (round.Answered None) turns now = ServerHistory c p first turns now
  ServerRoundPast first (round.Answered (Some identity)) turns now =
      ServerGave c p first identity turns now
  ServerRoundPast first (round.Refused error) turns now = ServerStopped c p first error turns now
  ServerRoundPast first round.Lost turns now = ServerHistory c p first turns now
