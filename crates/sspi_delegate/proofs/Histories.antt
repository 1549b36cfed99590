-- One more turn in the history of an end.
use Rattle.std.proofs.Common.{◌≡◌, ap, refl, List, [], ◌∷◌, None, Result, Ok, Err}
use Rattle.sspi_types.specs.declared.error.Error.{Error}
use Rattle.sspi_mech.specs.Meaning.{Meaning}
use Rattle.sspi_names.specs.declared.identity.AuthIdentity.{AuthIdentity}
use Rattle.sspi_tsreq.specs.declared.request.TsRequest.{TsRequest}
use Rattle.sspi_credssp.specs.Ends.{ClientView, ServerView}
use Rattle.sspi_credssp.specs.Context.{ContextSetting}
use Rattle.sspi_credssp.specs.Proxy.{ProxyMeaning, IsAsked, HasAsked, calls_in}
use Rattle.sspi_credssp.specs.declared.server_state.ServerError.{ServerError}
use Rattle.sspi_credssp.specs.declared.server_state.ServerState.TheVariants as ends
use Rattle.sspi_credssp.specs.ServerCall.{ServerCall}
use Rattle.sspi_credssp.specs.ServerTurn.{MakesAlone}
use Rattle.sspi_credssp.specs.Turn.{UnlessRefused}
use Rattle.sspi_delegate.specs.declared.answer.Delegation.{Delegation}
use Rattle.sspi_delegate.specs.declared.answer.DelegateError.{DelegateError}
use Rattle.sspi_delegate.specs.declared.answer.DelegateError.TheVariants as errors
use Rattle.sspi_credssp.specs.declared.turn.End.TheVariants.{Client, Server}
use Rattle.sspi_credssp.specs.declared.turn.Outcome.{Outcome}
use Rattle.sspi_credssp.specs.declared.turn.Outcome.TheVariants as outcome
use Rattle.sspi_credssp.specs.declared.turn.Turn.{Turn}
use Rattle.sspi_delegate.specs.Chain.{KdcCalls}
use Rattle.sspi_delegate.specs.Turns.{client_turns, server_turns, AllGoOn}
use Rattle.sspi_delegate.specs.History.{ClientTakes, ClientMakes, ClientHistory, ClientStopped, ClientLeft, between, waiting, ClientPast}
use Rattle.sspi_delegate.specs.History.{ServerMakes, ServerHistory, ServerGave, ServerStopped, ServerPast}
use Rattle.sspi_delegate.specs.Rounds.{newest_alone, ClientLost, unmoved, suspended}
use Rattle.sspi_delegate.specs.LogKeeping.{recorded}

module _ {C D : Type 0} (c : Meaning ContextSetting C) (k : KdcCalls D) where
  pub client_made : (first old mid new : ClientView C) (kdc_first kdc kdc2 : D) (d : TsRequest) (out : Outcome) (turns turns2 : List Turn) →
      ClientHistory c k first kdc_first (client_turns turns) old kdc → ClientMakes c k old kdc d out mid kdc2 →
      new ≡ record mid { output = [] } → turns2 ≡ recorded Client d mid.acts mid.output out ∷ turns →
      ClientHistory c k first kdc_first (client_turns turns2) new kdc2
  client_made first old mid new kdc_first kdc kdc2 d out turns turns2 history makes rest is =
      rw is (old, kdc, history, record { mid = mid; turn = refl; makes = makes; rest = rest })

  pub client_stopped : (first old mid new : ClientView C) (kdc_first kdc kdc2 : D) (d : TsRequest) (error : Error)
      (turns turns2 : List Turn) →
      ClientHistory c k first kdc_first (client_turns turns) old kdc →
      ClientTakes c k old kdc d (Err error) mid kdc2 →
      new ≡ record mid { output = [] } → turns2 ≡ recorded Client d mid.acts mid.output (outcome.Refused error.error_type None) ∷ turns →
      ClientStopped c k first kdc_first error (client_turns turns2) new kdc2
  client_stopped first old mid new kdc_first kdc kdc2 d error turns turns2 history takes rest is = record {
    old = old;
    kdc1 = kdc;
    mid = mid;
    d = d;
    past = client_turns turns;
    newest = ap client_turns is;
    before = history;
    takes = takes;
    rest = rest;
  }

  -- the same for the newest turn alone
  pub client_alone : (old mid new : ClientView C) (kdc kdc2 : D) (d : TsRequest) (out : Outcome) (turns turns2 : List Turn) →
      ClientMakes c k old kdc d out mid kdc2 → new ≡ record mid { output = [] } →
      turns2 ≡ recorded Client d mid.acts mid.output out ∷ turns →
      ClientHistory c k old kdc (client_turns (newest_alone turns2)) new kdc2
  client_alone old mid new kdc kdc2 d out turns turns2 makes rest is =
      client_made old old mid new kdc kdc kdc2 d out [] (newest_alone turns2) (refl, refl) makes rest (ap newest_alone is)

  pub client_stopped_alone : (old mid new : ClientView C) (kdc kdc2 : D) (d : TsRequest) (error : Error) (turns turns2 : List Turn) →
      ClientTakes c k old kdc d (Err error) mid kdc2 →
      new ≡ record mid { output = [] } → turns2 ≡ recorded Client d mid.acts mid.output (outcome.Refused error.error_type None) ∷ turns →
      ClientStopped c k old kdc error (client_turns (newest_alone turns2)) new kdc2
  client_stopped_alone old mid new kdc kdc2 d error turns turns2 takes rest is =
      client_stopped old old mid new kdc kdc kdc2 d error [] (newest_alone turns2) (refl, refl) takes rest (ap newest_alone is)

  -- a turn for which memory ran out, after turns that all went on
  pub left_lost : (request : TsRequest) (first now : ClientView C) (kdc kdc2 : D) (turns : List Turn) → AllGoOn turns →
      ClientLost c k request first kdc turns now kdc2 → ClientLeft c k (λ d. d ≡ request) first kdc turns now kdc2
  left_lost request first now kdc kdc2 turns going (unmoved history) = between history
  left_lost request first now kdc kdc2 turns going (suspended old kdc1 history way) = waiting old kdc1 request refl going history way

  -- a turn that was refused is one of the history
  pub client_stopped_history : (first now : ClientView C) (kdc kdc2 : D) (error : Error) (turns : List Turn) →
      ClientStopped c k first kdc error turns now kdc2 → ClientHistory c k first kdc turns now kdc2
  client_stopped_history first now kdc kdc2 error turns s = rw s.newest (
    s.old,
    s.kdc1,
    s.before,
    record { mid = s.mid; turn = refl; makes = (error, refl, s.takes); rest = s.rest },
  )

  -- the condition on what was due may be weakened
  pub left_due : (due due2 : TsRequest → Type 0) (first now : ClientView C) (kdc kdc2 : D) (turns : List Turn) →
      ((d : TsRequest) → due d → due2 d) → ClientLeft c k due first kdc turns now kdc2 → ClientLeft c k due2 first kdc turns now kdc2
  left_due due due2 first now kdc kdc2 turns weaker (between h) = between h
  left_due due due2 first now kdc kdc2 turns weaker (waiting old kdc1 d is went h way) = waiting old kdc1 d (weaker d is) went h way

  -- whatever the answer, its turns are a history, except for a turn in which it may wait
  pub client_past_left : (due : TsRequest → Type 0) (first now : ClientView C) (kdc kdc2 : D) (turns : List Turn)
      (result : Result Delegation DelegateError) → ClientPast c k due first kdc result turns now kdc2 →
      ClientLeft c k due first kdc turns now kdc2
  client_past_left due first now kdc kdc2 turns (Ok delegation) h = between h
  client_past_left due first now kdc kdc2 turns (Err (errors.Client error)) s =
      between (client_stopped_history first now kdc kdc2 error turns s)
  client_past_left due first now kdc kdc2 turns (Err (errors.Server error)) h = between h
  client_past_left due first now kdc kdc2 turns (Err (errors.Read to kind)) h = between h
  client_past_left due first now kdc kdc2 turns (Err (errors.Write from)) h = between h
  client_past_left due first now kdc kdc2 turns (Err errors.LinkFault) h = between h
  client_past_left due first now kdc kdc2 turns (Err errors.TurnsSpent) h = between h
  client_past_left due first now kdc kdc2 turns (Err errors.InsufficientMemory) h = h

module _ {C : Type 0} (c : Meaning ContextSetting C) where
  module _ {P : Type 0} (p : ProxyMeaning P) where
    -- how often the turn asked the proxy: if unrefused, just that often, in calls not said to fail
    pub server_asks : (old mid : ServerView C P) (d : TsRequest) (out : Outcome) → ServerMakes c p old d out mid →
        IsAsked p (calls_in old mid.acts.status) old.proxy mid.proxy
    server_asks old mid d (outcome.Reply reply) makes = makes.proxy.at_most
    server_asks old mid d (outcome.Final reply) makes = absurd makes
    server_asks old mid d outcome.Finished makes = makes.1.proxy.at_most
    server_asks old mid d (outcome.Refused kind reply) makes = makes.2.proxy.at_most

    pub server_asked : (old mid : ServerView C P) (d : TsRequest) (out : Outcome) → ServerMakes c p old d out mid →
        UnlessRefused out (HasAsked p (calls_in old mid.acts.status) old.proxy mid.proxy)
    server_asked old mid d (outcome.Reply reply) makes = makes.proxy.exactly
    server_asked old mid d (outcome.Final reply) makes = absurd makes
    server_asked old mid d outcome.Finished makes = makes.1.proxy.exactly
    server_asked old mid d (outcome.Refused kind reply) makes = tt

    pub server_makes_alone : (old mid : ServerView C P) (d : TsRequest) (out : Outcome) → ServerMakes c p old d out mid →
        MakesAlone c p old mid
    server_makes_alone old mid d (outcome.Reply reply) makes = makes.kept.made
    server_makes_alone old mid d (outcome.Final reply) makes = absurd makes
    server_makes_alone old mid d outcome.Finished makes = makes.1.kept.made
    server_makes_alone old mid d (outcome.Refused kind reply) makes = makes.2.kept.made

    pub server_made : (first old mid new : ServerView C P) (d : TsRequest) (out : Outcome) (turns turns2 : List Turn) →
        ServerHistory c p first (server_turns turns) old → ServerMakes c p old d out mid →
        new ≡ record mid { output = [] } → turns2 ≡ recorded Server d mid.acts mid.output out ∷ turns →
        ServerHistory c p first (server_turns turns2) new
    server_made first old mid new d out turns turns2 history makes rest is =
        rw is (old, history, record { mid = mid; turn = refl; makes = makes; rest = rest })

    pub server_gave : (first old mid new : ServerView C P) (d : TsRequest) (identity : AuthIdentity) (turns turns2 : List Turn) →
        ServerHistory c p first (server_turns turns) old → ServerCall c p old d (Ok (ends.Finished identity)) mid →
        new ≡ record mid { output = [] } → turns2 ≡ recorded Server d mid.acts mid.output outcome.Finished ∷ turns →
        ServerGave c p first identity (server_turns turns2) new
    server_gave first old mid new d identity turns turns2 history call rest is =
        (server_made first old mid new d outcome.Finished turns turns2 history (identity, call) rest is, rw (is, rest) call.turn.1)

    pub server_stopped : (first old mid new : ServerView C P) (d : TsRequest) (refusal : ServerError) (turns turns2 : List Turn) →
        ServerHistory c p first (server_turns turns) old → ServerCall c p old d (Err refusal) mid →
        new ≡ record mid { output = [] } →
        turns2 ≡ recorded Server d mid.acts mid.output (outcome.Refused refusal.error.error_type refusal.ts_request) ∷ turns →
        ServerStopped c p first refusal.error (server_turns turns2) new
    server_stopped first old mid new d refusal turns turns2 history call rest is = record {
      old = old;
      mid = mid;
      d = d;
      reply = refusal.ts_request;
      past = server_turns turns;
      newest = ap server_turns is;
      before = history;
      call = call;
      rest = rest;
    }

    -- the same for the newest turn alone
    pub server_alone : (old mid new : ServerView C P) (d : TsRequest) (out : Outcome) (turns turns2 : List Turn) →
        ServerMakes c p old d out mid →
        new ≡ record mid { output = [] } → turns2 ≡ recorded Server d mid.acts mid.output out ∷ turns →
        ServerHistory c p old (server_turns (newest_alone turns2)) new
    server_alone old mid new d out turns turns2 makes rest is =
        server_made old old mid new d out [] (newest_alone turns2) refl makes rest (ap newest_alone is)

    pub server_gave_alone : (old mid new : ServerView C P) (d : TsRequest) (identity : AuthIdentity) (turns turns2 : List Turn) →
        ServerCall c p old d (Ok (ends.Finished identity)) mid →
        new ≡ record mid { output = [] } → turns2 ≡ recorded Server d mid.acts mid.output outcome.Finished ∷ turns →
        ServerGave c p old identity (server_turns (newest_alone turns2)) new
    server_gave_alone old mid new d identity turns turns2 call rest is =
        server_gave old old mid new d identity [] (newest_alone turns2) refl call rest (ap newest_alone is)

    pub server_stopped_alone : (old mid new : ServerView C P) (d : TsRequest) (refusal : ServerError) (turns turns2 : List Turn) →
        ServerCall c p old d (Err refusal) mid →
        new ≡ record mid { output = [] } →
        turns2 ≡ recorded Server d mid.acts mid.output (outcome.Refused refusal.error.error_type refusal.ts_request) ∷ turns →
        ServerStopped c p old refusal.error (server_turns (newest_alone turns2)) new
    server_stopped_alone old mid new d refusal turns turns2 call rest is =
        server_stopped old old mid new d refusal [] (newest_alone turns2) refl call rest (ap newest_alone is)

    pub server_stopped_history : (first now : ServerView C P) (error : Error) (turns : List Turn) →
        ServerStopped c p first error turns now → ServerHistory c p first turns now
    server_stopped_history first now error turns s =
        rw s.newest (s.old, s.before, record { mid = s.mid; turn = refl; makes = (error, refl, s.call); rest = s.rest })

    pub server_past_history : (first now : ServerView C P) (turns : List Turn) (result : Result Delegation DelegateError) →
        ServerPast c p first result turns now → ServerHistory c p first turns now
    server_past_history first now turns (Ok delegation) h = h.0
    server_past_history first now turns (Err (errors.Client error)) h = h
    server_past_history first now turns (Err (errors.Server error)) h = server_stopped_history first now error turns h
    server_past_history first now turns (Err (errors.Read to kind)) h = h
    server_past_history first now turns (Err (errors.Write from)) h = h
    server_past_history first now turns (Err errors.LinkFault) h = h
    server_past_history first now turns (Err errors.TurnsSpent) h = h
    server_past_history first now turns (Err errors.InsufficientMemory) h = h
