-- How often a server has asked its proxy: for the list with its context, and for the peer at the end of the authentication.
use Rattle.std.proofs.Common.{◌≡◌, ◌∙◌, ℕ, ◌+◌, List, [], ◌∷◌, Option, None, Some, IsSome, Result, Ok, Err, OnOk, Bool}
use Rattle.std.proofs.Common.{refl, sym, ap, subst, arith}
use Rattle.sspi_types.specs.declared.security_status.SecurityStatus.{SecurityStatus}
use Rattle.sspi_types.specs.declared.security_status.SecurityStatus.TheVariants as statuses
use Rattle.sspi_mech.specs.Meaning.{Meaning}
use Rattle.sspi_tsreq.specs.declared.request.TsRequest.{TsRequest}
use Rattle.sspi_credssp.specs.declared.mode.ServerMode.{ServerMode}
use Rattle.sspi_credssp.specs.declared.state.CredSspState.{CredSspState}
use Rattle.sspi_credssp.specs.declared.state.CredSspState.TheVariants.{NegoToken, PubKeyInfo, AuthInfo, Final}
use Rattle.sspi_credssp.specs.declared.turn.End.{End}
use Rattle.sspi_credssp.specs.declared.turn.End.TheVariants.{Client, Server}
use Rattle.sspi_credssp.specs.declared.turn.Outcome.{Outcome}
use Rattle.sspi_credssp.specs.declared.turn.Outcome.TheVariants as outcome
use Rattle.sspi_credssp.specs.declared.turn.Turn.{Turn}
use Rattle.sspi_credssp.specs.Context.{ContextSetting}
use Rattle.sspi_credssp.specs.Proxy.{list_calls, lists_in, ProxyMeaning, HasAsked, look_ups_at}
use Rattle.sspi_credssp.specs.Ends.{ServerSettings, ServerView, IsFreshServer}
use Rattle.sspi_credssp.specs.ServerTurn.{ServerTurn, after_reply, after_status, server_state_after, server_frame, server_turn}
use Rattle.sspi_credssp.specs.Turn.{UnlessRefused, ServerFrame, ShowsAnswer, ShowsNegoBack, ShowsOver, ShowsStateBack, server_shown}
use Rattle.sspi_credssp.proofs.Asked.{has_not_asked, has_asked_on, has_asked_as}
use Rattle.sspi_delegate.specs.declared.answer.Delegation.{Delegation}
use Rattle.sspi_delegate.specs.declared.answer.DelegateError.{DelegateError}
use Rattle.sspi_delegate.specs.declared.carried.Carried.{Carried}
use Rattle.sspi_delegate.specs.Log.{RunEnds, IsFinished}
use Rattle.sspi_delegate.specs.Turns.{onto_server, server_turns, OthersGoOn, AllGoOn, IsUnrefused}
use Rattle.sspi_delegate.specs.History.{ServerMakes, ServerHistory, ServerMade, ServerPast}
use Rattle.sspi_delegate.proofs.Alternating.{went_unrefused}
use Rattle.sspi_delegate.proofs.Histories.{server_asks, server_asked, server_past_history}

-- by how far the server has got
abbrev calls_made : {C : Type 0} → Option C → ServerMode → CredSspState → ℕ
calls_made None mode state = 0
calls_made (Some m) mode NegoToken = list_calls mode
calls_made (Some m) mode PubKeyInfo = list_calls mode + 1
calls_made (Some m) mode AuthInfo = list_calls mode + 1
calls_made (Some m) mode Final = list_calls mode + 1

unless_refused : (out : Outcome) (Q : Type 0) → IsUnrefused out → UnlessRefused out Q → Q
unless_refused (outcome.Reply reply) Q un h = h
unless_refused (outcome.Final reply) Q un h = h
unless_refused outcome.Finished Q un h = h
unless_refused (outcome.Refused kind reply) Q un h = absurd un

in_first_part : {C : Type 0} (context : Option C) (mode : ServerMode) (n : ℕ) →
    calls_made context mode NegoToken + (lists_in context mode + n) ≡ list_calls mode + n
in_first_part None mode n = omega arith
in_first_part (Some m) mode n = omega arith

in_later_part : {C : Type 0} (context : Option C) (mode : ServerMode) (status : Option SecurityStatus) (state : CredSspState) →
    (state ≡ NegoToken → ⊥) → (context ≡ None → state ≡ NegoToken) → (IsSome status → state ≡ NegoToken) →
    calls_made context mode state + (lists_in context mode + look_ups_at status) ≡ list_calls mode + 1
in_later_part None mode status state later first stepped = absurd (later (first refl))
in_later_part (Some m) mode (Some s) state later first stepped = absurd (later (stepped refl))
in_later_part (Some m) mode None NegoToken later first stepped = absurd (later refl)
in_later_part (Some m) mode None PubKeyInfo later first stepped = omega arith
in_later_part (Some m) mode None AuthInfo later first stepped = omega arith
in_later_part (Some m) mode None Final later first stepped = omega arith

module _ {C : Type 0} (c : Meaning ContextSetting C) where
  over_calls : (f : ServerFrame C) (t : Turn) (r : TsRequest) (m : C) (mode : ServerMode) (status : Option SecurityStatus)
      (field : Option (List ℕ)) →
      after_status status ≡ PubKeyInfo → ShowsOver (server_shown f) t field r →
      list_calls mode + 1 ≡ calls_made (Some m) mode (after_reply NegoToken t.acts.proved status)
  over_calls f t r m mode status None over h = rw (h.0.unproved, over) refl
  over_calls f t r m mode status (Some blob) over h = rw h.proved refl

  nego_calls : (f : ServerFrame C) (t : Turn) (r : TsRequest) (context : Option C) (m : C) (mode : ServerMode)
      (status : Option SecurityStatus) →
      ShowsNegoBack (server_shown f) t status r →
      calls_made context mode NegoToken + (lists_in context mode + look_ups_at status) ≡ calls_made (Some m) mode
      (after_reply NegoToken t.acts.proved status)
  nego_calls f t r context m mode None h = absurd h
  nego_calls f t r context m mode (Some statuses.Ok) h = in_first_part context mode 1 ∙ over_calls f t r m mode (Some statuses.Ok) _ refl h
  nego_calls f t r context m mode (Some statuses.ContinueNeeded) h =
      in_first_part context mode 0 ∙ (rw h.unproved (let e : list_calls mode + 0 ≡ list_calls mode = omega arith in e))
  nego_calls f t r context m mode (Some statuses.CompleteNeeded) h =
      in_first_part context mode 1 ∙ over_calls f t r m mode (Some statuses.CompleteNeeded) _ refl h
  nego_calls f t r context m mode (Some statuses.CompleteAndContinue) h = absurd h
  nego_calls f t r context m mode (Some statuses.LocalLogon) h = absurd h
  nego_calls f t r context m mode (Some statuses.ContextExpired) h = absurd h
  nego_calls f t r context m mode (Some statuses.IncompleteCredentials) h = absurd h
  nego_calls f t r context m mode (Some statuses.Renegotiate) h = absurd h
  nego_calls f t r context m mode (Some statuses.NoLsaContext) h = absurd h

  state_calls : (f : ServerFrame C) (t : Turn) (r : TsRequest) (context : Option C) (m : C) (mode : ServerMode) (state : CredSspState) →
      (context ≡ None → state ≡ NegoToken) → (IsSome t.acts.status → state ≡ NegoToken) → ShowsStateBack (server_shown f) t state r →
      calls_made context mode state + (lists_in context mode + look_ups_at t.acts.status)
      ≡ calls_made (Some m) mode (after_reply state t.acts.proved t.acts.status)
  state_calls f t r context m mode NegoToken first stepped h = nego_calls f t r context m mode t.acts.status h
  state_calls f t r context m mode PubKeyInfo first stepped h =
      in_later_part context mode t.acts.status PubKeyInfo (λ e. absurd (cc e)) first stepped ∙ (rw h.proved refl)
  state_calls f t r context m mode AuthInfo first stepped h = absurd h
  state_calls f t r context m mode Final first stepped h = absurd h

  turn_calls : (f : ServerFrame C) (t : Turn) (out : Outcome) (context : Option C) (m : C) (mode : ServerMode) (state : CredSspState) →
      state ≡ f.state →
      IsUnrefused out → (context ≡ None → state ≡ NegoToken) → (IsSome t.acts.status → state ≡ NegoToken) →
      ShowsAnswer (server_shown f) t out →
      calls_made context mode state + (lists_in context mode + look_ups_at t.acts.status)
      ≡ calls_made (Some m) mode (server_state_after state out t.acts.proved t.acts.status)
  turn_calls f t (outcome.Reply r) context m mode state is un first stepped h =
      state_calls f t r context m mode state first stepped (subst (λ s. ShowsStateBack (server_shown f) t s r) (sym is) h)
  turn_calls f t (outcome.Final r) context m mode state is un first stepped h = absurd h
  turn_calls f t outcome.Finished context m mode state is un first stepped h =
      let due : state ≡ AuthInfo = is ∙ h.0 in
      in_later_part context mode t.acts.status state (λ e. absurd (cc (e, due))) first stepped
  turn_calls f t (outcome.Refused kind reply) context m mode state is un first stepped h = absurd un

  some_calls : (o : Option C) (mode : ServerMode) (state : CredSspState) (n : ℕ) → IsSome o →
      ((m : C) → n ≡ calls_made (Some m) mode state) → n ≡ calls_made o mode state
  some_calls None mode state n some h = absurd (cc some)
  some_calls (Some m) mode state n some h = h m

  module _ {P : Type 0} (p : ProxyMeaning P) where
    record SoFar (first now : ServerView C P) : Type 0 where
      pub same : now.settings ≡ first.settings
      pub told_same : p.told now.proxy ≡ p.told first.proxy
      pub begins : now.context ≡ None → now.state ≡ NegoToken
      pub asked : HasAsked p (calls_made now.context first.settings.mode now.state) first.proxy now.proxy

    fresh_so_far : (first : ServerView C P) → IsFreshServer first → SoFar first first
    fresh_so_far first fresh = record {
      same = refl;
      told_same = refl;
      begins = λ none. fresh.state;
      asked = has_not_asked p _ _ _ (ap (λ (o : Option C). calls_made o first.settings.mode first.state) fresh.context) refl;
    }

    turn_of : (old mid : ServerView C P) (d : TsRequest) (out : Outcome) → IsUnrefused out → ServerMakes c p old d out mid →
        ServerTurn c old d out mid
    turn_of old mid d (outcome.Reply reply) un makes = makes.turn
    turn_of old mid d (outcome.Final reply) un makes = absurd makes
    turn_of old mid d outcome.Finished un makes = makes.1.turn.0
    turn_of old mid d (outcome.Refused kind reply) un makes = absurd un

    next_so_far : (first old now : ServerView C P) (t : Turn) → IsUnrefused t.outcome → SoFar first old → ServerMade c p old t now →
        SoFar first now
    next_so_far first old now t un so_far made =
        let turn = turn_of old made.mid t.delivered t.outcome un made.makes in
        let begun : IsSome made.mid.context = unless_refused t.outcome _ un turn.moves.begun in
        let stepped : IsSome made.mid.acts.status → old.state ≡ NegoToken =
        λ some. turn.turn.shown.acts.negotiated (turn.turn.shown.acts.answered some) in
        let more = unless_refused t.outcome _ un (server_asked c p old made.mid t.delivered t.outcome made.makes) in
        let total = has_asked_on p _ _ _ _ _ so_far.told_same so_far.asked more in
        let count = some_calls made.mid.context first.settings.mode made.mid.state _ begun (λ m.
        ap (λ (s : ServerSettings). calls_made old.context first.settings.mode old.state
        + (lists_in old.context s.mode + look_ups_at made.mid.acts.status)) so_far.same
        ∙ turn_calls (server_frame c old made.mid) (server_turn c t.delivered t.outcome made.mid) t.outcome old.context m
        first.settings.mode old.state refl un so_far.begins stepped turn.turn.shown.reply
        ∙ ap (calls_made (Some m) first.settings.mode) (sym turn.moves.state)) in
        subst (λ v. SoFar first v) (sym made.rest) (record {
          same = turn.moves.same ∙ so_far.same;
          told_same = (server_asks c p old made.mid t.delivered t.outcome made.makes).told_same ∙ so_far.told_same;
          begins = λ none. absurd (cc (none, begun));
          asked = has_asked_as p _ _ _ _ count total;
        })

    all_so_far : (first now : ServerView C P) (turns : List Turn) → IsFreshServer first → AllGoOn turns →
        ServerHistory c p first turns now → SoFar first now
    all_so_far first now [] fresh going h = subst (λ v. SoFar first v) (sym h) (fresh_so_far first fresh)
    all_so_far first now (t ∷ past) fresh going h =
        next_so_far first h.0 now t (went_unrefused t.outcome going.0) (all_so_far first h.0 past fresh going.1 h.1) h.2

    finished_asked : (first now : ServerView C P) (t : Turn) (past : List Turn) → IsFreshServer first → IsFinished t.outcome →
        AllGoOn past →
        ServerHistory c p first (t ∷ past) now → HasAsked p (list_calls first.settings.mode + 1) first.proxy now.proxy
    finished_asked first now t past fresh finished going h =
        let made = h.2 in
        let un : IsUnrefused t.outcome = finished_unrefused t.outcome finished in
        let turn = turn_of h.0 made.mid t.delivered t.outcome un made.makes in
        let begun : IsSome made.mid.context = unless_refused t.outcome _ un turn.moves.begun in
        let so_far = next_so_far first h.0 now t un (all_so_far first h.0 past fresh going h.1) made in
        let ended : made.mid.state ≡ Final = turn.moves.state ∙ finished_state h.0.state t.outcome _ _ finished in
        let state : now.state ≡ Final = ap (λ (v : ServerView C P). v.state) made.rest ∙ ended in
        let context : now.context ≡ made.mid.context = ap (λ (v : ServerView C P). v.context) made.rest in
        has_asked_as p _ _ _ _
        (at_end now.context now.state first.settings.mode (subst (λ (o : Option C). IsSome o) (sym context) begun) state) so_far.asked
      where
        finished_unrefused : (out : Outcome) → IsFinished out → IsUnrefused out
        finished_unrefused (outcome.Reply reply) is = tt
        finished_unrefused (outcome.Final reply) is = tt
        finished_unrefused outcome.Finished is = tt
        finished_unrefused (outcome.Refused kind reply) is = absurd is

        finished_state : (old : CredSspState) (out : Outcome) (proved : Bool) (status : Option SecurityStatus) → IsFinished out →
            server_state_after old out proved status ≡ Final
        finished_state old (outcome.Reply reply) proved status is = absurd is
        finished_state old (outcome.Final reply) proved status is = absurd is
        finished_state old outcome.Finished proved status is = refl
        finished_state old (outcome.Refused kind reply) proved status is = absurd is

        at_end : (o : Option C) (state : CredSspState) (mode : ServerMode) → IsSome o → state ≡ Final →
            calls_made o mode state ≡ list_calls mode + 1
        at_end None state mode some is = absurd (cc some)
        at_end (Some m) state mode some is = rw is refl

    newest_asked : (first now : ServerView C P) (n : End) (t : Turn) (past : List Turn) → IsFreshServer first → n ≡ Server →
        IsFinished t.outcome →
        OthersGoOn (onto_server n t past) → ServerHistory c p first (onto_server n t past) now →
        HasAsked p (list_calls first.settings.mode + 1) first.proxy now.proxy
    newest_asked first now Client t past fresh is finished others h = absurd (cc is)
    newest_asked first now Server t past fresh is finished others h = finished_asked first now t past fresh finished others h

    -- an exchange that gave an identity
    pub ok_asked : (base : List Carried) (start limit : ℕ) (result : Result Delegation DelegateError) (turns : List Turn)
        (log : List Carried) (faults : ℕ)
        (first now : ServerView C P) → IsFreshServer first → RunEnds base start limit result turns log faults →
        OthersGoOn (server_turns turns) →
        ServerPast c p first result (server_turns turns) now →
        OnOk result (HasAsked p (list_calls first.settings.mode + 1) first.proxy now.proxy)
    ok_asked base start limit (Ok delegation) [] log faults first now fresh ends others past = absurd ends.0.newest
    ok_asked base start limit (Ok delegation) (t ∷ turns) log faults first now fresh ends others past =
        newest_asked first now t.end t (server_turns turns) fresh ends.0.newest.0 ends.0.newest.1 others
        (server_past_history c p first now _ (Ok delegation) past)
    ok_asked base start limit (Err error) turns log faults first now fresh ends others past = tt
