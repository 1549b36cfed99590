-- The history of a fresh end gives the chain of its turns.
use Rattle.std.proofs.Common.{◌≡◌, ℕ, sym, refl, subst, List, [], ◌∷◌, Option, None, Some, IsSome, Result, Ok, Err, Bool, true, false}
use Rattle.sspi_types.specs.declared.credential_use.CredentialUse.TheVariants.{Inbound}
use Rattle.sspi_types.specs.declared.error.Error.{Error}
use Rattle.sspi_types.specs.declared.security_status.SecurityStatus.{SecurityStatus}
use Rattle.sspi_types.specs.declared.security_status.SecurityStatus.TheVariants as statuses
use Rattle.sspi_mech.specs.Context.{IsContext}
use Rattle.sspi_mech.specs.Meaning.{Meaning}
use Rattle.sspi_mech.specs.declared.step.Answer.{Answer}
use Rattle.sspi_mech.specs.declared.step.Answer.TheVariants.{Done, Ask, Refused}
use Rattle.sspi_mech.specs.declared.step.Step.{Step}
use Rattle.sspi_names.specs.declared.credentials.CredentialsBuffers.{CredentialsBuffers}
use Rattle.sspi_tsreq.specs.declared.request.TsRequest.{TsRequest}
use Rattle.sspi_credssp.specs.declared.state.CredSspState.{CredSspState}
use Rattle.sspi_credssp.specs.declared.turn.Outcome.{Outcome}
use Rattle.sspi_credssp.specs.declared.turn.Outcome.TheVariants as outcome
use Rattle.sspi_credssp.specs.declared.turn.Turn.{Turn}
use Rattle.sspi_credssp.specs.Context.{Begun, IfContext, OnContext, ContextSetting}
use Rattle.sspi_credssp.specs.Ends.{ClientView, IsFreshClient, ServerView, IsFreshServer}
use Rattle.sspi_credssp.specs.ClientTurn.{Asked, Walked, stepped, resumed, still_asked, recounted, OnStep, StepsTo, DoneStep}
use Rattle.sspi_credssp.specs.ClientTurn.{refused_answer, ClientTurn, client_frame, client_turn}
use Rattle.sspi_credssp.specs.Proxy.{ProxyMeaning}
use Rattle.sspi_credssp.specs.ServerTurn as accept
use Rattle.sspi_credssp.specs.ServerTurn.{UnlessMade, IsNew, ServerTurn, server_frame, server_turn}
use Rattle.sspi_credssp.specs.Turn.{ShowsNego, ShowsNegoBack, ShowsStateBack, client_shown, server_shown}
use Rattle.sspi_delegate.specs.declared.answer.Delegation.{Delegation}
use Rattle.sspi_delegate.specs.declared.answer.DelegateError.{DelegateError}
use Rattle.sspi_delegate.specs.declared.answer.DelegateError.TheVariants as errors
use Rattle.sspi_delegate.specs.Chain.{KdcCalls, client_stage, client_at, ClientStepped, ClientRested, ClientMovedBy, ClientChain}
use Rattle.sspi_delegate.specs.Chain.{ClientChainLeft, at_rest, waiting, ClientChained, server_stage, server_at, ServerStepped}
use Rattle.sspi_delegate.specs.Chain.{ServerRested, ServerMovedBy, ServerChain}
use Rattle.sspi_delegate.specs.Turns.{OthersGoOn, OthersUnrefused}
use Rattle.sspi_delegate.specs.History.{ClientMakes, ClientHistory, ClientLeft, between, ClientStops, ClientPast}
use Rattle.sspi_delegate.specs.History.{ServerMakes, ServerHistory, ServerPast}
use Rattle.sspi_delegate.specs.History as history
use Rattle.sspi_delegate.proofs.Alternating.{others_go, rest_unrefused}
use Rattle.sspi_delegate.proofs.Histories.{client_stopped_history, server_makes_alone, server_past_history}
use Rattle.sspi_delegate.proofs.HistoryRuns.{history_follows, history_ran, history_proxy, server_history_follows, server_history_ran}

on_context : {C : Type 0} (context : Option C) (P Q : C → Type 0) → ((m : C) → P m → Q m) → IfContext context P → IfContext context Q
on_context None P Q step h = absurd h
on_context (Some m) P Q step h = step m h

module _ {C : Type 0} (c : Meaning ContextSetting C) where
  -- ---- the client

  -- a step depends on nothing else of the client
  walked_at : (a b : ClientView C) → b.context ≡ a.context → b.handle ≡ a.handle → b.settings ≡ a.settings →
      (handle : Option CredentialsBuffers) (token : Option (List ℕ)) (tries : ℕ) (log : List Asked) (answer : Answer) (m : C) →
      Walked c a handle token tries log answer m → Walked c b handle token tries log answer m
  walked_at a b context had same handle token tries log answer m (stepped m0 m1 x begun steps) =
      stepped m0 m answer (rw (context, had, same) begun) (rw same steps)
  walked_at a b context had same handle token tries log answer m (resumed m1 m2 tried before q reply x walked goes) =
      resumed m1 m tried before q reply answer (walked_at a b context had same handle token tried before
      (Ask q) m1 walked) goes
  walked_at a b context had same handle token tries log answer m
      (still_asked m1 m2 tried before q reply error walked goes waits) =
      still_asked m1 m tried before q reply error (walked_at a b context had same handle token tried before
      (Ask q) m1 walked) goes waits
  walked_at a b context had same handle token tries log answer m
      (recounted m1 m2 n tried before x walked counted quiet) =
      recounted m1 m n tried before answer (walked_at a b context had same handle token tried before answer m1 walked)
      counted quiet

  module _ {D : Type 0} (k : KdcCalls D) (first : ClientView C) where
    client_stepped : (old mid : ClientView C) (kdc kdc2 : D) (d : TsRequest) (asked : List Asked) (answer : Answer) →
        old.settings ≡ first.settings →
        k.replies kdc asked kdc2 → StepsTo c old d 0 asked answer mid →
        ClientStepped c k first (client_stage old kdc) d.nego_tokens answer (client_stage mid kdc2)
    client_stepped old mid kdc kdc2 d asked answer same replied step = record {
      asked = asked;
      replied = replied;
      walked = on_context mid.context (Walked c old mid.handle d.nego_tokens 0 asked answer)
          (Walked c (client_at c k first (client_stage old kdc)) mid.handle d.nego_tokens 0 asked answer)
          (walked_at old (client_at c k first (client_stage old kdc)) refl refl (sym same)
          mid.handle d.nego_tokens 0 asked answer) step;
    }

    client_rested : (old mid : ClientView C) (kdc kdc2 : D) (d : TsRequest) (came : Outcome) (asked : List Asked) →
        ClientTurn c old d came mid →
        k.replies kdc asked kdc2 → (mid.acts.negotiated ≡ false → asked ≡ []) → mid.acts.negotiated ≡ false →
        ClientRested c k first (client_stage old kdc) (client_stage mid kdc2)
    client_rested old mid kdc kdc2 d came asked turn replied unasked was = record {
      context = turn.moves.unstepped was;
      handle = λ some. (turn.moves.handle some).0;
      unasked = subst (λ (l : List Asked). k.replies kdc l kdc2) (unasked was) replied;
    }

    client_replied : (old mid : ClientView C) (kdc kdc2 : D) (d reply : TsRequest) (asked : List Asked) (negotiated : Bool)
        (status : Option SecurityStatus) →
        old.settings ≡ first.settings → k.replies kdc asked kdc2 → (IsSome status → negotiated ≡ true) →
        ShowsNego (client_shown (client_frame c old mid)) (client_turn c d (outcome.Reply reply) mid) status reply →
        DoneStep c status old d 0 asked mid →
        ClientMovedBy c k first negotiated status (outcome.Reply reply) d.nego_tokens mid.output (client_stage old kdc)
        (client_stage mid kdc2)
    client_replied old mid kdc kdc2 d reply asked negotiated None same replied answered h step = absurd h
    client_replied old mid kdc kdc2 d reply asked true (Some status) same replied answered h step =
        client_stepped old mid kdc kdc2 d asked (Done (record { status = status; output = mid.output })) same replied step
    client_replied old mid kdc kdc2 d reply asked false (Some status) same replied answered h step = let no =
        answered refl in absurd (cc (no))

    client_ended : (old mid : ClientView C) (kdc kdc2 : D) (d reply : TsRequest) (asked : List Asked) (negotiated : Bool)
        (status : Option SecurityStatus) →
        mid.acts.negotiated ≡ negotiated → ClientTurn c old d (outcome.Final reply) mid →
        k.replies kdc asked kdc2 → (mid.acts.negotiated ≡ false → asked ≡ []) →
        ClientMovedBy c k first negotiated status (outcome.Final reply) d.nego_tokens mid.output (client_stage old kdc)
        (client_stage mid kdc2)
    client_ended old mid kdc kdc2 d reply asked false status is turn replied unasked =
        client_rested old mid kdc kdc2 d (outcome.Final reply) asked turn replied unasked is
    client_ended old mid kdc kdc2 d reply asked true status is turn replied unasked =
        let nego = turn.turn.shown.acts.negotiated is in let state = turn.turn.shown.reply.state in absurd (cc (nego, state))

    client_stopped : (old mid : ClientView C) (kdc kdc2 : D) (d : TsRequest) (error : Error) (asked : List Asked) (negotiated : Bool)
        (status : Option SecurityStatus) →
        mid.acts.negotiated ≡ negotiated → old.settings ≡ first.settings → ClientTurn c old d (outcome.Refused error.error_type None) mid →
        k.replies kdc asked kdc2 → (mid.acts.negotiated ≡ false → asked ≡ []) →
        OnStep c negotiated (StepsTo c old d 0 asked (refused_answer status mid.output error) mid) →
        ClientMovedBy c k first negotiated status (outcome.Refused error.error_type None) d.nego_tokens mid.output (client_stage old kdc)
        (client_stage mid kdc2)
    client_stopped old mid kdc kdc2 d error asked false status is same turn replied unasked step =
        client_rested old mid kdc kdc2 d (outcome.Refused error.error_type None) asked turn replied unasked is
    client_stopped old mid kdc kdc2 d error asked true (Some status) is same turn replied unasked step =
        client_stepped old mid kdc kdc2 d asked (Done (record { status = status; output = mid.output })) same replied step
    client_stopped old mid kdc kdc2 d error asked true None is same turn replied unasked step =
        (error, refl, client_stepped old mid kdc kdc2 d asked (Refused error) same replied step)

    client_moved : (old mid : ClientView C) (kdc kdc2 : D) (d : TsRequest) (came : Outcome) → old.settings ≡ first.settings →
        ClientMakes c k old kdc d came mid kdc2 →
        ClientMovedBy c k first mid.acts.negotiated mid.acts.status came d.nego_tokens mid.output (client_stage old kdc)
        (client_stage mid kdc2)
    client_moved old mid kdc kdc2 d (outcome.Reply reply) same makes =
        client_replied old mid kdc kdc2 d reply makes.asked mid.acts.negotiated mid.acts.status same makes.replied
        makes.turn.turn.shown.acts.answered makes.turn.turn.shown.reply makes.step
    client_moved old mid kdc kdc2 d (outcome.Final reply) same makes =
        client_ended old mid kdc kdc2 d reply makes.asked mid.acts.negotiated mid.acts.status refl makes.turn makes.replied makes.unasked
    client_moved old mid kdc kdc2 d outcome.Finished same makes = absurd makes
    client_moved old mid kdc kdc2 d (outcome.Refused kind None) same makes =
        let takes = makes.2 in
        subst (λ (e : _). ClientMovedBy c k first mid.acts.negotiated mid.acts.status (outcome.Refused e None) d.nego_tokens mid.output
        (client_stage old kdc) (client_stage mid kdc2))
        makes.1
        (client_stopped old mid kdc kdc2 d makes.0 takes.asked mid.acts.negotiated mid.acts.status refl same takes.turn takes.replied
        takes.unasked takes.step)
    client_moved old mid kdc kdc2 d (outcome.Refused kind (Some reply)) same makes = absurd makes

    module _ (law : IsContext c) (fresh : IsFreshClient first) where
      pub client_chained : (now : ClientView C) (kdc kdc2 : D) (turns : List Turn) → OthersGoOn turns →
          ClientHistory c k first kdc turns now kdc2 →
          ClientChain c k first kdc turns (client_stage now kdc2)
      client_chained now kdc kdc2 [] others h = rw (h.0, h.1) refl
      client_chained now kdc kdc2 (t ∷ past) others h =
          let made = h.3 in
          let before = client_chained h.0 kdc h.1 past (others_go past others) h.2 in
          let same = (history_follows c law k first h.0 kdc h.1 past fresh others h.2).ran.same in
          let ran = history_ran c law k first now kdc kdc2 (t ∷ past) fresh others h in (
            client_stage h.0 h.1,
            before,
            record {
              moved = subst (λ (x : Turn). ClientMovedBy c k first x.acts.negotiated x.acts.status t.outcome t.delivered.nego_tokens
                  x.output
                  (client_stage h.0 h.1) (client_stage now kdc2)) (sym made.turn)
                  (subst (λ (v : ClientView C). ClientMovedBy c k first made.mid.acts.negotiated made.mid.acts.status t.outcome
                  t.delivered.nego_tokens made.mid.output
                  (client_stage h.0 h.1) (client_stage v kdc2)) (sym made.rest)
                  (client_moved h.0 made.mid h.1 kdc2 t.delivered t.outcome same made.makes));
              sealings = ran.made;
              unsealings = ran.opened;
            },
          )

      left_chained : (due : TsRequest → Type 0) (now : ClientView C) (kdc kdc2 : D) (turns : List Turn) → OthersGoOn turns →
          ClientLeft c k due first kdc turns now kdc2 → ClientChainLeft c k first due kdc turns (client_stage now kdc2)
      left_chained due now kdc kdc2 turns others (between h) = at_rest (client_chained now kdc kdc2 turns others h)
      left_chained due now kdc kdc2 turns others (history.waiting old kdc1 d is went h way) =
          let same = (history_follows c law k first old kdc kdc1 turns fresh went h).ran.same in
          waiting (client_stage old kdc1) d way.question way.asked_by is went
          (client_chained old kdc kdc1 turns (others_go turns went) h)
          (client_stepped old now kdc1 way.asked_by d way.takes.asked (Ask way.question) same way.takes.replied way.takes.step) way.lost

      stops_chained : (due : TsRequest → Type 0) (now : ClientView C) (kdc kdc2 : D) (turns : List Turn) (error : DelegateError) →
          OthersGoOn turns → ClientStops c k due first kdc error turns now kdc2 →
          ClientChained c k first due kdc (Err error) turns (client_stage now kdc2)
      stops_chained due now kdc kdc2 turns (errors.Client error) others s =
          client_chained now kdc kdc2 turns others (client_stopped_history c k first now kdc kdc2 error turns s)
      stops_chained due now kdc kdc2 turns (errors.Server error) others h = client_chained now kdc kdc2 turns others h
      stops_chained due now kdc kdc2 turns (errors.Read to kind) others h = client_chained now kdc kdc2 turns others h
      stops_chained due now kdc kdc2 turns (errors.Write from) others h = client_chained now kdc kdc2 turns others h
      stops_chained due now kdc kdc2 turns errors.LinkFault others h = client_chained now kdc kdc2 turns others h
      stops_chained due now kdc kdc2 turns errors.TurnsSpent others h = client_chained now kdc kdc2 turns others h
      stops_chained due now kdc kdc2 turns errors.InsufficientMemory others h = left_chained due now kdc kdc2 turns others h

      pub client_past_chained : (due : TsRequest → Type 0) (now : ClientView C) (kdc kdc2 : D) (turns : List Turn)
          (result : Result Delegation DelegateError) → OthersGoOn turns → ClientPast c k due first kdc result turns now kdc2 →
          ClientChained c k first due kdc result turns (client_stage now kdc2)
      client_past_chained due now kdc kdc2 turns (Ok delegation) others h = client_chained now kdc kdc2 turns others h
      client_past_chained due now kdc kdc2 turns (Err error) others h = stops_chained due now kdc kdc2 turns error others h

  -- ---- the server

  module _ {P : Type 0} (p : ProxyMeaning P) where
    -- a step depends on nothing else of the server
    accepted_at : (a b : ServerView C P) → b.context ≡ a.context → b.handle ≡ a.handle → b.settings ≡ a.settings →
        p.told b.proxy ≡ p.told a.proxy →
        (handle : Option CredentialsBuffers) (token : Option (List ℕ)) (known : accept.Knowing) (answer : Result Step Error) (m : C) →
        accept.Accepted c p a handle token known answer m → accept.Accepted c p b handle token known answer m
    accepted_at a b context had same entries handle token known answer m (accept.accepted m0 m1 x begun accepts) =
        accept.accepted m0 m answer (rw (context, had, same, entries) begun) accepts
    accepted_at a b context had same entries handle token known answer m (accept.identified m1 m2 x step peer) =
        accept.identified m1 m answer (accepted_at a b context had same entries handle token accept.Unknown answer m1 step)
        (rw entries peer)
    accepted_at a b context had same entries handle token known answer m (accept.completed m1 x step permits) =
        accept.completed m answer (accepted_at a b context had same entries handle token accept.Identified answer m step) permits
    accepted_at a b context had same entries handle token known answer m (accept.recounted m1 m2 n so x step counted quiet) =
        accept.recounted m1 m n known answer (accepted_at a b context had same entries handle token known answer m1 step) counted quiet

    so_far_at : (a b : ServerView C P) → b.context ≡ a.context → b.handle ≡ a.handle → b.settings ≡ a.settings →
        p.told b.proxy ≡ p.told a.proxy →
        (handle : Option CredentialsBuffers) (token : Option (List ℕ)) (answer : Result Step Error) (m : C) →
        accept.AcceptedSoFar c p a handle token answer m → accept.AcceptedSoFar c p b handle token answer m
    so_far_at a b context had same entries handle token answer m (accept.so_far known step) =
        accept.so_far known (accepted_at a b context had same entries handle token known answer m step)

    refused_at : (a b : ServerView C P) → b.context ≡ a.context → b.handle ≡ a.handle → b.settings ≡ a.settings →
        p.told b.proxy ≡ p.told a.proxy →
        (status : Option SecurityStatus) (handle : Option CredentialsBuffers) (token : Option (List ℕ)) (answer : Result Step Error)
        (m : C) →
        accept.RefusedAt c p status a handle token answer m → accept.RefusedAt c p status b handle token answer m
    refused_at a b context had same entries None handle token answer m step =
        accepted_at a b context had same entries handle token accept.Unknown answer m step
    refused_at a b context had same entries (Some statuses.Ok) handle token answer m step =
        so_far_at a b context had same entries handle token answer m step
    refused_at a b context had same entries (Some statuses.CompleteNeeded) handle token answer m step =
        so_far_at a b context had same entries handle token answer m step
    refused_at a b context had same entries (Some statuses.ContinueNeeded) handle token answer m step =
        accepted_at a b context had same entries handle token accept.Unknown answer m step
    refused_at a b context had same entries (Some statuses.CompleteAndContinue) handle token answer m step =
        accepted_at a b context had same entries handle token accept.Unknown answer m step
    refused_at a b context had same entries (Some statuses.LocalLogon) handle token answer m step =
        accepted_at a b context had same entries handle token accept.Unknown answer m step
    refused_at a b context had same entries (Some statuses.ContextExpired) handle token answer m step =
        accepted_at a b context had same entries handle token accept.Unknown answer m step
    refused_at a b context had same entries (Some statuses.IncompleteCredentials) handle token answer m step =
        accepted_at a b context had same entries handle token accept.Unknown answer m step
    refused_at a b context had same entries (Some statuses.Renegotiate) handle token answer m step =
        accepted_at a b context had same entries handle token accept.Unknown answer m step
    refused_at a b context had same entries (Some statuses.NoLsaContext) handle token answer m step =
        accepted_at a b context had same entries handle token accept.Unknown answer m step

    module _ (first : ServerView C P) where
      -- a context that was made in the turn was made with what the proxy exposes
      rested_context : (old mid : ServerView C P) (x y : Option C) → old.settings ≡ first.settings → p.told first.proxy ≡ p.told old.proxy →
          old.context ≡ x → mid.context ≡ y →
          UnlessMade c x y (IsNew c old mid) → (old.context ≡ None →
          OnContext mid.context (Begun c old.context old.handle (accept.server_setting p old) Inbound None mid.handle)) →
          UnlessMade c x y (Begun c old.context old.handle (accept.server_setting p first) Inbound None mid.handle)
      rested_context old mid None None same entries is at h alone = tt
      rested_context old mid None (Some m) same entries is at h alone =
          let begun = subst (λ (o : Option C). OnContext o (Begun c old.context old.handle
          (accept.server_setting p old) Inbound None mid.handle)) at (alone is) in
          rw (sym same, entries) begun
      rested_context old mid (Some m) None same entries is at h alone = absurd h
      rested_context old mid (Some m) (Some m2) same entries is at h alone = h

      server_rested : (old mid : ServerView C P) (d : TsRequest) (came : Outcome) → old.settings ≡ first.settings →
          p.told first.proxy ≡ p.told old.proxy →
          accept.MakesAlone c p old mid → ServerTurn c old d came mid →
          mid.acts.negotiated ≡ false → ServerRested c p first (server_stage old) (server_stage mid)
      server_rested old mid d came same entries alone turn was = record {
        context = rested_context old mid old.context mid.context same entries refl refl (turn.moves.unstepped was) (alone was);
        handle = λ some. (turn.moves.handle some).0;
      }

      server_stepped : (old mid : ServerView C P) (d : TsRequest) (known : accept.Knowing) (answer : Result Step Error) →
          old.settings ≡ first.settings →
          p.told first.proxy ≡ p.told old.proxy → IfContext mid.context (accept.Accepted c p old mid.handle d.nego_tokens known answer) →
          ServerStepped c p first known (server_stage old) d.nego_tokens answer (server_stage mid)
      server_stepped old mid d known answer same entries step =
          on_context mid.context (accept.Accepted c p old mid.handle d.nego_tokens known answer)
          (accept.Accepted c p (server_at c p first (server_stage old)) mid.handle d.nego_tokens known answer)
          (accepted_at old (server_at c p first (server_stage old)) refl refl
          (sym same) entries mid.handle d.nego_tokens known answer) step

      server_replied : (old mid : ServerView C P) (d reply : TsRequest) (negotiated : Bool) (status : Option SecurityStatus) →
          mid.acts.negotiated ≡ negotiated →
          old.settings ≡ first.settings → p.told first.proxy ≡ p.told old.proxy → accept.MakesAlone c p old mid →
          ServerTurn c old d (outcome.Reply reply) mid →
          ShowsStateBack (server_shown (server_frame c old mid)) (server_turn c d (outcome.Reply reply) mid) old.state reply →
          mid.acts.status ≡ status →
          accept.DoneStep c p status old d mid →
          ServerMovedBy c p first negotiated status (outcome.Reply reply) d.nego_tokens mid.output (server_stage old) (server_stage mid)
      server_replied old mid d reply false status is same entries alone turn h came step =
          server_rested old mid d (outcome.Reply reply) same entries alone turn is
      server_replied old mid d reply true (Some status) is same entries alone turn h came step =
          server_stepped old mid d (accept.known_at c p status) (Ok (record { status = status; output = mid.output })) same entries step
      server_replied old mid d reply true None is same entries alone turn h came step =
          absurd (subst (λ (s : Option SecurityStatus). ShowsNegoBack (server_shown (server_frame c old mid))
          (server_turn c d (outcome.Reply reply) mid) s reply) came
          (subst (λ (s : CredSspState). ShowsStateBack (server_shown (server_frame c old mid))
          (server_turn c d (outcome.Reply reply) mid) s reply) (turn.turn.shown.acts.negotiated is) h))

      server_finished : (old mid : ServerView C P) (d : TsRequest) (negotiated : Bool) (status : Option SecurityStatus) →
          mid.acts.negotiated ≡ negotiated →
          old.settings ≡ first.settings → p.told first.proxy ≡ p.told old.proxy → accept.MakesAlone c p old mid →
          ServerTurn c old d outcome.Finished mid →
          ServerMovedBy c p first negotiated status outcome.Finished d.nego_tokens mid.output (server_stage old) (server_stage mid)
      server_finished old mid d false status is same entries alone turn =
          server_rested old mid d outcome.Finished same entries alone turn is
      server_finished old mid d true status is same entries alone turn = let nego = turn.turn.shown.acts.negotiated is in let state =
          turn.turn.shown.reply.0 in absurd (cc (nego, state))

      server_stopped : (old mid : ServerView C P) (d : TsRequest) (error : Error) (reply : Option TsRequest) (negotiated : Bool)
          (status : Option SecurityStatus) →
          mid.acts.negotiated ≡ negotiated → old.settings ≡ first.settings → p.told first.proxy ≡ p.told old.proxy →
          accept.MakesAlone c p old mid → ServerTurn c old d (outcome.Refused error.error_type reply) mid →
          accept.OnStep c p negotiated (IfContext mid.context
          (accept.RefusedAt c p status old mid.handle d.nego_tokens (accept.refused_step status mid.output error))) →
          ServerMovedBy c p first negotiated status (outcome.Refused error.error_type reply) d.nego_tokens mid.output (server_stage old)
          (server_stage mid)
      server_stopped old mid d error reply false status is same entries alone turn step =
          server_rested old mid d (outcome.Refused error.error_type reply) same entries alone turn is
      server_stopped old mid d error reply true (Some status) is same entries alone turn step =
          let answer : Result Step Error = Ok (record { status = status; output = mid.output }) in
          on_context mid.context (accept.RefusedAt c p (Some status) old mid.handle d.nego_tokens answer)
          (accept.RefusedAt c p (Some status) (server_at c p first (server_stage old)) mid.handle d.nego_tokens answer)
          (refused_at old (server_at c p first (server_stage old)) refl refl (sym same) entries
          (Some status) mid.handle d.nego_tokens answer) step
      server_stopped old mid d error reply true None is same entries alone turn step =
          (error, refl, server_stepped old mid d accept.Unknown (Err error) same entries step)

      server_moved : (old mid : ServerView C P) (d : TsRequest) (came : Outcome) → old.settings ≡ first.settings →
          p.told first.proxy ≡ p.told old.proxy →
          accept.MakesAlone c p old mid → ServerMakes c p old d came mid →
          ServerMovedBy c p first mid.acts.negotiated mid.acts.status came d.nego_tokens mid.output (server_stage old) (server_stage mid)
      server_moved old mid d (outcome.Reply reply) same entries alone makes =
          server_replied old mid d reply mid.acts.negotiated mid.acts.status refl same entries alone makes.turn
          makes.turn.turn.shown.reply refl makes.step
      server_moved old mid d (outcome.Final reply) same entries alone makes = absurd makes
      server_moved old mid d outcome.Finished same entries alone makes =
          server_finished old mid d mid.acts.negotiated mid.acts.status refl same entries alone makes.1.turn.0
      server_moved old mid d (outcome.Refused kind reply) same entries alone makes =
          subst (λ (e : _). ServerMovedBy c p first mid.acts.negotiated mid.acts.status (outcome.Refused e reply) d.nego_tokens mid.output
          (server_stage old) (server_stage mid))
          makes.1
          (server_stopped old mid d makes.0 reply mid.acts.negotiated mid.acts.status refl same entries alone makes.2.turn makes.2.step)

      module _ (law : IsContext c) (fresh : IsFreshServer first) where
        pub server_chained : (now : ServerView C P) (turns : List Turn) → OthersUnrefused turns → ServerHistory c p first turns now →
            ServerChain c p first turns (server_stage now)
        server_chained now [] others h = rw h refl
        server_chained now (t ∷ past) others h =
            let made = h.2 in
            let before = server_chained h.0 past (rest_unrefused past others) h.1 in
            let same = (server_history_follows c law p first h.0 past fresh others h.1).ran.same in
            let entries = sym (history_proxy c law p first h.0 past h.1).told_same in
            let ran = server_history_ran c law p first now (t ∷ past) fresh others h in (
              server_stage h.0,
              before,
              record {
                moved = subst (λ (x : Turn). ServerMovedBy c p first x.acts.negotiated x.acts.status t.outcome t.delivered.nego_tokens
                    x.output
                    (server_stage h.0) (server_stage now)) (sym made.turn)
                    (subst (λ (v : ServerView C P). ServerMovedBy c p first made.mid.acts.negotiated made.mid.acts.status t.outcome
                    t.delivered.nego_tokens made.mid.output
                    (server_stage h.0) (server_stage v)) (sym made.rest)
                    (server_moved h.0 made.mid t.delivered t.outcome same entries
                    (server_makes_alone c p h.0 made.mid t.delivered t.outcome made.makes) made.makes));
                sealings = ran.made;
                unsealings = ran.opened;
              },
            )

        pub server_past_chained : (now : ServerView C P) (turns : List Turn) (result : Result Delegation DelegateError) →
            OthersUnrefused turns →
            ServerPast c p first result turns now → ServerChain c p first turns (server_stage now)
        server_past_chained now turns result others past =
            server_chained now turns others (server_past_history c p first now turns result past)
