-- A client's turn as one call and its resumes; and what calls leave of a proxy.
use Rattle.std.proofs.Common.{◌≡◌, ℕ, Bool, true, false, not, List, [], ◌∷◌, Option, None, Some, Result, Ok, Err, sym, ◌∙◌, ap, subst}
use Rattle.std.proofs.Common.{refl, arith}
use Rattle.std.proofs.lemmas.Bool.{true≢false}
use Rattle.sspi_types.specs.declared.error.Error.{Error}
use Rattle.sspi_types.specs.declared.error_kind.ErrorKind.{ErrorKind}
use Rattle.sspi_types.specs.declared.error_kind.ErrorKind.TheVariants.{OutOfSequence, InvalidToken, MessageAltered, DowngradeDetected}
use Rattle.sspi_mech.specs.Meaning.{Meaning}
use Rattle.sspi_mech.specs.declared.step.Reply.{Reply}
use Rattle.sspi_names.specs.declared.network.NetworkRequest.{NetworkRequest}
use Rattle.sspi_tsreq.specs.declared.request.TsRequest.{TsRequest}
use Rattle.sspi_credssp.specs.declared.state.CredSspState.{CredSspState}
use Rattle.sspi_credssp.specs.declared.state.CredSspState.TheVariants.{NegoToken}
use Rattle.sspi_credssp.specs.declared.client_state.ClientState.TheVariants.{ReplyNeeded, FinalMessage}
use Rattle.sspi_credssp.specs.declared.client_state.Progress.{Progress}
use Rattle.sspi_credssp.specs.declared.client_state.Progress.TheVariants.{Suspended, Completed}
use Rattle.sspi_credssp.specs.ClientCall.{ClientCall, ClientIsRefused, ClientKeeps, ResumeCall, ResumeIsRefused}
use Rattle.sspi_credssp.specs.Context.{IfContext, MadeOr, ContextSetting}
use Rattle.sspi_credssp.specs.Ends.{ClientView}
use Rattle.sspi_credssp.specs.ClientCause.{ClientCause, ClientExact, ResumeCause, KeptCause, NegoCause, StateCause, StateExact}
use Rattle.sspi_credssp.specs.ClientTurn.{Asked, HasStepped, OnStep, ClientGoes, IsUnderway}
use Rattle.sspi_credssp.specs.Acts.{is_waiting_in}
use Rattle.sspi_credssp.specs.Noted.{is_altered_in, is_old_in, StopsIf, OrMemory}
use Rattle.sspi_credssp.specs.Proxy.{ProxyMeaning, ProxyTells, IsAsked}
use Rattle.sspi_credssp.proofs.Asked.{calm_by}
use Rattle.sspi_delegate.specs.Chain.{KdcCalls}
use Rattle.sspi_delegate.specs.History.{ClientTakes, ProxyStays}

stops_past : (test : Bool) (here kind : ErrorKind) (Later : Type 0) → test ≡ false → Later → StopsIf test here kind Later
stops_past test here kind Later unmet h = rw unmet h

stops_later : (test : Bool) (here kind : ErrorKind) (Later : Type 0) → test ≡ false → StopsIf test here kind Later → Later
stops_later test here kind Later unmet h = subst (λ (b : Bool). StopsIf b here kind Later) unmet h

made_past : {C : Type 0} (old new : Option C) (Q : C → Type 0) (Cause Later : Type 0) → IfContext new Q → Later → MadeOr old new Cause Later
made_past old None Q Cause Later there h = absurd there
made_past (Some m) (Some m2) Q Cause Later there h = h
made_past None (Some m2) Q Cause Later there h = h

module _ {C : Type 0} (c : Meaning ContextSetting C) where
  on_step : (negotiated : Bool) (Q : Type 0) → negotiated ≡ true → OnStep c negotiated Q → Q
  on_step true Q was h = h
  on_step false Q was h = absurd (cc (was))

  kept_cause : (kept : Option TsRequest) (request : TsRequest) (new : ClientView C) (kind : ErrorKind) → kept ≡ Some request →
      KeptCause c kept new kind →
      NegoCause c new.acts.status new kind
  kept_cause None request new kind is h = absurd (cc (is))
  kept_cause (Some held) request new kind is h = h

  resumed_nego : (start : ClientView C) (d : TsRequest) (mid new : ClientView C) (kind : ErrorKind) → IsUnderway c start d mid →
      ResumeCause c mid new kind →
      OrMemory kind (NegoCause c new.acts.status new kind)
  resumed_nego start d mid new kind way cause = λ memory.
      kept_cause mid.kept _ new kind way.kept
      (stops_later (not (is_waiting_in c mid.context)) OutOfSequence kind _ (rw way.waiting refl) cause memory)

  state_cause : (state : CredSspState) (d : TsRequest) (new : ClientView C) (kind : ErrorKind) → state ≡ NegoToken →
      NegoCause c new.acts.status new kind →
      StateCause c state d new kind
  state_cause state d new kind is h = rw is h

  resumed_cause : (start : ClientView C) (d : TsRequest) (mid new : ClientView C) (log : List Asked) (error : Error) →
      IsUnderway c start d mid → ResumeCause c mid new error.error_type → HasStepped c start d 0 log (Err error) new →
      new.acts.negotiated ≡ true →
      ClientCause c start d new error.error_type
  resumed_cause start d mid new log error way cause step negotiated =
      stops_past (is_waiting_in c start.context) OutOfSequence error.error_type _ way.ready.idle
      (stops_past _ InvalidToken error.error_type _ way.ready.code
      (stops_past (is_old_in start.context start.settings.least start.noted d.version) DowngradeDetected error.error_type _ way.ready.young
      (stops_past (is_altered_in start.context start.noted d.version) MessageAltered error.error_type _ way.ready.passed
      (λ memory. made_past start.context new.context _ _ _ (on_step new.acts.negotiated _ negotiated step)
      (state_cause start.state d new error.error_type (sym way.ready.state ∙ way.state)
      (resumed_nego start d mid new error.error_type way cause memory))))))

  state_exact : (state : CredSspState) (d : TsRequest) (new : ClientView C) (kind : ErrorKind) → state ≡ NegoToken →
      StateExact c state d new kind
  state_exact state d new kind is = rw is tt

  resumed_exact : (start : ClientView C) (d : TsRequest) (mid new : ClientView C) (log : List Asked) (error : Error) →
      IsUnderway c start d mid → HasStepped c start d 0 log (Err error) new → new.acts.negotiated ≡ true →
      ClientExact c start d new error.error_type
  resumed_exact start d mid new log error way step negotiated =
      stops_past (is_waiting_in c start.context) OutOfSequence error.error_type _ way.ready.idle
      (stops_past _ InvalidToken error.error_type _ way.ready.code
      (stops_past (is_old_in start.context start.settings.least start.noted d.version) DowngradeDetected error.error_type _ way.ready.young
      (stops_past (is_altered_in start.context start.noted d.version) MessageAltered error.error_type _ way.ready.passed
      (made_past start.context new.context _ _ _ (on_step new.acts.negotiated _ negotiated step)
      (state_exact start.state d new error.error_type (sym way.ready.state ∙ way.state))))))

  module _ {D : Type 0} (k : KdcCalls D) where
    -- a call that its context did not suspend, or suspended at its first question
    pub called_takes : (old new : ClientView C) (kdc : D) (d : TsRequest) (result : Result Progress Error) → k.replies kdc [] kdc →
        ClientCall c old d result new → ClientTakes c k old kdc d result new kdc
    called_takes old new kdc d result none call = record {
      turn = call.turn;
      asked = [];
      replied = none;
      step = call.steps.step;
      unasked = λ unstepped. refl;
      heeded = call.steps.heeded;
      cause = call.cause;
      kept = call.kept;
    }

    resumed_why : (start : ClientView C) (d : TsRequest) (mid new : ClientView C) (log : List Asked) (result : Result Progress Error) →
        IsUnderway c start d mid → ResumeIsRefused c mid result new → HasStepped c start d 0 log result new →
        new.acts.negotiated ≡ true → ClientIsRefused c start d result new
    resumed_why start d mid new log (Ok progress) way why step negotiated = record { kind = tt; exact = tt; status = tt }
    resumed_why start d mid new log (Err error) way why step negotiated = record {
      kind = resumed_cause start d mid new log error way why.kind step negotiated;
      exact = resumed_exact start d mid new log error way step negotiated;
      status = rw (way.ready.idle, way.ready.code) why.codeless;
    }

    some_context : (context : Option C) (Q : C → Type 0) → IfContext context Q → context ≡ None → ⊥
    some_context None Q h none = absurd h
    some_context (Some m) Q h none = absurd (cc (none))

    resumed_begun : (start : ClientView C) (d : TsRequest) (new : ClientView C) (log : List Asked) (result : Result Progress Error) →
        ClientGoes c start d result new → HasStepped c start d 0 log result new → new.acts.negotiated ≡ true → new.context ≡ None → ⊥
    resumed_begun start d new log (Ok (Completed (ReplyNeeded reply))) goes step negotiated none =
        let some = goes.moves.begun in absurd (cc (some, none))
    resumed_begun start d new log (Ok (Completed (FinalMessage reply))) goes step negotiated none =
        let some = goes.moves.begun in absurd (cc (some, none))
    resumed_begun start d new log (Ok (Suspended question)) goes step negotiated none = some_context new.context _ step none
    resumed_begun start d new log (Err error) goes step negotiated none =
        some_context new.context _ (on_step new.acts.negotiated _ negotiated step) none

    -- what a turn that went on past its first question keeps: it began idle, and read its request
    resumed_kept : (start : ClientView C) (d : TsRequest) (mid new : ClientView C) (log : List Asked) (result : Result Progress Error) →
        IsUnderway c start d mid → ClientGoes c start d result new → HasStepped c start d 0 log result new →
        new.acts.negotiated ≡ true → ClientKeeps c start d result new
    resumed_kept start d mid new log result way goes step negotiated = record {
      waited = λ waits. absurd (true≢false (sym waits ∙ way.ready.idle));
      intruded = λ begun d2 tries log2 q awaits. absurd (true≢false (sym awaits.underway.waiting ∙ way.ready.idle));
      code = λ idle told. absurd (true≢false (sym told ∙ way.ready.code));
      altered = λ idle untold differs. absurd (true≢false (sym differs ∙ way.ready.passed));
      unmade = λ none. absurd (resumed_begun start d new log result goes step negotiated none);
    }

    -- a turn that was suspended goes on with a reply
    pub resumed_takes : (start mid new : ClientView C) (kdc kdc1 kdc2 : D) (d : TsRequest) (q : NetworkRequest) (reply : Reply)
        (result : Result Progress Error) → (takes : ClientTakes c k start kdc d (Ok (Suspended q)) mid kdc1) →
        k.replies kdc (record { question = q; reply = reply } ∷ takes.asked) kdc2 →
        ResumeCall c mid reply result new → ClientTakes c k start kdc d result new kdc2
    resumed_takes start mid new kdc kdc1 kdc2 d q reply result takes replied call =
        let way : IsUnderway c start d mid = takes.turn.0 in
        let goes : ClientGoes c start d result new = call.turn start d way in
        let went = call.steps start d 0 takes.asked q (record { underway = way; walked = takes.step }) in
        let negotiated : new.acts.negotiated ≡ true = call.stepped way.waiting (rw way.kept cc) in
        record {
          turn = goes;
          asked = record { question = q; reply = reply } ∷ takes.asked;
          replied = replied;
          step = went.step;
          unasked = λ none. absurd (true≢false (sym negotiated ∙ none));
          heeded = went.heeded;
          cause = resumed_why start d mid new _ result way call.cause went.step negotiated;
          kept = resumed_kept start d mid new _ result way goes went.step negotiated;
        }

pub proxy_on : {P : Type 0} (p : ProxyMeaning P) (a b d : P) → ProxyStays p a b → ProxyStays p b d → ProxyStays p a d
proxy_on p a b d first next = record {
  told_same = next.told_same ∙ first.told_same;
  counted = omega (arith, first.counted, next.counted);
  calm = λ none. next.calm (ap (λ (t : ProxyTells). t.failing) first.told_same ∙ none) ∙ first.calm none;
}

pub proxy_asked : {P : Type 0} (p : ProxyMeaning P) (limit : ℕ) (a b : P) → IsAsked p limit a b → ProxyStays p a b
proxy_asked p limit a b asked =
    record { told_same = asked.told_same; counted = asked.faults_stay; calm = calm_by p limit a b asked }
