-- A client's turn stays under way over a step of its context.
use Rattle.std.proofs.Common.{◌≡◌, ◌<◌, ℕ, List, Option, Some, true, refl, sym, ◌∙◌, ap, subst, inl, inr}
use Rattle.sspi_names.specs.declared.network.NetworkRequest.{NetworkRequest}
use Rattle.sspi_mech.specs.declared.step.Answer.{Answer}
use Rattle.sspi_mech.specs.declared.step.Answer.TheVariants.{Done, Ask, Refused}
use Rattle.sspi_mech.specs.declared.step.Reply.{Reply}
use Rattle.sspi_mech.specs.Answers.{OnAsk}
use Rattle.sspi_mech.specs.Calls.{StepArgs}
use Rattle.sspi_mech.specs.Context.{IsContext, NeitherSealsNorOpens}
use Rattle.sspi_mech.specs.Meaning.{Meaning}
use Rattle.sspi_tsreq.specs.declared.request.TsRequest.{TsRequest}
use Rattle.sspi_credssp.specs.declared.acts.Acts.{Acts}
use Rattle.sspi_credssp.specs.declared.state.CredSspState.{CredSspState}
use Rattle.sspi_credssp.specs.declared.state.CredSspState.TheVariants.{NegoToken}
use Rattle.sspi_credssp.specs.Context.{IfContext, ContextSetting}
use Rattle.sspi_credssp.specs.Ends.{ClientView}
use Rattle.sspi_credssp.specs.ClientTurn.{IsReady}
use Rattle.sspi_credssp.specs.Acts.{no_acts, sealings_in, unsealings_in, CountsEachAct}
use Rattle.sspi_credssp.specs.Turn.{OnceNegotiated, IsUnspent}

pub not_yet : (s : CredSspState) (P : Type 0) → s ≡ NegoToken → OnceNegotiated s P
not_yet s P e = subst (λ x. OnceNegotiated x P) (sym e) tt

module _ {S C : Type 0} (c : Meaning S C) where
  -- in the authentication a step seals and opens nothing
  counts_still : (start : CredSspState) (before context : Option C) (m m2 : C) → start ≡ NegoToken → context ≡ Some m →
      NeitherSealsNorOpens (c.counts m) (c.counts m2) → CountsEachAct c start before no_acts context →
      CountsEachAct c start before no_acts (Some m2)
  counts_still start before context m m2 begins here (inl (sealed, opened)) (inl (made, taken)) =
      inl (sealed ∙ sym (ap (sealings_in c) here) ∙ made, opened ∙ sym (ap (unsealings_in c) here) ∙ taken)
  counts_still start before context m m2 begins here (inl (sealed, opened)) (inr (nego, (made, taken))) =
      inr (nego, (sealed ∙ sym (ap (sealings_in c) here) ∙ made, opened ∙ sym (ap (unsealings_in c) here) ∙ taken))
  counts_still start before context m m2 begins here (inr unused) counts = inr (begins, (unused.sealings, unused.unsealings))

  pub still_unspent : (start : CredSspState) (before context : Option C) (m m2 : C) → IsUnspent c start before context →
      start ≡ NegoToken → context ≡ Some m → NeitherSealsNorOpens (c.counts m) (c.counts m2) → IsUnspent c start before (Some m2)
  still_unspent start before context m m2 unspent begins here silent = record {
    counts = counts_still start before context m m2 begins here silent unspent.counts;
    bare = not_yet start _ begins;
  }

pub context_here : {C : Type 0} (o : Option C) (m : C) (P : C → Type 0) → o ≡ Some m → IfContext o P → P m
context_here o m P e h = subst (λ x. IfContext x P) e h

on_ask : (r : Answer) (P : Type 0) → ((request : NetworkRequest) → r ≡ Ask request → P) → OnAsk r P
on_ask (Done step) P h = tt
on_ask (Ask request) P h = h request refl
on_ask (Refused error) P h = tt

module _ {C : Type 0} (c : Meaning ContextSetting C) where
  pub ready_stepped : (start now : ClientView C) (d : TsRequest) (m m2 : C) (acts : Acts) →
      IsReady c start d now → now.state ≡ NegoToken → now.context ≡ Some m →
      NeitherSealsNorOpens (c.counts m) (c.counts m2) → IsReady c start d (record now { context = Some m2; acts = acts })
  ready_stepped start now d m m2 acts ready nego here silent =
      record {
        idle = ready.idle;
        code = ready.code;
        same = ready.same;
        handle = λ h. ((ready.handle h).0, refl);
        state = ready.state;
        noted = ready.noted;
        fits = ready.fits;
        young = ready.young;
        passed = ready.passed;
        begun = refl;
        unspent = still_unspent c _ _ _ m m2 ready.unspent (sym ready.state ∙ nego) here silent;
      }

  -- what a call forgets of the last one does not belong to the turn
  pub ready_forgot : (start now : ClientView C) (d : TsRequest) (acts : Acts) (output : List ℕ) (kept : Option TsRequest) →
      IsReady c start d now → IsReady c start d (record now { acts = acts; output = output; kept = kept })
  ready_forgot start now d acts output kept ready = record {
    idle = ready.idle;
    code = ready.code;
    same = ready.same;
    handle = ready.handle;
    state = ready.state;
    noted = ready.noted;
    fits = ready.fits;
    young = ready.young;
    passed = ready.passed;
    begun = ready.begun;
    unspent = ready.unspent;
  }

module _ {C : Type 0} (c : Meaning ContextSetting C) (laws : IsContext c) where
  -- a step leaves the turn under way, and a context that asked waits
  pub after_step : (start now : ClientView C) (d : TsRequest) (m m2 : C) (acts : Acts) (a : StepArgs) (r : Answer) →
      IsReady c start d now → now.state ≡ NegoToken → now.context ≡ Some m → c.steps m a r m2 →
      IsReady c start d (record now { context = Some m2; acts = acts }) × OnAsk r (c.waits m2 ≡ true)
  after_step start now d m m2 acts a r ready nego here step = (
    ready_stepped c start now d m m2 acts ready nego here (laws.step_silent m m2 a r step),
    on_ask r (c.waits m2 ≡ true) (λ request is. laws.step_waits m m2 a request (subst (λ x. c.steps m a x m2) is step)),
  )

  pub after_resume : (start now : ClientView C) (d : TsRequest) (m m2 : C) (acts : Acts) (b : Reply) (r : Answer) →
      IsReady c start d now → now.state ≡ NegoToken → now.context ≡ Some m → c.resumes m b r m2 →
      IsReady c start d (record now { context = Some m2; acts = acts }) × OnAsk r (c.waits m2 ≡ true)
  after_resume start now d m m2 acts b r ready nego here step = (
    ready_stepped c start now d m m2 acts ready nego here (laws.resume_silent m m2 b r step),
    on_ask r (c.waits m2 ≡ true) (λ request is. laws.resume_waits m m2 b request (subst (λ x. c.resumes m b x m2) is step)),
  )

  -- each further question leaves fewer to come
  pub falls_on : (m m2 : C) (b : Reply) (r : Answer) → c.resumes m b r m2 → OnAsk r (c.left m2 < c.left m)
  falls_on m m2 b r step =
      on_ask r (c.left m2 < c.left m) (λ request is. laws.resume_asks m m2 b request (subst (λ x. c.resumes m b x m2) is step))
