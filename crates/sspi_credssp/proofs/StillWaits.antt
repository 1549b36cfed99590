-- A client whose refused resume waits again is still under way.
use Rattle.std.proofs.Common.{◌≡◌, ℕ, ◌+◌, List, [], ◌∷◌, Some, None, Result, Ok, Err, IsErr, OnErr, true, sym, ◌∙◌, ap, subst}
use Rattle.sspi_types.specs.declared.error.Error.{Error}
use Rattle.sspi_names.specs.declared.network.NetworkRequest.{NetworkRequest}
use Rattle.sspi_tsreq.specs.declared.request.TsRequest.{TsRequest}
use Rattle.sspi_mech.specs.declared.step.Answer.TheVariants.{Ask}
use Rattle.sspi_mech.specs.declared.step.Progressing.{Progressing}
use Rattle.sspi_mech.specs.declared.step.Reply.{Reply}
use Rattle.sspi_mech.specs.Answers.{answer_of}
use Rattle.sspi_mech.specs.Context.{IsContext}
use Rattle.sspi_mech.specs.Meaning.{Meaning}
use Rattle.sspi_credssp.specs.declared.acts.Acts.{Acts}
use Rattle.sspi_credssp.specs.declared.client_state.Progress.{Progress}
use Rattle.sspi_credssp.specs.declared.state.CredSspState.TheVariants.{NegoToken}
use Rattle.sspi_credssp.specs.Acts.{no_acts, is_waiting_in}
use Rattle.sspi_credssp.specs.Ends.{ClientView}
use Rattle.sspi_credssp.specs.ClientCall.{Awaits}
use Rattle.sspi_credssp.specs.ClientStage.{KeepsRequest}
use Rattle.sspi_credssp.specs.ClientTurn.{Asked, StepsTo, Walked, still_asked, IsReady, IsUnderway}
use Rattle.sspi_mech.specs.declared.refusal.Refusal.{Refusal}
use Rattle.sspi_mech.specs.Refusals.{error_of}
use Rattle.sspi_mech.specs.Answered.{answered}
use Rattle.sspi_credssp.specs.Context.{ContextSetting}
use Rattle.sspi_credssp.proofs.ClientReady.{ready_stepped, ready_forgot}

module _ {C : Type 0} (c : Meaning ContextSetting C) (laws : IsContext c) where
  -- `v`: the client before the call; `stepped`: once its context took the reply; `new`: after it
  pub still_waits : (start : ClientView C) (d : TsRequest) (tries : ℕ) (log : List Asked) (q : NetworkRequest)
      (v stepped new : ClientView C)
      (m m2 : C) (reply : Reply) (request : TsRequest) (progress : Result Progressing Refusal) (result : Result Progress Refusal) →
      request ≡ record d { version = v.settings.version } → v.state ≡ NegoToken → v.output ≡ [] → v.context ≡ Some m →
      v.acts ≡ no_acts → stepped ≡ record v { context = Some m2; acts = record v.acts { negotiated = true } } →
      IsReady c start d v → Walked c start v.handle d.nego_tokens tries log (Ask q) m →
      c.resumes m reply (answer_of (answered progress)) m2 →
      OnErr result (new.acts.status ≡ None → KeepsRequest c stepped (answered progress) request new) →
      OnErr result (new.acts.status ≡ None → is_waiting_in c new.context ≡ true →
      Awaits c start d (tries + 1) (record { question = q; reply = reply } ∷ log) q new)
  still_waits start d tries log q v stepped new m m2 reply request progress (Ok x) _ _ _ _ _ _ _ _ _ _ = tt
  still_waits start d tries log q v stepped new m m2 reply request (Ok x)
      (Err error) same nego output here idle at ready walked resumed still =
      λ none waits. absurd (false_ok (still none).refused.1)
    where
      false_ok : IsErr {T = Progressing} {E = Error} (Ok x) → ⊥
      false_ok h = cc
  still_waits start d tries log q v stepped new m m2 reply request (Err e)
      (Err error) same nego output here idle at ready walked resumed still =
      λ none waits.
      let moved : new ≡ record v { context = Some m2; acts = record no_acts { negotiated = true }; kept = new.kept } =
      (still none).refused.0 ∙ ap (λ (x : ClientView C). record x { kept = new.kept })
      (at ∙ ap (λ (a : Acts). record v { context = Some m2; acts = record a { negotiated = true } }) idle) in
      let again : c.waits m2 ≡ true = subst (λ (x : ClientView C). is_waiting_in c x.context ≡ true) moved waits in
      let ready2 = ready_stepped c start v d m m2 (record no_acts { negotiated = true }) ready nego here
      (laws.resume_silent m m2 reply _ resumed) in
      let under : IsUnderway c start d (record v { context = Some m2; acts = record no_acts { negotiated = true }; kept = new.kept }) =
      record {
        ready = ready_forgot c start _ d (record no_acts { negotiated = true }) v.output new.kept ready2;
        state = nego;
        waiting = again;
        kept = (still none).kept waits ∙ ap Some same;
      } in
      let steps : StepsTo c start d (tries + 1) (record { question = q; reply = reply } ∷ log) (Ask q)
      (record v { context = Some m2; acts = record no_acts { negotiated = true }; kept = new.kept }) =
      still_asked m m2 tries log q reply (error_of e) walked resumed again in
      record {
        underway = subst (λ x. IsUnderway c start d x) (sym moved) under;
        walked = subst (λ x. StepsTo c start d (tries + 1) (record { question = q; reply = reply } ∷ log) (Ask q) x) (sym moved) steps;
      }
