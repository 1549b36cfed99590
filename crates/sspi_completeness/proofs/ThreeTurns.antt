-- A delegation needs three messages of the client: the server's first step only asks for more, it checks the client's
-- proof in a later turn, and the credentials come in a turn after that.
use Rattle.std.proofs.Common.{◌≡◌, ℕ, ◌+◌, ◌≤◌, Bool, true, false, ◌&&◌, ◌||◌, List, [], ◌∷◌, length, Option, None, Some, Result}
use Rattle.std.proofs.Common.{Ok, Err, refl, ap, sym, ◌∙◌, subst, arith, IfOk, OnOk}
use Rattle.sspi_types.specs.declared.security_status.SecurityStatus.{SecurityStatus}
use Rattle.sspi_types.specs.declared.security_status.SecurityStatus.TheVariants as statuses
use Rattle.sspi_types.specs.declared.error.Error.{Error}
use Rattle.sspi_types.specs.declared.credential_use.CredentialUse.TheVariants.{Inbound}
use Rattle.sspi_names.specs.declared.credentials.CredentialsBuffers.{CredentialsBuffers}
use Rattle.sspi_names.specs.declared.identity.AuthIdentity.{AuthIdentity}
use Rattle.sspi_mech.specs.declared.config.NtlmConfig.{NtlmConfig}
use Rattle.sspi_mech.specs.declared.step.Step.{Step}
use Rattle.sspi_mech.specs.Calls.{AcceptArgs}
use Rattle.sspi_mech.specs.Meaning.{Meaning}
use Rattle.sspi_mech.specs.Ntlm.{ntlm_meaning, ntlm_of}
use Rattle.sspi_mech.specs.NtlmMessages.{is_negotiate, challenge_message}
use Rattle.sspi_mech.specs.NtlmStage.{NtlmState}
use Rattle.sspi_mech.specs.NtlmSteps.{Goes, challenges, server_step}
use Rattle.sspi_mech.specs.Settings.{Setting}
use Rattle.sspi_tsreq.specs.declared.request.TsRequest.{TsRequest}
use Rattle.sspi_credssp.specs.declared.context.SspiContext.{SspiContext}
use Rattle.sspi_credssp.specs.declared.context.SspiContext.TheVariants.{Negotiate, Ntlm, Kerberos}
use Rattle.sspi_credssp.specs.declared.mode.ServerMode.{ServerMode}
use Rattle.sspi_credssp.specs.declared.mode.ServerMode.TheVariants as server
use Rattle.sspi_credssp.specs.declared.state.CredSspState.{CredSspState}
use Rattle.sspi_credssp.specs.declared.state.CredSspState.TheVariants.{NegoToken}
use Rattle.sspi_credssp.specs.Context.{Begun, IfContext, either, ForServer}
use Rattle.sspi_credssp.specs.Proxy.{ProxyMeaning}
use Rattle.sspi_credssp.specs.Ends.{ServerView, IsFreshServer}
use Rattle.sspi_credssp.specs.ServerTurn.{DoneStep, Knowing, Unknown, Identified, Completed, Accepted, accepted, identified, completed}
use Rattle.sspi_credssp.specs.ServerTurn.{recounted, server_args}
use Rattle.sspi_credssp.specs.Turn.{IsOver, MayCheck}
use Rattle.sspi_delegate.specs.declared.answer.Delegation.{Delegation}
use Rattle.sspi_delegate.specs.declared.answer.DelegateError.{DelegateError}
use Rattle.sspi_delegate.specs.declared.carried.Carried.{Carried}
use Rattle.sspi_credssp.specs.declared.turn.End.{End}
use Rattle.sspi_credssp.specs.declared.turn.End.TheVariants.{Client, Server}
use Rattle.sspi_credssp.specs.declared.turn.Turn.{Turn}
use Rattle.sspi_delegate.specs.Log.{one_of, turns_of, NewestIs, IsFinished, RunEnds}
use Rattle.sspi_delegate.specs.Turns.{onto_server, server_turns, OthersGoOn, GoesOn, other, next_end, Alternates}
use Rattle.sspi_delegate.specs.Headline.{HasExchanged}
use Rattle.sspi_delegate.specs.History.{ServerMakes, ServerMade, ServerHistory}
use Rattle.sspi_completeness.specs.Matching.{IsNtlmServer}
use Rattle.sspi_completeness.proofs.Ends.{in_context}
use Rattle.sspi_completeness.proofs.NtlmEnds.{IfNtlm, server_first}
use Rattle.sspi_credssp.specs.declared.turn.Outcome.{Outcome}
use Rattle.sspi_credssp.specs.declared.turn.Outcome.TheVariants as outcome

asks_at : (b : Bool) (m m2 : NtlmState) (step : Step) → challenges m b ≡ Goes m2 step → step.status ≡ statuses.ContinueNeeded
asks_at true m m2 step e =
    let asked : Step = record { status = statuses.ContinueNeeded; output = challenge_message m.challenge } in
    let same : asked ≡ step = cc in sym (ap (λ (s : Step). s.status) same)
asks_at false m m2 step e = absurd cc

-- a new object asks for more
pub first_asks : (config : NtlmConfig) (m m2 : NtlmState) (input : List ℕ) (step : Step) → m ≡ ntlm_of config →
    server_step m.stage m input ≡ Goes m2 step →
    step.status ≡ statuses.ContinueNeeded
first_asks config m m2 input step new e =
    asks_at (is_negotiate input) (ntlm_of config) m2 step (subst (λ (x : NtlmState). server_step x.stage x input ≡ Goes m2 step) new e)

-- ---- the server's turns

module _ {K P : Type 0} (k : Meaning Setting K) (p : ProxyMeaning P) where
  asks_first : (config : NtlmConfig) (handle : Option CredentialsBuffers) (m0 m : SspiContext NtlmState K) (args : AcceptArgs)
      (step : Step) →
      IfNtlm k m0 (λ x. (x ≡ ntlm_of config) × (handle ≡ None)) → (either 0 ntlm_meaning k).accepts m0 args (Ok step) m →
      step.status ≡ statuses.ContinueNeeded
  asks_first config handle (Ntlm x) (Ntlm y) args step begun accepts = first_asks config x y args.input step begun.0 accepts
  asks_first config handle (Ntlm x) (Kerberos y) args step begun accepts = absurd accepts
  asks_first config handle (Ntlm x) (Negotiate y) args step begun accepts = absurd accepts
  asks_first config handle (Kerberos x) m args step begun accepts = absurd begun
  asks_first config handle (Negotiate x) m args step begun accepts = absurd begun

  first_begun : (mode : ServerMode) (told : Option (List AuthIdentity)) (context : Option (SspiContext NtlmState K))
      (had handle : Option CredentialsBuffers)
      (m0 m : SspiContext NtlmState K) (args : AcceptArgs) (step : Step) → IsNtlmServer mode → context ≡ None →
      Begun (either 0 ntlm_meaning k) context had (ForServer mode told) Inbound None handle m0 →
      (either 0 ntlm_meaning k).accepts m0 args (Ok step) m → step.status ≡ statuses.ContinueNeeded
  first_begun (server.Ntlm config) told context had handle m0 m args step ntlm none begun accepts =
      asks_first config handle m0 m args step (server_first k config told context had handle m0 none begun) accepts
  first_begun (server.Negotiate config) told context had handle m0 m args step ntlm none begun accepts = absurd ntlm

  first_step : (start : ServerView (SspiContext NtlmState K) P) (handle : Option CredentialsBuffers) (token : Option (List ℕ))
      (known : Knowing) (answer : Result Step Error)
      (step : Step) (m : SspiContext NtlmState K) → IsNtlmServer start.settings.mode → start.context ≡ None → answer ≡ Ok step →
      Accepted (either 0 ntlm_meaning k) p start handle token known answer m →
      step.status ≡ statuses.ContinueNeeded
  first_step start handle token known answer step m ntlm none is (accepted m0 m1 a begun accepts) =
      first_begun start.settings.mode _ start.context start.handle handle m0 m (server_args handle token) step ntlm none begun
      (subst (λ (x : Result Step Error). (either 0 ntlm_meaning k).accepts m0 (server_args handle token) x m) is accepts)
  first_step start handle token known answer step m ntlm none is (identified m1 m2 a before names) =
      first_step start handle token Unknown answer step m1 ntlm none is before
  first_step start handle token known answer step m ntlm none is (completed m1 a before permits) =
      first_step start handle token Identified answer step m ntlm none is before
  first_step start handle token known answer step m ntlm none is (recounted m1 m2 n kn a before counted quiet) =
      first_step start handle token known answer step m1 ntlm none is before

  first_goes_on : (start now : ServerView (SspiContext NtlmState K) P) (d : TsRequest) (status : SecurityStatus) →
      IsNtlmServer start.settings.mode → start.context ≡ None →
      IfContext now.context (Accepted (either 0 ntlm_meaning k) p start now.handle d.nego_tokens Completed
      (Ok (record { status = status; output = now.output }))) →
      status ≡ statuses.ContinueNeeded
  first_goes_on start now d status ntlm none h =
      let there = in_context now.context _ h in first_step start now.handle d.nego_tokens Completed _ _ there.0 ntlm none refl there.2

  -- the first step of a server does not end the authentication
  first_not_over : (start now : ServerView (SspiContext NtlmState K) P) (d : TsRequest) (status : Option SecurityStatus) →
      IsNtlmServer start.settings.mode → start.context ≡ None →
      DoneStep (either 0 ntlm_meaning k) p status start d now → IsOver status → ⊥
  first_not_over start now d None ntlm none step over = over
  first_not_over start now d (Some statuses.Ok) ntlm none step over = let e = first_goes_on start now d statuses.Ok ntlm none step in cc
  first_not_over start now d (Some statuses.CompleteNeeded) ntlm none step over = let e =
      first_goes_on start now d statuses.CompleteNeeded ntlm none step in cc
  first_not_over start now d (Some other) ntlm none step over = over

  nego_check : (state : CredSspState) (status : Option SecurityStatus) → state ≡ NegoToken → MayCheck state status → IsOver status
  nego_check state status nego may = subst (λ (s : CredSspState). MayCheck s status) nego may

  -- a server checks no proof in its first turn
  first_checks : (first mid : ServerView (SspiContext NtlmState K) P) (d : TsRequest) (out : Outcome) → IsNtlmServer first.settings.mode →
      IsFreshServer first → GoesOn out →
      ServerMakes (either 0 ntlm_meaning k) p first d out mid → mid.acts.checked ≡ true → ⊥
  first_checks first mid d (outcome.Reply reply) ntlm fresh went makes checked =
      first_not_over first mid d mid.acts.status ntlm fresh.context makes.step
      (nego_check first.state mid.acts.status fresh.state (makes.turn.turn.shown.acts.checked checked).0)
  first_checks first mid d (outcome.Final reply) ntlm fresh went makes checked = makes
  first_checks first mid d outcome.Finished ntlm fresh went makes checked = went
  first_checks first mid d (outcome.Refused kind reply) ntlm fresh went makes checked = went

  made_checks : (first old now : ServerView (SspiContext NtlmState K) P) (u : Turn) → old ≡ first → IsNtlmServer first.settings.mode →
      IsFreshServer first → GoesOn u.outcome →
      ServerMade (either 0 ntlm_meaning k) p old u now → u.acts.checked ≡ true → ⊥
  made_checks first old now u same ntlm fresh went made checked =
      first_checks first made.mid u.delivered u.outcome ntlm fresh went
      (subst (λ (x : ServerView (SspiContext NtlmState K) P). ServerMakes (either 0 ntlm_meaning k) p x u.delivered u.outcome made.mid)
      same made.makes)
      (sym (ap (λ (t : Turn). t.acts.checked) made.turn) ∙ checked)

  exchange_alone : (checked proved : Bool) → (checked && proved) || false ≡ true → checked ≡ true
  exchange_alone true proved h = refl
  exchange_alone false proved h = absurd cc

  pub three_of_server : (first now : ServerView (SspiContext NtlmState K) P) (turns : List Turn) → IsNtlmServer first.settings.mode →
      IsFreshServer first → OthersGoOn turns → HasExchanged turns →
      ServerHistory (either 0 ntlm_meaning k) p first turns now → 3 ≤ length turns
  three_of_server first now [] ntlm fresh others has history = absurd has
  three_of_server first now (t ∷ []) ntlm fresh others has history = absurd (cc (has))
  three_of_server first now (t ∷ u ∷ []) ntlm fresh others has history =
      absurd (made_checks first history.1.0 history.0 u history.1.1 ntlm fresh others.0 history.1.2
      (exchange_alone u.acts.checked u.acts.proved has))
  three_of_server first now (t ∷ u ∷ v ∷ past) ntlm fresh others has history = omega arith

-- ---- the number of the client's turns

abbrev ahead : End → ℕ
ahead Client = 0
ahead Server = 1

one_more : (e : End) (t : Turn) (past : List Turn) (n : ℕ) → n ≡ length past + ahead e →
    n + one_of Client e ≡ length (onto_server e t past) + ahead (other e)
one_more Client t past n h = omega arith
one_more Server t past n h = omega arith

pub client_count : (turns : List Turn) → Alternates turns → turns_of Client turns ≡ length (server_turns turns) + ahead (next_end turns)
client_count [] order = refl
client_count (t ∷ past) order =
    let before = client_count past order.2 in
    one_more t.end t (server_turns past) (turns_of Client past)
    (before ∙ ap (λ (e : End). length (server_turns past) + ahead e) (sym order.0))

pub three_turns : (turns : List Turn) → Alternates turns → NewestIs Server IsFinished turns → 3 ≤ length (server_turns turns) →
    3 ≤ turns_of Client turns
three_turns [] order newest three = absurd newest
three_turns (t ∷ past) order newest three =
    let count = client_count (t ∷ past) order in
    let next : ahead (other t.end) ≡ 0 = ap (λ (e : End). ahead (other e)) newest.0 in
    omega (arith, count, next, three)

module _ {K P : Type 0} (k : Meaning Setting K) (p : ProxyMeaning P) where
  -- an exchange that is Ok had three messages of the client
  pub ok_three : (base log : List Carried) (start now limit : ℕ) (result : Result Delegation DelegateError) (turns : List Turn)
      (first server : ServerView (SspiContext NtlmState K) P) → RunEnds base start limit result turns log now →
      IsNtlmServer first.settings.mode →
      IsFreshServer first →
      OthersGoOn (server_turns turns) → OnOk result (HasExchanged (server_turns turns)) →
      ServerHistory (either 0 ntlm_meaning k) p first (server_turns turns) server → IfOk result (λ delegation. 3 ≤ delegation.rounds)
  ok_three base log start now limit (Ok delegation) turns first server ends ntlm fresh others has history =
      let three = three_turns turns ends.0.order ends.0.newest
      (three_of_server k p first server (server_turns turns) ntlm fresh others has history) in
      omega (arith, ends.1, three)
  ok_three base log start now limit (Err error) turns first server ends ntlm fresh others has history = tt
