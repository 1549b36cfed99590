-- A server's step asks for what the host was told.
use Rattle.std.proofs.Common.{◌≡◌, ℕ, ◌==◌, Bool, true, false, List, [], ◌∷◌, Option, None, Some, refl, sym, subst, ap, ◌∙◌, if◌then◌else◌}
use Rattle.std.proofs.lemmas.Bool.{false≢true}
use Rattle.sspi_types.specs.declared.security_status.SecurityStatus.{SecurityStatus}
use Rattle.sspi_types.specs.declared.security_status.SecurityStatus.TheVariants as statuses
use Rattle.sspi_names.specs.Name.{inner_of}
use Rattle.sspi_mech.specs.Calls.{AcceptArgs}
use Rattle.sspi_mech.specs.declared.step.Step.{Step}
use Rattle.sspi_tokens.specs.Reading.{init_of, targ_of}
use Rattle.sspi_tokens.specs.Spelling.{spelled_list}
use Rattle.sspi_tokens.specs.declared.neg_result.NegResult.TheVariants.{AcceptComplete, AcceptIncomplete}
use Rattle.sspi_tokens.specs.declared.neg_token_init.NegTokenInit.{NegTokenInit}
use Rattle.sspi_tokens.specs.declared.neg_token_targ.NegTokenTarg.{NegTokenTarg}
use Rattle.sspi_negotiate.specs.declared.pick.Choice.{Choice}
use Rattle.sspi_negotiate.specs.declared.pick.Choice.TheVariants as choices
use Rattle.sspi_negotiate.specs.declared.pick.Picked.{Picked}
use Rattle.sspi_negotiate.specs.declared.protocol.Protocol.{Protocol}
use Rattle.sspi_negotiate.specs.declared.protocol.Protocol.TheVariants as protocols
use Rattle.sspi_negotiate.specs.declared.state.NegotiateState.{NegotiateState}
use Rattle.sspi_negotiate.specs.declared.state.NegotiateState.TheVariants as states
use Rattle.sspi_negotiate.specs.declared.state.Role.{Role}
use Rattle.sspi_negotiate.specs.declared.state.Role.TheVariants.{Server}
use Rattle.sspi_negotiate.specs.Pick.{pick}
use Rattle.sspi_negotiate.specs.Rows.{carries_on, is_complete, is_guest_text, is_over}
use Rattle.sspi_negotiate.specs.Server.{drops, waits_for_token, goes_on, awaits_mic, ends_at_once, opens, needs_mic, goes_on_with}
use Rattle.sspi_negotiate.specs.Server.{first_token, placed, takes_pick, reads_list, at_initial, without_mic, picks as picks_row}
use Rattle.sspi_negotiate.specs.Server.{settles, accepted, at_progress, last_mic, at_verify_mic, server_at, spnego_server}
use Rattle.sspi_negotiate.specs.Values.{Values}
use Rattle.sspi_outside.specs.Course.{Asking, course_of, due_if, due_of_pick, due_of_list, go_on, next, offer_due, picks, step_at, take_offer, taken, takes_list}
use Rattle.sspi_outside.specs.Negotiated.{handed_offer, handed_response, offered}
use Rattle.sspi_outside.specs.Runs.{ContinuationIsStepped, LastIsVerified, OfferIsStepped, Runs, made_of, stepped_with}
use Rattle.sspi_outside.specs.declared.course.Course.{Course}
use Rattle.sspi_outside.proofs.Runs.{asked_with, back, either_runs, in_ntlm_runs, writes_runs, checks_runs, completes_runs, signed_runs, carries_runs}

-- what is known after a step from these values
abbrev after : Values → Bool → SecurityStatus → Course
after v ended status = go_on ended status (course_of false v)

-- ---- the first step

module _ (list : Option (List ℕ)) where
  told_runs : (p : Picked) (token : Option (List ℕ)) (need : Bool) (state : NegotiateState) (v : Values) (ended : Bool) (held : Protocol) →
      state ≡ next ended statuses.ContinueNeeded → Runs false list (after v) None ended held (goes_on_with p token need state v)
  told_runs p token need state v ended held is = writes_runs false list (after v) _ v _ statuses.ContinueNeeded ended held
      (ap (λ (s : NegotiateState). record (course_of false v) { state = s }) is)

  opens_by : (over : Bool) (p : Picked) (v : Values) (step : Step) (need : Bool) (held : Protocol) →
      Runs false list (after v) None over held
      (if over then (if need then awaits_mic p v step else ends_at_once p v step) else goes_on p v need step)
  unfolding awaits_mic ends_at_once goes_on
  opens_by true p v step true held = told_runs p (Some step.output) true states.VerifyMic v true held refl
  opens_by true p v step false held = writes_runs false list (after v) _ v _ statuses.Ok true held refl
  opens_by false p v step need held = told_runs p (Some step.output) need states.InProgress v false held refl

  opens_runs : (p : Picked) (v : Values) (step : Step) (need : Bool) (held : Protocol) →
      Runs false list (after v) None (is_over step.status) held (opens p v step need)
  opens_runs p v step need held = opens_by (is_over step.status) p v step need held

  waits_runs : (p : Picked) (v : Values) (args : AcceptArgs) (held : Protocol) →
      Runs false list (after v) None false held (first_token None p v args)
  unfolding first_token waits_for_token
  waits_runs p v args held = λ pairs. told_runs p None (needs_mic v args pairs) states.InProgress v false held refl

  steps_runs : (token : List ℕ) (p : Picked) (v : Values) (args : AcceptArgs) (held : Protocol) →
      Runs false list (after v) (asked_with held token) false held (first_token (Some token) p v args)
  unfolding first_token
  steps_runs token p v args held = (refl, λ step. λ pairs. opens_runs p v step (needs_mic v args pairs) held)

  drops_runs : (p : Picked) (v : Values) (held : Protocol) → Runs false list (after v) None false held (drops p v)
  unfolding drops
  drops_runs p v held = told_runs p None true states.InProgress v false held refl

  placed_by : (best : Bool) (choice : Choice) (held : Protocol) (p : Picked) (token : Option (List ℕ)) (envelope : List ℕ) (v : Values)
      (args : AcceptArgs) → Runs false list (after v) (made_of envelope (due_if best choice token held)) false (taken choice held)
      (if best then first_token (offered envelope token) p v args else drops p v)
  placed_by true choice held p None envelope v args = waits_runs p v args (taken choice held)
  placed_by true choice held p (Some token) [] v args = waits_runs p v args (taken choice held)
  placed_by true choice held p (Some token) (byte ∷ bytes) v args = steps_runs (byte ∷ bytes) p v args (taken choice held)
  placed_by false choice held p None envelope v args = drops_runs p v (taken choice held)
  placed_by false choice held p (Some token) envelope v args = drops_runs p v (taken choice held)

  placed_runs : (choice : Choice) (held : Protocol) (p : Picked) (token : Option (List ℕ)) (envelope : List ℕ) (v : Values)
      (args : AcceptArgs) → Runs false list (after v) (made_of envelope (due_if (p.index == 0) choice token held)) false
      (taken choice held) (placed (offered envelope token) p v args)
  unfolding placed
  placed_runs choice held p token envelope v args = placed_by (p.index == 0) choice held p token envelope v args

  takes_runs : (choice : Choice) (p : Picked) (token : Option (List ℕ)) (envelope : List ℕ) (v : Values) (args : AcceptArgs) →
      Runs false list (after (record v { hand = taken choice v.hand })) (made_of envelope (due_if (p.index == 0) choice token v.hand))
      false v.hand (takes_pick choice (offered envelope token) p v args)
  takes_runs choices.MsKerberos p token envelope v args = placed_runs choices.MsKerberos v.hand p token envelope v args
  takes_runs choices.Kerberos p token envelope v args = placed_runs choices.Kerberos v.hand p token envelope v args
  takes_runs choices.Ntlm p token envelope v args =
      in_ntlm_runs false list (after (record v { hand = protocols.Ntlm })) v.hand v.computer _ _ false
      (placed_runs choices.Ntlm v.hand p token envelope (record v { hand = protocols.Ntlm }) args)

  picks_runs : (o : Option Picked) (offers : List (List ℕ)) (token : Option (List ℕ)) (envelope : List ℕ) (v : Values)
      (args : AcceptArgs) → Runs false list (λ ended status. go_on ended status (picks o offers (course_of false v)))
      (made_of envelope (due_of_pick o token v.hand)) false v.hand (picks_row o offers (offered envelope token) v args)
  unfolding picks_row
  picks_runs None offers token envelope v args = tt
  picks_runs (Some p) offers token envelope v args = takes_runs p.choice p token envelope (record v { list = offers }) args

  reads_runs : (o : Option (List (List ℕ))) (token : Option (List ℕ)) (envelope : List ℕ) (v : Values) (args : AcceptArgs) →
      Runs false list (λ ended status. go_on ended status (takes_list o (course_of false v)))
      (made_of envelope (due_of_list o token (course_of false v))) false v.hand (reads_list o (offered envelope token) v args)
  unfolding reads_list
  reads_runs None token envelope v args = tt
  reads_runs (Some offers) token envelope v args = picks_runs (pick offers v.packages v.hand) offers token envelope v args

-- a server's step in this state
at_server : (list : Option (List ℕ)) (known : Bool → SecurityStatus → Course) (due : Option Asking) (ended : Bool) (state : NegotiateState)
    (v : Values) (args : AcceptArgs) → v.role ≡ Server → v.state ≡ state →
    Runs false list known due ended v.hand (server_at Server state v args) →
    Runs false list known due ended v.hand (spnego_server v args)
at_server list known due ended state v args server at runs =
    subst (λ (r : Role). Runs false list known due ended v.hand (server_at r v.state v args)) (sym server)
    (subst (λ (s : NegotiateState). Runs false list known due ended v.hand (server_at Server s v args)) (sym at) runs)

pub offer_stepped : OfferIsStepped
offer_stepped = λ v args offer envelope server initial read.
    let c : Course = take_offer offer (course_of false v) in
    let due : Option Asking = made_of envelope (offer_due (course_of false v) offer) in
    at_server (spelled_list c.list) (λ ended status. go_on ended status c) due false states.Initial v args server initial
    (subst (λ (o : Option NegTokenInit). Runs false (spelled_list c.list) (λ ended status. go_on ended status c) due false v.hand
    (at_initial o v args)) (sym read) (reads_runs (spelled_list c.list) offer.mech_types offer.mech_token envelope v args))

-- ---- later steps

not_over : (status : SecurityStatus) → is_over status ≡ false → next false status ≡ states.InProgress
not_over statuses.Ok on = absurd (false≢true (sym on))
not_over statuses.ContinueNeeded on = refl
not_over statuses.CompleteNeeded on = refl
not_over statuses.CompleteAndContinue on = refl
not_over statuses.LocalLogon on = refl
not_over statuses.ContextExpired on = refl
not_over statuses.IncompleteCredentials on = refl
not_over statuses.Renegotiate on = refl
not_over statuses.NoLsaContext on = refl

without_runs : (complete : Bool) (v : Values) (token : List ℕ) (held : Protocol) →
    Runs false (spelled_list v.list) (after v) None true held (without_mic complete v token)
unfolding without_mic
without_runs true v token held = λ name. either_runs false (spelled_list v.list) (after v) (is_guest_text (inner_of name)) _ _ None true held
    (λ guest. completes_runs false (spelled_list v.list) (after v) v token false true held refl) (λ other. tt)
without_runs false v token held = signed_runs false (spelled_list v.list) (after v) AcceptIncomplete states.VerifyMic statuses.ContinueNeeded
    v token true held refl refl

settles_runs : (need : Bool) (mic : Option (List ℕ)) (complete : Bool) (v : Values) (token : List ℕ) (held : Protocol) →
    Runs false (spelled_list v.list) (after v) None true held (settles need mic complete v token)
settles_runs false mic complete v token held = completes_runs false (spelled_list v.list) (after v) v token v.need true held refl
settles_runs true (Some mic) complete v token held = checks_runs false (spelled_list v.list) (after v) mic v _ true held refl
    (signed_runs false (spelled_list v.list) (after v) AcceptComplete states.Ok statuses.Ok v token true held refl refl)
settles_runs true None complete v token held = without_runs complete v token held

accepted_by : (over : Bool) (token : NegTokenTarg) (v : Values) (step : Step) (held : Protocol) → is_over step.status ≡ over →
    v.state ≡ states.InProgress → Runs false (spelled_list v.list) (after v) None over held
    (if over then settles v.need token.mech_list_mic (is_complete token.neg_result) v step.output
    else carries_on v step.output step.status)
accepted_by true token v step held is at =
    settles_runs v.need token.mech_list_mic (is_complete token.neg_result) v step.output held
accepted_by false token v step held is at = carries_runs false (spelled_list v.list) (after v) v step.output step.status false held
    (ap (λ (s : NegotiateState). record (course_of false v) { state = s }) (at ∙ sym (not_over step.status is)))

-- the token that is stepped with is the envelope
pub due_is : (state : NegotiateState) (held : Protocol) (token : Option (List ℕ)) (envelope : List ℕ) → state ≡ states.InProgress →
    stepped_with envelope (step_at state held token) ≡ asked_with held envelope
due_is state held token envelope at = subst (λ (s : NegotiateState). stepped_with envelope (step_at s held token) ≡
    asked_with held envelope) (sym at) refl

pub none_is : (state : NegotiateState) (held : Protocol) (token : Option (List ℕ)) (envelope : List ℕ) → state ≡ states.VerifyMic →
    stepped_with envelope (step_at state held token) ≡ None
none_is state held token envelope at =
    subst (λ (s : NegotiateState). stepped_with envelope (step_at s held token) ≡ None) (sym at) refl

pub continuation_stepped : ContinuationIsStepped
continuation_stepped = λ v args token envelope verified server at read.
    let due : Option Asking = stepped_with envelope (step_at v.state v.hand token.response_token) in
    at_server (spelled_list v.list) (after v) due false states.InProgress v args server at
    (subst (λ (o : Option NegTokenTarg). Runs false (spelled_list v.list) (after v) due false v.hand (at_progress o v args)) (sym read) (
      due_is v.state v.hand token.response_token envelope at
          ∙ ap (λ (bytes : List ℕ). asked_with v.hand bytes) (sym (back envelope)),
      λ step. accepted_by (is_over step.status) (handed_response token envelope verified) v step v.hand refl at,
    ))

last_runs : (mic : Option (List ℕ)) (v : Values) (held : Protocol) →
    Runs false (spelled_list v.list) (after v) None true held (last_mic mic v)
last_runs None v held = tt
last_runs (Some mic) v held = checks_runs false (spelled_list v.list) (after v) mic v _ true held refl (refl, refl)

pub last_verified : LastIsVerified
last_verified = λ v args token envelope verified server at read.
    let due : Option Asking = stepped_with envelope (step_at v.state v.hand token.response_token) in
    let handed : NegTokenTarg = handed_response token envelope verified in
    at_server (spelled_list v.list) (after v) due true states.VerifyMic v args server at
    (subst (λ (o : Option NegTokenTarg). Runs false (spelled_list v.list) (after v) due true v.hand (at_verify_mic o v)) (sym read)
    (subst (λ (d : Option Asking). Runs false (spelled_list v.list) (after v) d true v.hand (last_mic handed.mech_list_mic v))
    (sym (none_is v.state v.hand token.response_token envelope at)) (last_runs handed.mech_list_mic v v.hand)))
