-- A client's step asks for what the host was told.
use Rattle.std.proofs.Common.{◌≡◌, ℕ, ◌==◌, ◌&&◌, Bool, true, false, length, List, [], Option, None, Some, option_map, unwrap_or}
use Rattle.std.proofs.Common.{not, refl, sym, subst, ap, ◌∙◌, if◌then◌else◌}
use Rattle.sspi_types.specs.declared.error_kind.ErrorKind.TheVariants.{InvalidToken}
use Rattle.sspi_types.specs.declared.security_status.SecurityStatus.{SecurityStatus}
use Rattle.sspi_types.specs.declared.security_status.SecurityStatus.TheVariants as statuses
use Rattle.sspi_names.specs.Identity.{buffers_of, identity_of}
use Rattle.sspi_names.specs.declared.credentials.CredentialsBuffers.TheVariants.{AuthIdentity as Buffers}
use Rattle.sspi_names.specs.Kdcs.{url_of}
use Rattle.sspi_names.specs.Name.{Name, domain_of}
use Rattle.sspi_names.specs.declared.credentials.CredentialsBuffers.{CredentialsBuffers}
use Rattle.sspi_names.specs.declared.identity.AuthIdentity.{AuthIdentity as Identity}
use Rattle.sspi_names.specs.declared.identity.AuthIdentityBuffers.{AuthIdentityBuffers}
use Rattle.sspi_names.specs.declared.kdc_table.KdcEntry.{KdcEntry}
use Rattle.sspi_mech.specs.Calls.{StepArgs}
use Rattle.sspi_mech.specs.declared.step.Step.{Step}
use Rattle.sspi_tokens.specs.Oids.{kind_of}
use Rattle.sspi_tokens.specs.Reading.{targ_of}
use Rattle.sspi_tokens.specs.Spelling.{spelled_init, spelled_list}
use Rattle.sspi_tokens.specs.declared.neg_result.NegResult.TheVariants.{AcceptComplete, AcceptIncomplete}
use Rattle.sspi_tokens.specs.declared.neg_token_targ.NegTokenTarg.{NegTokenTarg}
use Rattle.sspi_tokens.specs.declared.oid.MechKind.{MechKind}
use Rattle.sspi_tokens.specs.declared.oid.MechKind.TheVariants as kinds
use Rattle.sspi_negotiate.specs.declared.package_list.PackageListConfig.{PackageListConfig}
use Rattle.sspi_negotiate.specs.declared.protocol.Protocol.{Protocol}
use Rattle.sspi_negotiate.specs.declared.protocol.Protocol.TheVariants as protocols
use Rattle.sspi_negotiate.specs.declared.state.NegotiateState.{NegotiateState}
use Rattle.sspi_negotiate.specs.declared.state.NegotiateState.TheVariants as states
use Rattle.sspi_negotiate.specs.Client.{answers, at_initial, at_progress, at_verify_mic, begun, by_target, chosen, chooses_kerberos}
use Rattle.sspi_negotiate.specs.Client.{chooses_ntlm, client_at, confirmed, converts, first_step, has_begun, in_kerberos, is_closed, is_guest, is_ok}
use Rattle.sspi_negotiate.specs.Client.{keeps, last_mic, offers, passwords_of, ruled, settles, spnego_client, unprotected, verified}
use Rattle.sspi_negotiate.specs.Client.{with_handle, without_ntlm}
use Rattle.sspi_negotiate.specs.Plan.{Plan, Stops}
use Rattle.sspi_negotiate.specs.Rows.{carries_on, in_ntlm, is_complete}
use Rattle.sspi_negotiate.specs.Rule.{rule_url, url_for}
use Rattle.sspi_negotiate.specs.Hand.{is_ntlm_hand}
use Rattle.sspi_negotiate.specs.Values.{Values}
use Rattle.sspi_outside.specs.Course.{Asking, addressed, answer_due, chosen_due, chooses, continuation_due, course_of, go_on, make_offer, next}
use Rattle.sspi_outside.specs.Negotiated.{handed_response}
use Rattle.sspi_outside.specs.Runs.{AnswerIsStepped, ConfirmationIsVerified, FirstIsStepped, Runs, stepped_with}
use Rattle.sspi_outside.specs.declared.course.Course.{Course}
use Rattle.sspi_outside.proofs.Runs.{asked_with, back, either_runs, in_ntlm_runs, written_runs, verifies_runs, completes_runs, signed_runs, carries_runs}
use Rattle.sspi_outside.proofs.ServerRuns.{due_is}

-- ---- no KDC is set

none_if : (b : Bool) (url : Option (List ℕ)) → url ≡ None → (if b then None else url) ≡ None
none_if true url none = refl
none_if false url none = none

url_none : (realm : List ℕ) → url_of [] realm ≡ None
unfolding url_of
url_none realm = none_if (length realm == 0) _ refl

url_empty : (domain : Option (List ℕ)) → url_for [] domain ≡ None
url_empty None = refl
url_empty (Some realm) = url_none realm

ruled_none : (b : Bool) (domain : Option (List ℕ)) → (if b then url_for [] domain else None) ≡ None
ruled_none true domain = url_empty domain
ruled_none false domain = refl

no_rule : (v : Values) (name : Name) → v.kdcs ≡ [] → rule_url v name ≡ None
no_rule v name empty = subst (λ (kdcs : List KdcEntry). (if is_ntlm_hand v.hand && v.packages.kerberos then url_for kdcs (domain_of name)
    else None) ≡ None) (sym empty) (ruled_none (is_ntlm_hand v.hand && v.packages.kerberos) (domain_of name))

-- ---- what comes before each step

module _ (ip : Bool) (list : Option (List ℕ)) (known : Bool → SecurityStatus → Course) (due : Option Asking) (ended : Bool) where
  keeps_runs : (o : Option Identity) (v : Values) (args : StepArgs) (held : Protocol) → v.kdcs ≡ [] →
      ((kept : Option CredentialsBuffers) → Runs ip list known due ended held (client_at v.state (record v { kept = kept }) args)) →
      Runs ip list known due ended held (keeps o v args)
  unfolding keeps
  keeps_runs None v args held empty runs = tt
  keeps_runs (Some identity) v args held empty runs =
      let kept : Option CredentialsBuffers = Some (Buffers (buffers_of identity)) in
      subst (λ (url : Option (List ℕ)). Runs ip list known due ended held (ruled url (record v { kept = kept }) args))
      (sym (no_rule v identity.username empty)) (runs kept)

  converts_runs : (o : Option AuthIdentityBuffers) (v : Values) (args : StepArgs) (held : Protocol) → v.kdcs ≡ [] →
      ((kept : Option CredentialsBuffers) → Runs ip list known due ended held (client_at v.state (record v { kept = kept }) args)) →
      Runs ip list known due ended held (converts o v args)
  converts_runs None v args held empty runs = runs v.kept
  converts_runs (Some buffers) v args held empty runs = keeps_runs (identity_of buffers) v args held empty runs

  handle_runs : (v : Values) (args : StepArgs) (held : Protocol) → v.kdcs ≡ [] →
      ((kept : Option CredentialsBuffers) → Runs ip list known due ended held (client_at v.state (record v { kept = kept }) args)) →
      Runs ip list known due ended held (with_handle v args)
  unfolding with_handle
  handle_runs v args held empty runs = converts_runs (passwords_of args.handle) v args held empty runs

  -- a step in this state
  state_runs : (state : NegotiateState) (v : Values) (args : StepArgs) (held : Protocol) → v.kdcs ≡ [] → v.state ≡ state →
      ((kept : Option CredentialsBuffers) → Runs ip list known due ended held (client_at state (record v { kept = kept }) args)) →
      Runs ip list known due ended held (with_handle v args)
  state_runs state v args held empty at runs = handle_runs v args held empty
      (λ kept. subst (λ (s : NegotiateState). Runs ip list known due ended held (client_at s (record v { kept = kept }) args)) (sym at)
      (runs kept))

-- NTLM because of the target's address
abbrev by_address : Values → Values
by_address v = record v { hand = protocols.Ntlm; packages = record v.packages { kerberos = false } }

abbrev addressed_if : Bool → Course → Course
addressed_if b c = if b then record c { hand = protocols.Ntlm; packages = record c.packages { kerberos = false } } else c

-- ---- the first step

module _ (ip : Bool) (v : Values) where
  offers_runs : (token : List ℕ) (ended : Bool) (held : Protocol) →
      Runs ip None (λ over status. make_offer (course_of ip v)) None ended held (offers v token)
  unfolding offers
  offers_runs token ended held = written_runs ip None (λ over status. make_offer (course_of ip v)) (spelled_init _) v _
      statuses.ContinueNeeded ended held refl

  begun_runs : (step : Step) (ended : Bool) (held : Protocol) →
      Runs ip None (λ over status. make_offer (course_of ip v)) None ended held (begun v step)
  begun_runs step ended held = either_runs ip None (λ over status. make_offer (course_of ip v)) (has_begun step.status) _ _ None ended held
      (λ on. offers_runs step.output ended held) (λ off. tt)

initial_runs : (ip : Bool) (v : Values) (args : StepArgs) →
    Runs ip None (λ over status. make_offer (course_of ip v)) (asked_with v.hand args.input) false v.hand
    (client_at states.Initial v args)
unfolding client_at at_initial first_step
initial_runs ip v args = (refl, λ step. begun_runs ip (record v { need = _ }) step (is_ok step.status) v.hand)

first_by : (b ip : Bool) (v : Values) (args : StepArgs) → v.kdcs ≡ [] → v.state ≡ states.Initial →
    Runs ip None (λ over status. make_offer (addressed_if b (course_of ip v)))
    (Some (record { mechanism = (addressed_if b (course_of ip v)).hand; token = args.input })) false v.hand
    (if b then in_ntlm v.hand v.computer (with_handle (by_address v) args) else with_handle v args)
first_by true ip v args empty at =
    in_ntlm_runs ip None (λ over status. make_offer (course_of ip (by_address v))) v.hand v.computer _ _ false
    (state_runs ip None _ _ false states.Initial (by_address v) args protocols.Ntlm empty at
    (λ kept. initial_runs ip (record (by_address v) { kept = kept }) args))
first_by false ip v args empty at = state_runs ip None _ _ false states.Initial v args v.hand empty at
    (λ kept. initial_runs ip (record v { kept = kept }) args)

pub first_stepped : FirstIsStepped
first_stepped = λ ip v args empty at. either_runs ip None _ (is_closed v.role v.state v.branch) _ _ _ false v.hand (λ closed. tt)
    (λ open_to. first_by (ip && v.packages.ntlm) ip v args empty at)

-- ---- later steps

abbrev after : Bool → Values → Bool → SecurityStatus → Course
after ip v ended status = go_on ended status (course_of ip v)

not_ok : (status : SecurityStatus) → is_ok status ≡ false → next false status ≡ states.InProgress
not_ok status is = subst (λ (b : Bool). (if b then states.Ok else states.InProgress) ≡ states.InProgress) (sym is) refl

module _ (ip : Bool) where
  verified_runs : (complete : Bool) (v : Values) (token : List ℕ) (held : Protocol) →
      Runs ip (spelled_list v.list) (after ip v) None true held (verified complete v token)
  verified_runs true v token held = (refl, refl)
  verified_runs false v token held = signed_runs ip (spelled_list v.list) (after ip v) AcceptComplete states.Ok statuses.Ok v token true held
      refl refl

  unprotected_runs : (complete : Bool) (v : Values) (token : List ℕ) (held : Protocol) →
      Runs ip (spelled_list v.list) (after ip v) None true held (unprotected complete v token)
  unprotected_runs true v token held = (refl, refl)
  unprotected_runs false v token held = completes_runs ip (spelled_list v.list) (after ip v) v token v.need true held refl

  settles_runs : (need : Bool) (mic : Option (List ℕ)) (complete : Bool) (v : Values) (token : List ℕ) (held : Protocol) →
      Runs ip (spelled_list v.list) (after ip v) None true held (settles need mic complete v token)
  settles_runs false mic complete v token held = unprotected_runs complete v token held
  settles_runs true (Some mic) complete v token held = verifies_runs ip (spelled_list v.list) (after ip v) mic (spelled_list v.list) v _
      true held refl (verified_runs complete v token held)
  settles_runs true None complete v token held = signed_runs ip (spelled_list v.list) (after ip v) AcceptIncomplete states.VerifyMic
      statuses.ContinueNeeded v token true held refl refl

  stepped_by : (over : Bool) (token : NegTokenTarg) (v : Values) (step : Step) (held : Protocol) → is_ok step.status ≡ over →
      v.state ≡ states.InProgress → Runs ip (spelled_list v.list) (after ip v) None over held
      (if over then settles v.need token.mech_list_mic (is_complete token.neg_result) v step.output
      else carries_on v step.output step.status)
  stepped_by true token v step held is at = settles_runs v.need token.mech_list_mic (is_complete token.neg_result) v step.output held
  stepped_by false token v step held is at = carries_runs ip (spelled_list v.list) (after ip v) v step.output step.status false held
      (ap (λ (s : NegotiateState). record (course_of ip v) { state = s }) (at ∙ sym (not_ok step.status is)))

  module _ (token : NegTokenTarg) (envelope : List ℕ) (check : Option (List ℕ)) where
    answers_runs : (v : Values) (args : StepArgs) (held : Protocol) → v.state ≡ states.InProgress → v.hand ≡ held →
        Runs ip (spelled_list v.list) (after ip v) (stepped_with envelope (continuation_due (course_of ip v) token)) false held
        (answers (handed_response token envelope check) v args)
    unfolding answers
    answers_runs v args held at in_hand = (
      due_is v.state v.hand token.response_token envelope at
          ∙ ap (λ (m : Protocol). asked_with m envelope) in_hand
          ∙ ap (λ (bytes : List ℕ). asked_with held bytes) (sym (back envelope)),
      λ step. stepped_by (is_ok step.status) (handed_response token envelope check) v step held refl at,
    )

    -- with the course that the choice leads to, if it may be used
    abbrev Told : Values → Option Course → Course → Protocol → Plan → Type 0
    Told v o c held p = Runs ip (spelled_list v.list) (λ ended status. go_on ended status (unwrap_or o c))
        (stepped_with envelope (chosen_due o token)) false held p

    in_kerberos_runs : (hand : Protocol) (v : Values) (args : StepArgs) (c : Course) → v.state ≡ states.InProgress → v.hand ≡ hand →
        Told v (Some (record (course_of ip v) { hand = protocols.Kerberos; packages = record v.packages { ntlm = false } })) c hand
        (in_kerberos hand (handed_response token envelope check) (without_ntlm v) args)
    in_kerberos_runs protocols.Kerberos v args c at in_hand =
        subst (λ (m : Protocol). Told v (Some (record (course_of ip v) { hand = m; packages = record v.packages { ntlm = false } })) c
        protocols.Kerberos (answers (handed_response token envelope check) (without_ntlm v) args)) in_hand
        (answers_runs (without_ntlm v) args protocols.Kerberos at in_hand)
    in_kerberos_runs protocols.Ntlm v args c at in_hand =
        answers_runs (record (without_ntlm v) { hand = protocols.Kerberos; need = true }) args protocols.Kerberos at refl

    kerberos_by : (b : Bool) (v : Values) (args : StepArgs) (c : Course) → v.state ≡ states.InProgress →
        Told v (if b then Some (record (course_of ip v) { hand = protocols.Kerberos; packages = record v.packages { ntlm = false } })
        else None) c v.hand
        (if b then in_kerberos v.hand (handed_response token envelope check) (without_ntlm v) args else Stops v InvalidToken)
    kerberos_by true v args c at = in_kerberos_runs v.hand v args c at refl
    kerberos_by false v args c at = tt

    kerberos_runs : (v : Values) (args : StepArgs) (c : Course) → v.state ≡ states.InProgress →
        Told v (chooses (Some kinds.Kerberos) (course_of ip v)) c v.hand
        (chooses_kerberos (handed_response token envelope check) v args)
    unfolding chooses_kerberos
    kerberos_runs v args c at = kerberos_by v.packages.kerberos v args c at

    ntlm_by : (b : Bool) (need : Bool) (v : Values) (args : StepArgs) (c : Course) → v.state ≡ states.InProgress →
        Told v (if b then Some (record (course_of ip v) { hand = protocols.Ntlm; packages = record v.packages { kerberos = false } })
        else None) c v.hand
        (if b then in_ntlm v.hand v.computer (answers (handed_response token envelope check) (record v {
          hand = protocols.Ntlm;
          packages = record v.packages { kerberos = false };
          need = need;
        }) args) else Stops v InvalidToken)
    ntlm_by true need v args c at = in_ntlm_runs ip (spelled_list v.list) _ v.hand v.computer _ _ false
        (answers_runs (record v { hand = protocols.Ntlm; packages = record v.packages { kerberos = false }; need = need }) args
        protocols.Ntlm at refl)
    ntlm_by false need v args c at = tt

    ntlm_runs : (v : Values) (args : StepArgs) (c : Course) → v.state ≡ states.InProgress →
        Told v (chooses (Some kinds.Ntlm) (course_of ip v)) c v.hand (chooses_ntlm (handed_response token envelope check) v args)
    unfolding chooses_ntlm
    ntlm_runs v args c at = ntlm_by v.packages.ntlm (not (is_guest args.handle)) v args c at

    chosen_runs : (kind : Option MechKind) (v : Values) (args : StepArgs) (c : Course) → v.state ≡ states.InProgress →
        Told v (chooses kind (course_of ip v)) c v.hand (chosen kind (handed_response token envelope check) v args)
    chosen_runs None v args c at = answers_runs v args v.hand at refl
    chosen_runs (Some kinds.MsKerberos) v args c at = kerberos_runs v args c at
    chosen_runs (Some kinds.Kerberos) v args c at = kerberos_runs v args c at
    chosen_runs (Some kinds.Ntlm) v args c at = ntlm_runs v args c at
    chosen_runs (Some kinds.Other) v args c at = tt

    progress_runs : (v : Values) (args : StepArgs) (c : Course) → v.state ≡ states.InProgress →
        targ_of args.input ≡ Some (handed_response token envelope check) →
        Told v (chooses (option_map kind_of token.supported_mech) (course_of ip v)) c v.hand (client_at states.InProgress v args)
    unfolding client_at
    progress_runs v args c at read = subst (λ (o : Option NegTokenTarg).
        Told v (chooses (option_map kind_of token.supported_mech) (course_of ip v)) c v.hand (at_progress o v args)) (sym read)
        (chosen_runs (option_map kind_of token.supported_mech) v args c at)

    answer_by : (b : Bool) (v : Values) (args : StepArgs) (c : Course) → v.kdcs ≡ [] → v.state ≡ states.InProgress →
        targ_of args.input ≡ Some (handed_response token envelope check) →
        Told v (chooses (option_map kind_of token.supported_mech) (addressed_if b (course_of ip v))) c v.hand
        (if b then in_ntlm v.hand v.computer (with_handle (by_address v) args) else with_handle v args)
    answer_by true v args c empty at read = in_ntlm_runs ip (spelled_list v.list) _ v.hand v.computer _ _ false
        (state_runs ip (spelled_list v.list) _ _ false states.InProgress (by_address v) args protocols.Ntlm empty at
        (λ kept. progress_runs (record (by_address v) { kept = kept }) args c at read))
    answer_by false v args c empty at read =
        state_runs ip (spelled_list v.list) _ _ false states.InProgress v args v.hand empty at
        (λ kept. progress_runs (record v { kept = kept }) args c at read)

  -- once the mechanism has ended
  last_runs : (mic : Option (List ℕ)) (v : Values) (held : Protocol) → v.state ≡ states.VerifyMic →
      Runs ip (spelled_list v.list) (after ip v) None true held (last_mic mic v)
  last_runs None v held at = (refl, ap (λ (s : NegotiateState). record (course_of ip v) { state = s }) at)
  last_runs (Some mic) v held at =
      verifies_runs ip (spelled_list v.list) (after ip v) mic (spelled_list v.list) v _ true held refl (refl, refl)

  confirmed_runs : (token : NegTokenTarg) (v : Values) (held : Protocol) → v.state ≡ states.VerifyMic →
      Runs ip (spelled_list v.list) (after ip v) None true held (confirmed token v)
  confirmed_runs token v held at = either_runs ip (spelled_list v.list) (after ip v) (is_complete token.neg_result) _ _ None true held
      (λ on. last_runs token.mech_list_mic v held at) (λ off. tt)

  verify_runs : (token : NegTokenTarg) (v : Values) (args : StepArgs) (held : Protocol) → v.state ≡ states.VerifyMic →
      targ_of args.input ≡ Some token →
      Runs ip (spelled_list v.list) (after ip v) None true held (client_at states.VerifyMic v args)
  unfolding client_at
  verify_runs token v args held at read = subst (λ (o : Option NegTokenTarg).
      Runs ip (spelled_list v.list) (after ip v) None true held (at_verify_mic o v)) (sym read) (confirmed_runs token v held at)

  confirm_by : (b : Bool) (token : NegTokenTarg) (v : Values) (args : StepArgs) → v.kdcs ≡ [] → v.state ≡ states.VerifyMic →
      targ_of args.input ≡ Some token →
      Runs ip (spelled_list v.list) (λ ended status. go_on ended status (addressed_if b (course_of ip v))) None true v.hand
      (if b then in_ntlm v.hand v.computer (with_handle (by_address v) args) else with_handle v args)
  confirm_by true token v args empty at read =
      in_ntlm_runs ip (spelled_list v.list) (after ip (by_address v)) v.hand v.computer _ _ true
      (state_runs ip (spelled_list v.list) (after ip (by_address v)) None true states.VerifyMic (by_address v) args protocols.Ntlm empty at
      (λ kept. verify_runs token (record (by_address v) { kept = kept }) args protocols.Ntlm at read))
  confirm_by false token v args empty at read =
      state_runs ip (spelled_list v.list) (after ip v) None true states.VerifyMic v args v.hand empty at
      (λ kept. verify_runs token (record v { kept = kept }) args v.hand at read)

pub answer_stepped : AnswerIsStepped
answer_stepped = λ ip v args token envelope verified empty at read.
    either_runs ip (spelled_list v.list) _ (is_closed v.role v.state v.branch) _ _ _ false v.hand (λ closed. tt)
    (λ open_to. answer_by ip token envelope verified (ip && v.packages.ntlm) v args (course_of ip v) empty at read)

pub confirmation_verified : ConfirmationIsVerified
confirmation_verified = λ ip v args token envelope verified empty at read.
    either_runs ip (spelled_list v.list) _ (is_closed v.role v.state v.branch) _ _ _ true v.hand (λ closed. tt)
    (λ open_to. confirm_by ip (ip && v.packages.ntlm) (handed_response token envelope verified) v args empty at read)
