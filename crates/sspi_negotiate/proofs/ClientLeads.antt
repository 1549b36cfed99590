-- The client's rows, with each way in which they may end: a fact of its steps is a record of cases.
use Rattle.std.proofs.Common.{◌≡◌, ◌⊎◌, inl, inr, ◌&&◌, not, ℕ, Bool, true, false, List, [], Option, None, Some, option_map}
use Rattle.std.proofs.Common.{option_and_then, cond, refl, ap}
use Rattle.sspi_types.specs.declared.error.Error.{Error}
use Rattle.sspi_types.specs.declared.error_kind.ErrorKind.{ErrorKind}
use Rattle.sspi_types.specs.declared.error_kind.ErrorKind.TheVariants.{InternalError, InvalidParameter, InvalidToken, OutOfSequence}
use Rattle.sspi_types.specs.declared.security_status.SecurityStatus.TheVariants as statuses
use Rattle.sspi_names.specs.Identity.{buffers_of, identity_of}
use Rattle.sspi_names.specs.Name.{domain_of}
use Rattle.sspi_names.specs.declared.credentials.CredentialsBuffers.{CredentialsBuffers}
use Rattle.sspi_names.specs.declared.credentials.CredentialsBuffers.TheVariants.{AuthIdentity}
use Rattle.sspi_names.specs.declared.identity.AuthIdentity.{AuthIdentity as Identity}
use Rattle.sspi_names.specs.declared.identity.AuthIdentityBuffers.{AuthIdentityBuffers}
use Rattle.sspi_names.specs.declared.network.NetworkRequest.{NetworkRequest}
use Rattle.sspi_mech.specs.declared.step.Answer.{Answer}
use Rattle.sspi_mech.specs.declared.step.Answer.TheVariants.{Done, Ask, Refused}
use Rattle.sspi_mech.specs.declared.step.Reply.{Reply}
use Rattle.sspi_mech.specs.declared.step.Step.{Step}
use Rattle.sspi_mech.specs.Calls.{StepArgs}
use Rattle.sspi_mech.specs.Meaning.{Meaning}
use Rattle.sspi_tokens.specs.declared.neg_token_targ.NegTokenTarg.{NegTokenTarg}
use Rattle.sspi_tokens.specs.declared.oid.MechKind.{MechKind}
use Rattle.sspi_tokens.specs.declared.oid.MechKind.TheVariants as kinds
use Rattle.sspi_tokens.specs.Oids.{kind_of}
use Rattle.sspi_tokens.specs.Reading.{targ_of}
use Rattle.sspi_tokens.specs.Spelling.{spelled_init, spelled_list}
use Rattle.sspi_negotiate.specs.declared.branch.Branch.{Branch}
use Rattle.sspi_negotiate.specs.declared.branch.Branch.TheVariants.{Idle, Opening, Answering}
use Rattle.sspi_negotiate.specs.declared.branch.Opening.{Opening as FirstStep}
use Rattle.sspi_negotiate.specs.declared.protocol.Protocol.{Protocol}
use Rattle.sspi_negotiate.specs.declared.protocol.Protocol.TheVariants as protocols
use Rattle.sspi_negotiate.specs.declared.state.NegotiateState.{NegotiateState}
use Rattle.sspi_negotiate.specs.declared.state.NegotiateState.TheVariants as states
use Rattle.sspi_negotiate.specs.Choices.{protocol_of, chosen_by, chosen_in}
use Rattle.sspi_negotiate.specs.Client.{begun, has_begun, offers, steps_again, falls_back, falls, first_step, at_initial}
use Rattle.sspi_negotiate.specs.Client.{verified, unprotected, settles, is_ok, stepped, answers, in_kerberos, chooses_kerberos}
use Rattle.sspi_negotiate.specs.Client.{chooses_ntlm, chosen, at_progress, last_mic, at_verify_mic, client_at}
use Rattle.sspi_negotiate.specs.Client.{ruled, keeps, passwords_of, converts, with_handle, is_closed, spnego_client}
use Rattle.sspi_negotiate.specs.Client.{resumes_opening, resumes_answering, resumed_at, spnego_resumed, is_guest}
use Rattle.sspi_negotiate.specs.Fallback.{is_fallback}
use Rattle.sspi_negotiate.specs.Hand.{Origin, is_kerberos_hand, is_ntlm_hand}
use Rattle.sspi_negotiate.specs.Pick.{offered}
use Rattle.sspi_negotiate.specs.Rows.{client_wants_mic, is_complete}
use Rattle.sspi_negotiate.specs.Rule.{url_for, rule_url, ruled_values}
use Rattle.sspi_negotiate.specs.Values.{Values}
use Rattle.sspi_negotiate.specs.Verified.{Leaves, as_it_was, IsVerified}
use Rattle.sspi_negotiate.proofs.Leads.{Leads, AtRefusal, Comes, by_itself, bad_token, bad_order, bad_handle, unwritten}
use Rattle.sspi_negotiate.proofs.Leads.{goes, stops, takes, steps, resumes, either}
use Rattle.sspi_negotiate.proofs.RowLeads.{written_leads, in_ntlm_leads, verifies_leads, completes_leads, signed_leads, carries_on_leads}

-- how the rest may end after the mechanism's step: its first one, where Opens holds of the values,
-- or a later one, where Good does
pub record EndCases {M : Type 0} (c : Meaning Origin M) (R : M → Answer → Values → Type 0) (Opens Good : Values → Type 0) : Type 0 where
  -- the list is offered, or the step is refused
  pub offers : (m : M) (v : Values) (token text : List ℕ) →
      spelled_init (record { mech_types = Some (offered v.hand v.packages); mech_token = Some token }) ≡ Some text → Opens v →
      R m (Done (record { status = statuses.ContinueNeeded; output = text }))
      (record v { state = states.InProgress; list = offered v.hand v.packages })
  pub unopened : (m : M) (v : Values) (branch : Branch) (error : Error) → Comes c error.error_type → Opens v →
      R m (Refused error) (record v { branch = branch })
  -- it is refused, goes on, sends a MIC and awaits the peer's, or ends: a needed MIC is verified
  pub refuses : (m : M) (v : Values) (branch : Branch) (error : Error) → Comes c error.error_type → Good v →
      R m (Refused error) (record v { branch = branch })
  pub goes_on : (m : M) (v : Values) (step : Step) → is_ok step.status ≡ false → Good v → R m (Done step) v
  pub hands_mic : (m : M) (v : Values) (output : List ℕ) → Good v →
      R m (Done (record { status = statuses.ContinueNeeded; output = output })) (record v { state = states.VerifyMic })
  pub is_over : (m : M) (v : Values) (output : List ℕ) → (v.need ≡ false) ⊎ IsVerified c v.list m → Good v →
      R m (Done (record { status = statuses.Ok; output = output })) (record v { state = states.Ok })

-- the mechanism's step: it may wait for a KDC, and NTLM may make the first one instead of Kerberos
pub record StepCases {M : Type 0} (c : Meaning Origin M) (R : M → Answer → Values → Type 0) (Opens Good : Values → Type 0) : Type 0 where
  pub after : EndCases c R Opens Good
  pub opening : (m : M) (v : Values) (first : FirstStep) (q : NetworkRequest) → Opens v → R m (Ask q) (record v { branch = Opening first })
  pub falls : (v : Values) → v.packages.ntlm ≡ true → Opens v →
      Opens (record v { hand = protocols.Ntlm; packages = record v.packages { kerberos = false } })
  pub answering : (m : M) (v : Values) (token : NegTokenTarg) (q : NetworkRequest) → Good v →
      R m (Ask q) (record v { branch = Answering token })

-- a call with these arguments: what comes before the row of the state, where Before holds, and what the server's choice changes
pub record ClientCases {M : Type 0} (c : Meaning Origin M) (args : StepArgs) (R : M → Answer → Values → Type 0)
    (Before Opens Good : Values → Type 0) : Type 0 where
  pub step : StepCases c R Opens Good
  pub addressed : (v : Values) → v.packages.ntlm ≡ true → Before v →
      Before (record v { hand = protocols.Ntlm; packages = record v.packages { kerberos = false } })
  pub kept : (v : Values) (kept : Option CredentialsBuffers) → Before v → Before (record v { kept = kept })
  pub ruled : (v : Values) → v.packages.kerberos ≡ true → Before v → Before (record v { hand = protocols.Kerberos })
  pub unready : (m : M) (v : Values) (error : Error) → Comes c error.error_type → Before v → R m (Refused error) v
  pub opens : (v : Values) → v.state ≡ states.Initial → Before v → Opens (record v { need = client_wants_mic args.requirements })
  pub unchosen : (v : Values) → v.state ≡ states.InProgress → chosen_in args.input ≡ None → Before v → Good v
  pub kerberos : (v : Values) → v.state ≡ states.InProgress → chosen_in args.input ≡ Some protocols.Kerberos →
      v.packages.kerberos ≡ true → v.hand ≡ protocols.Kerberos → Before v → Good (record v { packages = record v.packages { ntlm = false } })
  pub to_kerberos : (v : Values) → v.state ≡ states.InProgress → chosen_in args.input ≡ Some protocols.Kerberos →
      v.packages.kerberos ≡ true → Before v →
      Good (record v { packages = record v.packages { ntlm = false }; hand = protocols.Kerberos; need = true })
  pub to_ntlm : (v : Values) → v.state ≡ states.InProgress → chosen_in args.input ≡ Some protocols.Ntlm → v.packages.ntlm ≡ true →
      Before v → Good (record v {
        hand = protocols.Ntlm;
        packages = record v.packages { kerberos = false };
        need = not (is_guest args.handle);
      })
  pub confirms : (v : Values) → v.state ≡ states.VerifyMic → Before v → Good v

pub and_last : (a b : Bool) → a && b ≡ true → b ≡ true
and_last true b h = h
and_last false b h = absurd (cc (h))

-- ---- what comes after the mechanism's step

module _ {M : Type 0} (c : Meaning Origin M) (R : M → Answer → Values → Type 0) (Opens Good : Values → Type 0)
    (cases : EndCases c R Opens Good) where
  unopened_at : (v : Values) → Opens v → AtRefusal c R v
  unopened_at v g m error comes = cases.unopened m v v.branch error comes g

  refused_at : (v : Values) → Good v → AtRefusal c R v
  refused_at v g m error comes = cases.refuses m v v.branch error comes g

  pub begun_leads : (v : Values) (step : Step) (m : M) → Opens v → Leads c R (begun v step) m
  unfolding offers
  begun_leads v step m g = either c R (has_begun step.status) _ _ m
      (λ on. written_leads c R _ v _ _ m (unopened_at v g) (λ text is. cases.offers m v step.output text is g))
      (λ off. stops c R v InternalError m (by_itself (unwritten refl)) (unopened_at v g))

  verified_leads : (complete : Bool) (v : Values) (token : List ℕ) (m : M) → ((m2 : M) → Leaves c m m2 → IsVerified c v.list m2) →
      Good v → Leads c R (verified complete v token) m
  verified_leads true v token m seen g = goes c R _ _ m (cases.is_over m v [] (inr (seen m (as_it_was refl))) g)
  verified_leads false v token m seen g = signed_leads c R _ states.Ok statuses.Ok v token m (refused_at v g)
      (λ m1 left output. cases.is_over m1 v output (inr (seen m1 left)) g)

  unprotected_leads : (complete : Bool) (v : Values) (token : List ℕ) (m : M) → v.need ≡ false → Good v →
      Leads c R (unprotected complete v token) m
  unprotected_leads true v token m off g = goes c R _ _ m (cases.is_over m v [] (inl off) g)
  unprotected_leads false v token m off g = completes_leads c R v token v.need m (refused_at v g)
      (λ output. cases.is_over m v output (inl off) g)

  settles_leads : (need : Bool) (mic : Option (List ℕ)) (complete : Bool) (v : Values) (token : List ℕ) (m : M) → v.need ≡ need →
      Good v → Leads c R (settles need mic complete v token) m
  settles_leads false mic complete v token m off g = unprotected_leads complete v token m off g
  settles_leads true (Some mic) complete v token m on g = verifies_leads c R mic (spelled_list v.list) v _ m refl (refused_at v g)
      (λ m1 seen. verified_leads complete v token m1 seen g)
  settles_leads true None complete v token m on g = signed_leads c R _ states.VerifyMic statuses.ContinueNeeded v token m (refused_at v g)
      (λ m1 left output. cases.hands_mic m1 v output g)

  pub stepped_leads : (token : NegTokenTarg) (v : Values) (step : Step) (m : M) → Good v → Leads c R (stepped token v step) m
  stepped_leads token v step m g = either c R (is_ok step.status) _ _ m
      (λ over. settles_leads v.need token.mech_list_mic (is_complete token.neg_result) v step.output m refl g)
      (λ on. carries_on_leads c R v step.output step.status m (refused_at v g) (λ output. cases.goes_on m v _ on g))

  last_mic_leads : (mic : Option (List ℕ)) (v : Values) (m : M) → Good v → Leads c R (last_mic mic v) m
  last_mic_leads None v m g = goes c R v _ m (cases.goes_on m v _ refl g)
  last_mic_leads (Some mic) v m g = verifies_leads c R mic (spelled_list v.list) v _ m refl (refused_at v g)
      (λ m1 seen. goes c R _ _ m1 (cases.is_over m1 v [] (inr (seen m1 (as_it_was refl))) g))

  at_verify_mic_leads : (o : Option NegTokenTarg) (v : Values) (m : M) → Good v → Leads c R (at_verify_mic o v) m
  at_verify_mic_leads None v m g = stops c R v InvalidToken m (by_itself (bad_token refl)) (refused_at v g)
  at_verify_mic_leads (Some token) v m g = either c R (is_complete token.neg_result) _ _ m
      (λ yes. last_mic_leads token.mech_list_mic v m g)
      (λ refuse. stops c R v InvalidToken m (by_itself (bad_token refl)) (refused_at v g))

-- ---- the mechanism's step

module _ {M : Type 0} (c : Meaning Origin M) (R : M → Answer → Values → Type 0) (Opens Good : Values → Type 0)
    (cases : StepCases c R Opens Good) where
  again_leads : (v : Values) (first : FirstStep) (m : M) → Opens v → Leads c R (steps_again v first) m
  unfolding steps_again
  again_leads v first m g = steps c R _ _ _ _ m (λ m1 q. cases.opening m1 v first q g)
      (λ m1 step. begun_leads c R Opens Good cases.after v step m1 g)
      (λ m1 kind comes. stops c R v kind m1 comes (unopened_at c R Opens Good cases.after v g))

  falls_leads : (w v : Values) (first : FirstStep) (kind : ErrorKind) (m : M) → Comes c kind → AtRefusal c R w → Opens v →
      Leads c R (falls w v first kind) m
  unfolding falls_back
  falls_leads w v first kind m comes refuse g = either c R (is_fallback kind && is_kerberos_hand v.hand && v.packages.ntlm) _ _ m
      (λ h. takes c R _ _ m (λ m1. again_leads _ first m1
      (cases.falls v (and_last (is_fallback kind && is_kerberos_hand v.hand) v.packages.ntlm h) g)))
      (λ off. stops c R w kind m comes refuse)

  first_leads : (first : FirstStep) (v : Values) (args : StepArgs) (m : M) → Opens v → Leads c R (first_step first v args) m
  unfolding first_step
  first_leads first v args m g = steps c R _ _ _ _ m (λ m1 q. cases.opening m1 v first q g)
      (λ m1 step. begun_leads c R Opens Good cases.after v step m1 g)
      (λ m1 kind comes. falls_leads v v first kind m1 comes (unopened_at c R Opens Good cases.after v g) g)

  answers_leads : (token : NegTokenTarg) (v : Values) (args : StepArgs) (m : M) → Good v → Leads c R (answers token v args) m
  unfolding answers
  answers_leads token v args m g = steps c R _ _ _ _ m (λ m1 q. cases.answering m1 v token q g)
      (λ m1 step. stepped_leads c R Opens Good cases.after token v step m1 g)
      (λ m1 kind comes. stops c R v kind m1 comes (refused_at c R Opens Good cases.after v g))

  resumed_at_leads : (branch : Branch) (v : Values) (reply : Reply) (m : M) → AtRefusal c R v →
      ((first : FirstStep) → branch ≡ Opening first → Opens (record v { branch = Idle })) →
      ((token : NegTokenTarg) → branch ≡ Answering token → Good (record v { branch = Idle })) → Leads c R (resumed_at branch v reply) m
  unfolding resumes_opening resumes_answering
  resumed_at_leads Idle v reply m refuse first later = stops c R v OutOfSequence m (by_itself (bad_order refl)) refuse
  resumed_at_leads (Opening opening) v reply m refuse first later =
      let g = first opening refl in
      resumes c R _ _ _ _ m (λ m1 q. cases.opening m1 (record v { branch = Idle }) opening q g)
      (λ m1 step. begun_leads c R Opens Good cases.after (record v { branch = Idle }) step m1 g)
      (λ m1 kind comes. falls_leads _ _ opening kind m1 comes
      (λ m2 error why. cases.after.unopened m2 (record v { branch = Idle }) (Opening opening) error why g) g)
  resumed_at_leads (Answering token) v reply m refuse first later =
      let g = later token refl in
      resumes c R _ _ _ _ m (λ m1 q. cases.answering m1 (record v { branch = Idle }) token q g)
      (λ m1 step. stepped_leads c R Opens Good cases.after token (record v { branch = Idle }) step m1 g)
      (λ m1 kind comes. stops c R _ kind m1 comes
      (λ m2 error why. cases.after.refuses m2 (record v { branch = Idle }) (Answering token) error why g))

  -- a step goes on once a KDC has replied; if none waits, it is refused and leaves all as it was
  pub resumed_leads : (v : Values) (reply : Reply) (m : M) → AtRefusal c R v →
      ((first : FirstStep) → v.branch ≡ Opening first → Opens (record v { branch = Idle })) →
      ((token : NegTokenTarg) → v.branch ≡ Answering token → Good (record v { branch = Idle })) → Leads c R (spnego_resumed v reply) m
  resumed_leads v reply m refuse first later = resumed_at_leads v.branch v reply m refuse first later

-- ---- a call

module _ {M : Type 0} (c : Meaning Origin M) (args : StepArgs) (R : M → Answer → Values → Type 0) (Before Opens Good : Values → Type 0)
    (cases : ClientCases c args R Before Opens Good) where
  unready_at : (v : Values) → Before v → AtRefusal c R v
  unready_at v g m error comes = cases.unready m v error comes g

  answered : (token : NegTokenTarg) (v : Values) (m : M) → Good v → Leads c R (answers token v args) m
  answered token v m g = answers_leads c R Opens Good cases.step token v args m g

  in_kerberos_leads : (protocol : Protocol) (token : NegTokenTarg) (v : Values) (m : M) → v.hand ≡ protocol →
      v.state ≡ states.InProgress → chosen_in args.input ≡ Some protocols.Kerberos → v.packages.kerberos ≡ true → Before v →
      Leads c R (in_kerberos protocol token (record v { packages = record v.packages { ntlm = false } }) args) m
  in_kerberos_leads protocols.Kerberos token v m is at chosen usable g = answered token _ m (cases.kerberos v at chosen usable is g)
  in_kerberos_leads protocols.Ntlm token v m is at chosen usable g =
      takes c R _ _ m (λ m1. answered token _ m1 (cases.to_kerberos v at chosen usable g))

  kerberos_leads : (token : NegTokenTarg) (v : Values) (m : M) → v.state ≡ states.InProgress →
      chosen_in args.input ≡ Some protocols.Kerberos → Before v → Leads c R (chooses_kerberos token v args) m
  unfolding chooses_kerberos
  kerberos_leads token v m at chosen g = either c R v.packages.kerberos _ _ m
      (λ usable. in_kerberos_leads v.hand token v m refl at chosen usable g)
      (λ off. stops c R v InvalidToken m (by_itself (bad_token refl)) (unready_at v g))

  ntlm_leads : (token : NegTokenTarg) (v : Values) (m : M) → v.state ≡ states.InProgress →
      chosen_in args.input ≡ Some protocols.Ntlm → Before v → Leads c R (chooses_ntlm token v args) m
  unfolding chooses_ntlm
  ntlm_leads token v m at chosen g = either c R v.packages.ntlm _ _ m
      (λ usable. in_ntlm_leads c R v.hand v.computer _ m (λ m1. answered token _ m1 (cases.to_ntlm v at chosen usable g)))
      (λ off. stops c R v InvalidToken m (by_itself (bad_token refl)) (unready_at v g))

  chosen_leads : (o : Option MechKind) (token : NegTokenTarg) (v : Values) (m : M) →
      chosen_in args.input ≡ option_and_then protocol_of o → v.state ≡ states.InProgress → Before v → Leads c R (chosen o token v args) m
  chosen_leads None token v m is at g = answered token v m (cases.unchosen v at is g)
  chosen_leads (Some kinds.MsKerberos) token v m is at g = kerberos_leads token v m at is g
  chosen_leads (Some kinds.Kerberos) token v m is at g = kerberos_leads token v m at is g
  chosen_leads (Some kinds.Ntlm) token v m is at g = ntlm_leads token v m at is g
  chosen_leads (Some kinds.Other) token v m is at g = stops c R v InvalidToken m (by_itself (bad_token refl)) (unready_at v g)

  at_progress_leads : (o : Option NegTokenTarg) (v : Values) (m : M) → targ_of args.input ≡ o → v.state ≡ states.InProgress →
      Before v → Leads c R (at_progress o v args) m
  at_progress_leads None v m read at g = stops c R v InvalidToken m (by_itself (bad_token refl)) (unready_at v g)
  at_progress_leads (Some token) v m read at g =
      chosen_leads (option_map kind_of token.supported_mech) token v m (ap chosen_by read) at g

  client_at_leads : (state : NegotiateState) (v : Values) (m : M) → v.state ≡ state → Before v → Leads c R (client_at state v args) m
  unfolding client_at at_initial
  client_at_leads states.Initial v m at g = first_leads c R Opens Good cases.step _ _ args m (cases.opens v at g)
  client_at_leads states.InProgress v m at g = at_progress_leads (targ_of args.input) v m refl at g
  client_at_leads states.VerifyMic v m at g = at_verify_mic_leads c R Opens Good cases.step.after (targ_of args.input) v m
      (cases.confirms v at g)
  client_at_leads states.Ok v m at g = stops c R v OutOfSequence m (by_itself (bad_order refl)) (unready_at v g)

  ruled_leads : (url : Option (List ℕ)) (v : Values) (m : M) → Before v → Before (ruled_values url v) → Leads c R (ruled url v args) m
  ruled_leads None v m g h = client_at_leads v.state v m refl g
  ruled_leads (Some url) v m g h = takes c R _ _ m (λ m1. client_at_leads v.state _ m1 refl h)

  ruled_good : (b : Bool) (v : Values) (url : Option (List ℕ)) → (b ≡ true → v.packages.kerberos ≡ true) → Before v →
      Before (ruled_values (cond b url None) v)
  ruled_good false v url h g = g
  ruled_good true v None h g = g
  ruled_good true v (Some url) h g = cases.ruled v (h refl) g

  keeps_leads : (o : Option Identity) (v : Values) (m : M) → Before v → Leads c R (keeps o v args) m
  unfolding keeps
  keeps_leads None v m g = stops c R v InvalidParameter m (by_itself (bad_handle refl)) (unready_at v g)
  keeps_leads (Some identity) v m g =
      let held = cases.kept v (Some (AuthIdentity (buffers_of identity))) g in
      ruled_leads (rule_url v identity.username) _ m held
      (ruled_good (is_ntlm_hand v.hand && v.packages.kerberos) _ (url_for v.kdcs (domain_of identity.username))
      (λ h. and_last (is_ntlm_hand v.hand) v.packages.kerberos h) held)

  converts_leads : (o : Option AuthIdentityBuffers) (v : Values) (m : M) → Before v → Leads c R (converts o v args) m
  converts_leads None v m g = client_at_leads v.state v m refl g
  converts_leads (Some buffers) v m g = keeps_leads (identity_of buffers) v m g

  handle_leads : (v : Values) (m : M) → Before v → Leads c R (with_handle v args) m
  unfolding with_handle
  handle_leads v m g = converts_leads (passwords_of args.handle) v m g

  -- a refusal that comes first leaves all as it was
  pub client_leads : (ip : Bool) (v : Values) (m : M) → AtRefusal c R v → (is_closed v.role v.state v.branch ≡ false → Before v) →
      Leads c R (spnego_client ip v args) m
  client_leads ip v m refuse opened = either c R (is_closed v.role v.state v.branch) _ _ m
      (λ closed. stops c R v OutOfSequence m (by_itself (bad_order refl)) refuse)
      (λ h. either c R (ip && v.packages.ntlm) _ _ m
      (λ yes. in_ntlm_leads c R v.hand v.computer _ m
      (λ m1. handle_leads _ m1 (cases.addressed v (and_last ip v.packages.ntlm yes) (opened h))))
      (λ other. handle_leads v m (opened h)))
