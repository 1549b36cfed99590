-- What a call of an end gives out follows from what the host reported in it.
use Rattle.std.proofs.Common.{◌≡◌, ◌≢◌, ℕ, List, Bool, true, false, Option, None, Some, Result, Ok, Err, refl, sym, ◌∙◌, ap, subst}
use Rattle.std.proofs.Common.{if◌then◌else◌, ◌++◌}
use Rattle.sspi_types.specs.declared.error.Error.{Error}
use Rattle.sspi_types.specs.declared.security_status.SecurityStatus.{SecurityStatus}
use Rattle.sspi_types.specs.declared.security_status.SecurityStatus.TheVariants as statuses
use Rattle.sspi_names.specs.declared.identity.AuthIdentity.{AuthIdentity}
use Rattle.sspi_tsreq.specs.declared.request.TsRequest.{TsRequest}
use Rattle.sspi_negotiate.specs.declared.protocol.NegotiatedProtocol.{NegotiatedProtocol}
use Rattle.sspi_negotiate.specs.declared.protocol.NegotiatedProtocol.TheVariants as hands
use Rattle.sspi_negotiate.specs.Hand.{hand}
use Rattle.sspi_credssp.specs.Acts.{OpensIn}
use Rattle.sspi_credssp.specs.ClientTurn.{ClientGoes}
use Rattle.sspi_credssp.specs.Ends.{ClientView, ServerView, ClientSettings, ServerSettings}
use Rattle.sspi_credssp.specs.Exchange.{OpensIdentity, opens_identity, prescribed}
use Rattle.sspi_credssp.specs.Proxy.{ProxyMeaning}
use Rattle.sspi_credssp.specs.Requests.{nonce_of}
use Rattle.sspi_credssp.specs.ServerTurn.{HoldsIdentity, ServerGoes, ServerTurn, server_state_after, after_reply, after_status}
use Rattle.sspi_credssp.specs.Turn.{AtNoted, Proven}
use Rattle.sspi_credssp.specs.declared.client_state.ClientState.TheVariants as client
use Rattle.sspi_credssp.specs.declared.client_state.Progress.{Progress}
use Rattle.sspi_credssp.specs.declared.client_state.Progress.TheVariants.{Suspended, Completed}
use Rattle.sspi_credssp.specs.declared.context.SspiContext.TheVariants as contexts
use Rattle.sspi_credssp.specs.declared.public_key.EndpointType.TheVariants.{Client, Server}
use Rattle.sspi_credssp.specs.declared.server_state.ServerError.{ServerError}
use Rattle.sspi_credssp.specs.declared.server_state.ServerState.{ServerState}
use Rattle.sspi_credssp.specs.declared.server_state.ServerState.TheVariants as server
use Rattle.sspi_credssp.specs.declared.state.CredSspState.{CredSspState}
use Rattle.sspi_credssp.specs.declared.state.CredSspState.TheVariants as state
use Rattle.sspi_credssp.specs.declared.turn.Outcome.{Outcome}
use Rattle.sspi_credssp.specs.declared.turn.Outcome.TheVariants as outcome
use Rattle.sspi_outside.specs.Envelope.{no_tag, text_in}
use Rattle.sspi_outside.specs.Hosting.{client_last, closed, handed, owed_of, server_last, shown}
use Rattle.sspi_outside.specs.Outside.{OutsideState, outside_meaning}
use Rattle.sspi_outside.specs.Reported.{Hosted, hosted, OpenedServerProof, OpenedClientProof, OpenedIdentity, CredentialsFollowTheProof}
use Rattle.sspi_outside.specs.Reported.{ServerProofFollowsTheProof, CredentialsAreAwaitedOnceProved, IdentityIsReported}
use Rattle.sspi_outside.specs.Reported.{IdentityWasReported}
use Rattle.sspi_outside.specs.declared.last.Last.{Last}
use Rattle.sspi_outside.specs.declared.last.Last.TheVariants.{Finished}
use Rattle.sspi_outside.specs.declared.last.Owed.TheVariants as owed
use Rattle.sspi_outside.proofs.Texts.{closed_has_none, text_shown}

-- ---- what such a context opens is what was reported

opens_by : (it : NegotiatedProtocol OutsideState OutsideState) (n : ℕ) (blob text : List ℕ) →
    (hand outside_meaning outside_meaning).opens it n blob text → text_in blob ≡ Some text
opens_by (hands.Kerberos m) n blob text opens = opens
opens_by (hands.Ntlm m) n blob text opens = opens

opens_text : (m : Hosted) (n : ℕ) (blob text : List ℕ) → hosted.opens m n blob text → text_in blob ≡ Some text
opens_text (contexts.Negotiate m) n blob text opens = opens_by m.mech n blob text opens
opens_text (contexts.Kerberos m) n blob text opens = opens
opens_text (contexts.Ntlm m) n blob text opens = opens

shown_text : (m : Hosted) (n : ℕ) (reported : Option (List ℕ)) (blob text came : List ℕ) → shown reported (Some came) ≡ Some blob →
    hosted.opens m n blob text → reported ≡ Some text
shown_text m n None blob text came is opens =
    let none : text_in (closed came) ≡ None = closed_has_none came in
    let some : text_in blob ≡ Some text = opens_text m n blob text opens in
    absurd (cc (is, none, some))
shown_text m n (Some told) blob text came is opens =
    let same : text_in (no_tag ++ told) ≡ Some told = text_shown told in
    let some : text_in blob ≡ Some text = opens_text m n blob text opens in
    cc

opened_text : (context : Option Hosted) (n : ℕ) (reported came : Option (List ℕ)) (text : List ℕ) →
    OpensIn hosted context n (shown reported came) text → reported ≡ Some text
opened_text None n reported came text opens = absurd opens
opened_text (Some m) n reported None text opens = absurd opens
opened_text (Some m) n None (Some came) text opens = shown_text m n None (closed came) text came refl opens
opened_text (Some m) n (Some told) (Some came) text opens = shown_text m n (Some told) (no_tag ++ told) text came refl opens

opened_identity : (m : Hosted) (reported : Option (List ℕ)) (blob came : List ℕ) (identity : AuthIdentity) →
    shown reported (Some came) ≡ Some blob → OpensIdentity hosted m blob identity → OpenedIdentity reported identity
opened_identity m reported blob came identity is (opens_identity text opens delegates) =
    (text, shown_text m _ reported blob text came is opens, delegates)

held_identity : (context : Option Hosted) (reported came : Option (List ℕ)) (identity : AuthIdentity) →
    HoldsIdentity hosted context (shown reported came) identity → OpenedIdentity reported identity
held_identity None reported came identity holds = absurd holds
held_identity (Some m) reported None identity holds = absurd holds
held_identity (Some m) None (Some came) identity holds = opened_identity m None (closed came) came identity refl holds
held_identity (Some m) (Some told) (Some came) identity holds = opened_identity m (Some told) (no_tag ++ told) came identity refl holds

at_noted : {P Q : ℕ → Type 0} (noted : Option ℕ) → ((version : ℕ) → P version → Q version) → AtNoted noted P → AtNoted noted Q
at_noted None to at = absurd at
at_noted (Some version) to at = to version at

-- ---- the client

was_sealed : (sealed : Bool) → (if sealed then owed.AuthInfo else owed.Neither) ≡ owed.AuthInfo → sealed ≡ true
was_sealed true owes = refl
was_sealed false owes = absurd (cc owes)

proof_is_none : (proved : Bool) → (if proved then owed.PubKeyAuth else owed.Neither) ≡ owed.AuthInfo → ⊥
proof_is_none true owes = cc
proof_is_none false owes = cc

only_final : (old new : ClientView Hosted) (d : TsRequest) (step : List ℕ) (proof credentials : Option (List ℕ))
    (answer : Result Progress Error) → ClientGoes hosted old (handed d step proof credentials) answer new →
    owed_of new.acts (client_last answer) ≡ owed.AuthInfo → OpenedServerProof old new.noted proof
only_final old new d step proof credentials (Ok (Suspended question)) goes owes = absurd (cc owes)
only_final old new d step proof credentials (Ok (Completed (client.ReplyNeeded message))) goes owes =
    absurd (proof_is_none new.acts.proved owes)
only_final old new d step proof credentials (Ok (Completed (client.FinalMessage message))) goes owes =
    at_noted new.noted (λ version opens.
    opened_text new.context _ proof d.pub_key_auth _ opens ∙
    ap (λ (s : ClientSettings). Some (prescribed Server version s.nonce s.public_key)) goes.moves.same)
    (goes.turn.held.sealed (was_sealed new.acts.sealed owes))
only_final old new d step proof credentials (Err error) goes owes = absurd (cc owes)

pub credentials_follow : CredentialsFollowTheProof
credentials_follow = λ old new d step proof credentials last reports owes.
    only_final old new d step proof credentials reports.1.answer reports.1.call.turn
    (subst (λ (l : Last). owed_of new.acts l ≡ owed.AuthInfo) reports.1.kept owes)

-- ---- the server

turn_of : {P : Type 0} (old new : ServerView Hosted P) (d : TsRequest) (answer : Result ServerState ServerError) →
    ServerGoes hosted old d answer new → (out : Outcome) × ServerTurn hosted old d out new
turn_of old new d (Ok (server.ReplyNeeded message)) goes = (outcome.Reply message, goes)
turn_of old new d (Ok (server.Finished identity)) goes = (outcome.Finished, goes.0)
turn_of old new d (Err refusal) goes = (outcome.Refused refusal.error.error_type refusal.ts_request, goes)

proven : {P : Type 0} (old new : ServerView Hosted P) (d : TsRequest) (step : List ℕ) (proof credentials : Option (List ℕ)) (n : ℕ) →
    new.settings ≡ old.settings →
    AtNoted new.noted (Proven hosted new.context n new.settings.public_key (handed d step proof credentials)) →
    AtNoted new.noted (OpenedClientProof old d proof)
proven old new d step proof credentials n same at = at_noted new.noted (λ version it. record {
  opened = opened_text new.context n proof d.pub_key_auth _ it.opens ∙
      ap (λ (s : ServerSettings). Some (prescribed Client version (nonce_of d.client_nonce) s.public_key)) same;
  nonce = it.nonce;
}) at

pub proof_follows : {P : Type 0} (p : ProxyMeaning P) → ServerProofFollowsTheProof p
proof_follows p = λ old new d step proof credentials last reports was.
    let it = turn_of old new (handed d step proof credentials) reports.1.answer reports.1.call.turn in
    proven old new d step proof credentials _ it.1.moves.same (it.1.turn.held.proved was)

-- a state that no proof led to
never_after : (status : Option SecurityStatus) → after_status status ≡ state.AuthInfo → ⊥
never_after (Some statuses.ContinueNeeded) is = cc
never_after other is = cc

never_replied : (before : CredSspState) (status : Option SecurityStatus) → before ≢ state.AuthInfo →
    after_reply before false status ≡ state.AuthInfo → ⊥
never_replied state.NegoToken status other is = never_after status is
never_replied state.PubKeyInfo status other is = other is
never_replied state.AuthInfo status other is = other is
never_replied state.Final status other is = other is

never_left : (before : CredSspState) (out : Outcome) (status : Option SecurityStatus) → before ≢ state.AuthInfo →
    server_state_after before out false status ≡ state.AuthInfo → ⊥
never_left before (outcome.Reply reply) status other is = never_replied before status other is
never_left before (outcome.Final reply) status other is = other is
never_left before outcome.Finished status other is = cc
never_left before (outcome.Refused kind reply) status other is = other is

must_prove : (before : CredSspState) (out : Outcome) (proved : Bool) (status : Option SecurityStatus) → before ≢ state.AuthInfo →
    server_state_after before out proved status ≡ state.AuthInfo → proved ≡ true
must_prove before out true status other is = refl
must_prove before out false status other is = absurd (never_left before out status other is)

pub awaits_once_proved : {P : Type 0} (p : ProxyMeaning P) → CredentialsAreAwaitedOnceProved p
awaits_once_proved p = λ old new d step proof credentials last reports is other.
    let it = turn_of old new (handed d step proof credentials) reports.1.answer reports.1.call.turn in
    must_prove old.state it.0 new.acts.proved new.acts.status other (sym it.1.moves.state ∙ is)

only_finished : {P : Type 0} (old new : ServerView Hosted P) (d : TsRequest) (step : List ℕ) (proof credentials : Option (List ℕ))
    (identity : AuthIdentity) (answer : Result ServerState ServerError) →
    ServerGoes hosted old (handed d step proof credentials) answer new → Finished identity ≡ server_last answer →
    IdentityWasReported old credentials identity
only_finished old new d step proof credentials identity (Ok (server.ReplyNeeded message)) goes is = absurd (cc is)
only_finished old new d step proof credentials identity (Ok (server.Finished other)) goes is =
    let same : identity ≡ other = cc in record {
      awaited = goes.0.turn.shown.reply.0;
      opened = subst (OpenedIdentity credentials) (sym same) (held_identity new.context credentials d.auth_info other goes.1);
    }
only_finished old new d step proof credentials identity (Err refusal) goes is = absurd (cc is)

pub identity_reported : {P : Type 0} (p : ProxyMeaning P) → IdentityIsReported p
identity_reported p = λ old new d step proof credentials identity reports.
    only_finished old new d step proof credentials identity reports.1.answer reports.1.call.turn reports.1.kept
