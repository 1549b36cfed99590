-- An undisturbed delegation is faithful: each turn is given what was written of the message before.
use Rattle.std.proofs.Common.{◌≡◌, ℕ, ◌<◌, ◌^◌, Bool, true, false, List, [], ◌∷◌, length, Option, None, Some, Ok, IfSome}
use Rattle.std.proofs.Common.{sym, ap, subst, refl, arith, if◌then◌else◌}
use Rattle.sspi_types.specs.declared.nstatus.NStatusCode.{NStatusCode}
use Rattle.sspi_types.specs.declared.security_status.SecurityStatus.{SecurityStatus}
use Rattle.sspi_types.specs.declared.security_status.SecurityStatus.TheVariants as statuses
use Rattle.sspi_mech.specs.Kerberos.{kerberos_meaning}
use Rattle.sspi_mech.specs.KerberosStage.{KerberosState}
use Rattle.sspi_mech.specs.Meaning.{Meaning}
use Rattle.sspi_mech.specs.Ntlm.{ntlm_meaning}
use Rattle.sspi_mech.specs.NtlmStage.{NtlmState}
use Rattle.sspi_tsreq.specs.declared.request.TsRequest.{TsRequest}
use Rattle.sspi_tsreq.specs.Grammar.{IsRequestValue, first_request}
use Rattle.sspi_tsreq.specs.Spelling.{carried, carries_code, carries_nonce}
use Rattle.sspi_credssp.specs.declared.context.SspiContext.{SspiContext}
use Rattle.sspi_credssp.specs.declared.state.CredSspState.{CredSspState}
use Rattle.sspi_credssp.specs.declared.state.CredSspState.TheVariants.{NegoToken, PubKeyInfo, AuthInfo, Final}
use Rattle.sspi_credssp.specs.declared.turn.End.{End}
use Rattle.sspi_credssp.specs.declared.turn.End.TheVariants.{Client, Server}
use Rattle.sspi_credssp.specs.declared.turn.Outcome.{Outcome}
use Rattle.sspi_credssp.specs.declared.turn.Outcome.TheVariants as outcome
use Rattle.sspi_credssp.specs.declared.turn.Turn.{Turn}
use Rattle.sspi_credssp.specs.Context.{ContextSetting, either}
use Rattle.sspi_credssp.specs.Ends.{ClientSettings, ServerSettings}
use Rattle.sspi_credssp.specs.Turn.{message_of, client_shown, server_shown, ShowsNego, ShowsReply, ShowsOver, ShowsNegoBack}
use Rattle.sspi_credssp.specs.Turn.{ShowsStateBack, ShowsAnswer, ClientFrame, ServerFrame, HoldsNego, HoldsReply}
use Rattle.sspi_delegate.specs.declared.answer.Delegation.{Delegation}
use Rattle.sspi_delegate.specs.declared.carried.Carried.{Carried}
use Rattle.sspi_delegate.specs.Headline.{Around, Parties, Delegates}
use Rattle.sspi_delegate.specs.Log.{Logged, LoggedButLast, IsDelivered}
use Rattle.sspi_delegate.specs.Turns.{ClientEnd, ServerEnd, EachClientTurn, EachServerTurn, Alternates, AllGoOn, GoesOn, client_end}
use Rattle.sspi_delegate.specs.Turns.{server_end, client_turns, server_turns, onto_client, onto_server, client_frame_at, server_frame_at}
use Rattle.sspi_completeness.specs.Matching.{AreMatching, AreWholePast, NothingDisturbs}
use Rattle.sspi_completeness.proofs.Deliveries.{next_request}
use Rattle.sspi_completeness.proofs.Settling.{undisturbed_is}
use Rattle.sspi_play.specs.Faithful.{OpensWhatWasSealed}
use Rattle.sspi_play.specs.Undisturbed.{IsGivenAfter, AreHandedOn}
use Rattle.sspi_play.proofs.Parts.{client_each_before, server_each_before}
use Rattle.sspi_play.proofs.PlainSeals.{plain_reads}
use Rattle.sspi_play.proofs.Undisturbed.{faithful}

-- ---- the values of a message

code_kept : (b : Bool) (code : Option NStatusCode) → IfSome code (λ code. code.0 < 2 ^ 32) →
    IfSome (if b then code else None) (λ code. code.0 < 2 ^ 32)
code_kept true code is = is
code_kept false code is = tt

nonce_kept : (b : Bool) (field : Option (List ℕ)) → IfSome field (λ nonce. length nonce ≡ 32) →
    IfSome (if b then field else None) (λ nonce. length nonce ≡ 32)
nonce_kept true field is = is
nonce_kept false field is = tt

carried_value : (r : TsRequest) → IsRequestValue r → IsRequestValue (carried r)
carried_value r is = record {
  version = is.version;
  code = code_kept (carries_code r.version) r.error_code is.code;
  nonce = nonce_kept (carries_nonce r.version) r.client_nonce is.nonce;
}

first_value : IsRequestValue first_request
first_value = record { version = omega arith; code = tt; nonce = tt }

-- a message that goes back with its end's version, and perhaps its end's nonce
value_of : (r d : TsRequest) (version : ℕ) → version < 2 ^ 32 → r.version ≡ version → r.error_code ≡ d.error_code →
    IfSome r.client_nonce (λ nonce. length nonce ≡ 32) → IsRequestValue d → IsRequestValue r
value_of r d version small own code nonce is = record {
  version = omega (arith, small, own);
  code = subst (λ (x : Option NStatusCode). IfSome x (λ code. code.0 < 2 ^ 32)) (sym code) is.code;
  nonce = nonce;
}

nonce_of_request : (r d : TsRequest) → r.client_nonce ≡ d.client_nonce → IsRequestValue d →
    IfSome r.client_nonce (λ nonce. length nonce ≡ 32)
nonce_of_request r d same is = subst (λ (x : Option (List ℕ)). IfSome x (λ nonce. length nonce ≡ 32)) (sym same) is.nonce

has_message : (out : Outcome) → GoesOn out → (r : TsRequest) × (message_of out ≡ Some r)
has_message (outcome.Reply r) went = (r, refl)
has_message (outcome.Final r) went = (r, refl)
has_message outcome.Finished went = absurd went
has_message (outcome.Refused kind reply) went = absurd went

module _ {C : Type 0} (c : Meaning ContextSetting C) where
  client_nego : (f : ClientFrame C) (t : Turn) (status : Option SecurityStatus) (r : TsRequest) → ShowsNego (client_shown f) t status r →
      HoldsNego c f status r → f.settings.version < 2 ^ 32 → length f.settings.nonce ≡ 32 → IsRequestValue t.delivered → IsRequestValue r
  client_nego f t None r h held small long is = absurd h
  client_nego f t (Some statuses.Ok) r h held small long is =
      value_of r t.delivered f.settings.version small h.version (ap (λ (q : TsRequest). q.error_code) h.reply)
      (subst (λ (x : Option (List ℕ)). IfSome x (λ nonce. length nonce ≡ 32)) (sym held.nonce) long) is
  client_nego f t (Some other) r h held small long is =
      value_of r t.delivered f.settings.version small h.version (ap (λ (q : TsRequest). q.error_code) h.reply)
      (nonce_of_request r t.delivered (ap (λ (q : TsRequest). q.client_nonce) h.reply) is) is

  client_value : (f : ClientFrame C) (t : Turn) (out : Outcome) (r : TsRequest) → message_of out ≡ Some r → GoesOn out →
      ShowsReply (client_shown f) t out → HoldsReply c f t.acts.status out → f.settings.version < 2 ^ 32 →
      length f.settings.nonce ≡ 32 → IsRequestValue t.delivered → IsRequestValue r
  client_value f t (outcome.Reply q) r same went h held small long is =
      let e : q ≡ r = cc (same) in
      subst IsRequestValue e (client_nego f t t.acts.status q h held small long is)
  client_value f t (outcome.Final q) r same went h held small long is =
      let e : q ≡ r = cc (same) in
      subst IsRequestValue e
      (value_of q t.delivered f.settings.version small h.version (ap (λ (x : TsRequest). x.error_code) h.reply)
      (nonce_of_request q t.delivered (ap (λ (x : TsRequest). x.client_nonce) h.reply) is) is)
  client_value f t outcome.Finished r same went h held small long is = absurd went
  client_value f t (outcome.Refused kind reply) r same went h held small long is = absurd went

  server_over : (f : ServerFrame C) (t : Turn) (field : Option (List ℕ)) (r : TsRequest) → ShowsOver (server_shown f) t field r →
      f.settings.version < 2 ^ 32 → IsRequestValue t.delivered → IsRequestValue r
  server_over f t None r h small is =
      value_of r t.delivered f.settings.version small h.0.version (ap (λ (x : TsRequest). x.error_code) h.0.reply)
      (nonce_of_request r t.delivered (ap (λ (x : TsRequest). x.client_nonce) h.0.reply) is) is
  server_over f t (Some blob) r h small is =
      value_of r t.delivered f.settings.version small h.version (ap (λ (x : TsRequest). x.error_code) h.reply)
      (nonce_of_request r t.delivered (ap (λ (x : TsRequest). x.client_nonce) h.reply) is) is

  server_nego : (f : ServerFrame C) (t : Turn) (status : Option SecurityStatus) (r : TsRequest) →
      ShowsNegoBack (server_shown f) t status r → f.settings.version < 2 ^ 32 → IsRequestValue t.delivered → IsRequestValue r
  server_nego f t None r h small is = absurd h
  server_nego f t (Some statuses.ContinueNeeded) r h small is =
      value_of r t.delivered f.settings.version small h.version (ap (λ (x : TsRequest). x.error_code) h.reply)
      (nonce_of_request r t.delivered (ap (λ (x : TsRequest). x.client_nonce) h.reply) is) is
  server_nego f t (Some statuses.CompleteNeeded) r h small is = server_over f t t.delivered.pub_key_auth r h small is
  server_nego f t (Some statuses.Ok) r h small is = server_over f t t.delivered.pub_key_auth r h small is
  server_nego f t (Some other) r h small is = absurd h

  server_state : (f : ServerFrame C) (t : Turn) (state : CredSspState) (r : TsRequest) → ShowsStateBack (server_shown f) t state r →
      f.settings.version < 2 ^ 32 → IsRequestValue t.delivered → IsRequestValue r
  server_state f t NegoToken r h small is = server_nego f t t.acts.status r h small is
  server_state f t PubKeyInfo r h small is =
      value_of r t.delivered f.settings.version small h.version (ap (λ (x : TsRequest). x.error_code) h.reply)
      (nonce_of_request r t.delivered (ap (λ (x : TsRequest). x.client_nonce) h.reply) is) is
  server_state f t AuthInfo r h small is = absurd h
  server_state f t Final r h small is = absurd h

  server_value : (f : ServerFrame C) (t : Turn) (out : Outcome) (r : TsRequest) → message_of out ≡ Some r → GoesOn out →
      ShowsAnswer (server_shown f) t out → f.settings.version < 2 ^ 32 → IsRequestValue t.delivered → IsRequestValue r
  server_value f t (outcome.Reply q) r same went h small is =
      let e : q ≡ r = cc (same) in subst IsRequestValue e (server_state f t f.state q h small is)
  server_value f t (outcome.Final q) r same went h small is = absurd h
  server_value f t outcome.Finished r same went h small is = absurd went
  server_value f t (outcome.Refused kind reply) r same went h small is = absurd went

  -- ---- what is handed on

  module _ (client : ClientEnd C) (server : ServerEnd C) (client_small : client.settings.version < 2 ^ 32)
      (server_small : server.settings.version < 2 ^ 32) (long : length client.settings.nonce ≡ 32) where
    turn_value : (t : Turn) (past : List Turn) (end : End) (r : TsRequest) → message_of t.outcome ≡ Some r → GoesOn t.outcome →
        EachClientTurn c client (onto_client end t (client_turns past)) → EachServerTurn c server (onto_server end t (server_turns past)) →
        IsRequestValue t.delivered → IsRequestValue r
    turn_value t past Client r same went clients servers is =
        client_value (client_frame_at client (client_turns past) t) t t.outcome r same went clients.0.shown.reply clients.0.held.reply
        client_small long is
    turn_value t past Server r same went clients servers is =
        server_value (server_frame_at server (server_turns past) t) t t.outcome r same went servers.0.shown.reply server_small is

    abbrev NewestValue : List Turn → Type 0
    NewestValue [] = Unit {0}
    NewestValue (t ∷ past) = (r : TsRequest) → message_of t.outcome ≡ Some r → IsRequestValue r

    -- what a turn after these is given
    given_after : (base : List Carried) (past : List Turn) (log : List Carried) (d : TsRequest) → AllGoOn past → NewestValue past →
        Logged base past log → AreWholePast (length base) log → IsDelivered past log d → IsGivenAfter past d × IsRequestValue d
    given_after base [] log d going value entries whole delivered = (delivered, subst IsRequestValue (sym delivered) first_value)
    given_after base (t ∷ past) log d going value entries whole delivered =
        let r = has_message t.outcome going.0 in
        let is = value r.0 r.1 in
        let same = next_request base t past log r.0 d r.1 is entries whole delivered in (
          rw r.1 same,
          subst IsRequestValue (sym same) (carried_value r.0 is),
        )

    handed : (base : List Carried) (turns : List Turn) (log : List Carried) → Alternates turns → AllGoOn turns →
        EachClientTurn c client (client_turns turns) → EachServerTurn c server (server_turns turns) →
        Logged base turns log → AreWholePast (length base) log → AreHandedOn turns × NewestValue turns
    handed base [] log order going clients servers entries whole = (tt, tt)
    handed base (t ∷ past) [] order going clients servers entries whole = absurd entries
    handed base (t ∷ past) (e ∷ log) order going clients servers entries whole =
        let before = handed base past log order.2 going.1 (client_each_before c client server t.end t (client_turns past) clients)
        (server_each_before c client server t.end t (server_turns past) servers) entries.2 whole.1 in
        let given = given_after base past log t.delivered going.1 before.1 entries.2 whole.1 entries.1 in (
          (given.0, before.0),
          λ r same. turn_value t past t.end r same going.0 clients servers given.1,
        )

    pub all_handed : (base : List Carried) (turns : List Turn) (log : List Carried) → Alternates turns →
        EachClientTurn c client (client_turns turns) → EachServerTurn c server (server_turns turns) →
        LoggedButLast base turns log → AreWholePast (length base) log → AreHandedOn turns
    all_handed base [] log order clients servers entries whole = tt
    all_handed base (t ∷ past) log order clients servers entries whole =
        let before = handed base past log order.2 order.1 (client_each_before c client server t.end t (client_turns past) clients)
        (server_each_before c client server t.end t (server_turns past) servers) entries.1 whole in
        ((given_after base past log t.delivered order.1 before.1 entries.1 whole entries.0).0, before.0)

-- ---- the delegation

abbrev Plain : Type 0
Plain = SspiContext NtlmState KerberosState

abbrev c : Meaning ContextSetting Plain
c = either 0 ntlm_meaning kerberos_meaning

pub delegation_faithful : {P L D : Type 0} (around : Around P L D) (old new : Parties Plain P L D) (limit : ℕ) (delegation : Delegation) →
    AreMatching around.proxy (around.replies old.kdc) (around.asked old.kdc) old.client old.server →
    NothingDisturbs around old new → Delegates c around old limit (Ok delegation) new →
    OpensWhatWasSealed c (client_end new.client) (server_end new.server) new.turns
delegation_faithful around old new limit delegation matching calm made =
    let run = made.the_turns_are_a_run in
    let ends = made.accounts.turns_and_log_show_the_answer in
    let whole = undisturbed_is _ _ _ _ limit _ _ (Ok delegation) new.turns calm.link ends made.stays.the_link_tells_what_it_told
    made.stays.the_link_fails_where_its_edits_say_so in
    let client_small = subst (λ (s : ClientSettings). s.version < 2 ^ 32) (sym run.client_ran.same) matching.client_version in
    let server_small = subst (λ (s : ServerSettings). s.version < 2 ^ 32) (sym run.server_ran.same) matching.server_version in
    let long = subst (λ (s : ClientSettings). length s.nonce ≡ 32) (sym run.client_ran.same) matching.nonce in
    faithful c (client_end new.client) (server_end new.server) new.turns
    (record {
      order = run.order;
      handed_on = all_handed c (client_end new.client) (server_end new.server) client_small server_small long
          (around.log old.link) new.turns (around.log new.link) run.order run.client_ran.each run.server_ran.each ends.0.entries whole.0;
      finished = ends.0.newest;
      client_each = run.client_ran.each;
      server_each = run.server_ran.each;
      client_reads = plain_reads 0 new.client.context new.server.context;
      server_reads = plain_reads 0 new.server.context new.client.context;
    })
