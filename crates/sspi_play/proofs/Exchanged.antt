-- Proofs and credentials in an undisturbed exchange: what one turn sealed, the next turn is given.
use Rattle.std.proofs.Common.{◌≡◌, ℕ, true, false, ◌&&◌, List, [], ◌∷◌, Option, Some, Ok}
use Rattle.std.proofs.Common.{sym, ap, subst, refl}
use Rattle.sspi_types.specs.declared.security_status.SecurityStatus.{SecurityStatus}
use Rattle.sspi_types.specs.declared.security_status.SecurityStatus.TheVariants as statuses
use Rattle.sspi_mech.specs.Meaning.{Meaning}
use Rattle.sspi_tsreq.specs.declared.request.TsRequest.{TsRequest}
use Rattle.sspi_credssp.specs.declared.public_key.EndpointType.TheVariants as whose
use Rattle.sspi_credssp.specs.declared.state.CredSspState.TheVariants.{AuthInfo}
use Rattle.sspi_credssp.specs.declared.turn.Outcome.{Outcome}
use Rattle.sspi_credssp.specs.declared.turn.Outcome.TheVariants as outcome
use Rattle.sspi_credssp.specs.declared.turn.Turn.{Turn}
use Rattle.sspi_credssp.specs.Acts.{SealsIn}
use Rattle.sspi_credssp.specs.Context.{ContextSetting}
use Rattle.sspi_credssp.specs.Exchange.{delegated_text, IfText, prescribed}
use Rattle.sspi_credssp.specs.Requests.{nonce_of}
use Rattle.sspi_credssp.specs.Turn.{message_of, client_shown, server_shown, ShowsReply, ShowsFinal}
use Rattle.sspi_credssp.specs.Turn.{ShowsAnswer, ClientFrame, ServerFrame, HoldsReply, HoldsProof, HoldsAnswer}
use Rattle.sspi_credssp.specs.Turn.{HoldsProofBack}
use Rattle.sspi_delegate.specs.Turns.{ClientEnd, ServerEnd, EachClientTurn, EachServerTurn, AllGoOn, GoesOn}
use Rattle.sspi_delegate.specs.Turns.{client_frame_at, server_frame_at, any_ended, any_proved, is_ended, is_replied, made_in}
use Rattle.sspi_play.specs.Faithful.{client_sealed, server_sealed}
use Rattle.sspi_play.specs.Undisturbed.{IsWritten}
use Rattle.sspi_play.proofs.ClientSeals.{is_false, or_false, went_nego, reply_nego, unsealed}
use Rattle.sspi_play.proofs.ClientSeals.{proved_nego, proof_first, made_first, proof_alone}
use Rattle.sspi_play.proofs.ServerSeals.{at_some, at_version, check_alone, open_alone, proved_newest}
use Rattle.sspi_play.proofs.ServerSeals as of_servers
use Rattle.sspi_play.proofs.Earlier.{replied, state_is_auth}
use Rattle.sspi_play.proofs.Earlier.{some_text, written_proof}
use Rattle.sspi_play.proofs.Earlier.{written_credentials}

module _ {C : Type 0} (c : Meaning ContextSetting C) (client : ClientEnd C) (server : ServerEnd C) where
  -- ---- the turns of the client's proof, of the server's, and of the credentials

  -- the client's turns are u, w and those before; the server's are v and those before
  pub record Three (earlier served : List Turn) (w v u : Turn) : Type 0 where
    pub clients : EachClientTurn c client (u ∷ w ∷ earlier)
    pub client_going : AllGoOn (u ∷ w ∷ earlier)
    pub servers : EachServerTurn c server (v ∷ served)
    pub server_going : AllGoOn (v ∷ served)
    pub unended : any_ended (w ∷ earlier) ≡ false
    pub unproved : any_proved served ≡ false
    pub client_proved : w.acts.proved ≡ true
    pub server_proved : v.acts.proved ≡ true
    pub to_server : IsWritten (message_of w.outcome) v.delivered
    pub to_client : IsWritten (message_of v.outcome) u.delivered

  -- a text that a context sealed as its message of this number, in this field
  pub record SealedAs (context : Option C) (number : ℕ) (field : Option (List ℕ)) : Type 0 where
    pub text : List ℕ
    pub seals : SealsIn c context number text field

  pub proof_reply : (f : ClientFrame C) (w : Turn) (r : TsRequest) → w.acts.status ≡ Some statuses.Ok → w.outcome ≡ outcome.Reply r →
      HoldsReply c f w.acts.status w.outcome → HoldsProof c f r
  proof_reply f w r status out h =
      let at : HoldsReply c f (Some statuses.Ok) w.outcome =
      subst (λ (s : Option SecurityStatus). HoldsReply c f s w.outcome) status h in
      let held : HoldsReply c f (Some statuses.Ok) (outcome.Reply r) =
      subst (λ (o : Outcome). HoldsReply c f (Some statuses.Ok) o) out at in held

  pub client_text : (earlier served : List Turn) (w v u : Turn) → Three earlier served w v u →
      (s : SealedAs client.context 0 v.delivered.pub_key_auth) × (client_sealed client (w ∷ earlier) ≡ s.text ∷ [])
  client_text earlier served w v u k =
      let f = client_frame_at client earlier w in
      let each = k.clients.1 in
      let un = or_false (is_ended w.outcome) (any_ended earlier) k.unended in
      let r = replied w.outcome k.client_going.1.0 un.0 in
      let proof = proof_reply f w r.0 (each.0.shown.acts.proved k.client_proved).0 r.1 each.0.held.reply in
      let noted = at_some f.noted _ proof.proof in
      let text = prescribed whose.Client noted.0 client.settings.nonce client.settings.public_key in
      let seals : SealsIn c client.context f.made text r.0.pub_key_auth = at_version f.noted noted.0
      (λ n. SealsIn c client.context f.made (prescribed whose.Client n client.settings.nonce client.settings.public_key)
      r.0.pub_key_auth) noted.1 proof.proof in
      let same = written_proof (message_of w.outcome) r.0 v.delivered (ap message_of r.1) k.to_server in
      let nego = went_nego c client f w w.outcome each.0.shown.reply k.client_going.1.0 un.0 in
      let number : f.made ≡ 0 = made_first c client earlier w each k.client_going.1.1 k.client_proved in (
        record {
          text = text;
          seals = subst (λ (n : ℕ). SealsIn c client.context n text v.delivered.pub_key_auth) number
              (subst (λ (b : Option (List ℕ)). SealsIn c client.context f.made text b) (sym same) seals);
        },
        proof_alone c client w earlier noted.0 (unsealed c client f w each.0.shown.acts nego) k.client_proved noted.1
            (proof_first c client earlier w each k.client_going.1.1 k.client_proved),
      )

  -- a server that proved nothing sealed nothing
  pub unsealed_by : (f : ServerFrame C) (t : Turn) (out : Outcome) → ShowsAnswer (server_shown f) t out → GoesOn out →
      is_replied out && t.acts.proved ≡ false → t.acts.proved ≡ false
  unsealed_by f t (outcome.Reply r) h went un = un
  unsealed_by f t (outcome.Final r) h went un = absurd h
  unsealed_by f t outcome.Finished h went un = absurd went
  unsealed_by f t (outcome.Refused kind reply) h went un = absurd went

  pub server_silent : (past : List Turn) → EachServerTurn c server past → AllGoOn past → any_proved past ≡ false →
      server_sealed server past ≡ []
  server_silent [] each going none = refl
  server_silent (t ∷ past) each going none =
      let p = or_false (is_replied t.outcome && t.acts.proved) (any_proved past) none in
      rw (unsealed_by (server_frame_at server past t) t t.outcome each.0.shown.reply going.0 p.0)
      (server_silent past each.1 going.1 p.1)

  pub server_unmade : (past : List Turn) → EachServerTurn c server past → AllGoOn past → any_proved past ≡ false →
      made_in past ≡ 0
  server_unmade [] each going none = refl
  server_unmade (t ∷ past) each going none =
      let p = or_false (is_replied t.outcome && t.acts.proved) (any_proved past) none in
      rw (
        unsealed_by (server_frame_at server past t) t t.outcome each.0.shown.reply going.0 p.0,
        each.0.shown.acts.sealed,
        server_unmade past each.1 going.1 p.1,
      ) refl

  pub answered : (f : ServerFrame C) (v : Turn) (out : Outcome) → ShowsAnswer (server_shown f) v out → GoesOn out → HoldsAnswer c f v out →
      v.acts.proved ≡ true → (r : TsRequest) × (message_of out ≡ Some r) × HoldsProofBack c f v.delivered r
  answered f v (outcome.Reply r) h went held was = (r, refl, held was)
  answered f v (outcome.Final r) h went held was = absurd h
  answered f v outcome.Finished h went held was = absurd went
  answered f v (outcome.Refused kind reply) h went held was = absurd went

  pub server_text : (earlier served : List Turn) (w v u : Turn) → Three earlier served w v u →
      (s : SealedAs server.context 0 u.delivered.pub_key_auth) × (server_sealed server (v ∷ served) ≡ s.text ∷ [])
  server_text earlier served w v u k =
      let f = server_frame_at server served v in
      let each = k.servers in
      let r = answered f v v.outcome each.0.shown.reply k.server_going.0 each.0.held.reply k.server_proved in
      let noted = at_some f.noted _ r.2 in
      let nonce = nonce_of v.delivered.client_nonce in
      let text = prescribed whose.Server noted.0 nonce server.settings.public_key in
      let seals : SealsIn c server.context f.made text r.0.pub_key_auth = at_version f.noted noted.0
      (λ n. SealsIn c server.context f.made (prescribed whose.Server n nonce server.settings.public_key) r.0.pub_key_auth) noted.1 r.2 in
      let same = written_proof (message_of v.outcome) r.0 u.delivered r.1 k.to_client in
      let number : f.made ≡ 0 = server_unmade served each.1 k.server_going.1 k.unproved in (
        record {
          text = text;
          seals = subst (λ (n : ℕ). SealsIn c server.context n text u.delivered.pub_key_auth) number
              (subst (λ (b : Option (List ℕ)). SealsIn c server.context f.made text b) (sym same) seals);
        },
        of_servers.proof_alone c server v served noted.0 k.server_proved noted.1
            (server_silent served each.1 k.server_going.1 k.unproved),
      )

  -- a client that goes on after it has proved has sent its last message
  pub ends_with : (f : ClientFrame C) (u : Turn) (out : Outcome) → ShowsReply (client_shown f) u out → GoesOn out → f.state ≡ AuthInfo →
      HoldsReply c f u.acts.status out →
      (r : TsRequest) × (message_of out ≡ Some r) × ShowsFinal (client_shown f) u r
      × IfText (delegated_text f.settings.credentials f.settings.delegation) (λ text. SealsIn c f.context f.made text r.auth_info)
  ends_with f u (outcome.Reply r) h went auth held =
      let nego = reply_nego c client f u u.acts.status r h in absurd (cc (auth, nego))
  ends_with f u (outcome.Final r) h went auth held = (r, refl, h, held)
  ends_with f u outcome.Finished h went auth held = absurd went
  ends_with f u (outcome.Refused kind reply) h went auth held = absurd went

  pub authorized : (earlier served : List Turn) (w v u : Turn) → Three earlier served w v u →
      (client_frame_at client (w ∷ earlier) u).state ≡ AuthInfo
  authorized earlier served w v u k =
      let un = or_false (is_ended w.outcome) (any_ended earlier) k.unended in
      let r = replied w.outcome k.client_going.1.0 un.0 in
      state_is_auth (any_ended (w ∷ earlier)) (any_proved (w ∷ earlier)) k.unended (rw (r.1, k.client_proved) refl)

  pub sealed_more : (t : Turn) (past : List Turn) (text : List ℕ) → t.acts.sealed ≡ true → t.acts.proved ≡ false →
      delegated_text client.settings.credentials client.settings.delegation ≡ Ok text →
      client_sealed client (t ∷ past) ≡ text ∷ client_sealed client past
  sealed_more t past text was unproved is = rw (was, unproved, is) refl

  -- before its credentials the client has made one message, its proof
  made_one : (earlier served : List Turn) (w v u : Turn) → Three earlier served w v u → made_in (w ∷ earlier) ≡ 1
  made_one earlier served w v u k =
      let f = client_frame_at client earlier w in
      let each = k.clients.1 in
      let un = or_false (is_ended w.outcome) (any_ended earlier) k.unended in
      let nego = went_nego c client f w w.outcome each.0.shown.reply k.client_going.1.0 un.0 in
      rw (
        made_first c client earlier w each k.client_going.1.1 k.client_proved,
        k.client_proved,
        unsealed c client f w each.0.shown.acts nego,
      ) refl

  pub delegates : (earlier served : List Turn) (w v u : Turn) → Three earlier served w v u → (d : TsRequest) →
      IsWritten (message_of u.outcome) d →
      (u.acts.checked ≡ true) × (s : SealedAs client.context 1 d.auth_info)
      × (client_sealed client (u ∷ w ∷ earlier) ≡ s.text ∷ client_sealed client (w ∷ earlier))
  delegates earlier served w v u k d written =
      let f = client_frame_at client (w ∷ earlier) u in
      let each = k.clients in
      let auth = authorized earlier served w v u k in
      let last = ends_with f u u.outcome each.0.shown.reply k.client_going.0 auth each.0.held.reply in
      let text = some_text (delegated_text client.settings.credentials client.settings.delegation) _ last.3 in
      let same = written_credentials (message_of u.outcome) last.0 d last.1 written in
      let unproved : u.acts.proved ≡ false = is_false u.acts.proved
      (λ was. let nego = proved_nego c client f u each.0.shown.acts was in absurd (cc (auth, nego))) in
      let number = made_one earlier served w v u k in (
        last.2.checked,
        record {
          text = text.0;
          seals = subst (λ (n : ℕ). SealsIn c client.context n text.0 d.auth_info) number
              (subst (λ (b : Option (List ℕ)). SealsIn c client.context f.made text.0 b) (sym same) text.2);
        },
        sealed_more u (w ∷ earlier) text.0 last.2.sealed unproved text.1,
      )

  pub checks : (earlier served : List Turn) (w v u : Turn) → Three earlier served w v u → u.acts.checked ≡ true
  checks earlier served w v u k =
      let f = client_frame_at client (w ∷ earlier) u in
      (ends_with f u u.outcome k.clients.0.shown.reply k.client_going.0 (authorized earlier served w v u k) k.clients.0.held.reply).2.checked
