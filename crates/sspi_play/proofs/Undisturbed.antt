-- An exchange that nothing disturbs is faithful. Its client proves, the server answers with its own proof, the client delegates and the
-- server finishes, in four turns one after the other: each opens what the turn before it sealed, and no turn before them opens anything.
use Rattle.std.proofs.Common.{◌≡◌, ℕ, true, false, List, [], ◌∷◌}
use Rattle.std.proofs.Common.{sym, ◌∙◌, ap, subst, refl}
use Rattle.sspi_mech.specs.Meaning.{Meaning}
use Rattle.sspi_credssp.specs.declared.state.CredSspState.TheVariants.{NegoToken, AuthInfo, Final}
use Rattle.sspi_credssp.specs.declared.turn.End.{End}
use Rattle.sspi_credssp.specs.declared.turn.End.TheVariants.{Client, Server}
use Rattle.sspi_credssp.specs.declared.turn.Outcome.{Outcome}
use Rattle.sspi_credssp.specs.declared.turn.Outcome.TheVariants as outcome
use Rattle.sspi_credssp.specs.declared.turn.Turn.{Turn}
use Rattle.sspi_credssp.specs.Acts.{OpensIn}
use Rattle.sspi_credssp.specs.Context.{ContextSetting}
use Rattle.sspi_credssp.specs.Requests.{IsLong}
use Rattle.sspi_credssp.specs.Turn.{message_of, client_shown, ShowsReply}
use Rattle.sspi_credssp.specs.Turn.{ClientFrame}
use Rattle.sspi_delegate.specs.Turns.{ClientEnd, ServerEnd, EachClientTurn, EachServerTurn, GoesOn}
use Rattle.sspi_delegate.specs.Turns.{client_turns, server_turns, other}
use Rattle.sspi_delegate.specs.Turns.{client_frame_at, server_frame_at, any_ended, any_proved, is_ended, is_replied, server_state}
use Rattle.sspi_delegate.specs.Turns.{opened_in}
use Rattle.sspi_play.specs.Faithful.{client_sealed, server_sealed, HaveOpened, OpensFirstOf, OpensWhatWasSealed}
use Rattle.sspi_play.specs.Undisturbed.{IsWritten, ReadsSeals, IsUndisturbedExchange}
use Rattle.sspi_play.proofs.Agreed.{finished_shows}
use Rattle.sspi_play.proofs.ClientSeals.{is_false, or_false, and_not, state_auth, state_nego, went_nego, reply_nego, unsealed}
use Rattle.sspi_play.proofs.ClientSeals.{proved_nego, proof_first, proof_alone}
use Rattle.sspi_play.proofs.Opened.{added_proof, added_credentials, none_counted, nothing_there}
use Rattle.sspi_play.proofs.Parts.{client_more, client_skip, server_more, server_skip, client_each_before, server_each_before}
use Rattle.sspi_play.proofs.ServerSeals.{at_some, at_version, check_alone, open_alone, proved_newest}
use Rattle.sspi_play.proofs.ClientSeals as of_clients
use Rattle.sspi_play.proofs.ServerSeals as of_servers
use Rattle.sspi_play.proofs.Earlier.{is_true, none_refused, client_goes}
use Rattle.sspi_play.proofs.Earlier.{server_goes, state_final}
use Rattle.sspi_play.proofs.Earlier.{first_none, first_all, first_more, one_alone}
use Rattle.sspi_play.proofs.Earlier.{Going}
use Rattle.sspi_play.proofs.Earlier.{before, bare, early}
use Rattle.sspi_play.proofs.Exchanged.{Three, client_text}
use Rattle.sspi_play.proofs.Exchanged.{server_text, delegates, checks}

module _ {C : Type 0} (c : Meaning ContextSetting C) (client : ClientEnd C) (server : ServerEnd C) where
  -- ---- each opened what the turn before it sealed

  server_opened : (earlier served : List Turn) (w v u : Turn) (k : Three c client server earlier served w v u) →
      ReadsSeals c server.context client.context → (texts : List (List ℕ)) → HaveOpened c server.context (v ∷ served) texts →
      texts ≡ (client_text c client server earlier served w v u k).0.text ∷ []
  server_opened earlier served w v u k reads texts h =
      let checked = (k.servers.0.shown.acts.proved k.server_proved).0 in
      let unopened = check_alone c server (server_frame_at server served v) v k.servers.0.shown.acts checked in
      let added = added_proof c server.context v (opened_in served) h.0 texts checked unopened h.2 in
      let quiet = of_servers.nothing_opened c server served k.servers.1 (none_refused served k.server_going.1) k.unproved in
      let none = nothing_there c server.context served h.0 quiet h.1 in
      let opens = subst (λ (n : ℕ). OpensIn c server.context n v.delivered.pub_key_auth added.0)
      (none_counted c server.context served quiet) added.1 in
      let s = (client_text c client server earlier served w v u k).0 in
      let same = reads 0 s.text added.0 v.delivered.pub_key_auth s.seals opens in
      one_alone texts h.0 added.0 s.text added.2 none same

  client_opened : (earlier served : List Turn) (w v u : Turn) (k : Three c client server earlier served w v u) →
      ReadsSeals c client.context server.context → (texts : List (List ℕ)) → HaveOpened c client.context (u ∷ w ∷ earlier) texts →
      texts ≡ (server_text c client server earlier served w v u k).0.text ∷ []
  client_opened earlier served w v u k reads texts h =
      let checked = checks c client server earlier served w v u k in
      let added = added_proof c client.context u (opened_in (w ∷ earlier)) h.0 texts checked k.clients.0.shown.acts.opened h.2 in
      let quiet = of_clients.nothing_opened c client (w ∷ earlier) k.clients.1 k.client_going.1 k.unended in
      let none = nothing_there c client.context (w ∷ earlier) h.0 quiet h.1 in
      let opens = subst (λ (n : ℕ). OpensIn c client.context n u.delivered.pub_key_auth added.0)
      (none_counted c client.context (w ∷ earlier) quiet) added.1 in
      let s = (server_text c client server earlier served w v u k).0 in
      let same = reads 0 s.text added.0 u.delivered.pub_key_auth s.seals opens in
      one_alone texts h.0 added.0 s.text added.2 none same

  -- before the credentials the server has opened one message, the client's proof
  opened_one : (earlier served : List Turn) (w v u : Turn) → Three c client server earlier served w v u → opened_in (v ∷ served) ≡ 1
  opened_one earlier served w v u k =
      let acts = k.servers.0.shown.acts in
      let checked = (acts.proved k.server_proved).0 in
      let quiet = of_servers.nothing_opened c server served k.servers.1 (none_refused served k.server_going.1) k.unproved in
      rw (
        none_counted c server.context served quiet,
        checked,
        check_alone c server (server_frame_at server served v) v acts checked,
      ) refl

  -- the turn that finished
  record Finishing (earlier served : List Turn) (w v u t : Turn) : Type 0 where
    three : Three c client server earlier served w v u
    unchecked : t.acts.checked ≡ false
    unproved : t.acts.proved ≡ false
    opened : t.acts.opened ≡ true
    given : IsWritten (message_of u.outcome) t.delivered

  all_opened : (earlier served : List Turn) (w v u t : Turn) (k : Finishing earlier served w v u t) →
      ReadsSeals c server.context client.context → (texts : List (List ℕ)) → HaveOpened c server.context (t ∷ v ∷ served) texts →
      texts ≡ client_sealed client (u ∷ w ∷ earlier)
  all_opened earlier served w v u t k reads texts h =
      let added = added_credentials c server.context t (opened_in (v ∷ served)) h.0 texts k.unchecked k.opened h.2 in
      let first = server_opened earlier served w v u k.three reads h.0 h.1 in
      let proof = client_text c client server earlier served w v u k.three in
      let d = delegates c client server earlier served w v u k.three t.delivered k.given in
      let opens = subst (λ (n : ℕ). OpensIn c server.context n t.delivered.auth_info added.0)
      (opened_one earlier served w v u k.three) added.1 in
      let same = reads 1 d.1.text added.0 t.delivered.auth_info d.1.seals opens in
      added.2 ∙ ap (λ (l : List (List ℕ)). added.0 ∷ l) (first ∙ sym proof.1)
      ∙ ap (λ (x : List ℕ). x ∷ client_sealed client (w ∷ earlier)) same ∙ sym d.2

  -- ---- the whole exchange

  step : (t : Turn) (past own peers : List Turn) → client_turns (t ∷ past) ≡ own → server_turns (t ∷ past) ≡ peers →
      OpensFirstOf c client.context own (server_sealed server peers) → OpensFirstOf c server.context peers (client_sealed client own) →
      OpensWhatWasSealed c client server past → OpensWhatWasSealed c client server (t ∷ past)
  step t past own peers own_is peers_are clients servers rest = (
    subst (λ (l : List Turn). OpensFirstOf c client.context (client_turns (t ∷ past)) (server_sealed server l)) (sym peers_are)
        (subst (λ (l : List Turn). OpensFirstOf c client.context l (server_sealed server peers)) (sym own_is) clients),
    subst (λ (l : List Turn). OpensFirstOf c server.context (server_turns (t ∷ past)) (client_sealed client l)) (sym own_is)
        (subst (λ (l : List Turn). OpensFirstOf c server.context l (client_sealed client own)) (sym peers_are) servers),
    rest,
  )

  -- which end made each of these turns
  record Places (t u v w : Turn) (past : List Turn) : Type 0 where
    finishes : t.end ≡ Server
    delegating : u.end ≡ Client
    answering : v.end ≡ Server
    proving : w.end ≡ Client

  module _ (t u v w : Turn) (past : List Turn) (at : Places t u v w past) where
    own_w : client_turns (w ∷ past) ≡ w ∷ client_turns past
    own_w = client_more w past at.proving

    peers_w : server_turns (w ∷ past) ≡ server_turns past
    peers_w = server_skip w past at.proving

    own_v : client_turns (v ∷ w ∷ past) ≡ w ∷ client_turns past
    own_v = client_skip v (w ∷ past) at.answering ∙ own_w

    peers_v : server_turns (v ∷ w ∷ past) ≡ v ∷ server_turns past
    peers_v = server_more v (w ∷ past) at.answering ∙ ap (λ (l : List Turn). v ∷ l) peers_w

    own_u : client_turns (u ∷ v ∷ w ∷ past) ≡ u ∷ w ∷ client_turns past
    own_u = client_more u (v ∷ w ∷ past) at.delegating ∙ ap (λ (l : List Turn). u ∷ l) own_v

    peers_u : server_turns (u ∷ v ∷ w ∷ past) ≡ v ∷ server_turns past
    peers_u = server_skip u (v ∷ w ∷ past) at.delegating ∙ peers_v

    own_t : client_turns (t ∷ u ∷ v ∷ w ∷ past) ≡ u ∷ w ∷ client_turns past
    own_t = client_skip t (u ∷ v ∷ w ∷ past) at.finishes ∙ own_u

    peers_t : server_turns (t ∷ u ∷ v ∷ w ∷ past) ≡ t ∷ v ∷ server_turns past
    peers_t = server_more t (u ∷ v ∷ w ∷ past) at.finishes ∙ ap (λ (l : List Turn). t ∷ l) peers_u

    four_faithful : Finishing (client_turns past) (server_turns past) w v u t → ReadsSeals c client.context server.context →
        ReadsSeals c server.context client.context → OpensWhatWasSealed c client server (w ∷ past) →
        OpensWhatWasSealed c client server (t ∷ u ∷ v ∷ w ∷ past)
    four_faithful k client_reads server_reads rest =
        let earlier = client_turns past in
        let served = server_turns past in
        let proof = client_text c client server earlier served w v u k.three in
        let answer = server_text c client server earlier served w v u k.three in
        let sealed = delegates c client server earlier served w v u k.three t.delivered k.given in
        let quiet : server_sealed server (t ∷ v ∷ served) ≡ server_sealed server (v ∷ served) = rw k.unproved refl in
        step t (u ∷ v ∷ w ∷ past) (u ∷ w ∷ earlier) (t ∷ v ∷ served) own_t peers_t
        (λ texts h. first_all texts _ (client_opened earlier served w v u k.three client_reads texts h ∙ sym answer.1 ∙ sym quiet))
        (λ texts h. first_all texts _ (all_opened earlier served w v u t k server_reads texts h))
        (step u (v ∷ w ∷ past) (u ∷ w ∷ earlier) (v ∷ served) own_u peers_u
        (λ texts h. first_all texts _ (client_opened earlier served w v u k.three client_reads texts h ∙ sym answer.1))
        (λ texts h. first_more texts _ sealed.1.text (sealed.2 ∙ ap (λ (l : List (List ℕ)). sealed.1.text ∷ l)
        (proof.1 ∙ sym (server_opened earlier served w v u k.three server_reads texts h))))
        (step v (w ∷ past) (w ∷ earlier) (v ∷ served) own_v peers_v
        (λ texts h. first_none texts _ (nothing_there c client.context (w ∷ earlier) texts
        (of_clients.nothing_opened c client (w ∷ earlier) k.three.clients.1 k.three.client_going.1 k.three.unended) h))
        (λ texts h. first_all texts _ (server_opened earlier served w v u k.three server_reads texts h ∙ sym proof.1))
        rest))

  -- ---- the ends take turns

  other_of_server : (e : End) → Server ≡ other e → e ≡ Client
  other_of_server Client is = refl
  other_of_server Server is = absurd (cc (is))

  other_of_client : (e : End) → Client ≡ other e → e ≡ Server
  other_of_client Client is = absurd (cc (is))
  other_of_client Server is = refl

  never_final : (f : ClientFrame C) (u : Turn) (out : Outcome) → ShowsReply (client_shown f) u out → GoesOn out → f.state ≡ Final → ⊥
  never_final f u (outcome.Reply r) h went final =
      let nego = reply_nego c client f u u.acts.status r h in absurd (cc (final, nego))
  never_final f u (outcome.Final r) h went final = let auth = h.state in absurd (cc (final, auth))
  never_final f u outcome.Finished h went final = absurd went
  never_final f u (outcome.Refused kind reply) h went final = absurd went

  -- the server's newest turn was the one of its proof, and the client had proved in the turn before that
  three_turns : (past : List Turn) (t u v w : Turn) → Places t u v w past → Going c client server (u ∷ v ∷ w ∷ past) →
      server_state (v ∷ server_turns past) ≡ AuthInfo → Three c client server (client_turns past) (server_turns past) w v u
  three_turns past t u v w at g auth =
      let earlier = client_turns past in
      let served = server_turns past in
      let g_v = before c client server u (v ∷ w ∷ past) g in
      let g_w = before c client server v (w ∷ past) g_v in
      let each_u = subst (λ (l : List Turn). EachClientTurn c client l) (own_u t u v w past at) g.client_each in
      let each_v = subst (λ (l : List Turn). EachServerTurn c server l) (peers_v t u v w past at) g_v.server_each in
      let going_w = client_goes past g_w.going.1 in
      let going_v = server_goes past g_w.going.1 in
      let newest = proved_newest c server served v each_v (none_refused (v ∷ served) (g.going.1.0, going_v)) auth in
      let checked = (each_v.0.shown.acts.proved newest.1).0 in
      let unended : any_ended (w ∷ earlier) ≡ false = is_false (any_ended (w ∷ earlier))
      (λ ended. never_final (client_frame_at client (w ∷ earlier) u) u u.outcome each_u.0.shown.reply g.going.0
      (state_final (any_ended (w ∷ earlier)) (any_proved (w ∷ earlier)) ended)) in
      let un = or_false (is_ended w.outcome) (any_ended earlier) unended in
      let nego = went_nego c client (client_frame_at client earlier w) w w.outcome each_u.1.0.shown.reply g_w.going.0 un.0 in
      let none = (state_nego (any_ended earlier) (any_proved earlier) nego).1 in
      let proved : w.acts.proved ≡ true = is_true w.acts.proved (λ unproved.
      let absent = bare c client server (w ∷ past) v.delivered g_w g_v.handed_on.0
      (ap (λ (l : List Turn). any_ended l) (own_w t u v w past at) ∙ unended)
      (ap (λ (l : List Turn). any_proved l) (own_w t u v w past at) ∙ (rw (unproved, none) (and_not (is_replied w.outcome))))
      (ap (λ (l : List Turn). any_proved l) (peers_w t u v w past at) ∙ newest.0) in
      subst IsLong absent (each_v.0.shown.acts.checked checked).1) in
      record {
        clients = each_u;
        client_going = (g.going.0, (g_w.going.0, going_w));
        servers = each_v;
        server_going = (g.going.1.0, going_v);
        unended = unended;
        unproved = newest.0;
        client_proved = proved;
        server_proved = newest.1;
        to_server = g_v.handed_on.0;
        to_client = g.handed_on.0;
      }

  faithful_by : (past : List Turn) (t u v w : Turn) → IsUndisturbedExchange c client server (t ∷ u ∷ v ∷ w ∷ past) →
      OpensWhatWasSealed c client server (t ∷ u ∷ v ∷ w ∷ past)
  faithful_by past t u v w x =
      let u_is = other_of_server u.end (sym x.finished.0 ∙ x.order.0) in
      let v_is = other_of_client v.end (sym u_is ∙ x.order.2.0) in
      let w_is = other_of_server w.end (sym v_is ∙ x.order.2.2.0) in
      let at : Places t u v w past = record { finishes = x.finished.0; delegating = u_is; answering = v_is; proving = w_is } in
      let g : Going c client server (u ∷ v ∷ w ∷ past) = record {
        order = x.order.2;
        going = x.order.1;
        handed_on = x.handed_on.1;
        client_each = client_each_before c client server t.end t (client_turns (u ∷ v ∷ w ∷ past)) x.client_each;
        server_each = server_each_before c client server t.end t (server_turns (u ∷ v ∷ w ∷ past)) x.server_each;
      } in
      let each = subst (λ (l : List Turn). EachServerTurn c server l) (peers_t t u v w past at) x.server_each in
      let f = server_frame_at server (v ∷ server_turns past) t in
      let fin = finished_shows c client server f t t.outcome x.finished.1 each.0.shown.reply in
      let three = three_turns past t u v w at g fin.0 in
      let unchecked = open_alone c server f t each.0.shown.acts fin.1 in
      let unproved : t.acts.proved ≡ false = is_false t.acts.proved
      (λ was. let checked = (each.0.shown.acts.proved was).0 in absurd (cc (checked, unchecked))) in
      let g_w = before c client server v (w ∷ past) (before c client server u (v ∷ w ∷ past) g) in
      four_faithful t u v w past at
      (record { three = three; unchecked = unchecked; unproved = unproved; opened = fin.1; given = x.handed_on.0 })
      x.client_reads x.server_reads
      (early c client server (w ∷ past) g_w (ap (λ (l : List Turn). any_ended l) (own_w t u v w past at) ∙ three.unended)
      (ap (λ (l : List Turn). any_proved l) (peers_w t u v w past at) ∙ three.unproved))

  -- fewer turns do not finish an exchange
  no_server : (turns : List Turn) (t : Turn) (is : t.end ≡ Server) → IsUndisturbedExchange c client server (t ∷ turns) →
      server_turns turns ≡ [] → ⊥
  no_server turns t is x none =
      let each = subst (λ (l : List Turn). EachServerTurn c server l) (server_more t turns is) x.server_each in
      let fin = finished_shows c client server (server_frame_at server (server_turns turns) t) t t.outcome x.finished.1 each.0.shown.reply in
      let nego : server_state (server_turns turns) ≡ NegoToken = ap server_state none in
      let auth = fin.0 in absurd (cc (auth, nego))

  pub faithful : (turns : List Turn) → IsUndisturbedExchange c client server turns → OpensWhatWasSealed c client server turns
  faithful [] x = absurd x.finished
  faithful (t ∷ []) x = absurd (no_server [] t x.finished.0 x refl)
  faithful (t ∷ u ∷ []) x =
      absurd (no_server (u ∷ []) t x.finished.0 x (server_skip u [] (other_of_server u.end (sym x.finished.0 ∙ x.order.0))))
  faithful (t ∷ u ∷ v ∷ []) x =
      let u_is = other_of_server u.end (sym x.finished.0 ∙ x.order.0) in
      let v_is = other_of_client v.end (sym u_is ∙ x.order.2.0) in
      let first = x.order.2.2.0 in absurd (cc (v_is, first))
  faithful (t ∷ u ∷ v ∷ w ∷ past) x = faithful_by past t u v w x
