-- Agreement, by the order of the turns: a client that seals has opened the server's proof, so the server sealed it before; then the
-- server had opened the client's, so the client had sealed that before; and equal proofs are made over equal keys.
use Rattle.std.proofs.Common.{◌≡◌, ℕ, inl, inr, true, false, List, [], ◌∷◌, ◌++◌, length, Option, Some, sym}
use Rattle.std.proofs.Common.{◌∙◌, ap, subst, append_assoc, nat_lt}
use Rattle.std.proofs.lemmas.Bool.{le-ltb}
use Rattle.sspi_mech.specs.Context.{IsContext}
use Rattle.sspi_mech.specs.Meaning.{Meaning}
use Rattle.sspi_names.specs.declared.identity.AuthIdentity.{AuthIdentity}
use Rattle.sspi_credssp.specs.declared.public_key.EndpointType.TheVariants as whose
use Rattle.sspi_credssp.specs.declared.state.CredSspState.TheVariants.{AuthInfo}
use Rattle.sspi_credssp.specs.declared.turn.End.{End}
use Rattle.sspi_credssp.specs.declared.turn.End.TheVariants.{Client, Server}
use Rattle.sspi_credssp.specs.declared.turn.Outcome.{Outcome}
use Rattle.sspi_credssp.specs.declared.turn.Outcome.TheVariants as outcome
use Rattle.sspi_credssp.specs.declared.turn.Turn.{Turn}
use Rattle.sspi_credssp.specs.Context.{ContextSetting}
use Rattle.sspi_credssp.specs.Acts.{OpensIn}
use Rattle.sspi_credssp.specs.Exchange.{prescribed}
use Rattle.sspi_credssp.specs.Turn.{ShowsAnswer, server_shown, ServerFrame}
use Rattle.sspi_credssp.specs.Proxy.{ProxyMeaning}
use Rattle.sspi_credssp.specs.Requests.{nonce_of}
use Rattle.sspi_credssp.specs.Ends.{ServerView, IsFreshServer}
use Rattle.sspi_delegate.specs.Log.{IsFinished}
use Rattle.sspi_delegate.specs.Turns.{ClientEnd, ServerEnd, client_noted, EachClientTurn, server_noted, server_frame_at, EachServerTurn}
use Rattle.sspi_delegate.specs.Turns.{onto_client, onto_server, client_turns, server_turns, opened_in, OthersGoOn, OthersUnrefused, AllGoOn}
use Rattle.sspi_delegate.specs.Turns.{NoneRefused}
use Rattle.sspi_play.specs.Agreement.{NoEcho, AreAlike, Agrees}
use Rattle.sspi_play.specs.Agreement.{HoldsSealed, Agreement}
use Rattle.sspi_play.specs.Faithful.{client_sealed, server_sealed, AreFirstOf, OpensFirstOf, by_client}
use Rattle.sspi_play.specs.Faithful.{by_server, NoCollision}
use Rattle.sspi_play.specs.History.{GaveIn}
use Rattle.sspi_play.proofs.ClientSeals.{ClientProof, ClientProofIn, client_proof, seals_once_opened, sealings_in, second_seal}
use Rattle.sspi_play.proofs.Lists.{last_same, none_last}
use Rattle.sspi_play.proofs.Opened.{given_text}
use Rattle.sspi_play.proofs.OwnIdentity.{has_password, own_identity}
use Rattle.sspi_play.proofs.Parts.{server_more, server_split, server_place, client_noted_later, server_noted_later}
use Rattle.sspi_play.proofs.Parts.{AllTurns, all_before}
use Rattle.sspi_play.proofs.SameTexts.{same_texts, no_client_echo, no_server_echo}
use Rattle.sspi_play.proofs.ServerSeals.{at_some, at_version, nonce_length, ServerProof, ServerProofIn, server_proof, open_alone}
use Rattle.sspi_play.proofs.ServerSeals.{opened_by_proof, proven_at, one_opened, opened_at_end}

alike : (noted other : Option ℕ) (version other_version : ℕ) → noted ≡ Some version → other ≡ Some other_version →
    nat_lt version 5 ≡ nat_lt other_version 5 → AreAlike noted other
alike noted other version other_version is other_is same = rw (is, other_is) same

some_one : (a b : ℕ) → Some a ≡ Some b → a ≡ b
some_one a b e = cc (e)

module _ {C : Type 0} (c : Meaning ContextSetting C) (client : ClientEnd C) (server : ServerEnd C) where
  -- ---- the turns of one end, at one of its turns

  client_at : (t : Turn) (past : List Turn) → t.end ≡ Client → AllTurns c client server (t ∷ past) →
      EachClientTurn c client (t ∷ client_turns past) × AllGoOn (client_turns past)
      × OpensFirstOf c client.context (t ∷ client_turns past) (server_sealed server (server_turns past))
  client_at t past is all = (
    let each : EachClientTurn c client (onto_client Client t (client_turns past)) =
        subst (λ (e : End). EachClientTurn c client (onto_client e t (client_turns past))) is all.client_each in each,
    let others : OthersGoOn (onto_client Client t (client_turns past)) =
        subst (λ (e : End). OthersGoOn (onto_client e t (client_turns past))) is all.client_others in others,
    let first : OpensFirstOf c client.context (onto_client Client t (client_turns past))
        (server_sealed server (onto_server Client t (server_turns past))) =
        subst (λ (e : End). OpensFirstOf c client.context (onto_client e t (client_turns past))
        (server_sealed server (onto_server e t (server_turns past)))) is all.opens.0 in first,
  )

  server_at : (t : Turn) (past : List Turn) → t.end ≡ Server → AllTurns c client server (t ∷ past) →
      EachServerTurn c server (t ∷ server_turns past) × NoneRefused (server_turns past)
      × OpensFirstOf c server.context (t ∷ server_turns past) (client_sealed client (client_turns past))
  server_at t past is all = (
    let each : EachServerTurn c server (onto_server Server t (server_turns past)) =
        subst (λ (e : End). EachServerTurn c server (onto_server e t (server_turns past))) is all.server_each in each,
    let others : OthersUnrefused (onto_server Server t (server_turns past)) =
        subst (λ (e : End). OthersUnrefused (onto_server e t (server_turns past))) is all.server_others in others,
    let first : OpensFirstOf c server.context (onto_server Server t (server_turns past))
        (client_sealed client (onto_client Server t (client_turns past))) =
        subst (λ (e : End). OpensFirstOf c server.context (onto_server e t (server_turns past))
        (client_sealed client (onto_client e t (client_turns past)))) is all.opens.1 in first,
  )

  -- ---- the server's proof came before, and the client's before that

  server_proved : (past : List Turn) (text : List ℕ) → AreFirstOf (text ∷ []) (server_sealed server (server_turns past)) →
      ServerProofIn c server past → ServerProof c server past
  server_proved past text first (inl none) = none_last first.0 text (sym none.1 ∙ first.1)
  server_proved past text first (inr p) = p

  -- the first text that the client sealed is the one that the server opened
  client_proved : (past : List Turn) (text : List ℕ) → AreFirstOf (text ∷ []) (client_sealed client (client_turns past)) →
      ClientProofIn c client past →
      (p : ClientProof c client past) × (prescribed whose.Client p.version client.settings.nonce client.settings.public_key ≡ text)
  client_proved past text first (inl none) = none_last first.0 text (sym none.1 ∙ first.1)
  client_proved past text first (inr p) = (
    p,
    last_same p.more first.0 (prescribed whose.Client p.version client.settings.nonce client.settings.public_key) text
        (sym p.first ∙ first.1),
  )

  -- ---- a client that sealed

  proven_nonce : (t : Turn) (past : List Turn) (version : ℕ) → EachServerTurn c server (t ∷ past) → t.acts.proved ≡ true →
      server_noted server.settings.least (t ∷ past) ≡ Some version → nat_lt version 5 ≡ false →
      length (nonce_of t.delivered.client_nonce) ≡ 32
  proven_nonce t past version each was noted old =
      nonce_length (nat_lt version 5) t.delivered.client_nonce old (proven_at c server past t version each was noted).nonce

  -- a client that seals has opened the proof that the server must give
  sealing_opens : (t : Turn) (past : List Turn) (version : ℕ) → EachClientTurn c client (t ∷ past) → t.acts.sealed ≡ true →
      client_noted client.settings.least (t ∷ past) ≡ Some version →
      OpensIn c client.context (opened_in past) t.delivered.pub_key_auth
      (prescribed whose.Server version client.settings.nonce client.settings.public_key)
  sealing_opens t past version each was noted =
      at_version (client_noted client.settings.least (t ∷ past)) version
      (λ v. OpensIn c client.context (opened_in past) t.delivered.pub_key_auth
      (prescribed whose.Server v client.settings.nonce client.settings.public_key)) noted (each.0.held.sealed was)

  agreed_by : (turns later past : List Turn) (t : Turn) → turns ≡ later ++ (t ∷ past) → t.end ≡ Client → (seen : ℕ) →
      client_noted client.settings.least (t ∷ client_turns past) ≡ Some seen →
      AllTurns c client server turns → NoCollision client server turns → NoEcho client server →
      length client.settings.nonce ≡ 32 →
      AllTurns c client server past → ServerProof c server past → Agrees client server turns past
  agreed_by turns later past t parts is seen noted all no_collision echo long before s =
      let u = s.at.turn in
      let there = all_before c client server s.at.later (u ∷ s.at.before)
      (subst (λ (l : List Turn). AllTurns c client server l) s.at.parts before) in
      let peer = server_at u s.at.before s.end there in
      let text = prescribed whose.Client s.version (nonce_of u.delivered.client_nonce) server.settings.public_key in
      let opened = opened_by_proof c server (server_turns s.at.before) u peer.0 peer.1 s.none s.proved text
      (proven_at c server (server_turns s.at.before) u s.version peer.0 s.proved s.noted).opens in
      let first = all_before c client server (u ∷ []) s.at.before there in
      let p = client_proved s.at.before text (peer.2 (text ∷ []) opened) (client_proof c client s.at.before first.client_each) in
      let whole : turns ≡ (later ++ (t ∷ s.at.later)) ++ (u ∷ s.at.before) =
      parts ∙ ap (λ (l : List Turn). later ++ (t ∷ l)) s.at.parts ∙ sym (append_assoc later (t ∷ s.at.later) (u ∷ s.at.before)) in
      let servers : server_turns turns ≡ server_turns (later ++ (t ∷ s.at.later)) ++ (u ∷ server_turns s.at.before) =
      ap server_turns whole ∙ server_split (later ++ (t ∷ s.at.later)) (u ∷ s.at.before)
      ∙ ap (λ (l : List Turn). server_turns (later ++ (t ∷ s.at.later)) ++ l) (server_more u s.at.before s.end) in
      let client_seen : client_noted client.settings.least (client_turns turns) ≡ Some p.0.version =
      subst (λ (l : List Turn). client_noted client.settings.least (client_turns l) ≡ Some p.0.version)
      (sym (whole ∙ sym (append_assoc (later ++ (t ∷ s.at.later)) (u ∷ []) s.at.before)))
      (client_noted_later client.settings.least ((later ++ (t ∷ s.at.later)) ++ (u ∷ [])) s.at.before p.0.version p.0.noted) in
      let server_seen : server_noted server.settings.least (server_turns turns) ≡ Some s.version =
      subst (λ (l : List Turn). server_noted server.settings.least (server_turns l) ≡ Some s.version) (sym whole)
      (server_noted_later server.settings.least (later ++ (t ∷ s.at.later)) (u ∷ s.at.before) s.version
      (subst (λ (l : List Turn). server_noted server.settings.least l ≡ Some s.version)
      (sym (server_more u s.at.before s.end)) s.noted)) in
      let same = same_texts client.settings.public_key server.settings.public_key client.settings.nonce
      (nonce_of u.delivered.client_nonce) p.0.version s.version
      (no_collision _ _ (by_client whose.Client)
      (by_server whose.Client (server_turns (later ++ (t ∷ s.at.later))) (server_turns s.at.before) u servers s.proved))
      long (proven_nonce u (server_turns s.at.before) s.version peer.0 s.proved s.noted)
      (λ young old. no_client_echo client server (client_turns turns) p.0.version echo client_seen young)
      (λ old young. no_server_echo client server (server_turns turns) s.version echo server_seen young)
      p.1 in
      record {
        exchanged = record {
          at = s.at;
          end = s.end;
          checked = (peer.0.0.shown.acts.proved s.proved).0;
          proved = s.proved;
          client_proved = record { at = p.0.at; end = p.0.end; proved = p.0.proved };
        };
        keys = same.keys;
        versions = alike _ _ p.0.version s.version client_seen server_seen same.forms;
        nonce = λ version noted_is high. same.nonces
            (subst (λ (n : ℕ). nat_lt n 5 ≡ false) (some_one version s.version (sym noted_is ∙ server_seen)) (le-ltb version 5 high));
      }

  -- for a client that sealed in one of its turns
  pub agreed : (turns later past : List Turn) (t : Turn) → turns ≡ later ++ (t ∷ past) → t.end ≡ Client → t.acts.sealed ≡ true →
      AllTurns c client server turns → NoCollision client server turns → NoEcho client server →
      length client.settings.nonce ≡ 32 →
      Agrees client server turns past
  agreed turns later past t parts is was all no_collision echo long =
      let here = all_before c client server later (t ∷ past)
      (subst (λ (l : List Turn). AllTurns c client server l) parts all) in
      let own = client_at t past is here in
      let seen = at_some (client_noted client.settings.least (t ∷ client_turns past)) _ (own.0.0.held.sealed was) in
      let text = prescribed whose.Server seen.0 client.settings.nonce client.settings.public_key in
      let opened = seals_once_opened c client (client_turns past) t text own.0 own.1 was
      (sealing_opens t (client_turns past) seen.0 own.0 was seen.1) in
      let before = all_before c client server (t ∷ []) past here in
      let s = server_proved past text (own.2 (text ∷ []) opened) (server_proof c server past before.server_each) in
      agreed_by turns later past t parts is seen.0 seen.1 all no_collision echo long before s

  -- ---- a server that finished

  pub finished_shows : (f : ServerFrame C) (t : Turn) (out : Outcome) → IsFinished out → ShowsAnswer (server_shown f) t out →
      (f.state ≡ AuthInfo) × (t.acts.opened ≡ true)
  finished_shows f t (outcome.Reply reply) is h = absurd is
  finished_shows f t (outcome.Final reply) is h = absurd is
  finished_shows f t outcome.Finished is h = h
  finished_shows f t (outcome.Refused kind reply) is h = absurd is

  pub held : {P : Type 0} (law : IsContext c) (p : ProxyMeaning P) (first now : ServerView C P) (identity : AuthIdentity)
      (turns : List Turn) → IsFreshServer first → now.context ≡ server.context →
      GaveIn c p first identity (server_turns turns) now → AllTurns c client server turns → HoldsSealed client server turns identity
  held {P} law p first now identity turns fresh left gave all =
      let t = gave.turn in
      let place = server_place turns gave.later t gave.before gave.parts in
      let here = all_before c client server place.later (t ∷ place.past)
      (subst (λ (l : List Turn). AllTurns c client server l) place.parts all) in
      let turn = server_at t place.past place.end here in
      let shows = finished_shows (server_frame_at server (server_turns place.past) t) t t.outcome gave.finished turn.0.0.shown.reply in
      let one = one_opened c server (server_turns place.past) turn.0.1 turn.1 shows.0 in
      let unchecked = open_alone c server (server_frame_at server (server_turns place.past) t) t turn.0.0.shown.acts shows.1 in
      let text = given_text c law p first now identity (server_turns turns) gave fresh
      (subst (λ (l : List Turn). NoneRefused l) place.before_is turn.1) unchecked shows.1 in
      let opens : OpensIn c server.context (opened_in (server_turns place.past)) t.delivered.auth_info text.0 =
      subst (λ (o : Option C). OpensIn c o (opened_in (server_turns place.past)) t.delivered.auth_info text.0) left
      (subst (λ (l : List Turn). OpensIn c now.context (opened_in l) t.delivered.auth_info text.0) (sym place.before_is) text.1) in
      let opened = opened_at_end c server (server_turns place.past) t (one.0 ∷ []) text.0 unchecked shows.1 one.1 opens in
      let before = all_before c client server (t ∷ []) place.past here in
      let first_of = turn.2 (text.0 ∷ (one.0 ∷ [])) opened in
      let sealed = second_seal c client place.past text.0 one.0 first_of.0
      (sealings_in c client place.past before.client_each before.client_others) first_of.1 in
      let own = has_password client.settings.credentials client.settings.delegation text.0 sealed.1 in
      record {
        at = record { later = place.later; turn = t; before = place.past; parts = place.parts };
        end = place.end;
        finished = gave.finished;
        client_sealed = sealed.0;
        text = text.0;
        delegated = sealed.1;
        read = text.2;
        own = own.0;
        credentials_are = own.1;
        identity_is = own_identity client.settings.credentials client.settings.delegation own.0 identity text.0 own.1 sealed.1 text.2;
      }

  pub agreement : {P : Type 0} (law : IsContext c) (p : ProxyMeaning P) (first now : ServerView C P) (turns : List Turn)
      (identity : Option AuthIdentity) → IsFreshServer first → now.context ≡ server.context →
      ((given : AuthIdentity) → identity ≡ Some given → GaveIn c p first given (server_turns turns) now) →
      AllTurns c client server turns → length client.settings.nonce ≡ 32 → Agreement client server turns identity
  agreement law p first now turns identity fresh left gave all long = record {
    a_client_that_sealed = λ no_collision echo at end sealed.
        agreed turns at.later at.before at.turn at.parts end sealed all no_collision echo long;
    a_server_that_finished = λ given is. held law p first now given turns fresh left (gave given is) all;
  }
