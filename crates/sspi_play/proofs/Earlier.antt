-- The turns of an undisturbed exchange before its proofs: no request has a proof, and no turn opens anything.
use Rattle.std.proofs.Common.{◌≡◌, ℕ, Bool, true, false, ◌&&◌, List, [], ◌∷◌, Option, None, Some, Result, Ok, Err}
use Rattle.std.proofs.Common.{sym, ◌∙◌, ap, subst, refl, if◌then◌else◌}
use Rattle.std.proofs.lemmas.List.{append-nil}
use Rattle.sspi_types.specs.declared.error.Error.{Error}
use Rattle.sspi_types.specs.declared.security_status.SecurityStatus.{SecurityStatus}
use Rattle.sspi_types.specs.declared.security_status.SecurityStatus.TheVariants as statuses
use Rattle.sspi_mech.specs.Meaning.{Meaning}
use Rattle.sspi_tsreq.specs.declared.request.TsRequest.{TsRequest}
use Rattle.sspi_credssp.specs.declared.state.CredSspState.{CredSspState}
use Rattle.sspi_credssp.specs.declared.state.CredSspState.TheVariants.{NegoToken, PubKeyInfo, AuthInfo, Final}
use Rattle.sspi_credssp.specs.declared.turn.End.{End}
use Rattle.sspi_credssp.specs.declared.turn.End.TheVariants.{Client, Server}
use Rattle.sspi_credssp.specs.declared.turn.Outcome.{Outcome}
use Rattle.sspi_credssp.specs.declared.turn.Outcome.TheVariants as outcome
use Rattle.sspi_credssp.specs.declared.turn.Turn.{Turn}
use Rattle.sspi_credssp.specs.Context.{ContextSetting}
use Rattle.sspi_credssp.specs.Exchange.{IfText}
use Rattle.sspi_credssp.specs.Turn.{message_of, client_shown, server_shown, ShowsNego, ShowsReply, ShowsOver, ShowsNegoBack}
use Rattle.sspi_credssp.specs.Turn.{ShowsStateBack, ShowsAnswer, ClientFrame, ServerFrame}
use Rattle.sspi_delegate.specs.Turns.{ClientEnd, ServerEnd, EachClientTurn, EachServerTurn, Alternates, AllGoOn, GoesOn, NoneRefused}
use Rattle.sspi_delegate.specs.Turns.{IsUnrefused, client_turns, server_turns, onto_client, onto_server, other}
use Rattle.sspi_delegate.specs.Turns.{client_frame_at, server_frame_at, any_ended, any_proved, is_ended, is_replied}
use Rattle.sspi_play.specs.Faithful.{AreFirstOf, OpensWhatWasSealed}
use Rattle.sspi_play.specs.Undisturbed.{IsWritten, IsGivenAfter, AreHandedOn}
use Rattle.sspi_play.proofs.ClientSeals.{is_false, or_false, and_not, state_auth, state_nego, went_nego, reply_nego, unsealed}
use Rattle.sspi_play.proofs.ClientSeals.{proved_nego, proof_first, proof_alone}
use Rattle.sspi_play.proofs.Opened.{nothing_there}
use Rattle.sspi_play.proofs.Parts.{client_more, server_more, client_each_before, server_each_before}
use Rattle.sspi_play.proofs.ServerSeals.{at_some, at_version, check_alone, open_alone, proved_newest}
use Rattle.sspi_play.proofs.ClientSeals as of_clients
use Rattle.sspi_play.proofs.ServerSeals as of_servers

pub is_true : (b : Bool) → (b ≡ false → ⊥) → b ≡ true
is_true true refuted = refl
is_true false refuted = absurd (refuted refl)

-- ---- turns that went on

pub went_unrefused : (out : Outcome) → GoesOn out → IsUnrefused out
went_unrefused (outcome.Reply reply) went = tt
went_unrefused (outcome.Final reply) went = tt
went_unrefused outcome.Finished went = absurd went
went_unrefused (outcome.Refused kind reply) went = absurd went

pub none_refused : (past : List Turn) → AllGoOn past → NoneRefused past
none_refused [] going = tt
none_refused (t ∷ past) going = (went_unrefused t.outcome going.0, none_refused past going.1)

pub client_on : (end : End) (t : Turn) (past : List Turn) → GoesOn t.outcome → AllGoOn past → AllGoOn (onto_client end t past)
client_on Client t past one rest = (one, rest)
client_on Server t past one rest = rest

pub client_goes : (turns : List Turn) → AllGoOn turns → AllGoOn (client_turns turns)
client_goes [] going = tt
client_goes (t ∷ past) going = client_on t.end t (client_turns past) going.0 (client_goes past going.1)

pub server_on : (end : End) (t : Turn) (past : List Turn) → GoesOn t.outcome → AllGoOn past → AllGoOn (onto_server end t past)
server_on Client t past one rest = rest
server_on Server t past one rest = (one, rest)

pub server_goes : (turns : List Turn) → AllGoOn turns → AllGoOn (server_turns turns)
server_goes [] going = tt
server_goes (t ∷ past) going = server_on t.end t (server_turns past) going.0 (server_goes past going.1)

pub unended_before : (end : End) (t : Turn) (past : List Turn) → any_ended (onto_client end t past) ≡ false → any_ended past ≡ false
unended_before Client t past un = (or_false (is_ended t.outcome) (any_ended past) un).1
unended_before Server t past un = un

pub unproved_before : (end : End) (t : Turn) (past : List Turn) → any_proved (onto_server end t past) ≡ false → any_proved past ≡ false
unproved_before Client t past none = none
unproved_before Server t past none = (or_false (is_replied t.outcome && t.acts.proved) (any_proved past) none).1

-- a reply, which is not the last message
pub replied : (out : Outcome) → GoesOn out → is_ended out ≡ false → (r : TsRequest) × (out ≡ outcome.Reply r)
replied (outcome.Reply r) went un = (r, refl)
replied (outcome.Final r) went un = absurd (cc (un))
replied outcome.Finished went un = absurd went
replied (outcome.Refused kind reply) went un = absurd went

pub state_final : (ended proved : Bool) → ended ≡ true → (if ended then Final else (if proved then AuthInfo else NegoToken)) ≡ Final
state_final true proved h = refl
state_final false proved h = absurd (cc (h))

pub state_is_auth : (ended proved : Bool) → ended ≡ false → proved ≡ true →
    (if ended then Final else (if proved then AuthInfo else NegoToken)) ≡ AuthInfo
state_is_auth ended proved un was = rw (un, was) refl

-- a list is a first part of itself, and an empty list is one of any list
pub first_none : (texts all : List (List ℕ)) → texts ≡ [] → AreFirstOf texts all
first_none texts all none = (all, rw none (sym (append-nil all)))

pub first_all : (texts all : List (List ℕ)) → texts ≡ all → AreFirstOf texts all
first_all texts all same = ([], sym same)

pub first_more : (texts all : List (List ℕ)) (x : List ℕ) → all ≡ x ∷ texts → AreFirstOf texts all
first_more texts all x more = (x ∷ [], more)

pub one_alone : (texts before : List (List ℕ)) (x y : List ℕ) → texts ≡ x ∷ before → before ≡ [] → x ≡ y → texts ≡ y ∷ []
one_alone texts before x y all none same = all ∙ (rw (none, same) refl)

pub some_text : (x : Result (List ℕ) Error) (P : List ℕ → Type 0) → IfText x P → (text : List ℕ) × (x ≡ Ok text) × P text
some_text (Ok text) P h = (text, refl, h)
some_text (Err error) P h = absurd h

pub written_proof : (message : Option TsRequest) (r d : TsRequest) → message ≡ Some r → IsWritten message d → d.pub_key_auth ≡ r.pub_key_auth
written_proof message r d is written =
    let at : IsWritten (Some r) d = subst (λ (m : Option TsRequest). IsWritten m d) is written in
    ap (λ (q : TsRequest). q.pub_key_auth) at

pub written_credentials : (message : Option TsRequest) (r d : TsRequest) → message ≡ Some r → IsWritten message d →
    d.auth_info ≡ r.auth_info
written_credentials message r d is written =
    let at : IsWritten (Some r) d = subst (λ (m : Option TsRequest). IsWritten m d) is written in
    ap (λ (q : TsRequest). q.auth_info) at

module _ {C : Type 0} (c : Meaning ContextSetting C) (client : ClientEnd C) (server : ServerEnd C) where
  -- ---- a message without a proof of its own repeats that of the request that it answers

  pub token_field : (f : ClientFrame C) (t : Turn) (status : Option SecurityStatus) (r : TsRequest) →
      ShowsNego (client_shown f) t status r → t.acts.proved ≡ false → r.pub_key_auth ≡ t.delivered.pub_key_auth
  token_field f t None r h un = absurd h
  token_field f t (Some statuses.Ok) r h un = let p = h.proved in absurd (cc (p, un))
  token_field f t (Some other) r h un = ap (λ (q : TsRequest). q.pub_key_auth) h.reply

  pub over_field : (f : ServerFrame C) (t : Turn) (field : Option (List ℕ)) (r : TsRequest) → ShowsOver (server_shown f) t field r →
      t.acts.proved ≡ false → r.pub_key_auth ≡ t.delivered.pub_key_auth
  over_field f t None r h un = ap (λ (q : TsRequest). q.pub_key_auth) h.0.reply
  over_field f t (Some blob) r h un = let p = h.proved in absurd (cc (p, un))

  pub back_field : (f : ServerFrame C) (t : Turn) (status : Option SecurityStatus) (r : TsRequest) →
      ShowsNegoBack (server_shown f) t status r → t.acts.proved ≡ false → r.pub_key_auth ≡ t.delivered.pub_key_auth
  back_field f t None r h un = absurd h
  back_field f t (Some statuses.ContinueNeeded) r h un = ap (λ (q : TsRequest). q.pub_key_auth) h.reply
  back_field f t (Some statuses.CompleteNeeded) r h un = over_field f t t.delivered.pub_key_auth r h un
  back_field f t (Some statuses.Ok) r h un = over_field f t t.delivered.pub_key_auth r h un
  back_field f t (Some other) r h un = absurd h

  pub state_field : (f : ServerFrame C) (t : Turn) (state : CredSspState) (r : TsRequest) → ShowsStateBack (server_shown f) t state r →
      t.acts.proved ≡ false → r.pub_key_auth ≡ t.delivered.pub_key_auth
  state_field f t NegoToken r h un = back_field f t t.acts.status r h un
  state_field f t PubKeyInfo r h un = let p = h.proved in absurd (cc (p, un))
  state_field f t AuthInfo r h un = absurd h
  state_field f t Final r h un = absurd h

  pub client_field : (f : ClientFrame C) (t : Turn) (out : Outcome) (d : TsRequest) → ShowsReply (client_shown f) t out → GoesOn out →
      is_ended out ≡ false → is_replied out && t.acts.proved ≡ false → IsWritten (message_of out) d →
      d.pub_key_auth ≡ t.delivered.pub_key_auth
  client_field f t (outcome.Reply r) d h went un unproved written =
      ap (λ (q : TsRequest). q.pub_key_auth) written ∙ token_field f t t.acts.status r h unproved
  client_field f t (outcome.Final r) d h went un unproved written = absurd (cc (un))
  client_field f t outcome.Finished d h went un unproved written = absurd went
  client_field f t (outcome.Refused kind reply) d h went un unproved written = absurd went

  pub server_field : (f : ServerFrame C) (t : Turn) (out : Outcome) (d : TsRequest) → ShowsAnswer (server_shown f) t out → GoesOn out →
      is_replied out && t.acts.proved ≡ false → IsWritten (message_of out) d → d.pub_key_auth ≡ t.delivered.pub_key_auth
  server_field f t (outcome.Reply r) d h went unproved written =
      ap (λ (q : TsRequest). q.pub_key_auth) written ∙ state_field f t f.state r h unproved
  server_field f t (outcome.Final r) d h went unproved written = absurd h
  server_field f t outcome.Finished d h went unproved written = absurd went
  server_field f t (outcome.Refused kind reply) d h went unproved written = absurd went

  -- ---- the turns of an exchange that goes on

  pub record Going (turns : List Turn) : Type 0 where
    pub order : Alternates turns
    pub going : AllGoOn turns
    pub handed_on : AreHandedOn turns
    pub client_each : EachClientTurn c client (client_turns turns)
    pub server_each : EachServerTurn c server (server_turns turns)

  pub before : (t : Turn) (past : List Turn) → Going (t ∷ past) → Going past
  before t past g = record {
    order = g.order.2;
    going = g.order.1;
    handed_on = g.handed_on.1;
    client_each = client_each_before c client server t.end t (client_turns past) g.client_each;
    server_each = server_each_before c client server t.end t (server_turns past) g.server_each;
  }

  pub of_client : (t : Turn) (past : List Turn) → t.end ≡ Client → Going (t ∷ past) → EachClientTurn c client (t ∷ client_turns past)
  of_client t past is g = subst (λ (l : List Turn). EachClientTurn c client l) (client_more t past is) g.client_each

  pub of_server : (t : Turn) (past : List Turn) → t.end ≡ Server → Going (t ∷ past) → EachServerTurn c server (t ∷ server_turns past)
  of_server t past is g = subst (λ (l : List Turn). EachServerTurn c server l) (server_more t past is) g.server_each

  -- before the client proves no request has a proof
  pub bare_by : (t : Turn) (past : List Turn) (d : TsRequest) → Going (t ∷ past) → IsWritten (message_of t.outcome) d →
      (any_ended (client_turns past) ≡ false → any_proved (client_turns past) ≡ false → any_proved (server_turns past) ≡ false →
      t.delivered.pub_key_auth ≡ None) →
      (end : End) → t.end ≡ end → any_ended (onto_client end t (client_turns past)) ≡ false →
      any_proved (onto_client end t (client_turns past)) ≡ false → any_proved (onto_server end t (server_turns past)) ≡ false →
      d.pub_key_auth ≡ None
  bare_by t past d g written earlier Client is un none server_none =
      let ended = or_false (is_ended t.outcome) (any_ended (client_turns past)) un in
      let proved = or_false (is_replied t.outcome && t.acts.proved) (any_proved (client_turns past)) none in
      client_field (client_frame_at client (client_turns past) t) t t.outcome d (of_client t past is g).0.shown.reply g.going.0 ended.0
      proved.0 written
      ∙ earlier ended.1 proved.1 server_none
  bare_by t past d g written earlier Server is un none server_none =
      let proved = or_false (is_replied t.outcome && t.acts.proved) (any_proved (server_turns past)) server_none in
      server_field (server_frame_at server (server_turns past) t) t t.outcome d (of_server t past is g).0.shown.reply g.going.0 proved.0
      written
      ∙ earlier un none proved.1

  pub bare : (turns : List Turn) (d : TsRequest) → Going turns → IsGivenAfter turns d → any_ended (client_turns turns) ≡ false →
      any_proved (client_turns turns) ≡ false → any_proved (server_turns turns) ≡ false → d.pub_key_auth ≡ None
  bare [] d g given un none server_none = ap (λ (q : TsRequest). q.pub_key_auth) given
  bare (t ∷ past) d g given un none server_none =
      bare_by t past d g given (λ e p s. bare past t.delivered (before t past g) g.handed_on.0 e p s) t.end refl un none server_none

  -- ---- before the proofs nothing is opened

  pub early : (turns : List Turn) → Going turns → any_ended (client_turns turns) ≡ false → any_proved (server_turns turns) ≡ false →
      OpensWhatWasSealed c client server turns
  early [] g un none = tt
  early (t ∷ past) g un none = (
    λ texts opened. first_none texts _ (nothing_there c client.context (client_turns (t ∷ past)) texts
        (of_clients.nothing_opened c client (client_turns (t ∷ past)) g.client_each (client_goes (t ∷ past) g.going) un) opened),
    λ texts opened. first_none texts _ (nothing_there c server.context (server_turns (t ∷ past)) texts
        (of_servers.nothing_opened c server (server_turns (t ∷ past)) g.server_each
        (none_refused (server_turns (t ∷ past)) (server_goes (t ∷ past) g.going)) none) opened),
    early past (before t past g) (unended_before t.end t (client_turns past) un) (unproved_before t.end t (server_turns past) none),
  )
