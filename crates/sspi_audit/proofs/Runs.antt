-- What an exchange leaves is shown right.
use Rattle.std.proofs.Common.{◌≡◌, ℕ, ◌⊎◌, inl, inr, List, [], ◌∷◌, reverse, Option, None, Some, Bool, true, false, nat_lt, Ok, Err}
use Rattle.std.proofs.Common.{Result, if◌then◌else◌, sym, ap, subst, refl, arith}
use Rattle.std.proofs.lemmas.Bool.{le-ltb}
use Rattle.sspi_types.specs.declared.error.Error.{Error}
use Rattle.sspi_types.specs.declared.security_status.SecurityStatus.{SecurityStatus}
use Rattle.sspi_types.specs.declared.security_status.SecurityStatus.TheVariants as statuses
use Rattle.sspi_mech.specs.Context.{IsContext}
use Rattle.sspi_mech.specs.Meaning.{Meaning}
use Rattle.sspi_tsreq.specs.declared.request.TsRequest.{TsRequest}
use Rattle.sspi_credssp.specs.declared.state.CredSspState.{CredSspState}
use Rattle.sspi_credssp.specs.declared.state.CredSspState.TheVariants as state
use Rattle.sspi_credssp.specs.declared.turn.End.{End}
use Rattle.sspi_credssp.specs.declared.turn.End.TheVariants.{Client, Server}
use Rattle.sspi_credssp.specs.declared.turn.Outcome.{Outcome}
use Rattle.sspi_credssp.specs.declared.turn.Outcome.TheVariants as outcome
use Rattle.sspi_credssp.specs.declared.turn.Turn.{Turn}
use Rattle.sspi_credssp.specs.Ends.{ClientView, ServerView}
use Rattle.sspi_credssp.specs.ClientTurn.{IsClientTurn}
use Rattle.sspi_credssp.specs.Context.{ContextSetting}
use Rattle.sspi_credssp.specs.Acts.{SealsIn}
use Rattle.sspi_credssp.specs.Exchange.{IfText}
use Rattle.sspi_credssp.specs.Turn.{HoldsNego, HoldsReply, HoldsAnswer, ShownFrame, IsOwn, ShowsNego, ShowsOver, ShowsNegoBack}
use Rattle.sspi_credssp.specs.Turn.{ShowsStateBack, ShowsReply, ShowsAnswer, client_shown, server_shown, AtNoted, ClientFrame, ServerFrame}
use Rattle.sspi_credssp.specs.Noted.{noted_with}
use Rattle.sspi_credssp.specs.Requests.{IsLong}
use Rattle.sspi_delegate.specs.declared.carried.Carried.{Carried}
use Rattle.sspi_delegate.specs.Turns.{ClientEnd, client_end, ServerEnd, server_end, client_noted, client_frame_at, EachClientTurn}
use Rattle.sspi_delegate.specs.Turns.{server_noted, server_frame_at, EachServerTurn}
use Rattle.sspi_delegate.specs.Turns.{client_turns, server_turns, onto_client, onto_server, Alternates}
use Rattle.sspi_delegate.specs.Headline.{IsRun}
use Rattle.sspi_audit.specs.Frames.{client_frame, server_frame, own_version, told_by}
use Rattle.sspi_audit.specs.Left.{LeavesShown}
use Rattle.sspi_audit.specs.Shown.{ShowsTurn, HasLongBlobs, EachShown}
use Rattle.sspi_audit.proofs.Logs.{EachHasEntries, entered}
use Rattle.sspi_audit.proofs.Weaker.{Knows, client_by, server_by}

-- ---- the version that is pinned, whatever the least version is

pub noted_by : (low : Bool) (version noted : ℕ) → (if low then None else Some version) ≡ Some noted → Some version ≡ Some noted
noted_by true version noted is = absurd (cc (is))
noted_by false version noted is = is

noted_any : (least version noted : ℕ) → noted_with least None version ≡ Some noted → noted_with 0 None version ≡ Some noted
noted_any least version noted is = rw (le-ltb version 0 (omega arith)) (noted_by (nat_lt version least) version noted is)

pub client_any : (least : ℕ) (turns : List Turn) (noted : ℕ) → client_noted least turns ≡ Some noted → client_noted 0 turns ≡ Some noted
client_any least [] noted is = absurd (cc (is))
client_any least (t ∷ []) noted is = absurd (cc (is))
client_any least (t ∷ u ∷ []) noted is = noted_any least t.delivered.version noted is
client_any least (t ∷ u ∷ v ∷ past) noted is = client_any least (u ∷ v ∷ past) noted is

pub server_any : (least : ℕ) (turns : List Turn) (noted : ℕ) → server_noted least turns ≡ Some noted → server_noted 0 turns ≡ Some noted
server_any least [] noted is = absurd (cc (is))
server_any least (t ∷ []) noted is = noted_any least t.delivered.version noted is
server_any least (t ∷ u ∷ past) noted is = server_any least (u ∷ past) noted is

-- ---- an end's own version, by the messages that it sent

told_on : (own : ℕ) (told : Option ℕ) (out : Outcome) → (told ≡ None) ⊎ (told ≡ Some own) →
    ((r : TsRequest) → out ≡ outcome.Reply r → r.version ≡ own) → ((r : TsRequest) → out ≡ outcome.Final r → r.version ≡ own) →
    (told_by told out ≡ None) ⊎ (told_by told out ≡ Some own)
told_on own (Some version) out was reply final = was
told_on own None (outcome.Reply r) was reply final = inr (ap Some (reply r refl))
told_on own None (outcome.Final r) was reply final = inr (ap Some (final r refl))
told_on own None outcome.Finished was reply final = inl refl
told_on own None (outcome.Refused kind r) was reply final = inl refl

own_nego : (f : ShownFrame) (own : ℕ) (t : Turn) (status : Option SecurityStatus) (r : TsRequest) → f.version ≡ Some own →
    ShowsNego f t status r → IsOwn (Some own) r.version
own_nego f own t None r is shows = absurd shows
own_nego f own t (Some statuses.Ok) r is shows = subst (λ (o : Option ℕ). IsOwn o r.version) is shows.version
own_nego f own t (Some statuses.ContinueNeeded) r is shows = subst (λ (o : Option ℕ). IsOwn o r.version) is shows.version
own_nego f own t (Some statuses.CompleteNeeded) r is shows = subst (λ (o : Option ℕ). IsOwn o r.version) is shows.version
own_nego f own t (Some statuses.CompleteAndContinue) r is shows = subst (λ (o : Option ℕ). IsOwn o r.version) is shows.version
own_nego f own t (Some statuses.LocalLogon) r is shows = subst (λ (o : Option ℕ). IsOwn o r.version) is shows.version
own_nego f own t (Some statuses.ContextExpired) r is shows = subst (λ (o : Option ℕ). IsOwn o r.version) is shows.version
own_nego f own t (Some statuses.IncompleteCredentials) r is shows = subst (λ (o : Option ℕ). IsOwn o r.version) is shows.version
own_nego f own t (Some statuses.Renegotiate) r is shows = subst (λ (o : Option ℕ). IsOwn o r.version) is shows.version
own_nego f own t (Some statuses.NoLsaContext) r is shows = subst (λ (o : Option ℕ). IsOwn o r.version) is shows.version

own_reply : (f : ShownFrame) (own : ℕ) (t : Turn) (out : Outcome) → f.version ≡ Some own → ShowsReply f t out →
    ((r : TsRequest) → out ≡ outcome.Reply r → r.version ≡ own) × ((r : TsRequest) → out ≡ outcome.Final r → r.version ≡ own)
own_reply f own t (outcome.Reply s) is shows = (
  (λ r same. let v : s.version ≡ own = own_nego f own t t.acts.status s is shows in let e : s ≡ r = cc (same) in
      subst (λ (q : TsRequest). q.version ≡ own) e v),
  (λ r same. absurd (cc (same))),
)
own_reply f own t (outcome.Final s) is shows = (
  (λ r same. absurd (cc (same))),
  (λ r same. let v : s.version ≡ own = subst (λ (o : Option ℕ). IsOwn o s.version) is shows.version in let e : s ≡ r = cc (same) in
      subst (λ (q : TsRequest). q.version ≡ own) e v),
)
own_reply f own t outcome.Finished is shows = absurd shows
own_reply f own t (outcome.Refused kind reply) is shows = ((λ r same. absurd (cc (same))), (λ r same. absurd (cc (same))))

own_over : (f : ShownFrame) (own : ℕ) (t : Turn) (blob : Option (List ℕ)) (r : TsRequest) → f.version ≡ Some own →
    ShowsOver f t blob r → IsOwn (Some own) r.version
own_over f own t None r is shows = subst (λ (o : Option ℕ). IsOwn o r.version) is shows.0.version
own_over f own t (Some blob) r is shows = subst (λ (o : Option ℕ). IsOwn o r.version) is shows.version

own_back : (f : ShownFrame) (own : ℕ) (t : Turn) (status : Option SecurityStatus) (r : TsRequest) → f.version ≡ Some own →
    ShowsNegoBack f t status r → IsOwn (Some own) r.version
own_back f own t None r is shows = absurd shows
own_back f own t (Some statuses.Ok) r is shows = own_over f own t t.delivered.pub_key_auth r is shows
own_back f own t (Some statuses.ContinueNeeded) r is shows = subst (λ (o : Option ℕ). IsOwn o r.version) is shows.version
own_back f own t (Some statuses.CompleteNeeded) r is shows = own_over f own t t.delivered.pub_key_auth r is shows
own_back f own t (Some statuses.CompleteAndContinue) r is shows = absurd shows
own_back f own t (Some statuses.LocalLogon) r is shows = absurd shows
own_back f own t (Some statuses.ContextExpired) r is shows = absurd shows
own_back f own t (Some statuses.IncompleteCredentials) r is shows = absurd shows
own_back f own t (Some statuses.Renegotiate) r is shows = absurd shows
own_back f own t (Some statuses.NoLsaContext) r is shows = absurd shows

own_state : (f : ShownFrame) (own : ℕ) (t : Turn) (at : CredSspState) (r : TsRequest) → f.version ≡ Some own →
    ShowsStateBack f t at r → IsOwn (Some own) r.version
own_state f own t state.NegoToken r is shows = own_back f own t t.acts.status r is shows
own_state f own t state.PubKeyInfo r is shows = subst (λ (o : Option ℕ). IsOwn o r.version) is shows.version
own_state f own t state.AuthInfo r is shows = absurd shows
own_state f own t state.Final r is shows = absurd shows

own_answer : (f : ShownFrame) (own : ℕ) (t : Turn) (out : Outcome) → f.version ≡ Some own → ShowsAnswer f t out →
    ((r : TsRequest) → out ≡ outcome.Reply r → r.version ≡ own) × ((r : TsRequest) → out ≡ outcome.Final r → r.version ≡ own)
own_answer f own t (outcome.Reply s) is shows = (
  (λ r same. let v : s.version ≡ own = own_state f own t f.state s is shows in let e : s ≡ r = cc (same) in
      subst (λ (q : TsRequest). q.version ≡ own) e v),
  (λ r same. absurd (cc (same))),
)
own_answer f own t (outcome.Final s) is shows = absurd shows
own_answer f own t outcome.Finished is shows = ((λ r same. absurd (cc (same))), (λ r same. absurd (cc (same))))
own_answer f own t (outcome.Refused kind reply) is shows = ((λ r same. absurd (cc (same))), (λ r same. absurd (cc (same))))

module _ {C : Type 0} (c : Meaning ContextSetting C) (laws : IsContext c) where
  client_told : (e : ClientEnd C) (past : List Turn) → EachClientTurn c e past →
      (own_version past ≡ None) ⊎ (own_version past ≡ Some e.settings.version)
  client_told e [] each = inl refl
  client_told e (t ∷ past) each =
      let own = own_reply (client_shown (client_frame_at e past t)) e.settings.version t t.outcome refl each.0.shown.reply in
      told_on e.settings.version (own_version past) t.outcome (client_told e past each.1) own.0 own.1

  pub server_told : (e : ServerEnd C) (past : List Turn) → EachServerTurn c e past →
      (own_version past ≡ None) ⊎ (own_version past ≡ Some e.settings.version)
  server_told e [] each = inl refl
  server_told e (t ∷ past) each =
      let own = own_answer (server_shown (server_frame_at e past t)) e.settings.version t t.outcome refl each.0.shown.reply in
      told_on e.settings.version (own_version past) t.outcome (server_told e past each.1) own.0 own.1

  -- ---- blobs

  long : (context : Option C) (n : ℕ) (text : List ℕ) (blob : Option (List ℕ)) → SealsIn c context n text blob → IsLong blob
  long None n text blob seals = absurd seals
  long (Some m) n text None seals = absurd seals
  long (Some m) n text (Some blob) seals = laws.long_blob m n text blob seals

  long_noted : (noted : Option ℕ) (context : Option C) (n : ℕ) (text : ℕ → List ℕ) (blob : Option (List ℕ)) →
      AtNoted noted (λ v. SealsIn c context n (text v) blob) → IsLong blob
  long_noted None context n text blob at = absurd at
  long_noted (Some v) context n text blob at = long context n (text v) blob at

  long_text : (text : Result (List ℕ) Error) (context : Option C) (n : ℕ) (blob : Option (List ℕ)) →
      IfText text (λ t. SealsIn c context n t blob) → IsLong blob
  long_text (Err error) context n blob if_text = absurd if_text
  long_text (Ok text) context n blob if_text = long context n text blob if_text

  client_long : (f : ClientFrame C) (t : Turn) (out : Outcome) → IsClientTurn c f t → HoldsReply c f t.acts.status out → HasLongBlobs t out
  client_long f t (outcome.Reply r) is holds = λ proved.
      let ok = (is.shown.acts.proved proved).0 in
      long_noted f.noted f.context f.made _ r.pub_key_auth
      (subst (λ (s : Option SecurityStatus). HoldsNego c f s r) ok holds).proof
  client_long f t (outcome.Final r) is holds = long_text _ f.context f.made r.auth_info holds
  client_long f t outcome.Finished is holds = tt
  client_long f t (outcome.Refused kind reply) is holds = tt

  server_long : (f : ServerFrame C) (t : Turn) (out : Outcome) → ShowsAnswer (server_shown f) t out → HoldsAnswer c f t out →
      HasLongBlobs t out
  server_long f t (outcome.Reply r) shows holds = λ proved. long_noted f.noted f.context f.made _ r.pub_key_auth (holds proved)
  server_long f t (outcome.Final r) shows holds = absurd shows
  server_long f t outcome.Finished shows holds = tt
  server_long f t (outcome.Refused kind reply) shows holds = tt

  -- ---- each turn

  client_knows : (e : ClientEnd C) (past : List Turn) (t : Turn) → EachClientTurn c e past →
      Knows (client_shown (client_frame_at e past t)) (client_frame past t)
  client_knows e past t each = record {
    state = refl;
    looks = refl;
    noted = client_any e.settings.least (t ∷ past);
    version = client_told e past each;
  }

  server_knows : (e : ServerEnd C) (past : List Turn) (t : Turn) → EachServerTurn c e past →
      Knows (server_shown (server_frame_at e past t)) (server_frame past t)
  server_knows e past t each = record {
    state = refl;
    looks = refl;
    noted = server_any e.settings.least (t ∷ past);
    version = server_told e past each;
  }

  -- a turn fits what the earlier turns of its end tell, and so do those before it
  record Turned (client : ClientEnd C) (server : ServerEnd C) (past : List Turn) (t : Turn) : Type 0 where
    shows : ShowsTurn t.end past t
    blobs : HasLongBlobs t t.outcome
    client_before : EachClientTurn c client (client_turns past)
    server_before : EachServerTurn c server (server_turns past)

  turned : (client : ClientEnd C) (server : ServerEnd C) (end : End) (t : Turn) (past : List Turn) → t.end ≡ end →
      EachClientTurn c client (onto_client end t (client_turns past)) → EachServerTurn c server (onto_server end t (server_turns past)) →
      Turned client server past t
  turned client server Client t past is client_each server_each = record {
    shows = subst (λ (end : End). ShowsTurn end past t) (sym is)
        (client_by _ _ (client_knows client (client_turns past) t client_each.1) t client_each.0.shown);
    blobs = client_long (client_frame_at client (client_turns past) t) t t.outcome client_each.0 client_each.0.held.reply;
    client_before = client_each.1;
    server_before = server_each;
  }
  turned client server Server t past is client_each server_each = record {
    shows = subst (λ (end : End). ShowsTurn end past t) (sym is)
        (server_by _ _ (server_knows server (server_turns past) t server_each.1) t server_each.0.shown);
    blobs = server_long (server_frame_at server (server_turns past) t) t t.outcome server_each.0.shown.reply server_each.0.held.reply;
    client_before = client_each;
    server_before = server_each.1;
  }

  each_shown : (client : ClientEnd C) (server : ServerEnd C) (whole : List Carried) (turns : List Turn) → Alternates turns →
      EachClientTurn c client (client_turns turns) → EachServerTurn c server (server_turns turns) → EachHasEntries whole turns →
      EachShown whole turns
  each_shown client server whole [] order client_each server_each entries = tt
  each_shown client server whole (t ∷ past) order client_each server_each entries =
      let at = turned client server t.end t past refl client_each server_each in (
        record {
          order = order.0;
          going = order.1;
          given = entries.0.given;
          shows = at.shows;
          long = at.blobs;
          entry = entries.0.entry;
        },
        each_shown client server whole past order.2 at.client_before at.server_before entries.1,
      )

  pub run_is_shown : {P : Type 0} (client client2 : ClientView C) (server server2 : ServerView C P) (base log : List Carried)
      (turns : List Turn) → IsRun c client client2 server server2 base log turns → LeavesShown base log turns
  run_is_shown client client2 server server2 base log turns run =
      let log_of = entered base turns log run.entries in
      record {
        added = log_of.added;
        parts = log_of.parts;
        shown = record {
          each = each_shown (client_end client2) (server_end server2) (reverse log_of.added) turns run.order run.client_ran.each
              run.server_ran.each log_of.each;
          counted = log_of.counted;
        };
      }
