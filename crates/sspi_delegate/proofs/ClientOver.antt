-- A client's turn stays a turn if its context is replaced by one that is equal except for the
-- counts; or by any other, if the turn says nothing about the context.
use Rattle.std.proofs.Common.{◌≡◌, ℕ, Bool, true, List, sym, ◌∙◌, ap, subst, Option, None, Some, Result, Ok, Err}
use Rattle.sspi_mech.specs.Context.{IsContext}
use Rattle.sspi_mech.specs.Meaning.{Meaning}
use Rattle.sspi_tsreq.specs.declared.request.TsRequest.{TsRequest}
use Rattle.sspi_types.specs.declared.security_status.SecurityStatus.{SecurityStatus}
use Rattle.sspi_types.specs.declared.security_status.SecurityStatus.TheVariants as statuses
use Rattle.sspi_credssp.specs.declared.public_key.EndpointType.TheVariants.{Client, Server}
use Rattle.sspi_types.specs.declared.error.Error.{Error}
use Rattle.sspi_credssp.specs.Ends.{ClientSettings}
use Rattle.sspi_credssp.specs.ClientTurn.{IsClientTurn}
use Rattle.sspi_credssp.specs.Exchange.{IfText, delegated_text, prescribed}
use Rattle.sspi_credssp.specs.Context.{ContextSetting}
use Rattle.sspi_credssp.specs.Acts.{SameBut, SealsIn, OpensIn, silent, cleared}
use Rattle.sspi_credssp.specs.Turn.{HoldsNego, HoldsReply, client_shown, ShowsClientActs, ShowsNego, ShowsReply, ClientFrame, UnlessRefused}
use Rattle.sspi_credssp.specs.Turn.{FitsNoted, AtNoted}
use Rattle.sspi_credssp.specs.declared.turn.Outcome.{Outcome}
use Rattle.sspi_credssp.specs.declared.turn.Outcome.TheVariants as outcome
use Rattle.sspi_credssp.specs.declared.turn.Turn.{Turn}

-- two frames of one end that agree on all that the turn refers to
pub record SameFrame {C : Type 0} (c : Meaning ContextSetting C) (f g : ClientFrame C) (t : Turn) : Type 0 where
  pub settings : g.settings ≡ f.settings
  pub state : g.state ≡ f.state
  pub looks : g.looks ≡ f.looks
  pub noted : UnlessRefused t.outcome (g.noted ≡ f.noted)
  pub proved : t.acts.proved ≡ true → (g.noted ≡ f.noted) × (g.made ≡ f.made) × SameBut c f.context g.context
  pub checked : t.acts.checked ≡ true → (g.noted ≡ f.noted) × (g.opened ≡ f.opened) × SameBut c f.context g.context
  pub sealed : t.acts.sealed ≡ true → g.made ≡ f.made

module _ {C : Type 0} (c : Meaning ContextSetting C) (law : IsContext c) where
  -- what differs only in its counts is the same object with other counts
  recounted : (m m2 : C) → cleared c m2 ≡ cleared c m → m ≡ c.counted m2 (c.counts m)
  recounted m m2 same =
      sym (law.counted_counts m)
      ∙ sym (law.counted_counted m (silent (c.counts m)) (c.counts m))
      ∙ ap (λ (x : C). c.counted x (c.counts m)) (sym same)
      ∙ law.counted_counted m2 (silent (c.counts m2)) (c.counts m)

  pub seals_still : (x y : Option C) (n : ℕ) (text : List ℕ) (blob : Option (List ℕ)) → SameBut c x y → SealsIn c x n text blob →
      SealsIn c y n text blob
  seals_still None y n text blob same h = absurd h
  seals_still (Some m) None n text blob same h = absurd same
  seals_still (Some m) (Some m2) n text None same h = absurd h
  seals_still (Some m) (Some m2) n text (Some blob) same h =
      law.seals_counted m2 (c.counts m) n text blob (subst (λ (x : C). c.seals x n text blob) (recounted m m2 same) h)

  pub opens_still : (x y : Option C) (n : ℕ) (blob : Option (List ℕ)) (text : List ℕ) → SameBut c x y → OpensIn c x n blob text →
      OpensIn c y n blob text
  opens_still None y n blob text same h = absurd h
  opens_still (Some m) None n blob text same h = absurd same
  opens_still (Some m) (Some m2) n None text same h = absurd h
  opens_still (Some m) (Some m2) n (Some blob) text same h =
      law.opens_counted m2 (c.counts m) n blob text (subst (λ (x : C). c.opens x n blob text) (recounted m m2 same) h)

  pub at_noted : (noted noted2 : Option ℕ) (P Q : ℕ → Type 0) → noted2 ≡ noted → ((version : ℕ) → P version → Q version) →
      AtNoted noted P → AtNoted noted2 Q
  at_noted noted noted2 P Q same weaker h = rw same (weaker_at noted P Q weaker h)
    where
      weaker_at : (noted : Option ℕ) (P Q : ℕ → Type 0) → ((version : ℕ) → P version → Q version) → AtNoted noted P → AtNoted noted Q
      weaker_at None P Q weaker h = h
      weaker_at (Some version) P Q weaker h = weaker version h

  -- ---- what recorded bytes can show

  acts_over : (f g : ClientFrame C) (t : Turn) → SameFrame c f g t → ShowsClientActs (client_shown f) t → ShowsClientActs (client_shown g) t
  acts_over f g t same acts = record {
    negotiated = λ was. same.state ∙ acts.negotiated was;
    answered = acts.answered;
    proved = λ was. ((acts.proved was).0, rw (same.proved was).0 (acts.proved was).1);
    checked = λ was. (same.state ∙ (acts.checked was).0, (acts.checked was).1);
    sealed = acts.sealed;
    opened = acts.opened;
  }

  nego_over : (f g : ClientFrame C) (t : Turn) (answered : Option SecurityStatus) (reply : TsRequest) → SameFrame c f g t →
      ShowsNego (client_shown f) t answered reply → ShowsNego (client_shown g) t answered reply
  nego_over f g t None reply same h = h
  nego_over f g t (Some statuses.Ok) reply same h = record {
    state = same.state ∙ h.state;
    proved = h.proved;
    version = h.version ∙ sym (ap (λ (s : ClientSettings). s.version) same.settings);
    nonce = h.nonce;
    reply = h.reply;
  }
  nego_over f g t (Some other) reply same h = record {
    state = same.state ∙ h.state;
    version = h.version ∙ sym (ap (λ (s : ClientSettings). s.version) same.settings);
    reply = h.reply;
  }

  replies_over : (f g : ClientFrame C) (t : Turn) (out : Outcome) → SameFrame c f g t → ShowsReply (client_shown f) t out →
      ShowsReply (client_shown g) t out
  replies_over f g t (outcome.Reply reply) same h = nego_over f g t t.acts.status reply same h
  replies_over f g t (outcome.Final reply) same h = record {
    state = same.state ∙ h.state;
    checked = h.checked;
    sealed = h.sealed;
    version = h.version ∙ sym (ap (λ (s : ClientSettings). s.version) same.settings);
    reply = h.reply;
  }
  replies_over f g t outcome.Finished same h = h
  replies_over f g t (outcome.Refused kind None) same h = h
  replies_over f g t (outcome.Refused kind (Some reply)) same h = h

  fits_over : (looks : Bool) (noted noted2 : Option ℕ) (version : ℕ) (out : Outcome) → UnlessRefused out (noted2 ≡ noted) →
      UnlessRefused out (FitsNoted looks noted version) →
      UnlessRefused out (FitsNoted looks noted2 version)
  fits_over looks noted noted2 version (outcome.Reply reply) same h = rw same h
  fits_over looks noted noted2 version (outcome.Final reply) same h = rw same h
  fits_over looks noted noted2 version outcome.Finished same h = rw same h
  fits_over looks noted noted2 version (outcome.Refused kind reply) same h = h

  -- ---- what the recorded bytes rest on

  proof_over : (f g : ClientFrame C) (t : Turn) (answered : Option SecurityStatus) (reply : TsRequest) → SameFrame c f g t →
      ShowsNego (client_shown f) t answered reply → HoldsNego c f answered reply → HoldsNego c g answered reply
  proof_over f g t None reply same shows h = tt
  proof_over f g t (Some statuses.Ok) reply same shows h = let k = same.proved shows.proved in record {
    nonce = rw same.settings h.nonce;
    proof = at_noted f.noted g.noted _ _ k.0 (λ version seals.
        rw (k.1, same.settings) (seals_still f.context g.context f.made
        (prescribed Client version f.settings.nonce f.settings.public_key) reply.pub_key_auth k.2 seals)) h.proof;
  }
  proof_over f g t (Some other) reply same shows h = tt

  text_over : (text : Result (List ℕ) Error) (P Q : List ℕ → Type 0) → ((x : List ℕ) → P x → Q x) → IfText text P → IfText text Q
  text_over (Ok x) P Q weaker h = weaker x h
  text_over (Err error) P Q weaker h = h

  holds_over : (f g : ClientFrame C) (t : Turn) (out : Outcome) → SameFrame c f g t → ShowsReply (client_shown f) t out →
      HoldsReply c f t.acts.status out → HoldsReply c g t.acts.status out
  holds_over f g t (outcome.Reply reply) same shows h = proof_over f g t t.acts.status reply same shows h
  holds_over f g t (outcome.Final reply) same shows h = let k = same.checked shows.checked in
      rw (same.settings, same.sealed shows.sealed)
      (text_over (delegated_text f.settings.credentials f.settings.delegation) _ _
      (λ text seals. seals_still f.context g.context f.made text reply.auth_info k.2 seals) h)
  holds_over f g t outcome.Finished same shows h = tt
  holds_over f g t (outcome.Refused kind reply) same shows h = tt

  pub client_over : (f g : ClientFrame C) (t : Turn) → SameFrame c f g t → IsClientTurn c f t → IsClientTurn c g t
  client_over f g t same turn = let shown = turn.shown in record {
    shown = record {
      code = shown.code;
      version = rw same.looks (fits_over f.looks f.noted g.noted t.delivered.version t.outcome same.noted shown.version);
      acts = acts_over f g t same shown.acts;
      reply = replies_over f g t t.outcome same shown.reply;
    };
    held = record {
      sealed = λ was. let k = same.checked (shown.acts.sealed was) in
          at_noted f.noted g.noted _ _ k.0 (λ version h.
          rw (k.1, same.settings) (opens_still f.context g.context f.opened t.delivered.pub_key_auth
          (prescribed Server version f.settings.nonce f.settings.public_key) k.2 h))
          (turn.held.sealed was);
      reply = holds_over f g t t.outcome same shown.reply turn.held.reply;
    };
  }
