-- A server's turn stays a turn if its context is replaced by one that is equal except for the
-- counts; or by any other, if the turn says nothing about the context.
use Rattle.std.proofs.Common.{◌≡◌, ◌⊎◌, ℕ, true, List, sym, ◌∙◌, ap, subst, refl, Option, None, Some, IsSome}
use Rattle.sspi_mech.specs.Context.{IsContext}
use Rattle.sspi_mech.specs.Meaning.{Meaning}
use Rattle.sspi_tsreq.specs.declared.request.TsRequest.{TsRequest}
use Rattle.sspi_types.specs.declared.security_status.SecurityStatus.{SecurityStatus}
use Rattle.sspi_types.specs.declared.security_status.SecurityStatus.TheVariants as statuses
use Rattle.sspi_credssp.specs.declared.public_key.EndpointType.TheVariants.{Client, Server}
use Rattle.sspi_credssp.specs.declared.state.CredSspState.{CredSspState}
use Rattle.sspi_credssp.specs.declared.state.CredSspState.TheVariants.{NegoToken, PubKeyInfo, AuthInfo, Final}
use Rattle.sspi_credssp.specs.Context.{ContextSetting}
use Rattle.sspi_credssp.specs.Acts.{SameBut}
use Rattle.sspi_credssp.specs.Requests.{version_back, error_request, nonce_of}
use Rattle.sspi_credssp.specs.Exchange.{prescribed}
use Rattle.sspi_credssp.specs.Ends.{ServerSettings}
use Rattle.sspi_credssp.specs.ServerTurn.{IsServerTurn}
use Rattle.sspi_credssp.specs.Turn.{Proven, HoldsAnswer, server_shown, MayCheck, ShowsServerActs, ShowsTokenBack, ShowsProofBack, ShowsOver}
use Rattle.sspi_credssp.specs.Turn.{ShowsNegoBack, ShowsStateBack, ShowsAnswer, ServerFrame, UnlessRefused, FitsNoted}
use Rattle.sspi_delegate.proofs.ClientOver.{seals_still, opens_still, at_noted}
use Rattle.sspi_credssp.specs.declared.turn.Outcome.{Outcome}
use Rattle.sspi_credssp.specs.declared.turn.Outcome.TheVariants as outcome
use Rattle.sspi_credssp.specs.declared.turn.Turn.{Turn}

-- a fact of a turn that was refused
abbrev pub OnceRefused : Outcome → Type 0 → Type 0
OnceRefused (outcome.Reply reply) P = Unit {0}
OnceRefused (outcome.Final reply) P = Unit {0}
OnceRefused outcome.Finished P = Unit {0}
OnceRefused (outcome.Refused kind reply) P = P

-- two frames of one end that agree on all that the turn refers to
pub record SameFrame {C : Type 0} (c : Meaning ContextSetting C) (f g : ServerFrame C) (t : Turn) : Type 0 where
  pub settings : g.settings ≡ f.settings
  pub state : g.state ≡ f.state
  pub noted : UnlessRefused t.outcome (g.noted ≡ f.noted)
  pub proved : t.acts.proved ≡ true → (g.noted ≡ f.noted) × (g.made ≡ f.made) × (g.opened ≡ f.opened) × SameBut c f.context g.context
  pub checked : t.acts.checked ≡ true → g.noted ≡ f.noted
  pub refused : OnceRefused t.outcome ((g.context ≡ f.context) × (IsSome f.context → g.noted ≡ f.noted))

module _ {C : Type 0} (c : Meaning ContextSetting C) (law : IsContext c) where
  proven_over : (f g : ServerFrame C) (t : Turn) (noted : ℕ) → SameFrame c f g t → t.acts.proved ≡ true →
      Proven c f.context f.opened f.settings.public_key t.delivered noted →
      Proven c g.context g.opened g.settings.public_key t.delivered noted
  proven_over f g t noted same was h = let k = same.proved was in record {
    opens = rw (k.2, same.settings)
        (opens_still c law f.context g.context f.opened t.delivered.pub_key_auth
        (prescribed Client noted (nonce_of t.delivered.client_nonce) f.settings.public_key) k.3 h.opens);
    nonce = h.nonce;
  }

  -- ---- what recorded bytes can show

  acts_over : (f g : ServerFrame C) (t : Turn) → SameFrame c f g t → ShowsServerActs (server_shown f) t → ShowsServerActs (server_shown g) t
  acts_over f g t same acts = record {
    negotiated = λ was. same.state ∙ acts.negotiated was;
    answered = acts.answered;
    checked = λ was. (subst (λ (s : CredSspState). MayCheck s t.acts.status) (sym same.state) (acts.checked was).0, (acts.checked was).1);
    proved = λ was. ((acts.proved was).0, at_noted c law f.noted g.noted _ _ (same.proved was).0 (λ noted h. h) (acts.proved was).1);
    opened = λ was. (same.state ∙ (acts.opened was).0, (acts.opened was).1);
    sealed = acts.sealed;
  }

  token_over : (f g : ServerFrame C) (t : Turn) (reply : TsRequest) → SameFrame c f g t →
      ShowsTokenBack (server_shown f) t reply → ShowsTokenBack (server_shown g) t reply
  token_over f g t reply same h = record {
    unproved = h.unproved;
    version = h.version ∙ sym (ap (λ (s : ServerSettings). s.version) same.settings);
    reply = h.reply;
  }

  proof_over : (f g : ServerFrame C) (t : Turn) (reply : TsRequest) → SameFrame c f g t →
      ShowsProofBack (server_shown f) t reply → ShowsProofBack (server_shown g) t reply
  proof_over f g t reply same h = record {
    checked = h.checked;
    proved = h.proved;
    version = h.version ∙ sym (ap (λ (s : ServerSettings). s.version) same.settings);
    reply = h.reply;
  }

  over_over : (f g : ServerFrame C) (t : Turn) (blob : Option (List ℕ)) (reply : TsRequest) → SameFrame c f g t →
      ShowsOver (server_shown f) t blob reply → ShowsOver (server_shown g) t blob reply
  over_over f g t None reply same h = (token_over f g t reply same h.0, h.1)
  over_over f g t (Some blob) reply same h = proof_over f g t reply same h

  nego_over : (f g : ServerFrame C) (t : Turn) (answered : Option SecurityStatus) (reply : TsRequest) → SameFrame c f g t →
      ShowsNegoBack (server_shown f) t answered reply → ShowsNegoBack (server_shown g) t answered reply
  nego_over f g t None reply same h = h
  nego_over f g t (Some statuses.ContinueNeeded) reply same h = token_over f g t reply same h
  nego_over f g t (Some statuses.CompleteNeeded) reply same h = over_over f g t t.delivered.pub_key_auth reply same h
  nego_over f g t (Some statuses.Ok) reply same h = over_over f g t t.delivered.pub_key_auth reply same h
  nego_over f g t (Some other) reply same h = h

  state_over : (f g : ServerFrame C) (t : Turn) (state : CredSspState) (reply : TsRequest) → SameFrame c f g t →
      ShowsStateBack (server_shown f) t state reply → ShowsStateBack (server_shown g) t state reply
  state_over f g t NegoToken reply same h = nego_over f g t t.acts.status reply same h
  state_over f g t PubKeyInfo reply same h = proof_over f g t reply same h
  state_over f g t AuthInfo reply same h = h
  state_over f g t Final reply same h = h

  replies_over : (f g : ServerFrame C) (t : Turn) (out : Outcome) → SameFrame c f g t →
      ShowsAnswer (server_shown f) t out → ShowsAnswer (server_shown g) t out
  replies_over f g t (outcome.Reply reply) same h =
      subst (λ (s : CredSspState). ShowsStateBack (server_shown g) t s reply) (sym same.state) (state_over f g t f.state reply same h)
  replies_over f g t (outcome.Final reply) same h = h
  replies_over f g t outcome.Finished same h = (same.state ∙ h.0, h.1)
  replies_over f g t (outcome.Refused kind None) same h = h
  replies_over f g t (outcome.Refused kind (Some reply)) same h = record {
    version = subst (λ (s : ServerSettings). (reply.version ≡ t.delivered.version) ⊎ (reply.version ≡ s.version)) (sym same.settings)
        h.version;
    reply = subst (λ (s : CredSspState). reply ≡ error_request s reply.version kind t.delivered) (sym same.state) h.reply;
  }

  fits_over : (noted noted2 : Option ℕ) (version : ℕ) (out : Outcome) → UnlessRefused out (noted2 ≡ noted) →
      UnlessRefused out (FitsNoted true noted version) → UnlessRefused out (FitsNoted true noted2 version)
  fits_over noted noted2 version (outcome.Reply reply) same h = rw same h
  fits_over noted noted2 version (outcome.Final reply) same h = rw same h
  fits_over noted noted2 version outcome.Finished same h = rw same h
  fits_over noted noted2 version (outcome.Refused kind reply) same h = h

  -- ---- what the recorded bytes rest on

  back_over : (context : Option C) (noted noted2 : Option ℕ) (delivered own : ℕ) → (IsSome context → noted2 ≡ noted) →
      version_back context noted2 delivered own ≡ version_back context noted delivered own
  back_over None noted noted2 delivered own same = refl
  back_over (Some m) noted noted2 delivered own same = rw (same refl) refl

  holds_over : (f g : ServerFrame C) (t : Turn) (out : Outcome) → SameFrame c f g t →
      OnceRefused out ((g.context ≡ f.context) × (IsSome f.context → g.noted ≡ f.noted)) → HoldsAnswer c f t out → HoldsAnswer c g t out
  holds_over f g t (outcome.Reply reply) same once h = λ was. let k = same.proved was in
      at_noted c law f.noted g.noted _ _ k.0 (λ noted seals.
      rw (k.1, same.settings)
      (seals_still c law f.context g.context f.made (prescribed Server noted (nonce_of t.delivered.client_nonce) f.settings.public_key)
      reply.pub_key_auth k.3 seals)) (h was)
  holds_over f g t (outcome.Final reply) same once h = tt
  holds_over f g t outcome.Finished same once h = tt
  holds_over f g t (outcome.Refused kind None) same once h = tt
  holds_over f g t (outcome.Refused kind (Some reply)) same once h =
      let back : version_back g.context g.noted t.delivered.version g.settings.version ≡ version_back f.context f.noted t.delivered.version
      f.settings.version =
      ap (λ (x : Option C). version_back x g.noted t.delivered.version g.settings.version) once.0
      ∙ ap (λ (s : ServerSettings). version_back f.context g.noted t.delivered.version s.version) same.settings
      ∙ back_over f.context f.noted g.noted t.delivered.version f.settings.version once.1 in
      h ∙ sym back

  pub server_over : (f g : ServerFrame C) (t : Turn) → SameFrame c f g t → IsServerTurn c f t → IsServerTurn c g t
  server_over f g t same turn = let shown = turn.shown in record {
    shown = record {
      version = fits_over f.noted g.noted t.delivered.version t.outcome same.noted shown.version;
      acts = acts_over f g t same shown.acts;
      reply = replies_over f g t t.outcome same shown.reply;
    };
    held = record {
      checked = λ was. at_noted c law f.noted g.noted _ _ (same.checked was) (λ noted h. h) (turn.held.checked was);
      proved = λ was. at_noted c law f.noted g.noted _ _ (same.proved was).0 (λ noted h. proven_over f g t noted same was h)
          (turn.held.proved was);
      reply = holds_over f g t t.outcome same same.refused turn.held.reply;
    };
  }
