-- The reply of a turn, at its end's own version.
use Rattle.std.proofs.Common.{◌≡◌, ℕ, ◌∙◌, ap, Some, None}
use Rattle.sspi_tsreq.specs.declared.request.TsRequest.{TsRequest}
use Rattle.sspi_credssp.specs.declared.turn.Turn.{Turn}
use Rattle.sspi_credssp.specs.Requests.{unless_empty}
use Rattle.sspi_credssp.specs.Turn.{client_shown, server_shown, ShowsToken, ShowsProof, ShowsFinal, ShowsTokenBack, ShowsProofBack}
use Rattle.sspi_credssp.specs.Turn.{ClientFrame, ServerFrame}

pub token_is : {C : Type 0} (f : ClientFrame C) (t : Turn) (r : TsRequest) → ShowsToken (client_shown f) t r →
    r ≡ record t.delivered { version = f.settings.version; nego_tokens = Some t.output }
token_is f t r h = h.reply ∙ ap (λ (v : ℕ). record t.delivered { version = v; nego_tokens = Some t.output }) h.version

pub proof_is : {C : Type 0} (f : ClientFrame C) (t : Turn) (r : TsRequest) → ShowsProof (client_shown f) t r →
    r.client_nonce ≡ Some f.settings.nonce →
    r ≡ record t.delivered {
      version = f.settings.version;
      nego_tokens = unless_empty t.output;
      client_nonce = Some f.settings.nonce;
      pub_key_auth = r.pub_key_auth;
    }
proof_is f t r h nonce =
    h.reply
    ∙ ap (λ (v : ℕ). record t.delivered {
      version = v;
      nego_tokens = unless_empty t.output;
      client_nonce = r.client_nonce;
      pub_key_auth = r.pub_key_auth;
    }) h.version
    ∙ ap (λ n. record t.delivered {
      version = f.settings.version;
      nego_tokens = unless_empty t.output;
      client_nonce = n;
      pub_key_auth = r.pub_key_auth;
    }) nonce

pub final_is : {C : Type 0} (f : ClientFrame C) (t : Turn) (r : TsRequest) → ShowsFinal (client_shown f) t r →
    r ≡ record t.delivered { version = f.settings.version; nego_tokens = None; pub_key_auth = None; auth_info = r.auth_info }
final_is f t r h =
    h.reply ∙ ap (λ (v : ℕ). record t.delivered { version = v; nego_tokens = None; pub_key_auth = None; auth_info = r.auth_info }) h.version

pub token_back_is : {C : Type 0} (f : ServerFrame C) (t : Turn) (r : TsRequest) → ShowsTokenBack (server_shown f) t r →
    r ≡ record t.delivered { version = f.settings.version; nego_tokens = Some t.output }
token_back_is f t r h = h.reply ∙ ap (λ (v : ℕ). record t.delivered { version = v; nego_tokens = Some t.output }) h.version

pub proof_back_is : {C : Type 0} (f : ServerFrame C) (t : Turn) (r : TsRequest) → ShowsProofBack (server_shown f) t r →
    r ≡ record t.delivered { version = f.settings.version; nego_tokens = None; pub_key_auth = r.pub_key_auth }
proof_back_is f t r h = h.reply ∙ ap (λ (v : ℕ). record t.delivered { version = v; nego_tokens = None; pub_key_auth = r.pub_key_auth })
    h.version
