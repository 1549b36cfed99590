-- The body's reader agrees with the concatenation of fields.
use Rattle.std.proofs.Common.{◌≡◌, ℕ, leb, List, ◌++◌, Option, Ok, refl, sym, ap, ◌∙◌, subst, append_assoc}
use Rattle.sspi_types.specs.declared.nstatus.NStatusCode.{NStatusCode}
use Rattle.sspi_ber.specs.Forms.{IsWrapped, IsField}
use Rattle.sspi_ber.specs.Pieces.{field_at}
use Rattle.sspi_ber.proofs.Match.{Matches, Matches-then, Matches-map, Then, Mapped}
use Rattle.sspi_ber.proofs.PiecesMatch.{field_match}
use Rattle.sspi_tsreq.specs.declared.request.TsRequest.{TsRequest}
use Rattle.sspi_tsreq.specs.Grammar.{bare, IsLow, IsOctets, IsToken, IsCode, IsNonce, IsLookedFor, IsBody}
use Rattle.sspi_tsreq.specs.Reading.{version_at, octets_at, token_at, code_at, nonce_at, looked_at, after_code, after_key, after_auth}
use Rattle.sspi_tsreq.specs.Reading.{after_nego, after_version, body_at}
use Rattle.sspi_tsreq.proofs.FieldsMatch.{Bare, version_match, octets_match, token_match, code_match, nonce_match, looked_match}

-- ---- the chain of continuations, each with the form of what it reads

abbrev with_nonce : TsRequest → Option (List ℕ) → TsRequest
with_nonce r nonce = record r { client_nonce = nonce }

abbrev AfterCode : TsRequest → List ℕ → TsRequest → List ℕ → Type 0
AfterCode r = Mapped (with_nonce r) (IsLookedFor (leb 5 r.version) 0xA5 IsNonce)

code_step : (r : TsRequest) → Matches (after_code r) (AfterCode r)
unfolding after_code
code_step r = Matches-map (with_nonce r) (looked_at (leb 5 r.version) (field_at 0xA5 nonce_at))
    (IsLookedFor (leb 5 r.version) 0xA5 IsNonce) (looked_match (leb 5 r.version) 0xA5 nonce_at IsNonce nonce_match)

abbrev with_code : TsRequest → Option NStatusCode → TsRequest
with_code r code = record r { error_code = code }

abbrev AfterKey : TsRequest → List ℕ → TsRequest → List ℕ → Type 0
AfterKey r = Then (IsLookedFor (leb 3 r.version) 0xA4 IsCode) (λ code. AfterCode (with_code r code))

key_step : (r : TsRequest) → Matches (after_key r) (AfterKey r)
unfolding after_key
key_step r =
    Matches-then (looked_at (leb 3 r.version) (field_at 0xA4 code_at)) (λ code. after_code (with_code r code))
    (IsLookedFor (leb 3 r.version) 0xA4 IsCode) (λ code. AfterCode (with_code r code))
    (looked_match (leb 3 r.version) 0xA4 code_at IsCode code_match) (λ code. code_step (with_code r code))

abbrev with_key : TsRequest → Option (List ℕ) → TsRequest
with_key r key = record r { pub_key_auth = key }

abbrev AfterAuth : TsRequest → List ℕ → TsRequest → List ℕ → Type 0
AfterAuth r = Then (IsField 0xA3 IsOctets) (λ key. AfterKey (with_key r key))

auth_step : (r : TsRequest) → Matches (after_auth r) (AfterAuth r)
unfolding after_auth
auth_step r =
    Matches-then (field_at 0xA3 octets_at) (λ key. after_key (with_key r key)) (IsField 0xA3 IsOctets) (λ key. AfterKey (with_key r key))
    (field_match 0xA3 octets_at IsOctets octets_match) (λ key. key_step (with_key r key))

abbrev with_auth : TsRequest → Option (List ℕ) → TsRequest
with_auth r auth = record r { auth_info = auth }

abbrev AfterNego : TsRequest → List ℕ → TsRequest → List ℕ → Type 0
AfterNego r = Then (IsField 0xA2 IsOctets) (λ auth. AfterAuth (with_auth r auth))

nego_step : (r : TsRequest) → Matches (after_nego r) (AfterNego r)
unfolding after_nego
nego_step r =
    Matches-then (field_at 0xA2 octets_at) (λ auth. after_auth (with_auth r auth)) (IsField 0xA2 IsOctets)
    (λ auth. AfterAuth (with_auth r auth))
    (field_match 0xA2 octets_at IsOctets octets_match) (λ auth. auth_step (with_auth r auth))

abbrev with_nego : TsRequest → Option (List ℕ) → TsRequest
with_nego r nego = record r { nego_tokens = nego }

abbrev AfterVersion : TsRequest → List ℕ → TsRequest → List ℕ → Type 0
AfterVersion r = Then (IsField 0xA1 IsToken) (λ nego. AfterNego (with_nego r nego))

version_step : (r : TsRequest) → Matches (after_version r) (AfterVersion r)
unfolding after_version
version_step r =
    Matches-then (field_at 0xA1 token_at) (λ nego. after_nego (with_nego r nego)) (IsField 0xA1 IsToken)
    (λ nego. AfterNego (with_nego r nego))
    (field_match 0xA1 token_at IsToken token_match) (λ nego. nego_step (with_nego r nego))

abbrev Body : List ℕ → TsRequest → List ℕ → Type 0
Body = Then (Bare (IsWrapped 0xA0 IsLow)) (λ version. AfterVersion (bare version))

body_step : Matches body_at Body
unfolding body_at
body_step =
    Matches-then version_at (λ version. after_version (bare version)) (Bare (IsWrapped 0xA0 IsLow)) (λ version. AfterVersion (bare version))
    version_match (λ version. version_step (bare version))

-- ---- the chain is the concatenation

-- what follows a field, given the texts after it
then_tail : (s a b tail w : List ℕ) → s ≡ a ++ b → b ++ tail ≡ w → s ++ tail ≡ a ++ w
then_tail s a b tail w e f = ap (λ (l : List ℕ). l ++ tail) e ∙ append_assoc a b tail ∙ ap (λ (l : List ℕ). a ++ l) f

body_of : (text : List ℕ) (r : TsRequest) (tail : List ℕ) → Body text r tail → IsBody (text ++ tail) r
body_of text r tail t0 =
    let t1 = t0.second_is in
    let t2 = t1.second_is in
    let t3 = t2.second_is in
    let t4 = t3.second_is in
    let t5 = t4.second_is in
    let nonce = t4.second in
    let made : TsRequest = record {
      version = t0.x;
      nego_tokens = t1.x;
      auth_info = t2.x;
      pub_key_auth = t3.x;
      error_code = t4.x;
      client_nonce = t5.0;
    } in
    let e4 = then_tail t3.second t4.first nonce tail (nonce ++ tail) t4.parts refl in
    let e3 = then_tail t2.second t3.first t3.second tail _ t3.parts e4 in
    let e2 = then_tail t1.second t2.first t2.second tail _ t2.parts e3 in
    let e1 = then_tail t0.second t1.first t1.second tail _ t1.parts e2 in
    let e0 = then_tail text t0.first t0.second tail _ t0.parts e1 in
    let is_made : IsBody (text ++ tail) made = record {
      version = t0.first;
      nego = t1.first;
      auth = t2.first;
      key = t3.first;
      code = t4.first;
      nonce = nonce;
      tail = tail;
      parts = e0;
      version_is = t0.first_is;
      nego_is = subst (λ (w : List ℕ). IsField 0xA1 IsToken t1.first t1.x w) e2 t1.first_is;
      auth_is = subst (λ (w : List ℕ). IsField 0xA2 IsOctets t2.first t2.x w) e3 t2.first_is;
      key_is = subst (λ (w : List ℕ). IsField 0xA3 IsOctets t3.first t3.x w) e4 t3.first_is;
      code_is = t4.first_is;
      nonce_is = t5.1;
    } in
    subst (λ (z : TsRequest). IsBody (text ++ tail) z) (sym t5.2) is_made

pub body_takes : (body : List ℕ) (r : TsRequest) (tail : List ℕ) → body_at body ≡ Ok (r, tail) → IsBody body r
body_takes body r tail e =
    let t = body_step.takes body r tail e in
    subst (λ (b : List ℕ). IsBody b r) (sym t.2) (body_of t.0 r tail t.1)

chain_of : (body : List ℕ) (r : TsRequest) (b : IsBody body r) →
    Body (b.version ++ (b.nego ++ (b.auth ++ (b.key ++ (b.code ++ b.nonce))))) r b.tail
chain_of body r b =
    let e4 = then_tail (b.code ++ b.nonce) b.code b.nonce b.tail (b.nonce ++ b.tail) refl refl in
    let e3 = then_tail (b.key ++ (b.code ++ b.nonce)) b.key (b.code ++ b.nonce) b.tail _ refl e4 in
    let e2 = then_tail (b.auth ++ (b.key ++ (b.code ++ b.nonce))) b.auth (b.key ++ (b.code ++ b.nonce)) b.tail _ refl e3 in
    record {
      x = r.version;
      first = b.version;
      second = b.nego ++ (b.auth ++ (b.key ++ (b.code ++ b.nonce)));
      parts = refl;
      first_is = b.version_is;
      second_is = record {
        x = r.nego_tokens;
        first = b.nego;
        second = b.auth ++ (b.key ++ (b.code ++ b.nonce));
        parts = refl;
        first_is = subst (λ (w : List ℕ). IsField 0xA1 IsToken b.nego r.nego_tokens w) (sym e2) b.nego_is;
        second_is = record {
          x = r.auth_info;
          first = b.auth;
          second = b.key ++ (b.code ++ b.nonce);
          parts = refl;
          first_is = subst (λ (w : List ℕ). IsField 0xA2 IsOctets b.auth r.auth_info w) (sym e3) b.auth_is;
          second_is = record {
            x = r.pub_key_auth;
            first = b.key;
            second = b.code ++ b.nonce;
            parts = refl;
            first_is = subst (λ (w : List ℕ). IsField 0xA3 IsOctets b.key r.pub_key_auth w) (sym e4) b.key_is;
            second_is = record {
              x = r.error_code;
              first = b.code;
              second = b.nonce;
              parts = refl;
              first_is = b.code_is;
              second_is = (r.client_nonce, b.nonce_is, refl);
            };
          };
        };
      };
    }

pub body_again : (body : List ℕ) (r : TsRequest) → IsBody body r → (tail : List ℕ) × (body_at body ≡ Ok (r, tail))
body_again body r b =
    let text = b.version ++ (b.nego ++ (b.auth ++ (b.key ++ (b.code ++ b.nonce)))) in
    let e4 = then_tail (b.code ++ b.nonce) b.code b.nonce b.tail (b.nonce ++ b.tail) refl refl in
    let e3 = then_tail (b.key ++ (b.code ++ b.nonce)) b.key (b.code ++ b.nonce) b.tail _ refl e4 in
    let e2 = then_tail (b.auth ++ (b.key ++ (b.code ++ b.nonce))) b.auth (b.key ++ (b.code ++ b.nonce)) b.tail _ refl e3 in
    let e1 = then_tail (b.nego ++ (b.auth ++ (b.key ++ (b.code ++ b.nonce)))) b.nego
    (b.auth ++ (b.key ++ (b.code ++ b.nonce))) b.tail _ refl e2 in
    let e0 = then_tail text b.version (b.nego ++ (b.auth ++ (b.key ++ (b.code ++ b.nonce)))) b.tail _ refl e1 in
    (b.tail, ap body_at (b.parts ∙ sym e0) ∙ body_step.again text r b.tail (chain_of body r b))
