-- Equality of requests is equality of the values: the proof that the impl of `Eq` cites, which has
-- to be here.
use Rattle.std.proofs.Common.{◌≡◌, ℕ, true, List, Option, None, Some, refl, sym, ap, ◌∙◌, subst}
use Rattle.std.specs.Bool.{Decides}
use Rattle.std.specs.Cmp.{IsEquivalence, decided}
use Rattle.std.specs.Cmp.Lexicographic.{bytes_decides}
use Rattle.std.proofs.lemmas.Bool.{and_parts, and_from, eqb-true, eq-eqb}
use Rattle.sspi_types.specs.declared.nstatus.NStatusCode.{NStatusCode}
use Rattle.sspi_tsreq.specs.declared.request.TsRequest.{TsRequest}
use Rattle.sspi_tsreq.specs.Equality.{same_octets, same_code, same_request}

octets_decided : (a b : Option (List ℕ)) → Decides (same_octets a b) (a ≡ b)
octets_decided None None = (λ e. refl, λ e. refl)
octets_decided None (Some y) = (λ e. absurd cc, λ e. absurd cc)
octets_decided (Some x) None = (λ e. absurd cc, λ e. absurd cc)
octets_decided (Some x) (Some y) = (
  λ e. ap (λ (l : List ℕ). Some l) ((bytes_decides x y).0 e),
  λ e. (bytes_decides x y).1 cc,
)

code_decided : (a b : Option NStatusCode) → Decides (same_code a b) (a ≡ b)
code_decided None None = (λ e. refl, λ e. refl)
code_decided None (Some y) = (λ e. absurd cc, λ e. absurd cc)
code_decided (Some x) None = (λ e. absurd cc, λ e. absurd cc)
code_decided (Some x) (Some y) = (
  λ e. (let f : x.0 ≡ y.0 = eqb-true x.0 y.0 e in ap (λ (n : ℕ). Some (record { 0 = n })) f),
  λ e. (let f : x ≡ y = cc in eq-eqb x.0 y.0 (ap (λ (c : NStatusCode). c.0) f)),
)

made : ℕ → Option (List ℕ) → Option (List ℕ) → Option (List ℕ) → Option NStatusCode →
    Option (List ℕ) → TsRequest
made v n a k c o = record {
  version = v;
  nego_tokens = n;
  auth_info = a;
  pub_key_auth = k;
  error_code = c;
  client_nonce = o;
}

made_again : (r : TsRequest) → made r.version r.nego_tokens r.auth_info r.pub_key_auth r.error_code
    r.client_nonce ≡ r
unfolding made
made_again r = refl

same_fields : (a b : TsRequest) → a.version ≡ b.version → a.nego_tokens ≡ b.nego_tokens →
    a.auth_info ≡ b.auth_info →
    a.pub_key_auth ≡ b.pub_key_auth
    → a.error_code ≡ b.error_code → a.client_nonce ≡ b.client_nonce → a ≡ b
same_fields a b v n i k c o =
    let same : made a.version a.nego_tokens a.auth_info a.pub_key_auth a.error_code a.client_nonce
    ≡ made b.version b.nego_tokens b.auth_info b.pub_key_auth b.error_code b.client_nonce =
    rw (v, n, i, k, c, o) refl in
    sym (made_again a) ∙ same ∙ made_again b

are_same : (a b : TsRequest) → same_request a b ≡ true → a ≡ b
are_same a b e =
    let p1 = and_parts _ _ e in
    let p2 = and_parts _ _ p1.1 in
    let p3 = and_parts _ _ p2.1 in
    let p4 = and_parts _ _ p3.1 in
    let p5 = and_parts _ _ p4.1 in
    same_fields a b (eqb-true a.version b.version p1.0)
    ((octets_decided a.nego_tokens b.nego_tokens).0 p2.0)
    ((octets_decided a.auth_info b.auth_info).0 p3.0)
    ((octets_decided a.pub_key_auth b.pub_key_auth).0 p4.0)
    ((code_decided a.error_code b.error_code).0 p5.0)
    ((octets_decided a.client_nonce b.client_nonce).0 p5.1)

same_itself : (a : TsRequest) → same_request a a ≡ true
same_itself a =
    and_from _ _ (eq-eqb a.version a.version refl)
    (and_from _ _ ((octets_decided a.nego_tokens a.nego_tokens).1 refl)
    (and_from _ _ ((octets_decided a.auth_info a.auth_info).1 refl)
    (and_from _ _ ((octets_decided a.pub_key_auth a.pub_key_auth).1 refl)
    (and_from _ _ ((code_decided a.error_code a.error_code).1 refl)
    ((octets_decided a.client_nonce a.client_nonce).1 refl)))))

pub request_decided : (a b : TsRequest) → Decides (same_request a b) (a ≡ b)
request_decided a b = (
  are_same a b,
  λ e. subst (λ (z : TsRequest). same_request a z ≡ true) e
      (same_itself a),
)

pub same_request_equiv : IsEquivalence same_request
same_request_equiv = decided same_request request_decided
