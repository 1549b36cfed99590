-- What follows the last field of a content is ignored; and what settles a content for good.
use Rattle.std.proofs.Common.{◌≡◌, ℕ, ◌+◌, ◌≤◌, inl, inr, Bool, true, false, leb, List, [], ◌∷◌, ◌++◌, Option, None, Some, Ok, Err}
use Rattle.std.proofs.Common.{refl, sym, ap, ◌∙◌, subst, append_assoc, arith, lit<}
use Rattle.std.proofs.lemmas.List.{replicate-append-replicate}
use Rattle.sspi_ber.specs.Pieces.{Ended, Invalid, Read, fault_of, zeros}
use Rattle.sspi_ber.specs.Forms.{IsNotNext, IsField}
use Rattle.sspi_tsreq.specs.declared.request.TsRequest.{TsRequest}
use Rattle.sspi_tsreq.specs.Grammar.{IsToken, IsOctets, IsCode, IsNonce, IsLookedFor, IsBody}
use Rattle.sspi_tsreq.specs.Settled.{IsNoTag, IsSettled}
use Rattle.sspi_tsreq.specs.Reading.{body_at}
use Rattle.sspi_tsreq.proofs.BodyMatch.{body_takes}
use Rattle.sspi_tsreq.proofs.Faults.{body_stays, body_settles, fault_is}

-- ---- a tail

no_tag : (byte tag : ℕ) → IsNoTag byte → 0xA1 ≤ tag → tag ≤ 0xA5 → byte ≡ tag → ⊥
no_tag byte tag (inl low) least greatest e = omega (arith, low, least, e)
no_tag byte tag (inr high) least greatest e = omega (arith, high, greatest, e)

still_apart : (tag byte : ℕ) (following more : List ℕ) → (byte ≡ tag → ⊥) → IsNotNext tag following →
    IsNotNext tag (following ++ byte ∷ more)
still_apart tag byte [] more other apart = other
still_apart tag byte (first ∷ following) more other apart = apart

still_field : {A : Type 0} (tag byte : ℕ) (Inner : List ℕ → A → Type 0) (text : List ℕ) (x : Option A) (following more : List ℕ) →
    (byte ≡ tag → ⊥)
    → IsField tag Inner text x following → IsField tag Inner text x (following ++ byte ∷ more)
still_field tag byte Inner text None following more other f = (f.0, still_apart tag byte following more other f.1)
still_field tag byte Inner text (Some x) following more other f = f

still_looked : {A : Type 0} (looked : Bool) (tag byte : ℕ) (Inner : List ℕ → A → Type 0) (text : List ℕ) (x : Option A)
    (following more : List ℕ) → (byte ≡ tag → ⊥)
    → IsLookedFor looked tag Inner text x following → IsLookedFor looked tag Inner text x (following ++ byte ∷ more)
still_looked true tag byte Inner text x following more other f = still_field tag byte Inner text x following more other f
still_looked false tag byte Inner text x following more other f = f

-- what follows a text, given what follows the text after it
behind : (text w m whole : List ℕ) → w ++ m ≡ whole → (text ++ w) ++ m ≡ text ++ whole
behind text w m whole e = append_assoc text w m ∙ ap (λ (l : List ℕ). text ++ l) e

pub tail_ignored : (body : List ℕ) (r : TsRequest) (byte : ℕ) (more : List ℕ) → IsNoTag byte → IsBody body r →
    IsBody (body ++ byte ∷ more) r
tail_ignored body r byte more none b =
    let m = byte ∷ more in
    let tail = b.tail ++ m in
    let e5 : (b.nonce ++ b.tail) ++ m ≡ b.nonce ++ tail = behind b.nonce b.tail m tail refl in
    let e4 : (b.code ++ (b.nonce ++ b.tail)) ++ m ≡ b.code ++ (b.nonce ++ tail) = behind b.code (b.nonce ++ b.tail) m _ e5 in
    let e3 : (b.key ++ (b.code ++ (b.nonce ++ b.tail))) ++ m ≡ b.key ++ (b.code ++ (b.nonce ++ tail)) = behind b.key _ m _ e4 in
    let e2 : (b.auth ++ (b.key ++ (b.code ++ (b.nonce ++ b.tail)))) ++ m ≡ b.auth ++ (b.key ++ (b.code ++ (b.nonce ++ tail))) =
    behind b.auth _ m _ e3 in
    let e1 : (b.nego ++ (b.auth ++ (b.key ++ (b.code ++ (b.nonce ++ b.tail))))) ++ m ≡ b.nego ++
    (b.auth ++ (b.key ++ (b.code ++ (b.nonce ++ tail)))) = behind b.nego _ m _ e2 in
    let e0 = behind b.version _ m _ e1 in
    record {
      version = b.version;
      nego = b.nego;
      auth = b.auth;
      key = b.key;
      code = b.code;
      nonce = b.nonce;
      tail = tail;
      parts = ap (λ (l : List ℕ). l ++ m) b.parts ∙ e0;
      version_is = b.version_is;
      nego_is =
          subst (λ (w : List ℕ). IsField 0xA1 IsToken b.nego r.nego_tokens w) e2
          (still_field 0xA1 byte IsToken b.nego r.nego_tokens _ more (no_tag byte 0xA1 none (omega arith) (omega arith)) b.nego_is);
      auth_is =
          subst (λ (w : List ℕ). IsField 0xA2 IsOctets b.auth r.auth_info w) e3
          (still_field 0xA2 byte IsOctets b.auth r.auth_info _ more (no_tag byte 0xA2 none (omega arith) (omega arith)) b.auth_is);
      key_is =
          subst (λ (w : List ℕ). IsField 0xA3 IsOctets b.key r.pub_key_auth w) e4
          (still_field 0xA3 byte IsOctets b.key r.pub_key_auth _ more (no_tag byte 0xA3 none (omega arith) (omega arith)) b.key_is);
      code_is =
          subst (λ (w : List ℕ). IsLookedFor (leb 3 r.version) 0xA4 IsCode b.code r.error_code w) e5
          (still_looked (leb 3 r.version) 0xA4 byte IsCode b.code r.error_code _ more
          (no_tag byte 0xA4 none (omega arith) (omega arith)) b.code_is);
      nonce_is = still_looked (leb 5 r.version) 0xA5 byte IsNonce b.nonce r.client_nonce b.tail more
          (no_tag byte 0xA5 none (omega arith) (omega arith)) b.nonce_is;
    }

-- ---- settled for good

-- one more zero, and what follows it
zero_more : (body : List ℕ) (count : ℕ) (more : List ℕ) → (body ++ zeros count) ++ 0 ∷ more ≡ (body ++ zeros (count + 1)) ++ more
zero_more body count more =
    sym (append_assoc (body ++ zeros count) (0 ∷ []) more)
    ∙ ap (λ (l : List ℕ). l ++ more) (append_assoc body (zeros count) (0 ∷ []) ∙ ap (λ (l : List ℕ). body ++ l)
    (replicate-append-replicate {A = ℕ} count 1 0))

settled_at : (body : List ℕ) (count : ℕ) (z : Read TsRequest) → body_at (body ++ zeros count) ≡ z → (fault_of z ≡ Some Ended → ⊥) →
    (n : ℕ) × IsSettled (body ++ zeros n)
settled_at body count (Ok x) e ne = (
  count + 1,
  inl (
    x.0,
    λ more. subst (λ (l : List ℕ). IsBody l x.0) (zero_more body count more)
        (tail_ignored (body ++ zeros count) x.0 0 more (inl (lit< tt)) (body_takes (body ++ zeros count) x.0 x.1 e)),
  ),
)
settled_at body count (Err Ended) e ne = absurd (ne refl)
settled_at body count (Err Invalid) e ne = (
  count,
  inr (λ more. body_stays (body ++ zeros count) more
      (fault_is (body_at (body ++ zeros count)) Invalid e)),
)

pub settled : (body : List ℕ) → (count : ℕ) × IsSettled (body ++ zeros count)
settled body =
    let t = body_settles body in
    settled_at body t.0 (body_at (body ++ zeros t.0)) refl t.1
