-- An encoding is read as its value, whatever follows; and what else the grammar's two laws give.
use Rattle.std.proofs.Common.{◌≡◌, ℕ, ◌^◌, ◌<◌, ◌≤◌, Bool, true, false, cond, leb, List, [], ◌∷◌, ◌++◌, length, take, drop, Option}
use Rattle.std.proofs.Common.{None, Some, refl, sym, ap, ◌∙◌, subst, append_assoc, arith}
use Rattle.std.specs.Prelude.{IfSome, IsTrue}
use Rattle.std.proofs.lemmas.Bool.{leb-true}
use Rattle.std.proofs.lemmas.List.{append-nil, length-append, take-append-drop, length-take, length-drop}
use Rattle.sspi_types.specs.declared.nstatus.NStatusCode.{NStatusCode}
use Rattle.sspi_ber.specs.Forms.{max_content, IsNotNext, IsWrapped, IsField}
use Rattle.sspi_ber.specs.Short.{len_short, header, element, int_short}
use Rattle.sspi_ber.proofs.Match.{both_are}
use Rattle.sspi_ber.proofs.Short.{short_length, short_element, short_tagged, short_integer}
use Rattle.sspi_ber.proofs.Written.{length-element, size_above}
use Rattle.sspi_tsreq.specs.declared.request.TsRequest.{TsRequest}
use Rattle.sspi_tsreq.specs.Grammar.{IsRequestValue, IsLow, IsOctets, IsToken, IsCode, IsNonce, IsLookedFor, IsBody, IsRequest}
use Rattle.sspi_tsreq.specs.Spelling.{carries_code, carries_nonce, carried, version_field, token_item, token_list, nego_field}
use Rattle.sspi_tsreq.specs.Spelling.{octets_field, code_field, last_fields, later_fields, fields, fits, spelled}
use Rattle.sspi_tsreq.proofs.RequestMatch.{request_again}

-- ---- no field begins with the tag of another

not_empty : (tag : ℕ) → IsNotNext tag []
not_empty tag = tt

apart : (tag : ℕ) (field following : List ℕ) → IsNotNext tag field → IsNotNext tag following → IsNotNext tag (field ++ following)
apart tag [] following a b = b
apart tag (byte ∷ field) following a b = a

other_element : (tag other : ℕ) (content : List ℕ) → (other ≡ tag → ⊥) → IsNotNext tag (element other content)
unfolding element header
other_element tag other content ne = ne

octets_apart : (tag other : ℕ) (field : Option (List ℕ)) → (other ≡ tag → ⊥) → IsNotNext tag (octets_field other field)
unfolding octets_field
octets_apart tag other None ne = tt
octets_apart tag other (Some octets) ne = other_element tag other (element 0x04 octets) ne

code_apart : (tag : ℕ) (field : Option NStatusCode) → (0xA4 ≡ tag → ⊥) → IsNotNext tag (code_field field)
unfolding code_field
code_apart tag None ne = tt
code_apart tag (Some code) ne = other_element tag 0xA4 (int_short code.0) ne

-- ---- each field is of its form

low_is : (v : ℕ) → v < 2 ^ 32 → IsLow (int_short v) v
low_is v lt = record { whole = v; integer = short_integer v; low = omega arith }

inner_fits : (tag : ℕ) (content : List ℕ) → length (element tag content) ≤ max_content → length content ≤ max_content
inner_fits tag content le = let e = length-element tag content in let a = size_above (length content) in omega arith

version_is : (v : ℕ) → v < 2 ^ 32 → length (version_field v) ≤ max_content → IsWrapped 0xA0 IsLow (version_field v) v
unfolding version_field
version_is v lt le = (int_short v, short_tagged 0xA0 (int_short v) (inner_fits 0xA0 (int_short v) le), low_is v lt)

octets_is : (tag : ℕ) (field : Option (List ℕ)) (following : List ℕ) → length (octets_field tag field) ≤ max_content →
    IsNotNext tag following
    → IsField tag IsOctets (octets_field tag field) field following
unfolding octets_field
octets_is tag None following le other = (refl, other)
octets_is tag (Some octets) following le other =
    let inner = inner_fits tag (element 0x04 octets) le in
    (element 0x04 octets, short_tagged tag (element 0x04 octets) inner, short_element 0x04 octets (inner_fits 0x04 octets inner))

token_is : (token : List ℕ) → length (token_list token) ≤ max_content → IsToken (token_list token) token
unfolding token_list token_item
token_is token le =
    let item = inner_fits 0x30 (element 0x30 (element 0xA0 (element 0x04 token))) le in
    let tagged = inner_fits 0x30 (element 0xA0 (element 0x04 token)) item in
    let octets = inner_fits 0xA0 (element 0x04 token) tagged in (
      element 0x30 (element 0xA0 (element 0x04 token)),
      short_tagged 0x30 (element 0x30 (element 0xA0 (element 0x04 token))) item,
      (
        element 0xA0 (element 0x04 token),
        short_tagged 0x30 (element 0xA0 (element 0x04 token)) tagged,
        (element 0x04 token, short_tagged 0xA0 (element 0x04 token) octets, short_element 0x04 token (inner_fits 0x04 token octets)),
      ),
    )

nego_is : (field : Option (List ℕ)) (following : List ℕ) → length (nego_field field) ≤ max_content → IsNotNext 0xA1 following
    → IsField 0xA1 IsToken (nego_field field) field following
unfolding nego_field
nego_is None following le other = (refl, other)
nego_is (Some token) following le other =
    let inner = inner_fits 0xA1 (token_list token) le in
    (token_list token, short_tagged 0xA1 (token_list token) inner, token_is token inner)

code_is : (looked : Bool) (field : Option NStatusCode) (following : List ℕ) → (looked ≡ false → field ≡ None) →
    IfSome field (λ code. code.0 < 2 ^ 32)
    → length (code_field field) ≤ max_content → IsNotNext 0xA4 following → IsLookedFor looked 0xA4 IsCode (code_field field) field following
unfolding code_field
code_is true None following absent lt le other = (refl, other)
code_is true (Some code) following absent lt le other = (
  int_short code.0,
  short_tagged 0xA4 (int_short code.0) (inner_fits 0xA4 (int_short code.0) le),
  low_is code.0 lt,
)
code_is false None following absent lt le other = (refl, refl)
code_is false (Some code) following absent lt le other = absurd (let e = absent refl in cc)

nonce_is : (looked : Bool) (field : Option (List ℕ)) (following : List ℕ) → (looked ≡ false → field ≡ None) →
    IfSome field (λ nonce. length nonce ≡ 32)
    → length (octets_field 0xA5 field) ≤ max_content → IsNotNext 0xA5 following →
    IsLookedFor looked 0xA5 IsNonce (octets_field 0xA5 field) field following
unfolding octets_field
nonce_is true None following absent long le other = (refl, other)
nonce_is true (Some nonce) following absent long le other =
    let inner = inner_fits 0xA5 (element 0x04 nonce) le in
    (element 0x04 nonce, short_tagged 0xA5 (element 0x04 nonce) inner, (short_element 0x04 nonce (inner_fits 0x04 nonce inner), long))
nonce_is false None following absent long le other = (refl, refl)
nonce_is false (Some nonce) following absent long le other = absurd (let e = absent refl in cc)

-- ---- the whole body

-- a request whose fields are all encoded
pub record IsCarried (r : TsRequest) : Type 0 where
  pub value : IsRequestValue r
  pub code : leb 3 r.version ≡ false → r.error_code ≡ None
  pub nonce : leb 5 r.version ≡ false → r.client_nonce ≡ None

record Lengths (r : TsRequest) : Type 0 where
  version : length (version_field r.version) ≤ max_content
  nego : length (nego_field r.nego_tokens) ≤ max_content
  auth : length (octets_field 0xA2 r.auth_info) ≤ max_content
  key : length (octets_field 0xA3 r.pub_key_auth) ≤ max_content
  code : length (code_field r.error_code) ≤ max_content
  nonce : length (octets_field 0xA5 r.client_nonce) ≤ max_content

lengths_of : (r : TsRequest) → length (fields r) ≤ max_content → Lengths r
unfolding fields later_fields last_fields
lengths_of r le =
    let v = version_field r.version in
    let n = nego_field r.nego_tokens in
    let a = octets_field 0xA2 r.auth_info in
    let k = octets_field 0xA3 r.pub_key_auth in
    let c = code_field r.error_code in
    let o = octets_field 0xA5 r.client_nonce in
    let s1 = length-append v (n ++ (a ++ (k ++ (c ++ o)))) in
    let s2 = length-append n (a ++ (k ++ (c ++ o))) in
    let s3 = length-append a (k ++ (c ++ o)) in
    let s4 = length-append k (c ++ o) in
    let s5 = length-append c o in
    record { version = omega arith; nego = omega arith; auth = omega arith; key = omega arith; code = omega arith; nonce = omega arith }

pub body_spelled : (r : TsRequest) → IsCarried r → length (fields r) ≤ max_content → IsBody (fields r) r
unfolding fields later_fields last_fields
body_spelled r is le =
    let lens = lengths_of r le in
    let a = octets_field 0xA2 r.auth_info in
    let k = octets_field 0xA3 r.pub_key_auth in
    let c = code_field r.error_code in
    let o = octets_field 0xA5 r.client_nonce in
    let behind_code : (tag : ℕ) → (0xA5 ≡ tag → ⊥) → IsNotNext tag (o ++ []) =
    λ tag ne. apart tag o [] (octets_apart tag 0xA5 r.client_nonce ne) tt in
    let behind_key : (tag : ℕ) → (0xA4 ≡ tag → ⊥) → (0xA5 ≡ tag → ⊥) →
    IsNotNext tag (c ++ (o ++ [])) = λ tag ne ne2. apart tag c (o ++ []) (code_apart tag r.error_code ne) (behind_code tag ne2) in
    let behind_auth : (tag : ℕ) → (0xA3 ≡ tag → ⊥) → (0xA4 ≡ tag → ⊥) → (0xA5 ≡ tag → ⊥) → IsNotNext tag (k ++ (c ++ (o ++ []))) =
    λ tag ne ne2 ne3. apart tag k (c ++ (o ++ [])) (octets_apart tag 0xA3 r.pub_key_auth ne) (behind_key tag ne2 ne3) in
    let behind_nego : IsNotNext 0xA1 (a ++ (k ++ (c ++ (o ++ [])))) =
    apart 0xA1 a (k ++ (c ++ (o ++ []))) (octets_apart 0xA1 0xA2 r.auth_info (λ e. omega (arith, e)))
    (behind_auth 0xA1 (λ e. omega (arith, e)) (λ e. omega (arith, e)) (λ e. omega (arith, e))) in
    record {
      version = version_field r.version;
      nego = nego_field r.nego_tokens;
      auth = a;
      key = k;
      code = c;
      nonce = o;
      tail = [];
      parts = rw (append-nil o) refl;
      version_is = version_is r.version is.value.version lens.version;
      nego_is = nego_is r.nego_tokens (a ++ (k ++ (c ++ (o ++ [])))) lens.nego behind_nego;
      auth_is = octets_is 0xA2 r.auth_info (k ++ (c ++ (o ++ []))) lens.auth
          (behind_auth 0xA2 (λ e. omega (arith, e)) (λ e. omega (arith, e)) (λ e. omega (arith, e)));
      key_is = octets_is 0xA3 r.pub_key_auth (c ++ (o ++ [])) lens.key (behind_key 0xA3 (λ e. omega (arith, e)) (λ e. omega (arith, e)));
      code_is = code_is (leb 3 r.version) r.error_code (o ++ []) is.code is.value.code lens.code (behind_code 0xA4 (λ e. omega (arith, e)));
      nonce_is = nonce_is (leb 5 r.version) r.client_nonce [] is.nonce is.value.nonce lens.nonce tt;
    }

-- ---- requests

chosen_none : {A : Type 0} (b : Bool) (x : Option A) → b ≡ false → cond b x None ≡ None
chosen_none true x e = absurd cc
chosen_none false x e = refl

chosen_some : {A : Type 0} (b : Bool) (x : Option A) (P : A → Type 0) → IfSome x P → IfSome (cond b x None) P
chosen_some true x P h = h
chosen_some false x P h = tt

no_code : (v : ℕ) → leb 3 v ≡ false → carries_code v ≡ false
no_code v e = rw e refl

pub carried_is : (r : TsRequest) → IsRequestValue r → IsCarried (carried r)
carried_is r is = record {
  value = record {
    version = is.version;
    code = chosen_some (carries_code r.version) r.error_code _ is.code;
    nonce = chosen_some (carries_nonce r.version) r.client_nonce _ is.nonce;
  };
  code = λ e. chosen_none (carries_code r.version) r.error_code (no_code r.version e);
  nonce = λ e. chosen_none (carries_nonce r.version) r.client_nonce e;
}

-- a request that is read is read whatever follows it
pub more_request : (bytes : List ℕ) (r : TsRequest) (count : ℕ) (more : List ℕ) → IsRequest bytes r count →
    IsRequest (bytes ++ more) r count
more_request bytes r count more t = record {
  len = t.len;
  body = t.body;
  after = t.after ++ more;
  parts = ap (λ (l : List ℕ). l ++ more) t.parts ∙ append_assoc (0x30 ∷ t.len) (t.body ++ t.after) more ∙ ap
      (λ (l : List ℕ). (0x30 ∷ t.len) ++ l) (append_assoc t.body t.after more);
  measured = t.measured;
  body_is = t.body_is;
  taken = t.taken;
}

spelled_alone : (r : TsRequest) → IsRequestValue r → length (fields (carried r)) ≤ max_content →
    IsRequest (spelled r) (carried r) (length (spelled r))
unfolding spelled element header
spelled_alone r is le = record {
  len = len_short (length (fields (carried r)));
  body = fields (carried r);
  after = [];
  parts = rw (append-nil (fields (carried r))) refl;
  measured = short_length (length (fields (carried r))) le;
  body_is = body_spelled (carried r) (carried_is r is) le;
  taken = refl;
}

pub spelled_again : (r : TsRequest) (more : List ℕ) → IsRequestValue r → IsTrue (fits r) →
    IsRequest (spelled r ++ more) (carried r) (length (spelled r))
spelled_again r more is fit = more_request (spelled r) (carried r) (length (spelled r)) more
    (spelled_alone r is (leb-true (length (fields (carried r))) max_content fit))

pub spelled_whole : (r : TsRequest) → IsRequestValue r → IsTrue (fits r) → IsRequest (spelled r) (carried r) (length (spelled r))
spelled_whole r is fit = spelled_alone r is (leb-true (length (fields (carried r))) max_content fit)

chosen_twice : {A : Type 0} (b : Bool) (x : Option A) → cond b (cond b x None) None ≡ cond b x None
chosen_twice true x = refl
chosen_twice false x = refl

-- the written part of a request is itself written whole
pub carried_once : (r : TsRequest) → carried (carried r) ≡ carried r
carried_once r = rw (chosen_twice (carries_code r.version) r.error_code, chosen_twice (carries_nonce r.version) r.client_nonce) refl

pub spelled_once : (r : TsRequest) → spelled (carried r) ≡ spelled r
unfolding spelled
spelled_once r = ap (λ (z : TsRequest). element 0x30 (fields z)) (carried_once r)

-- a request takes no more bytes than there are
taken_within : (bytes : List ℕ) (r : TsRequest) (k : ℕ) → IsRequest bytes r k → k ≤ length bytes
taken_within bytes r k t =
    let whole : bytes ≡ ((0x30 ∷ t.len) ++ t.body) ++ t.after = t.parts ∙ sym (append_assoc (0x30 ∷ t.len) t.body t.after) in
    omega (arith, ap length whole, length-append ((0x30 ∷ t.len) ++ t.body) t.after, t.taken)

-- bytes begin with at most one request
counts_agree : (bytes : List ℕ) (r s : TsRequest) (k j : ℕ) (a : IsRequest bytes r k) (b : IsRequest bytes s j) →
    drop k bytes ≡ drop j bytes → k ≡ j
counts_agree bytes r s k j a b e =
    let wa = taken_within bytes r k a in
    let wb = taken_within bytes s j b in
    omega (arith, ap length e, length-drop k bytes, length-drop j bytes)

pub one_request : (bytes : List ℕ) (r s : TsRequest) (k j : ℕ) → IsRequest bytes r k → IsRequest bytes s j → (r ≡ s) × (k ≡ j)
one_request bytes r s k j a b =
    let same = both_are r s (drop k bytes) (drop j bytes) (sym (request_again bytes r k a) ∙ request_again bytes s j b) in
    (same.0, counts_agree bytes r s k j a b same.1)

-- no proper prefix of an encoding is read
pub no_front : (r s : TsRequest) (j k : ℕ) → IsRequestValue r → IsTrue (fits r) → j < length (spelled r) →
    IsRequest (take j (spelled r)) s k → ⊥
no_front r s j k is fit lt t =
    let longer : IsRequest (spelled r) s k = subst (λ (l : List ℕ). IsRequest l s k) (take-append-drop j (spelled r))
    (more_request (take j (spelled r)) s k (drop j (spelled r)) t) in
    let whole : IsRequest (spelled r) (carried r) (length (spelled r)) =
    subst (λ (l : List ℕ). IsRequest l (carried r) (length (spelled r))) (append-nil (spelled r)) (spelled_again r [] is fit) in
    let same = one_request (spelled r) (carried r) s (length (spelled r)) k whole longer in
    let within = taken_within (take j (spelled r)) s k t in
    omega (arith, same.1, within, length-take j (spelled r))
