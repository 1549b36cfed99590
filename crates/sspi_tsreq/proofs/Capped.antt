-- Sizes up to the limit.
use Rattle.std.proofs.Common.{◌≡◌, ℕ, ◌+◌, ◌<◌, ◌≤◌, List, ◌++◌, length, refl, sym, ap, ◌∙◌, subst, arith, inl, inr}
use Rattle.std.proofs.lemmas.Bool.{cases_lt}
use Rattle.std.proofs.lemmas.List.{length-append}
use Rattle.sspi_ber.specs.Forms.{max_content}
use Rattle.sspi_ber.specs.Short.{element, element_size, int_short}
use Rattle.sspi_ber.proofs.Written.{length-element, size_above, size_below, small_size}
use Rattle.sspi_tsreq.specs.declared.request.TsRequest.{TsRequest}
use Rattle.sspi_tsreq.specs.Size.{IsCapped, IsTokenSize}
use Rattle.sspi_tsreq.specs.Spelling.{version_field, token_item, token_list, nego_field, octets_field, code_field, last_fields}
use Rattle.sspi_tsreq.specs.Spelling.{later_fields, fields, carried, spelled}

pub ruleset bounds = (size_above, size_below)

pub capped_same : (n : ℕ) → IsCapped n n
capped_same n = record { same = λ le. refl; past = λ lt. lt }

-- an element around a capped content
pub capped_more : (size exact outer : ℕ) → IsCapped size exact → IsCapped outer (element_size size) → IsCapped outer (element_size exact)
capped_more size exact outer inner more =
    elim (cases_lt max_content exact) [
      | inl lt ↦
          let above = size_above exact in
          let past : max_content < element_size size = (let bigger : max_content < size = inner.past lt in let a =
          size_above size in omega arith) in
          let far : max_content < outer = more.past past in
          record { same = λ le. absurd (omega (arith, le, above)); past = λ l. far }
      | inr le ↦ (let e : size ≡ exact = inner.same le in subst (λ (n : ℕ). IsCapped outer (element_size n)) e more)
    ]

pub capped_add : (a b x y : ℕ) → IsCapped a x → IsCapped b y → IsCapped (a + b) (x + y)
capped_add a b x y p q =
    elim (cases_lt max_content x) [
      | inl lt ↦ (let far : max_content < a = p.past lt in record { same = λ le. absurd (omega (arith, le)); past = λ l. omega arith })
      | inr small ↦ elim (cases_lt max_content y) [
        | inl lt ↦ (let far : max_content < b = q.past lt in record { same = λ le. absurd (omega (arith, le)); past = λ l. omega arith })
        | inr small2 ↦ (let e : a ≡ x = p.same small in let f : b ≡ y =
            q.same small2 in record { same = λ le. omega arith; past = λ l. omega (arith, l) })
      ]
    ]

pub capped_fits : (size exact : ℕ) → IsCapped size exact → size ≤ max_content → (exact ≤ max_content) × (size ≡ exact)
capped_fits size exact c le =
    elim (cases_lt max_content exact) [
      | inl lt ↦ absurd (let far : max_content < size = c.past lt in omega arith)
      | inr small ↦ (small, c.same small)
    ]

pub capped_past : (size exact : ℕ) → IsCapped size exact → max_content < size → max_content < exact
capped_past size exact c lt =
    elim (cases_lt max_content exact) [
      | inl past ↦ past
      | inr small ↦ absurd (let e : size ≡ exact = c.same small in omega arith)
    ]

pub spelled_length : (r : TsRequest) → length (spelled r) ≡ element_size (length (fields (carried r)))
unfolding spelled
spelled_length r = length-element 0x30 (fields (carried r))

pub ruleset spelled_size = (spelled_length, size_below)

pub octets_capped : (tag size more : ℕ) (octets : List ℕ) → IsCapped size (element_size (length octets)) → IsCapped more (element_size size)
    → IsCapped more (length (element tag (element 0x04 octets)))
octets_capped tag size more octets p q =
    subst (λ (n : ℕ). IsCapped more n) (sym (length-element tag (element 0x04 octets) ∙ ap element_size (length-element 0x04 octets)))
    (capped_more size (element_size (length octets)) more p q)

token_length : (token : List ℕ) → length (element 0xA1 (token_list token)) ≡ element_size
    (element_size (element_size (element_size (element_size (length token)))))
unfolding token_list token_item
token_length token =
    length-element 0xA1 (element 0x30 (element 0x30 (element 0xA0 (element 0x04 token))))
    ∙ ap element_size (length-element 0x30 (element 0x30 (element 0xA0 (element 0x04 token)))
    ∙ ap element_size (length-element 0x30 (element 0xA0 (element 0x04 token))
    ∙ ap element_size (length-element 0xA0 (element 0x04 token) ∙ ap element_size (length-element 0x04 token))))

pub token_capped : (a b c d e : ℕ) (token : List ℕ) → IsCapped a (element_size (length token)) → IsCapped b (element_size a) →
    IsCapped c (element_size b)
    → IsCapped d (element_size c) → IsCapped e (element_size d) → IsCapped e (length (element 0xA1 (token_list token)))
token_capped a b c d e token pa pb pc pd pe =
    let first = capped_more a _ b pa pb in
    let second = capped_more b _ c first pc in
    let third = capped_more c _ d second pd in
    subst (λ (n : ℕ). IsCapped e n) (sym (token_length token)) (capped_more d _ e third pe)

pub wrapped_integer : (tag v : ℕ) → length (int_short v) < 0x80 → length (element tag (int_short v)) ≡ 2 + length (int_short v)
wrapped_integer tag v lt = length-element tag (int_short v) ∙ (let e = small_size (length (int_short v)) lt in omega arith)

pub nonce_field : (nonce : List ℕ) → length nonce ≡ 32 → length (element 0xA5 (element 0x04 nonce)) ≡ 36
nonce_field nonce e =
    let inner : length (element 0x04 nonce) ≡ 34 = length-element 0x04 nonce ∙
    (let f = small_size (length nonce) (omega arith) in omega arith) in
    length-element 0xA5 (element 0x04 nonce) ∙ (let f = small_size (length (element 0x04 nonce)) (omega arith) in omega arith)

-- ---- what fits when a field fits

pub octets_fit : (tag : ℕ) (octets : List ℕ) → length (element tag (element 0x04 octets)) ≤ max_content
    → (length octets ≤ max_content) × (element_size (length octets) ≤ max_content)
octets_fit tag octets le =
    let e = length-element tag (element 0x04 octets) in
    let f = length-element 0x04 octets in
    let outer = size_above (length (element 0x04 octets)) in
    let inner = size_above (length octets) in
    (omega arith, omega arith)

pub version_size : (v : ℕ) → length (int_short v) < 0x80 → length (version_field v) ≡ 2 + length (int_short v)
unfolding version_field
version_size v lt = wrapped_integer 0xA0 v lt

-- the sum of all fields
pub fields_capped : (r : TsRequest) (version nego auth key code nonce : ℕ) → version ≡ length (version_field r.version) →
    IsCapped nego (length (nego_field r.nego_tokens))
    → IsCapped auth (length (octets_field 0xA2 r.auth_info)) → IsCapped key (length (octets_field 0xA3 r.pub_key_auth))
    → code ≡ length (code_field r.error_code) → nonce ≡ length (octets_field 0xA5 r.client_nonce)
    → IsCapped (version + nego + auth + key + code + nonce) (length (fields r))
unfolding fields later_fields last_fields
fields_capped r version nego auth key code nonce v n a k c o =
    let last = code_field r.error_code ++ octets_field 0xA5 r.client_nonce in
    let later = octets_field 0xA2 r.auth_info ++ (octets_field 0xA3 r.pub_key_auth ++ last) in
    let lv = length (version_field r.version) in
    let ln = length (nego_field r.nego_tokens) in
    let la = length (octets_field 0xA2 r.auth_info) in
    let lk = length (octets_field 0xA3 r.pub_key_auth) in
    let lc = length (code_field r.error_code) in
    let lo = length (octets_field 0xA5 r.client_nonce) in
    let sums : length (version_field r.version ++ (nego_field r.nego_tokens ++ later)) ≡ lv + ln + la + lk + lc + lo =
    omega (
      arith,
      length-append (version_field r.version) (nego_field r.nego_tokens ++ later),
      length-append (nego_field r.nego_tokens) later,
      length-append (octets_field 0xA2 r.auth_info) (octets_field 0xA3 r.pub_key_auth ++ last),
      length-append (octets_field 0xA3 r.pub_key_auth) last,
      length-append (code_field r.error_code) (octets_field 0xA5 r.client_nonce),
    ) in
    subst (λ (m : ℕ). IsCapped (version + nego + auth + key + code + nonce) m) (sym sums)
    (rw (v, c, o) (capped_add _ _ _ _ (capped_add _ _ _ _ (capped_add _ _ _ _
    (capped_add _ _ _ _ (capped_add _ _ _ _ (capped_same lv) n) a) k) (capped_same lc)) (capped_same lo)))

-- the parts that fit when all the fields fit
pub record Room (r : TsRequest) : Type 0 where
  pub nego : length (nego_field r.nego_tokens) ≤ max_content
  pub later : length (later_fields r) ≤ max_content

pub fields_room : (r : TsRequest) → length (fields r) ≤ max_content → Room r
unfolding fields
fields_room r le = record {
  nego = omega (
    arith,
    length-append (version_field r.version) (nego_field r.nego_tokens ++ later_fields r),
    length-append (nego_field r.nego_tokens) (later_fields r),
  );
  later = omega (
    arith,
    length-append (version_field r.version) (nego_field r.nego_tokens ++ later_fields r),
    length-append (nego_field r.nego_tokens) (later_fields r),
  );
}

pub record LaterRoom (r : TsRequest) : Type 0 where
  pub auth : length (octets_field 0xA2 r.auth_info) ≤ max_content
  pub key : length (octets_field 0xA3 r.pub_key_auth) ≤ max_content

pub later_room : (r : TsRequest) → length (later_fields r) ≤ max_content → LaterRoom r
unfolding later_fields
later_room r le = record {
  auth = omega (
    arith,
    length-append (octets_field 0xA2 r.auth_info) (octets_field 0xA3 r.pub_key_auth ++ last_fields r),
    length-append (octets_field 0xA3 r.pub_key_auth) (last_fields r),
  );
  key = omega (
    arith,
    length-append (octets_field 0xA2 r.auth_info) (octets_field 0xA3 r.pub_key_auth ++ last_fields r),
    length-append (octets_field 0xA3 r.pub_key_auth) (last_fields r),
  );
}

pub length-token_item : (token : List ℕ) → length (token_item token) ≡ element_size (element_size (element_size (length token)))
unfolding token_item
length-token_item token =
    length-element 0x30 (element 0xA0 (element 0x04 token)) ∙ ap element_size
    (length-element 0xA0 (element 0x04 token) ∙ ap element_size (length-element 0x04 token))

pub length-token_list : (token : List ℕ) → length (token_list token) ≡ element_size (length (token_item token))
unfolding token_list
length-token_list token = length-element 0x30 (token_item token)

pub token_room : (token : List ℕ) → length (element 0xA1 (token_list token)) ≤ max_content → IsTokenSize (length token)
token_room token le =
    let n = length token in
    let e = token_length token in
    let a = size_above n in
    let b = size_above (element_size n) in
    let c = size_above (element_size (element_size n)) in
    let d = size_above (element_size (element_size (element_size n))) in
    let f = size_above (element_size (element_size (element_size (element_size n)))) in
    record { octets = omega arith; inner = omega arith; item = omega arith; list = omega arith; field = omega arith }
