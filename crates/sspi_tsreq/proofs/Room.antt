-- The sizes of TSCredentials.
use Rattle.std.proofs.Common.{◌≡◌, ℕ, ◌+◌, ◌<◌, ◌≤◌, List, [], ◌∷◌, ◌++◌, true, false, leb, Ok, Err, length, refl, sym, ap, ◌∙◌, arith}
use Rattle.std.proofs.lemmas.Bool.{le-leb, lt-leb}
use Rattle.std.proofs.lemmas.List.{length-append}
use Rattle.sspi_ber.specs.Forms.{max_content}
use Rattle.sspi_ber.specs.Short.{element, element_size, header, len_short, int_short, int_content}
use Rattle.sspi_ber.proofs.Written.{length-header, length-element, size_above, wrote_then, front_then, front_more, wrote_nothing}
use Rattle.std.specs.Result.{IsOk, is_ok}
use Rattle.sspi_types.specs.Errors.{memory_error}
use Rattle.sspi_types.specs.declared.error.Error.{Error}
use Rattle.sspi_names.specs.Utf16.{bytes_le}
use Rattle.sspi_names.specs.declared.identity.AuthIdentityBuffers.{AuthIdentityBuffers}
use Rattle.sspi_tsreq.specs.Creds.{wrapped_octets, password_fields, password_type_field, creds_body, spelled_if_fits, too_long, buffers_text}
use Rattle.sspi_tsreq.specs.CredsSizes.{password_fields_size, body_size, FitTexts}
use Rattle.sspi_tsreq.specs.Size.{IsCapped}
use Rattle.sspi_tsreq.proofs.Capped.{capped_same, capped_more, capped_add, capped_fits, capped_past}

length-wrapped_octets : (tag : ℕ) (content : List ℕ) → length (wrapped_octets tag content) ≡ element_size (element_size (length content))
unfolding wrapped_octets
length-wrapped_octets tag content = length-element tag (element 0x04 content) ∙ ap element_size (length-element 0x04 content)

pub length-password_fields : (domain user password : List ℕ) →
    length (password_fields domain user password) ≡ password_fields_size (length domain) (length user) (length password)
unfolding password_fields
length-password_fields domain user password =
    omega (
      arith,
      length-append (wrapped_octets 0xA0 domain) (wrapped_octets 0xA1 user ++ wrapped_octets 0xA2 password),
      length-append (wrapped_octets 0xA1 user) (wrapped_octets 0xA2 password),
      length-wrapped_octets 0xA0 domain,
      length-wrapped_octets 0xA1 user,
      length-wrapped_octets 0xA2 password,
    )

-- the bytes that say that the credentials are a password
pub password_type_bytes : password_type_field ≡ 0xA0 ∷ 3 ∷ 2 ∷ 1 ∷ 1 ∷ []
unfolding password_type_field element header len_short int_short int_content
password_type_bytes = refl

length-password_type_field : length password_type_field ≡ 5
length-password_type_field = ap length password_type_bytes

pub length-creds_body : (domain user password : List ℕ) → length (creds_body domain user password) ≡ body_size (length domain)
    (length user) (length password)
unfolding creds_body
length-creds_body domain user password =
    let fields = password_fields domain user password in
    length-append password_type_field (wrapped_octets 0xA1 (element 0x30 fields))
    ∙ ap (λ n. n + length (wrapped_octets 0xA1 (element 0x30 fields))) length-password_type_field
    ∙ ap (λ n. 5 + n) (length-wrapped_octets 0xA1 (element 0x30 fields) ∙ ap (λ n. element_size (element_size n))
    (length-element 0x30 fields ∙ ap element_size (length-password_fields domain user password)))

pub texts_fit : (d u p : ℕ) → body_size d u p ≤ max_content → FitTexts d u p
texts_fit d u p le =
    let f = password_fields_size d u p in
    let a = size_above f in
    let b = size_above (element_size f) in
    let c = size_above (element_size (element_size f)) in
    let dd = size_above (element_size d) in
    let uu = size_above (element_size u) in
    let pp = size_above (element_size p) in
    let dt = size_above d in
    let ut = size_above u in
    let pt = size_above p in
    record {
      domain_text = omega arith;
      domain_octets = omega arith;
      user_text = omega arith;
      user_octets = omega arith;
      password_text = omega arith;
      password_octets = omega arith;
      fields = omega arith;
      sequence = omega arith;
      octets = omega arith;
      body = le;
    }

-- capped sizes of three fields
pub fields_capped : (a b c d u p x y z : ℕ) → IsCapped a (element_size d) → IsCapped b (element_size u) → IsCapped c (element_size p)
    → IsCapped x (element_size a) → IsCapped y (element_size b) → IsCapped z (element_size c) →
    IsCapped (x + (y + z)) (password_fields_size d u p)
fields_capped a b c d u p x y z pa pb pc px py pz =
    capped_add x (y + z) _ _ (capped_more a _ x pa px) (capped_add y z _ _ (capped_more b _ y pb py) (capped_more c _ z pc pz))

pub body_capped : (f s o b d u p : ℕ) → IsCapped f (password_fields_size d u p) → IsCapped s (element_size f) →
    IsCapped o (element_size s) → IsCapped b (element_size o)
    → IsCapped (5 + b) (body_size d u p)
body_capped f s o b d u p pf ps po pb =
    capped_add 5 b 5 _ (capped_same 5) (capped_more o _ b (capped_more s _ o (capped_more f _ s pf ps) po) pb)

pub fields_length : (domain user password : List ℕ) → password_fields_size (length domain) (length user) (length password) ≡ length
    (password_fields domain user password)
fields_length domain user password = sym (length-password_fields domain user password)

pub sequence_length : (domain user password : List ℕ) → element_size (length (password_fields domain user password)) ≡ length
    (element 0x30 (password_fields domain user password))
sequence_length domain user password = sym (length-element 0x30 (password_fields domain user password))

pub ruleset sequence = (sequence_length, length-password_fields)

-- what is written after what was written
pub ruleset writing = (wrote_then, front_then, front_more, wrote_nothing)

pub ruleset sized_writing = (wrote_then, front_then, front_more, wrote_nothing, length-header, length-element)

-- ---- what fits is encoded

module _ (domain user password : List ℕ) (size : ℕ) (capped : IsCapped size (body_size (length domain) (length user) (length password)))
  where
    pub fits_texts : size ≤ max_content → FitTexts (length domain) (length user) (length password)
    fits_texts le = texts_fit _ _ _ (capped_fits size _ capped le).0

    pub fits_size : size ≤ max_content → size ≡ length (creds_body domain user password)
    fits_size le = (capped_fits size _ capped le).1 ∙ sym (length-creds_body domain user password)

    pub fits_spelled : size ≤ max_content → spelled_if_fits (creds_body domain user password) ≡ Ok
        (element 0x30 (creds_body domain user password))
    fits_spelled le =
        let fits : leb (length (creds_body domain user password)) max_content ≡ true = le-leb _ _ (omega (arith, fits_size le)) in
        rw fits

    pub past_refused : max_content < size → spelled_if_fits (creds_body domain user password) ≡ Err too_long
    past_refused lt =
        let past : max_content < body_size (length domain) (length user) (length password) = capped_past size _ capped lt in
        let long : leb (length (creds_body domain user password)) max_content ≡ false =
        lt-leb _ _ (omega (arith, length-creds_body domain user password)) in
        rw long

-- all that is in a sink that began empty
pub written_whole : (start now text items : List ℕ) → start ≡ [] → now ≡ start ++ text → items ≡ now → items ≡ text
written_whole start now text items empty appended same = same ∙ appended ∙ ap (λ front. front ++ text) empty

-- ---- what is measured before any allocation

pub fits_ok : (domain user password : List ℕ) (size : ℕ) → IsCapped size (body_size (length domain) (length user) (length password)) →
    size ≤ max_content → IsOk (spelled_if_fits (creds_body domain user password))
fits_ok domain user password size capped le = ap is_ok (fits_spelled domain user password size capped le)

pub long_unwanted : (error : Error) → error ≡ too_long → error ≡ memory_error → ⊥
long_unwanted error e m = cc_of (ap (λ (x : Error). x.error_type) (sym e ∙ m))
  where
    cc_of : too_long.error_type ≡ memory_error.error_type → ⊥
    cc_of f = cc

lengths_of : (b : AuthIdentityBuffers) (domain user password : ℕ) → domain ≡ length (bytes_le b.domain) → user ≡ length (bytes_le b.user) →
    password ≡ length (bytes_le b.password.value) → (size : ℕ) → IsCapped size (body_size domain user password) →
    IsCapped size (body_size (length (bytes_le b.domain)) (length (bytes_le b.user)) (length (bytes_le b.password.value)))
lengths_of b domain user password d u p size capped = rw (← d, ← u, ← p) capped

pub fits_buffers : (b : AuthIdentityBuffers) (domain user password size : ℕ) → domain ≡ length (bytes_le b.domain) →
    user ≡ length (bytes_le b.user) → password ≡ length (bytes_le b.password.value) → IsCapped size (body_size domain user password) →
    size ≤ max_content → IsOk (buffers_text b)
unfolding buffers_text
fits_buffers b domain user password size d u p capped le = fits_ok _ _ _ size (lengths_of b domain user password d u p size capped) le

pub past_buffers : (b : AuthIdentityBuffers) (domain user password size : ℕ) → domain ≡ length (bytes_le b.domain) →
    user ≡ length (bytes_le b.user) → password ≡ length (bytes_le b.password.value) → IsCapped size (body_size domain user password) →
    max_content < size → buffers_text b ≡ Err too_long
unfolding buffers_text
past_buffers b domain user password size d u p capped lt = past_refused _ _ _ size (lengths_of b domain user password d u p size capped) lt
