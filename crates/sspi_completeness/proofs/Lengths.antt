-- How long the messages of an exchange are at most.
use Rattle.std.proofs.Common.{◌≡◌, ℕ, ◌+◌, ◌*◌, ◌/◌, ◌%◌, ◌≤◌, List, [], ◌∷◌, ◌++◌, length, Option, None, Some, true, Bool, Ok, refl}
use Rattle.std.proofs.Common.{arith, if◌then◌else◌, nat_lt, false}
use Rattle.std.proofs.lemmas.Bool.{le-leb}
use Rattle.std.proofs.lemmas.List.{length-append}
use Rattle.sspi_types.specs.declared.nstatus.NStatusCode.{NStatusCode}
use Rattle.sspi_ber.specs.Forms.{max_content}
use Rattle.sspi_ber.specs.Short.{element, element_size, int_short, int_content}
use Rattle.sspi_ber.proofs.Written.{length-element, size_below}
use Rattle.sspi_names.specs.Utf16.{bytes_le}
use Rattle.sspi_names.specs.declared.identity.AuthIdentityBuffers.{AuthIdentityBuffers}
use Rattle.sspi_tsreq.specs.declared.request.TsRequest.{TsRequest}
use Rattle.sspi_tsreq.specs.Creds.{buffers_text, creds_body, spelled_if_fits}
use Rattle.sspi_tsreq.specs.CredsSizes.{password_fields_size, body_size}
use Rattle.sspi_tsreq.specs.Spelling.{carried, carries_nonce, version_field, token_item, token_list, nego_field, octets_field}
use Rattle.sspi_tsreq.specs.Spelling.{code_field, last_fields, later_fields, fields, fits}
use Rattle.sspi_tsreq.proofs.Room.{length-creds_body}

-- the bytes of a field that may be absent
abbrev pub size_of : Option (List ℕ) → ℕ
size_of None = 0
size_of (Some bytes) = length bytes

element_bound : (tag : ℕ) (content : List ℕ) → length (element tag content) ≤ length content + 5
element_bound tag content = let e = length-element tag content in let b = size_below (length content) in omega arith

choice_bound : (b : Bool) (x y : List ℕ) → length x ≤ 4 → length y ≤ 4 → length (if b then x else y) ≤ 4
choice_bound true x y p q = p
choice_bound false x y p q = q

integer_bound : (v : ℕ) → length (int_content v) ≤ 4
unfolding int_content
integer_bound v =
    let one : length (v ∷ []) ≤ 4 = omega arith in
    let two : length (v / 0x100 ∷ v % 0x100 ∷ []) ≤ 4 = omega arith in
    let three : length (v / 0x10000 ∷ v / 0x100 % 0x100 ∷ v % 0x100 ∷ []) ≤ 4 = omega arith in
    let four : length (v / 0x1000000 ∷ v / 0x10000 % 0x100 ∷ v / 0x100 % 0x100 ∷ v % 0x100 ∷ []) ≤ 4 = omega arith in
    choice_bound (nat_lt v 0x80) _ _ one (choice_bound (nat_lt v 0x8000) _ _ two (choice_bound (nat_lt v 0x800000) _ _ three four))

version_bound : (v : ℕ) → length (version_field v) ≤ 14
unfolding version_field int_short
version_bound v =
    let a = element_bound 0xA0 (element 0x02 (int_content v)) in
    let b = element_bound 0x02 (int_content v) in
    let i = integer_bound v in
    omega arith

nego_bound : (token : Option (List ℕ)) → length (nego_field token) ≤ size_of token + 25
unfolding nego_field token_list token_item
nego_bound None = omega arith
nego_bound (Some token) =
    let a = element_bound 0xA1 (element 0x30 (element 0x30 (element 0xA0 (element 0x04 token)))) in
    let b = element_bound 0x30 (element 0x30 (element 0xA0 (element 0x04 token))) in
    let d = element_bound 0x30 (element 0xA0 (element 0x04 token)) in
    let e = element_bound 0xA0 (element 0x04 token) in
    let f = element_bound 0x04 token in
    omega arith

octets_bound : (tag : ℕ) (octets : Option (List ℕ)) → length (octets_field tag octets) ≤ size_of octets + 10
unfolding octets_field
octets_bound tag None = omega arith
octets_bound tag (Some octets) =
    let a = element_bound tag (element 0x04 octets) in
    let b = element_bound 0x04 octets in
    omega arith

code_bound : (code : Option NStatusCode) → code ≡ None → length (code_field code) ≤ 0
unfolding code_field
code_bound None none = omega arith
code_bound (Some code) none = absurd cc

fields_bound : (r : TsRequest) → r.error_code ≡ None →
    length (fields r) ≤ 69 + size_of r.nego_tokens + size_of r.auth_info + size_of r.pub_key_auth + size_of r.client_nonce
unfolding fields later_fields last_fields
fields_bound r none =
    let last = code_field r.error_code ++ octets_field 0xA5 r.client_nonce in
    let later = octets_field 0xA2 r.auth_info ++ (octets_field 0xA3 r.pub_key_auth ++ last) in
    omega (
      arith,
      length-append (version_field r.version) (nego_field r.nego_tokens ++ later),
      length-append (nego_field r.nego_tokens) later,
      length-append (octets_field 0xA2 r.auth_info) (octets_field 0xA3 r.pub_key_auth ++ last),
      length-append (octets_field 0xA3 r.pub_key_auth) last,
      length-append (code_field r.error_code) (octets_field 0xA5 r.client_nonce),
      version_bound r.version,
      nego_bound r.nego_tokens,
      octets_bound 0xA2 r.auth_info,
      octets_bound 0xA3 r.pub_key_auth,
      octets_bound 0xA5 r.client_nonce,
      code_bound r.error_code none,
    )

pub no_code : (b : Bool) (code : Option NStatusCode) → code ≡ None → (if b then code else None) ≡ None
no_code true code none = none
no_code false code none = refl

pub less_kept : (b : Bool) (bytes : Option (List ℕ)) → size_of (if b then bytes else None) ≤ size_of bytes
less_kept true bytes = omega arith
less_kept false bytes = omega arith

-- a message without an error code fits if its fields are short enough together
pub message_fits : (r : TsRequest) → r.error_code ≡ None →
    size_of r.nego_tokens + size_of r.auth_info + size_of r.pub_key_auth + size_of r.client_nonce ≤ 1_048_000 → fits r ≡ true
message_fits r none short =
    let bound = fields_bound (carried r) (no_code _ r.error_code none) in
    let nonce = less_kept (carries_nonce r.version) r.client_nonce in
    le-leb _ _ (omega (arith, bound, nonce, short))

units_twice : (units : List ℕ) → length (bytes_le units) ≡ 2 * length units
unfolding bytes_le
units_twice [] = refl
units_twice (u ∷ units) = let e = units_twice units in omega arith

text_if : (body : List ℕ) → length body ≤ max_content → spelled_if_fits body ≡ Ok (element 0x30 body)
text_if body short = rw (le-leb (length body) max_content short) refl

-- credentials whose texts are short have a text, which is not much longer
pub record HasText (b : AuthIdentityBuffers) : Type 0 where
  pub text : List ℕ
  pub is : buffers_text b ≡ Ok text
  pub short : length text ≤ 2 * (length b.user + length b.domain + length b.password.value) + 60

pub short_credentials : (b : AuthIdentityBuffers) → length b.user ≤ 8192 → length b.domain ≤ 8192 → length b.password.value ≤ 131072 →
    HasText b
unfolding buffers_text
short_credentials b user domain password =
    let d = bytes_le b.domain in
    let u = bytes_le b.user in
    let p = bytes_le b.password.value in
    let dl : length d ≡ 2 * length b.domain = units_twice b.domain in
    let ul : length u ≡ 2 * length b.user = units_twice b.user in
    let pl : length p ≡ 2 * length b.password.value = units_twice b.password.value in
    let whole : length (creds_body d u p) ≡ body_size (length d) (length u) (length p) = length-creds_body d u p in
    let f = password_fields_size (length d) (length u) (length p) in
    let a1 = size_below f in
    let a2 = size_below (element_size f) in
    let a3 = size_below (element_size (element_size f)) in
    let d1 = size_below (length d) in
    let d2 = size_below (element_size (length d)) in
    let u1 = size_below (length u) in
    let u2 = size_below (element_size (length u)) in
    let p1 = size_below (length p) in
    let p2 = size_below (element_size (length p)) in
    let small : length (creds_body d u p) ≤ 2 * (length b.user + length b.domain + length b.password.value) + 55 = omega arith in
    let outer = element_bound 0x30 (creds_body d u p) in
    record {
      text = element 0x30 (creds_body d u p);
      is = text_if (creds_body d u p) (omega arith);
      short = omega arith;
    }
