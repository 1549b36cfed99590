-- Which messages of an exchange fit, and the proofs of the key in them.
use Rattle.std.proofs.Common.{◌≡◌, ℕ, zero, suc, ◌+◌, ◌/◌, ◌^◌, ◌≤◌, ◌<◌, Bool, true, false, List, ◌++◌, length, Option, None, Some}
use Rattle.std.proofs.Common.{IfSome, refl, ap, arith, nat_lt, if◌then◌else◌, inl, inr}
use Rattle.std.proofs.lemmas.Bool.{cases_lt, lt-ltb, le-leb}
use Rattle.sha2.specs.Sha256.{sha256}
use Rattle.sha2.proofs.Facts256.{length-sha256}
use Rattle.sspi_types.specs.declared.nstatus.NStatusCode.{NStatusCode}
use Rattle.sspi_tsreq.specs.declared.request.TsRequest.{TsRequest}
use Rattle.sspi_tsreq.specs.Spelling.{carries_nonce, fits}
use Rattle.sspi_tsreq.specs.Grammar.{IsRequestValue}
use Rattle.sspi_credssp.specs.declared.public_key.EndpointType.{EndpointType}
use Rattle.sspi_credssp.specs.declared.public_key.EndpointType.TheVariants.{Client, Server}
use Rattle.sspi_credssp.specs.Exchange.{bytes_of, little_endian, incremented, magic, echo, prescribed}
use Rattle.sspi_credssp.specs.Requests.{nonce_of}
use Rattle.sspi_credssp.specs.ServerCause.{lacks_nonce}
use Rattle.sspi_completeness.proofs.Lengths.{size_of, message_fits}

-- ---- proofs of the key

length-bytes_of : (n value : ℕ) → length (bytes_of n value) ≡ n
length-bytes_of zero value = refl
length-bytes_of (suc n) value = ap suc (length-bytes_of n (value / 256))

echo_length : (end : EndpointType) (key : List ℕ) → length (echo end key) ≡ length key
unfolding incremented
echo_length Client key = refl
echo_length Server key = length-bytes_of (length key) (little_endian key + 1)

shorter_of : (b : Bool) (x y : List ℕ) (n : ℕ) → length x ≤ n → length y ≤ n → length (if b then x else y) ≤ n
shorter_of true x y n p q = p
shorter_of false x y n p q = q

pub prescribed_length : (end : EndpointType) (version : ℕ) (nonce key : List ℕ) → length key ≤ 262144 →
    length (prescribed end version nonce key) ≤ 262144
unfolding prescribed
prescribed_length end version nonce key short =
    shorter_of (nat_lt version 5) (echo end key) (sha256 (magic end ++ nonce ++ key)) 262144
    (omega (arith, echo_length end key, short)) (omega (arith, length-sha256 (magic end ++ nonce ++ key)))

same_at : (end : EndpointType) (b c : Bool) (x y key : List ℕ) → b ≡ c → (b ≡ false → x ≡ y) →
    (if b then echo end key else sha256 (magic end ++ x ++ key)) ≡ (if c then echo end key else sha256 (magic end ++ y ++ key))
same_at end true true x y key e same = refl
same_at end true false x y key e same = absurd cc
same_at end false true x y key e same = absurd cc
same_at end false false x y key e same = ap (λ (n : List ℕ). sha256 (magic end ++ n ++ key)) (same refl)

-- ends with versions of one kind owe the same proof
pub same_proof : (end : EndpointType) (v w : ℕ) (x y key : List ℕ) → nat_lt v 5 ≡ nat_lt w 5 → (nat_lt v 5 ≡ false → x ≡ y) →
    prescribed end v x key ≡ prescribed end w y key
unfolding prescribed
same_proof end v w x y key e same = same_at end (nat_lt v 5) (nat_lt w 5) x y key e same

-- from version 5 on the nonce is carried
new_carries : (v : ℕ) → nat_lt v 5 ≡ false → carries_nonce v ≡ true
new_carries v new = elim (cases_lt v 5) [
  | inl lt ↦ absurd (let e = lt-ltb v 5 lt in cc)
  | inr ge ↦ le-leb 5 v ge
]

pub carried_nonce : (v : ℕ) (nonce : List ℕ) → nat_lt v 5 ≡ false → nonce_of (if carries_nonce v then Some nonce else None) ≡ nonce
carried_nonce v nonce new = rw (new_carries v new) refl

lacks_at : (b : Bool) (v : ℕ) (nonce : List ℕ) → nat_lt v 5 ≡ b → lacks_nonce b (if carries_nonce v then Some nonce else None) ≡ false
lacks_at true v nonce is = refl
lacks_at false v nonce is = rw (new_carries v is) refl

pub nonce_there : (v : ℕ) (nonce : List ℕ) → lacks_nonce (nat_lt v 5) (if carries_nonce v then Some nonce else None) ≡ false
nonce_there v nonce = lacks_at (nat_lt v 5) v nonce refl

-- ---- what a message has

abbrev pub IsNonce : Option (List ℕ) → Type 0
IsNonce field = IfSome field (λ nonce. length nonce ≡ 32)

pub nonce_kept : (b : Bool) (field : Option (List ℕ)) → IsNonce field → IsNonce (if b then field else None)
nonce_kept true field is = is
nonce_kept false field is = tt

pub nonce_size : (field : Option (List ℕ)) → IsNonce field → size_of field ≤ 32
nonce_size None is = omega arith
nonce_size (Some bytes) is = omega (arith, is)

code_value : (code : Option NStatusCode) → code ≡ None → IfSome code (λ code. code.0 < 2 ^ 32)
code_value None none = tt
code_value (Some code) none = absurd cc

-- a message that is encoded
pub record IsMessage (r : TsRequest) : Type 0 where
  pub value : IsRequestValue r
  pub fit : fits r ≡ true

pub is_message : (r : TsRequest) → r.version < 2 ^ 32 → r.error_code ≡ None → IsNonce r.client_nonce →
    size_of r.nego_tokens + size_of r.auth_info + size_of r.pub_key_auth + size_of r.client_nonce ≤ 1_048_000 → IsMessage r
is_message r version code is short = record {
  value = record { version = version; code = code_value r.error_code code; nonce = is };
  fit = message_fits r code short;
}
