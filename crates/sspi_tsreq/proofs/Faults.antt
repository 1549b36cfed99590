-- What the first fault of a request means: what more bytes change, and what it is in terms of the header and the body.
use Rattle.std.proofs.Common.{◌≡◌, ℕ, ◌%◌, ◌^◌, Bool, true, false, cond, eqb, leb, ltb, inl, inr, take, drop, List, ◌∷◌, ◌++◌, length}
use Rattle.std.proofs.Common.{Option, Some, Ok, Err, refl, sym, ap, ◌∙◌, subst}
use Rattle.sspi_types.specs.declared.nstatus.NStatusCode.{NStatusCode}
use Rattle.sspi_ber.specs.Pieces.{Fault, Ended, Invalid, Read, ◌>>=◌, as_ended, fault_of, zeros, bytes_at, header_at, integer_at, field_at}
use Rattle.sspi_ber.specs.Pieces.{tagged_at}
use Rattle.sspi_ber.specs.Forms.{IsLength, IsHeader}
use Rattle.sspi_ber.proofs.PiecesMatch.{chosen, bytes_match, header_match}
use Rattle.sspi_ber.proofs.Steady.{Steady, Steady-then, Steady-map, Steady-cond, Steady-refused, Optional, field_optional}
use Rattle.sspi_ber.proofs.Steady.{nothing_optional, Settled, Settled-map, Settled-then, Begun, Begun-then, bytes_steady}
use Rattle.sspi_ber.proofs.Steady.{header_steady, element_steady, integer_steady, tagged_steady}
use Rattle.sspi_tsreq.specs.declared.request.TsRequest.{TsRequest}
use Rattle.sspi_tsreq.specs.Grammar.{bare}
use Rattle.sspi_tsreq.specs.Reading.{fault, body_fault}
use Rattle.sspi_tsreq.specs.Reading.{low_at, version_at, octets_at, token_at, code_at, nonce_at, looked_at, after_code, after_key}
use Rattle.sspi_tsreq.specs.Reading.{after_auth, after_nego, after_version, body_at, request_at}

low_of : ℕ → ℕ
low_of w = w % 2 ^ 32

low_steady : Steady low_at
unfolding low_at low_of
low_steady = Steady-map low_of integer_at integer_steady

version_steady : Steady version_at
version_steady = tagged_steady 0xA0 low_at low_steady

octets_steady : Steady octets_at
octets_steady = element_steady 0x04

token_steady : Steady token_at
token_steady = tagged_steady 0x30 (tagged_at 0x30 (tagged_at 0xA0 octets_at))
    (tagged_steady 0x30 (tagged_at 0xA0 octets_at) (tagged_steady 0xA0 octets_at octets_steady))

abbrev code_of : ℕ → NStatusCode
code_of low = record { 0 = low }

code_steady : Steady code_at
unfolding code_at
code_steady = Steady-map code_of low_at low_steady

nonce_steady : Steady nonce_at
unfolding nonce_at
nonce_steady =
    Steady-then (header_at 0x04) (λ n bytes. cond (eqb n 32) (bytes_at n bytes) (Err Invalid)) (header_steady 0x04)
    (λ n. Steady-cond (eqb n 32) (bytes_at n) (λ bytes. Err Invalid) (bytes_steady n) Steady-refused)

looked_optional : {A : Type 0} (looked : Bool) (tag : ℕ) (inner : List ℕ → Read A) → Steady inner →
    Optional (looked_at looked (field_at tag inner))
looked_optional true tag inner s = field_optional tag inner s
looked_optional false tag inner s = nothing_optional

-- ---- the chain

abbrev with_nonce : TsRequest → Option (List ℕ) → TsRequest
with_nonce r nonce = record r { client_nonce = nonce }

code_settled : (r : TsRequest) → Settled (after_code r)
unfolding after_code
code_settled r = Settled-map (with_nonce r) (looked_at (leb 5 r.version) (field_at 0xA5 nonce_at))
    (looked_optional (leb 5 r.version) 0xA5 nonce_at nonce_steady)

key_settled : (r : TsRequest) → Settled (after_key r)
unfolding after_key
key_settled r =
    Settled-then (looked_at (leb 3 r.version) (field_at 0xA4 code_at)) (λ code. after_code (record r { error_code = code }))
    (looked_optional (leb 3 r.version) 0xA4 code_at code_steady)
    (λ code. code_settled (record r { error_code = code }))

auth_settled : (r : TsRequest) → Settled (after_auth r)
unfolding after_auth
auth_settled r =
    Settled-then (field_at 0xA3 octets_at) (λ key. after_key (record r { pub_key_auth = key }))
    (field_optional 0xA3 octets_at octets_steady)
    (λ key. key_settled (record r { pub_key_auth = key }))

nego_settled : (r : TsRequest) → Settled (after_nego r)
unfolding after_nego
nego_settled r =
    Settled-then (field_at 0xA2 octets_at) (λ auth. after_auth (record r { auth_info = auth }))
    (field_optional 0xA2 octets_at octets_steady)
    (λ auth. auth_settled (record r { auth_info = auth }))

version_settled : (r : TsRequest) → Settled (after_version r)
unfolding after_version
version_settled r =
    Settled-then (field_at 0xA1 token_at) (λ nego. after_nego (record r { nego_tokens = nego })) (field_optional 0xA1 token_at token_steady)
    (λ nego. nego_settled (record r { nego_tokens = nego }))

body_begun : Begun body_at
unfolding body_at
body_begun = Begun-then version_at (λ version. after_version (bare version)) version_steady (λ version. version_settled (bare version))

-- ---- the laws

some_fault : {A : Type 0} (r : Read A) (kind : Fault) → fault_of r ≡ Some kind → r ≡ Err kind
some_fault (Ok x) kind e = absurd cc
some_fault (Err other) kind e = cc

pub fault_is : {A : Type 0} (r : Read A) (kind : Fault) → r ≡ Err kind → fault_of r ≡ Some kind
fault_is {A} r kind e = ap (λ (z : Read A). fault_of z) e

pub body_stays : (body more : List ℕ) → body_fault body ≡ Some Invalid → body_fault (body ++ more) ≡ Some Invalid
body_stays body more e = fault_is (body_at (body ++ more)) Invalid (body_begun.stays body more (some_fault (body_at body) Invalid e))

pub body_settles : (body : List ℕ) → (count : ℕ) × (body_fault (body ++ zeros count) ≡ Some Ended → ⊥)
body_settles body = let t = body_begun.completes body in (t.0, λ e. t.1 (some_fault (body_at (body ++ zeros t.0)) Ended e))

-- the bytes after the body
abbrev behind : List ℕ → TsRequest × List ℕ → Read TsRequest
behind after request = Ok (request.0, after)

abbrev inside : List ℕ × List ℕ → Read TsRequest
inside body = body_at body.0 >>= behind body.1

abbrev measured : ℕ × List ℕ → Read TsRequest
measured n = bytes_at n.0 n.1 >>= inside

same_fault : (after : List ℕ) (r : Read TsRequest) → fault_of (r >>= behind after) ≡ fault_of r
same_fault after (Ok x) = refl
same_fault after (Err kind) = refl

pub framed : (len body after : List ℕ) → IsLength len (length body) → fault ((0x30 ∷ len) ++ (body ++ after)) ≡ body_fault body
unfolding request_at
framed len body after m =
    let header : header_at 0x30 ((0x30 ∷ len) ++ (body ++ after)) ≡ Ok (length body, body ++ after) =
    (header_match 0x30).again (0x30 ∷ len) (length body) (body ++ after) (record { len = len; spelled = refl; measured = m }) in
    let block : bytes_at (length body) (body ++ after) ≡ Ok (body, after) =
    (bytes_match (length body)).again body body after (refl, refl) in
    ap (λ (h : Read ℕ). fault_of (as_ended h >>= measured)) header ∙ ap
    (λ (h : Read (List ℕ)). fault_of (h >>= inside)) block ∙ same_fault after (body_at body)

abbrev Unframed : List ℕ → Type 0
Unframed bytes = (len body after : List ℕ) → IsLength len (length body) → bytes ≡ (0x30 ∷ len) ++ (body ++ after) → ⊥

never_invalid : (n : ℕ) (bytes : List ℕ) → bytes_at n bytes ≡ Err Invalid → ⊥
unfolding bytes_at
never_invalid n bytes e = elim (chosen (ltb (length bytes) n) (Err Ended) (Ok (take n bytes, drop n bytes)) (Err Invalid) e)
    [ inl (t, f) ↦ cc | inr (t, f) ↦ cc ]

block_ended : (bytes header : List ℕ) (n : ℕ) (rest : List ℕ) (z : Read (List ℕ)) → Unframed bytes → IsHeader 0x30 header n →
    bytes ≡ header ++ rest → bytes_at n rest ≡ z
    → fault_of (z >>= inside) ≡ Some Ended
block_ended bytes header n rest (Ok b) none h e f =
    let t = (bytes_match n).takes rest b.0 b.1 f in
    absurd (none h.len b.0 b.1 (subst (λ (k : ℕ). IsLength h.len k) (sym t.1.1) h.measured)
    (e ∙ ap (λ (l : List ℕ). l ++ rest) h.spelled ∙ ap (λ (l : List ℕ). (0x30 ∷ h.len) ++ l) (t.2 ∙ ap (λ (l : List ℕ). l ++ b.1) t.1.0)))
block_ended bytes header n rest (Err Ended) none h e f = refl
block_ended bytes header n rest (Err Invalid) none h e f = absurd (never_invalid n rest f)

header_ended : (bytes : List ℕ) (z : Read ℕ) → Unframed bytes → header_at 0x30 bytes ≡ z → fault_of (as_ended z >>= measured) ≡ Some Ended
header_ended bytes (Ok n) none e =
    let t = (header_match 0x30).takes bytes n.0 n.1 e in
    block_ended bytes t.0 n.0 n.1 (bytes_at n.0 n.1) none t.1 t.2 refl
header_ended bytes (Err kind) none e = refl

pub unframed : (bytes : List ℕ) → Unframed bytes → fault bytes ≡ Some Ended
unfolding request_at
unframed bytes none = header_ended bytes (header_at 0x30 bytes) none refl
