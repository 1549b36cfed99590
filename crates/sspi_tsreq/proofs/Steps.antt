-- The effect of one more byte on what is still to come.
use Rattle.std.proofs.Common.{◌≡◌, ℕ, ◌%◌, ◌^◌, Bool, true, false, cond, eqb, leb, ◌&&◌, List, ◌∷◌, Option, None, Some, Ok, Err, refl}
use Rattle.std.proofs.Common.{ap, ◌∙◌}
use Rattle.std.proofs.lemmas.Bool.{eq-eqb, ne_eqb}
use Rattle.sspi_ber.specs.Pieces.{Invalid, Read, ◌>>=◌, bytes_at, length_at, header_at, number_at, integer_at, element_at, tag_or_absent_at}
use Rattle.sspi_ber.specs.Pieces.{present_at, field_at, tagged_at}
use Rattle.sspi_types.specs.declared.nstatus.NStatusCode.{NStatusCode}
use Rattle.sspi_ber.specs.Forms.{is_integer_size}
use Rattle.sspi_tsreq.specs.declared.request.TsRequest.{TsRequest}
use Rattle.sspi_tsreq.specs.declared.place.Text.TheVariants.{NegoTokens, AuthInfo, PubKeyAuth}
use Rattle.sspi_tsreq.specs.declared.place.Element.TheVariants.{Optional, Required}
use Rattle.sspi_tsreq.specs.declared.place.Field.TheVariants.{Nego, Auth, Key, Code, Nonce}
use Rattle.sspi_tsreq.specs.declared.place.Inner.{Inner}
use Rattle.sspi_tsreq.specs.declared.place.Inner.TheVariants.{Version, VersionNumber, TokenList, TokenItem, Token, Octets, CodeNumber}
use Rattle.sspi_tsreq.specs.declared.place.Inner.TheVariants.{NonceOctets}
use Rattle.sspi_tsreq.specs.Reading.{low_at, octets_at, token_at, code_at, nonce_at, looked_at, after_code, after_key, after_auth}
use Rattle.sspi_tsreq.specs.Reading.{after_nego, after_version, body_at}
use Rattle.sspi_tsreq.specs.Places.{behind, sized_low, text_then, version_then, code_then, nonce_then}
use Rattle.sspi_tsreq.specs.Walks.{inner_tag, from_inner}
use Rattle.sspi_tsreq.proofs.Numbers.{map_then}

-- ---- what is required

then_both : {A B C : Type 0} (z : Read A) (j : A × List ℕ → Read B) (k : B × List ℕ → Read C) → ((z >>= j) >>= k) ≡ (z >>= λ x. (j x >>= k))
then_both (Ok x) j k = refl
then_both (Err fault) j k = refl

cond_then : {A B C : Type 0} (c : Bool) (z : Read A) (j : A × List ℕ → Read B) (k : B × List ℕ → Read C)
    → ((cond c z (Err Invalid) >>= j) >>= k) ≡ cond c (z >>= λ x. (j x >>= k)) (Err Invalid)
cond_then true z j k = then_both z j k
cond_then false z j k = refl

cond_once : {A B : Type 0} (c : Bool) (z : Read A) (j : A × List ℕ → Read B) →
    (cond c z (Err Invalid) >>= j) ≡ cond c (z >>= j) (Err Invalid)
cond_once true z j = refl
cond_once false z j = refl

-- a header with what follows it
header_then : {A B : Type 0} (tag byte : ℕ) (more : List ℕ) (j : ℕ × List ℕ → Read A) (k : A × List ℕ → Read B)
    → ((header_at tag (byte ∷ more) >>= j) >>= k) ≡ cond (eqb byte tag) (length_at more >>= λ n. (j n >>= k)) (Err Invalid)
unfolding header_at
header_then tag byte more j k = cond_then (eqb byte tag) (length_at more) j k

tagged_then : {A B : Type 0} (tag byte : ℕ) (more : List ℕ) (inner : List ℕ → Read A) (k : A × List ℕ → Read B)
    → (tagged_at tag inner (byte ∷ more) >>= k) ≡ cond (eqb byte tag) (length_at more >>= λ n. (inner n.1 >>= k)) (Err Invalid)
unfolding tagged_at
tagged_then tag byte more inner k = header_then tag byte more (λ n. inner n.1) k

octets_then : {B : Type 0} (byte : ℕ) (more : List ℕ) (k : List ℕ × List ℕ → Read B)
    → (octets_at (byte ∷ more) >>= k) ≡ cond (eqb byte 0x04) (length_at more >>= λ n. (bytes_at n.0 n.1 >>= k)) (Err Invalid)
unfolding element_at
octets_then byte more k = header_then 0x04 byte more (λ n. bytes_at n.0 n.1) k

abbrev low_of : ℕ × List ℕ → Read ℕ
low_of w = Ok (w.0 % 2 ^ 32, w.1)

low_then : {B : Type 0} (byte : ℕ) (more : List ℕ) (k : ℕ × List ℕ → Read B)
    → (low_at (byte ∷ more) >>= k) ≡ cond (eqb byte 0x02) (length_at more >>= λ n. (sized_low n.0 n.1 >>= k)) (Err Invalid)
unfolding low_at integer_at
low_then byte more k =
    let sized : ℕ × List ℕ → Read ℕ = λ n. cond (is_integer_size n.0) (number_at n.0 n.1) (Err Invalid) in
    ap (λ (z : Read ℕ). z >>= k) (header_then 0x02 byte more sized low_of)
    ∙ cond_once (eqb byte 0x02) (length_at more >>= λ n. (sized n >>= low_of)) k
    ∙ ap (λ z. cond (eqb byte 0x02) z (Err Invalid)) (then_both (length_at more) (λ n. (sized n >>= low_of)) k)

nonce_header : {B : Type 0} (byte : ℕ) (more : List ℕ) (k : List ℕ × List ℕ → Read B)
    → (nonce_at (byte ∷ more) >>= k) ≡ cond (eqb byte 0x04) (length_at more >>= λ n.
    (cond (eqb n.0 32) (bytes_at n.0 n.1) (Err Invalid) >>= k)) (Err Invalid)
unfolding nonce_at
nonce_header byte more k = header_then 0x04 byte more (λ n. cond (eqb n.0 32) (bytes_at n.0 n.1) (Err Invalid)) k

version_step : (r : TsRequest) (byte : ℕ) (more : List ℕ)
    → body_at (byte ∷ more) ≡ cond (eqb byte 0xA0) (length_at more >>= λ n. behind (Required Version) r n.0 n.1) (Err Invalid)
unfolding body_at
version_step r byte more = tagged_then 0xA0 byte more low_at version_then

inner_step : (inner : Inner) (r : TsRequest) (byte : ℕ) (more : List ℕ)
    → from_inner inner r (byte ∷ more) ≡ cond (eqb byte (inner_tag inner)) (length_at more >>= λ n. behind (Required inner) r n.0 n.1)
    (Err Invalid)
inner_step Version r byte more = version_step r byte more
inner_step VersionNumber r byte more = low_then byte more version_then
inner_step TokenList r byte more = tagged_then 0x30 byte more (tagged_at 0x30 (tagged_at 0xA0 octets_at)) (text_then NegoTokens r)
inner_step TokenItem r byte more = tagged_then 0x30 byte more (tagged_at 0xA0 octets_at) (text_then NegoTokens r)
inner_step Token r byte more = tagged_then 0xA0 byte more octets_at (text_then NegoTokens r)
inner_step (Octets NegoTokens) r byte more = octets_then byte more (text_then NegoTokens r)
inner_step (Octets AuthInfo) r byte more = octets_then byte more (text_then AuthInfo r)
inner_step (Octets PubKeyAuth) r byte more = octets_then byte more (text_then PubKeyAuth r)
inner_step CodeNumber r byte more = low_then byte more (code_then r)
inner_step NonceOctets r byte more = nonce_header byte more (nonce_then r)

pub inner_next : (inner : Inner) (r : TsRequest) (byte : ℕ) (more : List ℕ) → byte ≡ inner_tag inner
    → from_inner inner r (byte ∷ more) ≡ (length_at more >>= λ n. behind (Required inner) r n.0 n.1)
inner_next inner r byte more e = inner_step inner r byte more ∙ rw (eq-eqb byte (inner_tag inner) e) refl

pub inner_faulty : (inner : Inner) (r : TsRequest) (byte : ℕ) (more : List ℕ) → (byte ≡ inner_tag inner → ⊥) →
    from_inner inner r (byte ∷ more) ≡ Err Invalid
inner_faulty inner r byte more ne = inner_step inner r byte more ∙ rw (ne_eqb byte (inner_tag inner) ne) refl

-- ---- what may be absent

abbrev some_then : {A B : Type 0} → (Option A × List ℕ → Read B) → A × List ℕ → Read B
some_then k x = k (Some x.0, x.1)

abbrev some_of : {A : Type 0} → A × List ℕ → Option A × List ℕ
some_of x = (Some x.0, x.1)

abbrev length_found : Read ℕ → Read (Option ℕ)
length_found z = z >>= λ n. Ok (some_of n)

present_then : {A B : Type 0} (c : Bool) (z : Read ℕ) (inner : List ℕ → Read A) (rest : List ℕ) (k : Option A × List ℕ → Read B)
    → ((cond c (length_found z) (Ok (None, rest)) >>= λ n. present_at inner n.0 n.1) >>= k) ≡ cond c
    (z >>= λ n. (inner n.1 >>= some_then k)) (k (None, rest))
present_then true (Ok n) inner rest k = map_then (inner n.1) some_of k
present_then true (Err fault) inner rest k = refl
present_then false z inner rest k = refl

field_then : {A B : Type 0} (tag byte : ℕ) (more : List ℕ) (inner : List ℕ → Read A) (k : Option A × List ℕ → Read B)
    → (field_at tag inner (byte ∷ more) >>= k) ≡ cond (eqb byte tag) (length_at more >>= λ n. (inner n.1 >>= some_then k))
    (k (None, byte ∷ more))
unfolding field_at tag_or_absent_at
field_then tag byte more inner k = present_then (eqb byte tag) (length_at more) inner (byte ∷ more) k

looked_then : {A B : Type 0} (looked : Bool) (tag byte : ℕ) (more : List ℕ) (inner : List ℕ → Read A) (k : Option A × List ℕ → Read B)
    → (looked_at looked (field_at tag inner) (byte ∷ more) >>= k) ≡ cond (looked && eqb byte tag)
    (length_at more >>= λ n. (inner n.1 >>= some_then k)) (k (None, byte ∷ more))
looked_then true tag byte more inner k = field_then tag byte more inner k
looked_then false tag byte more inner k = refl

abbrev pub nego_found : TsRequest → Option (List ℕ) × List ℕ → Read TsRequest
nego_found r x = after_nego (record r { nego_tokens = x.0 }) x.1

abbrev pub auth_found : TsRequest → Option (List ℕ) × List ℕ → Read TsRequest
auth_found r x = after_auth (record r { auth_info = x.0 }) x.1

abbrev pub key_found : TsRequest → Option (List ℕ) × List ℕ → Read TsRequest
key_found r x = after_key (record r { pub_key_auth = x.0 }) x.1

abbrev pub code_found : TsRequest → Option NStatusCode × List ℕ → Read TsRequest
code_found r x = after_code (record r { error_code = x.0 }) x.1

abbrev pub nonce_found : TsRequest → Option (List ℕ) × List ℕ → Read TsRequest
nonce_found r x = Ok (record r { client_nonce = x.0 }, x.1)

nego_step : (r : TsRequest) (byte : ℕ) (more : List ℕ)
    → after_version r (byte ∷ more) ≡ cond (eqb byte 0xA1) (length_at more >>= λ n. behind (Optional Nego) r n.0 n.1)
    (after_nego (record r { nego_tokens = None }) (byte ∷ more))
unfolding after_version
nego_step r byte more = field_then 0xA1 byte more token_at (nego_found r)

auth_step : (r : TsRequest) (byte : ℕ) (more : List ℕ)
    → after_nego r (byte ∷ more) ≡ cond (eqb byte 0xA2) (length_at more >>= λ n. behind (Optional Auth) r n.0 n.1)
    (after_auth (record r { auth_info = None }) (byte ∷ more))
unfolding after_nego
auth_step r byte more = field_then 0xA2 byte more octets_at (auth_found r)

key_step : (r : TsRequest) (byte : ℕ) (more : List ℕ)
    → after_auth r (byte ∷ more) ≡ cond (eqb byte 0xA3) (length_at more >>= λ n. behind (Optional Key) r n.0 n.1)
    (after_key (record r { pub_key_auth = None }) (byte ∷ more))
unfolding after_auth
key_step r byte more = field_then 0xA3 byte more octets_at (key_found r)

under : {A B : Type 0} (z : Read A) (f g : A × List ℕ → Read B) → ((x : A × List ℕ) → f x ≡ g x) → (z >>= f) ≡ (z >>= g)
under (Ok x) f g e = e x
under (Err fault) f g e = refl

code_number : (r : TsRequest) (n : ℕ × List ℕ) → (code_at n.1 >>= some_then (code_found r)) ≡ behind (Optional Code) r n.0 n.1
unfolding code_at
code_number r n = map_then (low_at n.1) (λ low. (record { 0 = low.0 }, low.1)) (some_then (code_found r))

code_step : (r : TsRequest) (byte : ℕ) (more : List ℕ)
    → after_key r (byte ∷ more) ≡ cond (leb 3 r.version && eqb byte 0xA4) (length_at more >>= λ n. behind (Optional Code) r n.0 n.1)
    (after_code (record r { error_code = None }) (byte ∷ more))
unfolding after_key
code_step r byte more =
    looked_then (leb 3 r.version) 0xA4 byte more code_at (code_found r)
    ∙ ap (λ (z : Read TsRequest). cond (leb 3 r.version && eqb byte 0xA4) z (after_code (record r { error_code = None }) (byte ∷ more)))
    (under (length_at more) (λ n. (code_at n.1 >>= some_then (code_found r))) (λ n. behind (Optional Code) r n.0 n.1) (code_number r))

nonce_step : (r : TsRequest) (byte : ℕ) (more : List ℕ)
    → after_code r (byte ∷ more) ≡ cond (leb 5 r.version && eqb byte 0xA5) (length_at more >>= λ n. behind (Optional Nonce) r n.0 n.1)
    (Ok (record r { client_nonce = None }, byte ∷ more))
unfolding after_code
nonce_step r byte more = looked_then (leb 5 r.version) 0xA5 byte more nonce_at (nonce_found r)

pub nego_next : (r : TsRequest) (byte : ℕ) (more : List ℕ) → byte ≡ 0xA1 →
    after_version r (byte ∷ more) ≡ (length_at more >>= λ n. behind (Optional Nego) r n.0 n.1)
nego_next r byte more e = nego_step r byte more ∙ rw (eq-eqb byte 0xA1 e) refl

pub nego_absent : (r : TsRequest) (byte : ℕ) (more : List ℕ) → (byte ≡ 0xA1 → ⊥) →
    after_version r (byte ∷ more) ≡ after_nego (record r { nego_tokens = None }) (byte ∷ more)
nego_absent r byte more ne = nego_step r byte more ∙ rw (ne_eqb byte 0xA1 ne) refl

pub auth_next : (r : TsRequest) (byte : ℕ) (more : List ℕ) → byte ≡ 0xA2 →
    after_nego r (byte ∷ more) ≡ (length_at more >>= λ n. behind (Optional Auth) r n.0 n.1)
auth_next r byte more e = auth_step r byte more ∙ rw (eq-eqb byte 0xA2 e) refl

pub auth_absent : (r : TsRequest) (byte : ℕ) (more : List ℕ) → (byte ≡ 0xA2 → ⊥) →
    after_nego r (byte ∷ more) ≡ after_auth (record r { auth_info = None }) (byte ∷ more)
auth_absent r byte more ne = auth_step r byte more ∙ rw (ne_eqb byte 0xA2 ne) refl

pub key_next : (r : TsRequest) (byte : ℕ) (more : List ℕ) → byte ≡ 0xA3 →
    after_auth r (byte ∷ more) ≡ (length_at more >>= λ n. behind (Optional Key) r n.0 n.1)
key_next r byte more e = key_step r byte more ∙ rw (eq-eqb byte 0xA3 e) refl

pub key_absent : (r : TsRequest) (byte : ℕ) (more : List ℕ) → (byte ≡ 0xA3 → ⊥) →
    after_auth r (byte ∷ more) ≡ after_key (record r { pub_key_auth = None }) (byte ∷ more)
key_absent r byte more ne = key_step r byte more ∙ rw (ne_eqb byte 0xA3 ne) refl

pub code_next : (r : TsRequest) (byte : ℕ) (more : List ℕ) → (leb 3 r.version && eqb byte 0xA4) ≡ true
    → after_key r (byte ∷ more) ≡ (length_at more >>= λ n. behind (Optional Code) r n.0 n.1)
code_next r byte more e = code_step r byte more ∙ rw e refl

pub code_absent : (r : TsRequest) (byte : ℕ) (more : List ℕ) → (leb 3 r.version && eqb byte 0xA4) ≡ false
    → after_key r (byte ∷ more) ≡ after_code (record r { error_code = None }) (byte ∷ more)
code_absent r byte more e = code_step r byte more ∙ rw e refl

pub nonce_next : (r : TsRequest) (byte : ℕ) (more : List ℕ) → (leb 5 r.version && eqb byte 0xA5) ≡ true
    → after_code r (byte ∷ more) ≡ (length_at more >>= λ n. behind (Optional Nonce) r n.0 n.1)
nonce_next r byte more e = nonce_step r byte more ∙ rw e refl

pub nonce_absent : (r : TsRequest) (byte : ℕ) (more : List ℕ) → (leb 5 r.version && eqb byte 0xA5) ≡ false
    → after_code r (byte ∷ more) ≡ Ok (record r { client_nonce = None }, byte ∷ more)
nonce_absent r byte more e = nonce_step r byte more ∙ rw e refl
