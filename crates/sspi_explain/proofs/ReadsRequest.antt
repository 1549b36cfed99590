-- A request is explained exactly as it is read.
use Rattle.std.proofs.Common.{◌≡◌, ℕ, nat_le, List, length, Option, None, Some, Ok, Err, refl, ap}
use Rattle.std.proofs.Common.{◌∙◌}
use Rattle.sspi_ber.specs.Pieces as pieces
use Rattle.sspi_ber.specs.Pieces.{Read, header_at, bytes_at, element_at, field_at, tagged_at}
use Rattle.sspi_types.specs.declared.nstatus.NStatusCode.{NStatusCode}
use Rattle.sspi_tsreq.specs.declared.request.TsRequest.{TsRequest}
use Rattle.sspi_tsreq.specs.Grammar.{bare}
use Rattle.sspi_tsreq.specs.Reading.{low_at, version_at, octets_at, token_at, code_at, nonce_at}
use Rattle.sspi_tsreq.specs.Reading.{looked_at, after_code, after_key, after_auth, after_nego}
use Rattle.sspi_tsreq.specs.Reading.{after_version, body_at, request_at}
use Rattle.sspi_explain.specs.declared.field.Field.{Field}
use Rattle.sspi_explain.specs.declared.field.Field.TheVariants.{Header, Version, NegoTokens}
use Rattle.sspi_explain.specs.declared.field.Field.TheVariants.{AuthInfo, PubKeyAuth, ErrorCode}
use Rattle.sspi_explain.specs.declared.field.Field.TheVariants.{ClientNonce}
use Rattle.sspi_explain.specs.Page.{Sheet, with_field, with_content}
use Rattle.sspi_explain.specs.Pieces.{header_told, bytes_told, element_told, low_told, nonce_told}
use Rattle.sspi_explain.specs.Request.{version_told, nego_tokens_told, token_inside, octets_told}
use Rattle.sspi_explain.specs.Request.{octets_inside, code_inside, code_field, nonce_inside}
use Rattle.sspi_explain.specs.Request.{nonce_field, error_code_told, client_nonce_told, body_told}
use Rattle.sspi_explain.specs.Request.{as_ended, request_told}
use Rattle.sspi_explain.specs.Told.{Spot, spot, offset, At, Told, Goes, Ends, read_of, ◌>>=◌}
use Rattle.sspi_explain.proofs.ReadThen.{read_then}
use Rattle.sspi_explain.proofs.ReadsPieces.{bind_read, header_read, bytes_read, element_read}
use Rattle.sspi_explain.proofs.ReadsFields.{kept_read, ended_read, low_read, nonce_read}
use Rattle.sspi_explain.proofs.ReadsFields.{tagged_read, field_read, looked_read}

version_read : (page : Sheet) (place : Spot) →
    read_of (version_told page place) ≡ version_at place.rest
unfolding version_told
version_read page place =
    tagged_read 0xA0 Version _ low_at
    (λ at. kept_read (low_told Version at.page at.place) _ ∙
    low_read Version at.page at.place) page place

inside_read : (at : ℕ) (page : Sheet) (place : Spot) →
    read_of (token_inside at page place) ≡ token_at place.rest
inside_read at page place =
    tagged_read 0x30 NegoTokens _ (tagged_at 0x30 (tagged_at 0xA0 octets_at))
    (λ list. tagged_read 0x30 NegoTokens _ (tagged_at 0xA0 octets_at)
    (λ item. tagged_read 0xA0 NegoTokens _ octets_at
    (λ token. kept_read (element_told 0x04 NegoTokens token.page token.place) _ ∙
    element_read 0x04 NegoTokens token.page token.place)
    item.page item.place) list.page list.place) page place

nego_read : (page : Sheet) (place : Spot) →
    read_of (nego_tokens_told page place) ≡ field_at 0xA1 token_at place.rest
unfolding nego_tokens_told
nego_read page place =
    field_read 0xA1 NegoTokens (token_inside (offset place)) token_at
    (inside_read (offset place)) page place

octets_read : (tag : ℕ) (field : Field) (page : Sheet) (place : Spot) →
    read_of (octets_told tag field page place) ≡ field_at tag octets_at place.rest
unfolding octets_told
octets_read tag field page place =
    field_read tag field (octets_inside (offset place) field) octets_at
    (λ p q. kept_read (element_told 0x04 field p q) _ ∙ element_read 0x04 field p q) page place

code_inside_read : (at : ℕ) (page : Sheet) (place : Spot) →
    read_of (code_inside at page place) ≡ code_at place.rest
unfolding code_at
code_inside_read at page place =
    bind_read (low_told ErrorCode page place) _ (λ low. Ok (record { 0 = low.0 }, low.1))
    (λ x. refl)
    ∙ ap (λ (r : Read ℕ). read_then r (λ low. Ok (record { 0 = low.0 }, low.1)))
    (low_read ErrorCode page place)

code_read : (version : ℕ) (page : Sheet) (place : Spot)
    → read_of (error_code_told version page place) ≡ looked_at (nat_le 3 version)
    (field_at 0xA4 code_at) place.rest
unfolding error_code_told
code_read version page place =
    looked_read (nat_le 3 version) code_field (field_at 0xA4 code_at)
    (λ p q. field_read 0xA4 ErrorCode (code_inside (offset q)) code_at
    (code_inside_read (offset q)) p q) page place

nonce_field_read : (version : ℕ) (page : Sheet) (place : Spot)
    → read_of (client_nonce_told version page place) ≡ looked_at (nat_le 5 version)
    (field_at 0xA5 nonce_at) place.rest
unfolding client_nonce_told
nonce_field_read version page place =
    looked_read (nat_le 5 version) nonce_field (field_at 0xA5 nonce_at)
    (λ p q. field_read 0xA5 ClientNonce (nonce_inside (offset q)) nonce_at
    (λ u v. kept_read (nonce_told ClientNonce u v) _ ∙ nonce_read ClientNonce u v) p q) page place

-- ---- what follows each field

abbrev nonce_tail : TsRequest → At (Option (List ℕ)) → Told TsRequest
nonce_tail r nonce =
    Goes (record {
      page = nonce.page;
      value = record r { client_nonce = nonce.value };
      place =
          nonce.place;
    })

abbrev code_tail : TsRequest → At (Option NStatusCode) → Told TsRequest
code_tail r code = client_nonce_told r.version code.page code.place >>= nonce_tail
    (record r { error_code = code.value })

abbrev key_tail : TsRequest → At (Option (List ℕ)) → Told TsRequest
key_tail r key = error_code_told r.version key.page key.place >>= code_tail
    (record r { pub_key_auth = key.value })

abbrev auth_tail : TsRequest → At (Option (List ℕ)) → Told TsRequest
auth_tail r auth = octets_told 0xA3 PubKeyAuth auth.page auth.place >>= key_tail
    (record r { auth_info = auth.value })

abbrev nego_tail : TsRequest → At (Option (List ℕ)) → Told TsRequest
nego_tail r nego = octets_told 0xA2 AuthInfo nego.page nego.place >>= auth_tail
    (record r { nego_tokens = nego.value })

abbrev version_tail : At ℕ → Told TsRequest
version_tail version =
    nego_tokens_told version.page version.place >>= nego_tail (bare version.value)

code_tail_read : (r : TsRequest) (code : At (Option NStatusCode)) →
    read_of (code_tail r code) ≡ after_code (record r { error_code = code.value }) code.place.rest
unfolding after_code
code_tail_read r code =
    let next : Option (List ℕ) × List ℕ → Read TsRequest =
    λ nonce. Ok (record r { error_code = code.value; client_nonce = nonce.0 }, nonce.1) in
    bind_read (client_nonce_told r.version code.page code.place)
    (nonce_tail (record r { error_code = code.value })) next (λ x. refl)
    ∙ ap (λ (q : Read (Option (List ℕ))). read_then q next)
    (nonce_field_read r.version code.page code.place)

key_tail_read : (r : TsRequest) (key : At (Option (List ℕ))) →
    read_of (key_tail r key) ≡ after_key (record r { pub_key_auth = key.value }) key.place.rest
unfolding after_key
key_tail_read r key =
    let next : Option NStatusCode × List ℕ → Read TsRequest =
    λ code. after_code (record r { pub_key_auth = key.value; error_code = code.0 }) code.1 in
    bind_read (error_code_told r.version key.page key.place)
    (code_tail (record r { pub_key_auth = key.value })) next
    (λ code. code_tail_read (record r { pub_key_auth = key.value }) code)
    ∙ ap (λ (q : Read (Option NStatusCode)). read_then q next)
    (code_read r.version key.page key.place)

auth_tail_read : (r : TsRequest) (auth : At (Option (List ℕ))) →
    read_of (auth_tail r auth) ≡ after_auth (record r { auth_info = auth.value }) auth.place.rest
unfolding after_auth
auth_tail_read r auth =
    let next : Option (List ℕ) × List ℕ → Read TsRequest =
    λ key. after_key (record r { auth_info = auth.value; pub_key_auth = key.0 }) key.1 in
    bind_read (octets_told 0xA3 PubKeyAuth auth.page auth.place)
    (key_tail (record r { auth_info = auth.value })) next
    (λ key. key_tail_read (record r { auth_info = auth.value }) key)
    ∙ ap (λ (q : Read (Option (List ℕ))). read_then q next)
    (octets_read 0xA3 PubKeyAuth auth.page auth.place)

nego_tail_read : (r : TsRequest) (nego : At (Option (List ℕ))) →
    read_of (nego_tail r nego) ≡ after_nego (record r { nego_tokens = nego.value }) nego.place.rest
unfolding after_nego
nego_tail_read r nego =
    let next : Option (List ℕ) × List ℕ → Read TsRequest =
    λ auth. after_auth (record r { nego_tokens = nego.value; auth_info = auth.0 }) auth.1 in
    bind_read (octets_told 0xA2 AuthInfo nego.page nego.place)
    (auth_tail (record r { nego_tokens = nego.value })) next
    (λ auth. auth_tail_read (record r { nego_tokens = nego.value }) auth)
    ∙ ap (λ (q : Read (Option (List ℕ))). read_then q next)
    (octets_read 0xA2 AuthInfo nego.page nego.place)

version_tail_read : (version : At ℕ) →
    read_of (version_tail version) ≡ after_version (bare version.value) version.place.rest
unfolding after_version
version_tail_read version =
    let next : Option (List ℕ) × List ℕ → Read TsRequest =
    λ nego. after_nego (record (bare version.value) { nego_tokens = nego.0 }) nego.1 in
    bind_read (nego_tokens_told version.page version.place) (nego_tail (bare version.value)) next
    (λ nego. nego_tail_read (bare version.value) nego)
    ∙ ap (λ (q : Read (Option (List ℕ))). read_then q next) (nego_read version.page version.place)

body_read : (page : Sheet) (place : Spot) → read_of (body_told page place) ≡ body_at place.rest
unfolding body_told body_at
body_read page place =
    let next : ℕ × List ℕ → Read TsRequest = λ version. after_version (bare version.0) version.1 in
    bind_read (version_told page place) version_tail next version_tail_read
    ∙ ap (λ (q : Read ℕ). read_then q next) (version_read page place)

abbrev content_next : List ℕ × List ℕ → Read TsRequest
content_next body = read_then (body_at body.0) (λ request. Ok (request.0, body.1))

pub request_read : (page : Sheet) (place : Spot) →
    read_of (request_told page place) ≡ request_at place.rest
unfolding request_told request_at
request_read page place =
    bind_read (as_ended (header_told 0x30 Header page place)) _
    (λ n. read_then (bytes_at n.0 n.1) content_next) (λ n.
    bind_read (bytes_told n.value Header n.page n.place) _ content_next (λ content.
    bind_read (body_told content.page (spot content.value (offset content.place))) _
    (λ request. Ok (request.0, content.place.rest)) (λ x. refl)
    ∙ ap (λ (q : Read TsRequest). read_then q (λ request. Ok (request.0, content.place.rest)))
    (body_read content.page (spot content.value (offset content.place))))
    ∙ ap (λ (q : Read (List ℕ)). read_then q content_next)
    (bytes_read n.value Header n.page n.place))
    ∙ ap (λ (q : Read ℕ). read_then q (λ n. read_then (bytes_at n.0 n.1) content_next))
    (ended_read (header_told 0x30 Header page place) ∙
    ap (λ (r : Read ℕ). pieces.as_ended r) (header_read 0x30 Header page place))
