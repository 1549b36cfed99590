-- A content that ends here.
use Rattle.std.proofs.Common.{◌≡◌, ℕ, ◌+◌, ◌-◌, ◌<◌, Bool, true, false, leb, List, [], None, Ok, Err, refl, ap, ◌∙◌, arith}
use Rattle.sspi_ber.specs.Pieces.{Ended, Read, ◌>>=◌, bytes_at, length_at, header_at, integer_at, element_at, tag_or_absent_at, field_at}
use Rattle.sspi_ber.specs.Pieces.{tagged_at}
use Rattle.sspi_tsreq.specs.declared.request.TsRequest.{TsRequest}
use Rattle.sspi_tsreq.specs.declared.place.LengthPart.{LengthPart}
use Rattle.sspi_tsreq.specs.declared.place.LengthPart.TheVariants.{First, Three, Two, One}
use Rattle.sspi_tsreq.specs.declared.place.Text.{Text}
use Rattle.sspi_tsreq.specs.declared.place.Text.TheVariants.{NegoTokens, AuthInfo, PubKeyAuth}
use Rattle.sspi_tsreq.specs.declared.place.Element.{Element}
use Rattle.sspi_tsreq.specs.declared.place.Inner.{Inner}
use Rattle.sspi_tsreq.specs.declared.place.Inner.TheVariants.{Version, VersionNumber, TokenList, TokenItem, Token, Octets, CodeNumber}
use Rattle.sspi_tsreq.specs.declared.place.Inner.TheVariants.{NonceOctets}
use Rattle.sspi_tsreq.specs.Reading.{low_at, nonce_at, token_at, code_at, looked_at, after_code, after_key, after_auth, after_nego}
use Rattle.sspi_tsreq.specs.Reading.{after_version, body_at}
use Rattle.sspi_tsreq.specs.Places.{answered, limited_from, low_from, length_rest, length_from, version_from, code_from, text_from}
use Rattle.sspi_tsreq.specs.Places.{nonce_from}
use Rattle.sspi_tsreq.specs.Walks.{from_inner}
use Rattle.sspi_tsreq.proofs.Numbers.{bytes_short}
use Rattle.sspi_tsreq.proofs.Steps.{nego_found, auth_found, key_found, code_found, nonce_found}
use Rattle.sspi_tsreq.proofs.Walks.{nonce_ready}

-- ---- what is required is missing

octets_end : (n : ℕ) → bytes_at (n + 1) [] ≡ Err Ended
octets_end n = bytes_short (n + 1) [] (omega arith)

limited_end : (value n : ℕ) → limited_from value (n + 1) [] ≡ Err Ended
unfolding limited_from
limited_end value n = rw (octets_end n) refl

low_end : (value n : ℕ) → low_from value (n + 1) [] ≡ Err Ended
unfolding low_from
low_end value n = rw (octets_end n) refl

length_end : length_at [] ≡ Err Ended
unfolding length_at
length_end = refl

pub part_end : (part : LengthPart) → length_rest part [] ≡ Err Ended
part_end First = length_end
part_end Three = limited_end 0 2
part_end (Two value) = limited_end value 1
part_end (One value) = limited_end value 0

tag_end : (tag : ℕ) → header_at tag [] ≡ Err Ended
unfolding header_at
tag_end tag = refl

tagged_end : {A : Type 0} (tag : ℕ) (inner : List ℕ → Read A) → tagged_at tag inner [] ≡ Err Ended
unfolding tagged_at
tagged_end tag inner = rw (tag_end tag) refl

element_end : (tag : ℕ) → element_at tag [] ≡ Err Ended
unfolding element_at
element_end tag = rw (tag_end tag) refl

integer_end : low_at [] ≡ Err Ended
unfolding low_at integer_at
integer_end = rw (tag_end 0x02) refl

nonce_header_end : nonce_at [] ≡ Err Ended
unfolding nonce_at
nonce_header_end = rw (tag_end 0x04) refl

body_end : body_at [] ≡ Err Ended
unfolding body_at
body_end = rw (tagged_end 0xA0 low_at) refl

pub inner_end : (inner : Inner) (r : TsRequest) → from_inner inner r [] ≡ Err Ended
inner_end Version r = body_end
inner_end VersionNumber r = rw integer_end refl
inner_end TokenList r = rw (tagged_end 0x30 (tagged_at 0x30 (tagged_at 0xA0 (element_at 0x04)))) refl
inner_end TokenItem r = rw (tagged_end 0x30 (tagged_at 0xA0 (element_at 0x04))) refl
inner_end Token r = rw (tagged_end 0xA0 (element_at 0x04)) refl
inner_end (Octets NegoTokens) r = rw (element_end 0x04) refl
inner_end (Octets AuthInfo) r = rw (element_end 0x04) refl
inner_end (Octets PubKeyAuth) r = rw (element_end 0x04) refl
inner_end CodeNumber r = rw integer_end refl
inner_end NonceOctets r = rw nonce_header_end refl

pub length_from_end : (element : Element) (part : LengthPart) (r : TsRequest) → length_from element part r [] ≡ Err Ended
length_from_end element part r = rw (part_end part) refl

pub version_from_end : (more value : ℕ) → version_from more value [] ≡ Err Ended
version_from_end more value = rw (low_end value more) refl

pub code_from_end : (more value : ℕ) (r : TsRequest) → code_from more value r [] ≡ Err Ended
code_from_end more value r = rw (low_end value more) refl

pub text_from_end : (text : Text) (more : ℕ) (r : TsRequest) → text_from text more r [] ≡ Err Ended
text_from_end text more r = rw (octets_end more) refl

pub nonce_from_end : (nonce : List ℕ) (have : ℕ) (r : TsRequest) → have < 32 → nonce_from nonce have r [] ≡ Err Ended
nonce_from_end nonce have r lt = rw (nonce_ready nonce have [] lt, bytes_short (32 - have) [] (omega (arith, lt))) refl

-- ---- what may be absent is absent

field_end : {A : Type 0} (tag : ℕ) (inner : List ℕ → Read A) → field_at tag inner [] ≡ Ok (None, [])
unfolding field_at tag_or_absent_at
field_end tag inner = refl

looked_end : {A : Type 0} (looked : Bool) (tag : ℕ) (inner : List ℕ → Read A) → looked_at looked (field_at tag inner) [] ≡ Ok (None, [])
looked_end true tag inner = field_end tag inner
looked_end false tag inner = refl

nonce_none : (r : TsRequest) → after_code r [] ≡ Ok (record r { client_nonce = None }, [])
unfolding after_code
nonce_none r = ap (λ z. z >>= nonce_found r) (looked_end (leb 5 r.version) 0xA5 nonce_at)

code_none : (r : TsRequest) → after_key r [] ≡ after_code (record r { error_code = None }) []
unfolding after_key
code_none r = ap (λ z. z >>= code_found r) (looked_end (leb 3 r.version) 0xA4 code_at)

key_none : (r : TsRequest) → after_auth r [] ≡ after_key (record r { pub_key_auth = None }) []
unfolding after_auth
key_none r = ap (λ z. z >>= key_found r) (field_end 0xA3 (element_at 0x04))

auth_none : (r : TsRequest) → after_nego r [] ≡ after_auth (record r { auth_info = None }) []
unfolding after_nego
auth_none r = ap (λ z. z >>= auth_found r) (field_end 0xA2 (element_at 0x04))

nego_none : (r : TsRequest) → after_version r [] ≡ after_nego (record r { nego_tokens = None }) []
unfolding after_version
nego_none r = ap (λ z. z >>= nego_found r) (field_end 0xA1 token_at)

pub no_nonce : (r : TsRequest) → answered (after_code r []) ≡ Ok (record r { client_nonce = None })
no_nonce r = ap answered (nonce_none r)

pub no_code : (r : TsRequest) → answered (after_key r []) ≡ Ok (record r { error_code = None; client_nonce = None })
no_code r = ap answered (code_none r) ∙ no_nonce (record r { error_code = None })

pub no_key : (r : TsRequest) → answered (after_auth r []) ≡ Ok (record r { pub_key_auth = None; error_code = None; client_nonce = None })
no_key r = ap answered (key_none r) ∙ no_code (record r { pub_key_auth = None })

pub no_auth : (r : TsRequest) → answered (after_nego r []) ≡ Ok
    (record r { auth_info = None; pub_key_auth = None; error_code = None; client_nonce = None })
no_auth r = ap answered (auth_none r) ∙ no_key (record r { auth_info = None })

pub no_nego : (r : TsRequest) → answered (after_version r []) ≡ Ok
    (record r { nego_tokens = None; auth_info = None; pub_key_auth = None; error_code = None; client_nonce = None })
no_nego r = ap answered (nego_none r) ∙ no_auth (record r { nego_tokens = None })
