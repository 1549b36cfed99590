-- A TSRequest, field by field (MS-CSSP 2.2.1), with what its reader ignores.
use Rattle.std.specs.Prelude.{ℕ, Bool, true, false, nat_le, List, [], ◌++◌, length, Option, None}
use Rattle.std.specs.Prelude.{Some, codes, decimal}
use Rattle.sspi_ber.specs.Pieces.{Ended}
use Rattle.sspi_types.specs.declared.nstatus.NStatusCode.{NStatusCode}
use Rattle.sspi_tsreq.specs.declared.request.TsRequest.{TsRequest}
use Rattle.sspi_explain.specs.declared.depth.Depth.TheVariants.{Two}
use Rattle.sspi_explain.specs.declared.field.Field.{Field}
use Rattle.sspi_explain.specs.declared.field.Field.TheVariants.{Header, Version, NegoTokens}
use Rattle.sspi_explain.specs.declared.field.Field.TheVariants.{AuthInfo, PubKeyAuth, ErrorCode}
use Rattle.sspi_explain.specs.declared.field.Field.TheVariants.{ClientNonce}
use Rattle.sspi_explain.specs.declared.field.Form.TheVariants as form
use Rattle.sspi_explain.specs.declared.token.Kind.{Kind}
use Rattle.sspi_explain.specs.Codes.{code_text}
use Rattle.sspi_explain.specs.Page.{Sheet, with_field, with_content, with_text}
use Rattle.sspi_explain.specs.Pieces.{header_told, bytes_told, element_told, there_told, low_told}
use Rattle.sspi_explain.specs.Pieces.{nonce_told, if_there}
use Rattle.sspi_explain.specs.Texts.{count_text}
use Rattle.sspi_explain.specs.Token.{kind_of, kind_name, token_told, with_rest}
use Rattle.sspi_explain.specs.Told.{Spot, spot, offset, At, Told, Goes, Ends, ◌>>=◌}

unfoldable pub version_told : Sheet → Spot → Told ℕ
version_told page place = do
  n ← header_told 0xA0 Version page place
  low ← low_told Version n.page n.place
  Goes (record {
    page = with_field (offset place) Version (decimal low.value) low.page;
    value =
        low.value;
    place = low.place;
  })

-- ---- a token inside a request

-- a page of its own for the fields of a token
abbrev pub nested_page : Sheet
nested_page = record { form = form.Token; depth = Two; text = [] }

abbrev pub fields_of : {A : Type 0} → Told A → Option (List ℕ)
fields_of (Goes at) = Some at.page.text
fields_of (Ends page fault) = None

-- the fields of the token of this kind with which a content begins, if it does
unfoldable pub nested_fields : Kind → List ℕ → ℕ → Option (List ℕ)
nested_fields kind content end = fields_of (token_told kind nested_page (spot content end))

unfoldable pub nested_text : Kind → List ℕ → List ℕ
nested_text kind content = count_text (length content) ++ codes " " ++ kind_name kind

abbrev pub with_fields : Kind → List ℕ → ℕ → List ℕ → Sheet → Sheet
with_fields kind fields at content page =
    with_text fields (with_field at NegoTokens (nested_text kind content) page)

abbrev pub with_nested : Option (List ℕ) → Kind → ℕ → List ℕ → Sheet → Sheet
with_nested None kind at content page = with_content at NegoTokens content page
with_nested (Some fields) kind at content page = with_fields kind fields at content page

abbrev pub with_token_as : Option Kind → ℕ → List ℕ → ℕ → Sheet → Sheet
with_token_as None at content end page = with_content at NegoTokens content page
with_token_as (Some kind) at content end page = with_nested (nested_fields kind content end) kind
    at content page

-- a content, or the fields of the SPNEGO token with which it begins
unfoldable pub with_token : ℕ → List ℕ → ℕ → Sheet → Sheet
with_token at content end page = with_token_as (kind_of content) at content end page

-- the first item of the list of tokens
abbrev pub token_inside : ℕ → Sheet → Spot → Told (List ℕ)
token_inside at page place = do
  list ← header_told 0x30 NegoTokens page place
  item ← header_told 0x30 NegoTokens list.page list.place
  token ← header_told 0xA0 NegoTokens item.page item.place
  content ← element_told 0x04 NegoTokens token.page token.place
  Goes (record {
    page = with_token at content.value (offset content.place) content.page;
    value = content.value;
    place = content.place;
  })

unfoldable pub nego_tokens_told : Sheet → Spot → Told (Option (List ℕ))
nego_tokens_told page place = do
  there ← there_told 0xA1 NegoTokens page place
  if_there there (token_inside (offset place))

-- ---- the other fields

abbrev pub octets_inside : ℕ → Field → Sheet → Spot → Told (List ℕ)
octets_inside at field page place = do
  content ← element_told 0x04 field page place
  Goes (record {
    page = with_content at field content.value content.page;
    value = content.value;
    place = content.place;
  })

unfoldable pub octets_told : ℕ → Field → Sheet → Spot → Told (Option (List ℕ))
octets_told tag field page place = do
  there ← there_told tag field page place
  if_there there (octets_inside (offset place) field)

abbrev pub code_inside : ℕ → Sheet → Spot → Told NStatusCode
code_inside at page place = do
  code ← low_told ErrorCode page place
  Goes (record {
    page = with_field at ErrorCode (code_text code.value) code.page;
    value =
        record { 0 = code.value };
    place = code.place;
  })

abbrev pub code_field : Sheet → Spot → Told (Option NStatusCode)
code_field page place = do
  there ← there_told 0xA4 ErrorCode page place
  if_there there (code_inside (offset place))

abbrev pub nonce_inside : ℕ → Sheet → Spot → Told (List ℕ)
nonce_inside at page place = do
  nonce ← nonce_told ClientNonce page place
  Goes (record {
    page = with_content at ClientNonce nonce.value nonce.page;
    value = nonce.value;
    place = nonce.place;
  })

abbrev pub nonce_field : Sheet → Spot → Told (Option (List ℕ))
nonce_field page place = do
  there ← there_told 0xA5 ClientNonce page place
  if_there there (nonce_inside (offset place))

-- a field that only some versions look for
abbrev pub looked_told : {A : Type 0} → Bool → (Sheet → Spot → Told (Option A)) → Sheet → Spot →
    Told (Option A)
looked_told true field page place = field page place
looked_told false field page place = Goes (record { page = page; value = None; place = place })

unfoldable pub error_code_told : ℕ → Sheet → Spot → Told (Option NStatusCode)
error_code_told version = looked_told (nat_le 3 version) code_field

unfoldable pub client_nonce_told : ℕ → Sheet → Spot → Told (Option (List ℕ))
client_nonce_told version = looked_told (nat_le 5 version) nonce_field

-- ---- the request

unfoldable pub body_told : Sheet → Spot → Told TsRequest
body_told page place = do
  version ← version_told page place
  nego ← nego_tokens_told version.page version.place
  auth ← octets_told 0xA2 AuthInfo nego.page nego.place
  key ← octets_told 0xA3 PubKeyAuth auth.page auth.place
  code ← error_code_told version.value key.page key.place
  nonce ← client_nonce_told version.value code.page code.place
  Goes (record {
    page = nonce.page;
    value = record {
      version = version.value;
      nego_tokens = nego.value;
      auth_info = auth.value;
      pub_key_auth = key.value;
      error_code = code.value;
      client_nonce = nonce.value;
    };
    place = nonce.place;
  })

-- any fault of the header counts as an early end
abbrev pub as_ended : {A : Type 0} → Told A → Told A
as_ended (Goes at) = Goes at
as_ended (Ends page fault) = Ends page Ended

unfoldable pub request_told : Sheet → Spot → Told TsRequest
request_told page place = do
  n ← as_ended (header_told 0x30 Header page place)
  content ← bytes_told n.value Header n.page n.place
  body ← body_told content.page (spot content.value (offset content.place))
  Goes (record {
    page = with_rest content.place (with_rest body.place body.page);
    value = body.value;
    place = content.place;
  })
