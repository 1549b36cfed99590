-- What a TSRequest is: the values that it may have, and its bytes as a concatenation of its pieces
-- (MS-CSSP 2.2.1). Lengths of tags are judged by their form alone; only those of OCTET STRINGs and
-- INTEGERs are compared with what they announce.
use Rattle.std.specs.Prelude.{◌≡◌, ℕ, ◌<◌, ◌^◌, length, None, IfSome, ◌%◌, nat_le, Bool, true}
use Rattle.std.specs.Prelude.{false, List, [], ◌∷◌, ◌++◌, Option}
use Rattle.sspi_types.specs.declared.nstatus.NStatusCode.{NStatusCode}
use Rattle.sspi_ber.specs.Forms.{IsLength, IsElement, IsInteger, IsWrapped, IsField}
use Rattle.sspi_tsreq.specs.declared.request.TsRequest.{TsRequest}

-- a request with this version and nothing else
abbrev pub bare : ℕ → TsRequest
bare v = record {
  version = v;
  nego_tokens = None;
  auth_info = None;
  pub_key_auth = None;
  error_code = None;
  client_nonce = None;
}

-- the request that a client begins with
abbrev pub first_request : TsRequest
first_request = bare 6

-- the ranges of a request's numbers, and the length of its nonce
pub record IsRequestValue (r : TsRequest) : Type 0 where
  pub version : r.version < 2 ^ 32
  pub code : IfSome r.error_code (λ code. code.0 < 2 ^ 32)
  pub nonce : IfSome r.client_nonce (λ nonce. length nonce ≡ 32)

-- ---- its bytes

-- an INTEGER of which the low 32 bits count
pub record IsLow (text : List ℕ) (value : ℕ) : Type 0 where
  pub whole : ℕ
  pub integer : IsInteger text whole
  pub low : value ≡ whole % 2 ^ 32

abbrev pub IsOctets : List ℕ → List ℕ → Type 0
IsOctets text content = IsElement 0x04 text content

-- a SEQUENCE OF whose first item is a SEQUENCE with the token in [0]; further items are not read
abbrev pub IsToken : List ℕ → List ℕ → Type 0
IsToken = IsWrapped 0x30 (IsWrapped 0x30 (IsWrapped 0xA0 IsOctets))

abbrev pub IsCode : List ℕ → NStatusCode → Type 0
IsCode text code = IsLow text code.0

abbrev pub IsNonce : List ℕ → List ℕ → Type 0
IsNonce text nonce = IsElement 0x04 text nonce × (length nonce ≡ 32)

-- a field that is empty if the version does not look for it
abbrev pub IsLookedFor : {A : Type 0} → Bool → ℕ → (List ℕ → A → Type 0) → List ℕ → Option A →
    List ℕ → Type 0
IsLookedFor true tag Inner text x following = IsField tag Inner text x following
IsLookedFor false tag Inner text x following = (text ≡ []) × (x ≡ None)

-- the fields in their order, and a tail that is ignored
pub record IsBody (body : List ℕ) (r : TsRequest) : Type 0 where
  pub version : List ℕ
  pub nego : List ℕ
  pub auth : List ℕ
  pub key : List ℕ
  pub code : List ℕ
  pub nonce : List ℕ
  pub tail : List ℕ
  pub parts : body ≡ version ++ (nego ++ (auth ++ (key ++ (code ++ (nonce ++ tail)))))
  pub version_is : IsWrapped 0xA0 IsLow version r.version
  pub nego_is : IsField 0xA1 IsToken nego r.nego_tokens (auth ++ (key ++ (code ++ (nonce ++ tail))))
  pub auth_is : IsField 0xA2 IsOctets auth r.auth_info (key ++ (code ++ (nonce ++ tail)))
  pub key_is : IsField 0xA3 IsOctets key r.pub_key_auth (code ++ (nonce ++ tail))
  pub code_is : IsLookedFor (nat_le 3 r.version) 0xA4 IsCode code r.error_code (nonce ++ tail)
  pub nonce_is : IsLookedFor (nat_le 5 r.version) 0xA5 IsNonce nonce r.client_nonce tail

-- The bytes begin with the request r, which takes the first count of them.
pub record IsRequest (bytes : List ℕ) (r : TsRequest) (count : ℕ) : Type 0 where
  pub len : List ℕ
  pub body : List ℕ
  pub after : List ℕ
  pub parts : bytes ≡ (0x30 ∷ len) ++ (body ++ after)
  pub measured : IsLength len (length body)
  pub body_is : IsBody body r
  pub taken : count ≡ length ((0x30 ∷ len) ++ body)
