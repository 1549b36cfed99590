-- What an end reads from a delivered request, and the request that reports a server's refusal to
-- its client.
use Rattle.std.specs.Prelude.{ℕ, ◌≤◌, ◌==◌, List, [], ◌∷◌, length, Option, None, Some, Bool, false}
use Rattle.std.specs.Prelude.{not, bit_and, bit_or, if◌then◌else◌}
use Rattle.sspi_types.specs.declared.error_kind.ErrorKind.{ErrorKind}
use Rattle.sspi_types.specs.declared.nstatus.NStatusCode.{NStatusCode}
use Rattle.sspi_types.specs.Errors.{error_kind_number}
use Rattle.sspi_tsreq.specs.declared.request.TsRequest.{TsRequest}
use Rattle.sspi_credssp.specs.declared.state.CredSspState.{CredSspState}
use Rattle.sspi_credssp.specs.declared.state.CredSspState.TheVariants.{NegoToken, PubKeyInfo}
use Rattle.sspi_credssp.specs.declared.state.CredSspState.TheVariants.{AuthInfo, Final}

-- the token that is passed to the context
abbrev pub token_of : Option (List ℕ) → List ℕ
token_of None = []
token_of (Some token) = token

-- an empty token is left out
abbrev pub unless_empty : List ℕ → Option (List ℕ)
unless_empty [] = None
unless_empty (b ∷ token) = Some (b ∷ token)

-- the peer reports an error: a code other than SUCCESS
abbrev pub is_code : Option NStatusCode → Bool
is_code None = false
is_code (Some code) = not (code.0 == 0)

-- there is a blob that can hold a seal
abbrev pub IsLong : Option (List ℕ) → Type 0
IsLong None = ⊥
IsLong (Some blob) = 16 ≤ length blob

-- the nonce that the proofs are made with
abbrev pub nonce_of : Option (List ℕ) → List ℕ
nonce_of None = []
nonce_of (Some nonce) = nonce

-- ---- the request that reports a refusal

-- without the fields that the state consumes
abbrev pub stripped : CredSspState → TsRequest → TsRequest
stripped NegoToken d = record d { nego_tokens = None }
stripped PubKeyInfo d = record d { nego_tokens = None; pub_key_auth = None }
stripped AuthInfo d = record d { auth_info = None }
stripped Final d = d

-- the delivered version until the version check passes, and the server's own after it; if none is
-- pinned, the delivered one was too old
abbrev pub version_back : {C : Type 0} → Option C → Option ℕ → ℕ → ℕ → ℕ
version_back None noted delivered own = delivered
version_back (Some m) None delivered own = delivered
version_back (Some m) (Some noted) delivered own = if noted == delivered then own else delivered

-- the low 16 bits of the kind's number, with the severity of an error and the facility of Win32
-- codes
abbrev pub error_code_of : ErrorKind → NStatusCode
error_code_of kind = record {
  0 = bit_or (bit_or (bit_and (error_kind_number kind) 0xFFFF)
      0x00070000) 0xC0000000;
}

abbrev pub error_request : CredSspState → ℕ → ErrorKind → TsRequest → TsRequest
error_request state version kind d = record (stripped state d) {
  version = version;
  error_code = Some (error_code_of kind);
}
