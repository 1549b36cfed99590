-- A TSRequest read from left to right, with the first fault (MS-CSSP 2.2.1). What follows a field
-- is a definition of its own, over the fields read so far.
use Rattle.std.specs.Prelude.{ℕ, ◌%◌, ◌^◌, nat_le, ◌==◌, Bool, List, Option, None, Ok, Err}
use Rattle.std.specs.Prelude.{if◌then◌else◌}
use Rattle.sspi_types.specs.declared.nstatus.NStatusCode.{NStatusCode}
use Rattle.sspi_ber.specs.Pieces.{Fault, Invalid, Read, ◌>>=◌, as_ended, fault_of, bytes_at}
use Rattle.sspi_ber.specs.Pieces.{header_at, element_at, integer_at, field_at}
use Rattle.sspi_ber.specs.Pieces.{tagged_at}
use Rattle.sspi_tsreq.specs.declared.request.TsRequest.{TsRequest}
use Rattle.sspi_tsreq.specs.Grammar.{bare}

-- the low 32 bits of an INTEGER
unfoldable pub low_at : List ℕ → Read ℕ
low_at bytes = do
  w ← integer_at bytes
  Ok (w.0 % 2 ^ 32, w.1)

abbrev pub version_at : List ℕ → Read ℕ
version_at = tagged_at 0xA0 low_at

abbrev pub octets_at : List ℕ → Read (List ℕ)
octets_at = element_at 0x04

-- the first item of negoTokens
abbrev pub token_at : List ℕ → Read (List ℕ)
token_at = tagged_at 0x30 (tagged_at 0x30 (tagged_at 0xA0 octets_at))

unfoldable pub code_at : List ℕ → Read NStatusCode
code_at bytes = do
  low ← low_at bytes
  Ok (record { 0 = low.0 }, low.1)

-- its length is judged before its bytes
unfoldable pub nonce_at : List ℕ → Read (List ℕ)
nonce_at bytes = do
  n ← header_at 0x04 bytes
  if n.0 == 32 then bytes_at n.0 n.1 else Err Invalid

-- a field that only some versions look for
abbrev pub looked_at : {A : Type 0} → Bool → (List ℕ → Read (Option A)) → List ℕ → Read (Option A)
looked_at looked field bytes = if looked then field bytes else Ok (None, bytes)

-- clientNonce is looked for from version 5 on
unfoldable pub after_code : TsRequest → List ℕ → Read TsRequest
after_code r bytes = do
  nonce ← looked_at (nat_le 5 r.version) (field_at 0xA5 nonce_at) bytes
  Ok (record r { client_nonce = nonce.0 }, nonce.1)

-- errorCode is looked for from version 3 on
unfoldable pub after_key : TsRequest → List ℕ → Read TsRequest
after_key r bytes = do
  code ← looked_at (nat_le 3 r.version) (field_at 0xA4 code_at) bytes
  after_code (record r { error_code = code.0 }) code.1

unfoldable pub after_auth : TsRequest → List ℕ → Read TsRequest
after_auth r bytes = do
  key ← field_at 0xA3 octets_at bytes
  after_key (record r { pub_key_auth = key.0 }) key.1

unfoldable pub after_nego : TsRequest → List ℕ → Read TsRequest
after_nego r bytes = do
  auth ← field_at 0xA2 octets_at bytes
  after_auth (record r { auth_info = auth.0 }) auth.1

unfoldable pub after_version : TsRequest → List ℕ → Read TsRequest
after_version r bytes = do
  nego ← field_at 0xA1 token_at bytes
  after_nego (record r { nego_tokens = nego.0 }) nego.1

-- what is inside the SEQUENCE; bytes after the last field are left
unfoldable pub body_at : List ℕ → Read TsRequest
body_at bytes = do
  version ← version_at bytes
  after_version (bare version.0) version.1

-- Each fault of the outer header counts as the end. Nothing is read past the length that it
-- announces.
unfoldable pub request_at : List ℕ → Read TsRequest
request_at bytes = do
  n ← as_ended (header_at 0x30 bytes)
  body ← bytes_at n.0 n.1
  request ← body_at body.0
  Ok (request.0, body.1)

-- the first fault of bytes that begin with no request
abbrev pub fault : List ℕ → Option Fault
fault bytes = fault_of (request_at bytes)

-- the first fault of the fields alone
abbrev pub body_fault : List ℕ → Option Fault
body_fault body = fault_of (body_at body)
