-- What the calls on a request answer.
use Rattle.std.specs.Prelude.{◌≡◌, ℕ, ◌==◌, List, length, Bool, true, false, Option, None, Some}
use Rattle.std.specs.Prelude.{Result, Ok, Err, if◌then◌else◌}
use Rattle.sspi_types.specs.declared.nstatus.NStatusCode.{NStatusCode}
use Rattle.sspi_ber.specs.declared.wire_kind.WireKind.{WireKind}
use Rattle.sspi_ber.specs.Pieces.{Read}
use Rattle.sspi_tsreq.specs.Spelling.{fits, spelled}
use Rattle.sspi_tsreq.specs.declared.request.TsRequest.{TsRequest}
use Rattle.newaksu_c.specs.declared.object.Object.{Object}
use Rattle.newaksu_c.specs.declared.object.Object.TheVariants.{Request}
use Rattle.newaksu_c.specs.Giving.{Answers}
use Rattle.newaksu_c.specs.Status.{ok, absent, invalid_handle, invalid_parameter}
use Rattle.newaksu_c.specs.Status.{insufficient_memory, wire_status}

-- a field that may be absent
abbrev pub present : {X : Type 0} → Option X → Result X ℕ
present None = Err absent
present (Some x) = Ok x

-- the fields by the tags of TSRequest (MS-CSSP 2.2.1): negoTokens, authInfo, pubKeyAuth and
-- clientNonce
abbrev pub field_at : ℕ → TsRequest → Result (List ℕ) ℕ
field_at field r =
    if field == 1 then present r.nego_tokens
    else if field == 2 then present r.auth_info
    else if field == 3 then present r.pub_key_auth
    else if field == 5 then present r.client_nonce
    else Err invalid_parameter

abbrev pub field_in : ℕ → Option TsRequest → Result (List ℕ) ℕ
field_in field None = Err invalid_handle
field_in field (Some r) = field_at field r

-- the request with other octets in the field; a nonce has 32
abbrev pub with_nonce : List ℕ → TsRequest → Result TsRequest ℕ
with_nonce bytes r = if length bytes == 32 then Ok (record r { client_nonce = Some bytes })
    else Err invalid_parameter

abbrev pub with_field : ℕ → List ℕ → TsRequest → Result TsRequest ℕ
with_field field bytes r =
    if field == 1 then Ok (record r { nego_tokens = Some bytes })
    else if field == 2 then Ok (record r { auth_info = Some bytes })
    else if field == 3 then Ok (record r { pub_key_auth = Some bytes })
    else if field == 5 then with_nonce bytes r
    else Err invalid_parameter

abbrev pub without_field : ℕ → TsRequest → Result TsRequest ℕ
without_field field r =
    if field == 1 then Ok (record r { nego_tokens = None })
    else if field == 2 then Ok (record r { auth_info = None })
    else if field == 3 then Ok (record r { pub_key_auth = None })
    else if field == 4 then Ok (record r { error_code = None })
    else if field == 5 then Ok (record r { client_nonce = None })
    else Err invalid_parameter

-- the request that was read, as an object, or the fault
abbrev pub request_made : Result TsRequest WireKind → Result Object ℕ
request_made (Ok r) = Ok (Request r)
request_made (Err kind) = Err (wire_status kind)

-- the request encoded, or why not: its content is too long, or there was no memory
abbrev pub IsEncoded : Option TsRequest → Result (List ℕ) ℕ → Type 0
IsEncoded None (Ok bytes) = ⊥
IsEncoded None (Err status) = status ≡ invalid_handle
IsEncoded (Some r) (Ok bytes) = (fits r ≡ true) × (bytes ≡ spelled r)
IsEncoded (Some r) (Err status) = (fits r ≡ false → status ≡ 2) ×
    (fits r ≡ true → status ≡ insufficient_memory)

-- an encoding is given, or the status says why it is not
abbrev pub GivesEncoded : Option TsRequest → List ℕ → List ℕ → ℕ → ℕ → Type 0
GivesEncoded None before after written status =
    Answers (Err invalid_handle) before after written status
GivesEncoded (Some r) before after written status =
    (text : Result (List ℕ) ℕ) × IsEncoded (Some r) text × Answers text before after written status

-- a number that is there, or the status that says why there is none
abbrev pub Tells : Result ℕ ℕ → ℕ → ℕ → ℕ → Type 0
Tells (Ok number) before after status = (after ≡ number) × (status ≡ ok)
Tells (Err refusal) before after status = (after ≡ before) × (status ≡ refusal)

abbrev pub version_in : Option TsRequest → Result ℕ ℕ
version_in None = Err invalid_handle
version_in (Some r) = Ok r.version

abbrev pub code_of : Option NStatusCode → Result ℕ ℕ
code_of None = Err absent
code_of (Some code) = Ok code.0

abbrev pub code_in : Option TsRequest → Result ℕ ℕ
code_in None = Err invalid_handle
code_in (Some r) = code_of r.error_code

-- the size that the header announces, or the fault of the header
abbrev pub Sized : Read ℕ → ℕ → ℕ → ℕ → Type 0
Sized (Ok sized) before after status = (after ≡ sized.0) × (status ≡ ok)
Sized (Err fault) before after status = (after ≡ before) × (status ≡ 1)
