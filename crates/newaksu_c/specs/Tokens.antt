-- What the calls on the tokens of SPNEGO answer (RFC 4178 4.2).
use Rattle.std.specs.Global.{Vec}
use Rattle.std.specs.Prelude.{◌≡◌, ℕ, ◌==◌, ◌++◌, List, [], ◌∷◌, length, nat_lt, slice_index_or}
use Rattle.std.specs.Prelude.{Option, None, Some, Result, Ok, Err, if◌then◌else◌}
use Rattle.sspi_types.specs.declared.error.Error.{Error}
use Rattle.sspi_tokens.specs.Answers.{WritesAs}
use Rattle.sspi_tokens.specs.Spelling.{spelled_init, spelled_list, spelled_targ}
use Rattle.sspi_tokens.specs.declared.neg_result.NegResult.{NegResult}
use Rattle.sspi_tokens.specs.declared.neg_result.NegResult.TheVariants.{AcceptComplete}
use Rattle.sspi_tokens.specs.declared.neg_result.NegResult.TheVariants.{AcceptIncomplete, Other}
use Rattle.sspi_tokens.specs.declared.neg_token_init.NegTokenInit.{NegTokenInit}
use Rattle.sspi_tokens.specs.declared.neg_token_targ.NegTokenTarg.{NegTokenTarg}
use Rattle.sspi_tokens.specs.declared.oid.MechKind.{MechKind}
use Rattle.sspi_tokens.specs.declared.oid.MechKind.TheVariants as mechs
use Rattle.newaksu_c.specs.Putting.{spelled}
use Rattle.newaksu_c.specs.Requests.{present}
use Rattle.newaksu_c.specs.Status.{absent, invalid_handle, invalid_parameter}

-- the encoding of the object behind the handle
abbrev pub IsSpelled : {X : Type 0} → (X → Option (List ℕ)) → Result X ℕ → Result (List ℕ) ℕ →
    Type 0
IsSpelled spelling (Err status) answer = answer ≡ Err status
IsSpelled spelling (Ok x) answer = (text : Result (Vec ℕ) Error) × WritesAs (spelling x) text ×
    (answer ≡ spelled text)

-- what the call wants, or that the handle has no such object
abbrev pub there : {X : Type 0} → Option X → Result X ℕ
there None = Err invalid_handle
there (Some x) = Ok x

-- a field of that object
abbrev pub of_it : {X Y : Type 0} → (X → Result Y ℕ) → Option X → Result Y ℕ
of_it field None = Err invalid_handle
of_it field (Some x) = field x

-- ---- the first token of a client

abbrev pub mech_token : NegTokenInit → Result (List ℕ) ℕ
mech_token t = present t.mech_token

abbrev pub mech_list : NegTokenInit → Result (List (List ℕ)) ℕ
mech_list t = present t.mech_types

abbrev pub count_of : Result (List (List ℕ)) ℕ → Result ℕ ℕ
count_of (Ok list) = Ok (length list)
count_of (Err status) = Err status

-- the identifier at an index of the list
abbrev pub item_at : ℕ → List (List ℕ) → Result (List ℕ) ℕ
item_at index list = if nat_lt index (length list) then Ok (slice_index_or list index [])
    else Err absent

abbrev pub item_of : ℕ → Result (List (List ℕ)) ℕ → Result (List ℕ) ℕ
item_of index (Ok list) = item_at index list
item_of index (Err status) = Err status

abbrev pub listed : Option (List (List ℕ)) → List (List ℕ)
listed None = []
listed (Some list) = list

abbrev pub with_mech : List ℕ → NegTokenInit → Result NegTokenInit ℕ
with_mech oid t = Ok (record t { mech_types = Some (listed t.mech_types ++ oid ∷ []) })

abbrev pub with_mech_token : List ℕ → NegTokenInit → Result NegTokenInit ℕ
with_mech_token token t = Ok (record t { mech_token = Some token })

-- ---- a later token

abbrev pub result_number : NegResult → ℕ
result_number AcceptComplete = 0
result_number AcceptIncomplete = 1
result_number Other = 2

abbrev pub state_of : Option NegResult → Result ℕ ℕ
state_of None = Err absent
state_of (Some state) = Ok (result_number state)

abbrev pub targ_state : NegTokenTarg → Result ℕ ℕ
targ_state t = state_of t.neg_result

abbrev pub with_state : ℕ → NegTokenTarg → Result NegTokenTarg ℕ
with_state state t =
    if state == 0 then Ok (record t { neg_result = Some AcceptComplete })
    else if state == 1 then Ok (record t { neg_result = Some AcceptIncomplete })
    else if state == 2 then Ok (record t { neg_result = Some Other })
    else Err invalid_parameter

-- the fields by the tags of NegTokenResp: supportedMech, responseToken and mechListMIC
abbrev pub targ_field : ℕ → NegTokenTarg → Result (List ℕ) ℕ
targ_field field t =
    if field == 1 then present t.supported_mech
    else if field == 2 then present t.response_token
    else if field == 3 then present t.mech_list_mic
    else Err invalid_parameter

abbrev pub with_targ_field : ℕ → List ℕ → NegTokenTarg → Result NegTokenTarg ℕ
with_targ_field field bytes t =
    if field == 1 then Ok (record t { supported_mech = Some bytes })
    else if field == 2 then Ok (record t { response_token = Some bytes })
    else if field == 3 then Ok (record t { mech_list_mic = Some bytes })
    else Err invalid_parameter

-- ---- identifiers

abbrev pub mech_number : MechKind → ℕ
mech_number mechs.Other = 0
mech_number mechs.MsKerberos = 1
mech_number mechs.Kerberos = 2
mech_number mechs.Ntlm = 3
