-- What the host has to seal of an end's message, and what is sent.
use Rattle.std.specs.Prelude.{◌≡◌, ◌≢◌, ℕ, ◌==◌, List, length, nat_lt, Bool, true, false, Option}
use Rattle.std.specs.Prelude.{None, Some, Result, Ok, Err, if◌then◌else◌}
use Rattle.sspi_tsreq.specs.declared.request.TsRequest.{TsRequest}
use Rattle.sspi_credssp.specs.declared.acts.Acts.{Acts}
use Rattle.sspi_outside.specs.Hosting.{message_of, owed_of, owed_text, sent}
use Rattle.sspi_outside.specs.declared.last.Last.{Last}
use Rattle.sspi_outside.specs.declared.last.Owed.{Owed}
use Rattle.sspi_outside.specs.declared.last.Owed.TheVariants as owed
use Rattle.newaksu_c.specs.Requests.{present}
use Rattle.newaksu_c.specs.Settings.{◌then_with◌}
use Rattle.newaksu_c.specs.Status.{absent, invalid_handle, invalid_parameter}

-- what the host still has to seal; an end over plain NTLM seals by itself
abbrev pub owed_by : Bool → Acts → Last → Owed
owed_by false acts last = owed.Neither
owed_by true acts last = owed_of acts last

abbrev pub owed_in : Bool → Option Acts → Option Last → Result Owed ℕ
owed_in hosted None last = Err invalid_handle
owed_in hosted (Some acts) None = Err invalid_handle
owed_in hosted (Some acts) (Some last) = Ok (owed_by hosted acts last)

-- the field of the text, by its tag
abbrev pub owed_field : Owed → ℕ → ℕ
owed_field owed.Neither before = before
owed_field owed.PubKeyAuth before = 3
owed_field owed.AuthInfo before = 2

-- the text that the host has to seal
abbrev pub text_for : Result Owed ℕ → Option Last → Result (List ℕ) ℕ
text_for (Ok what) None = Err invalid_handle
text_for (Ok what) (Some last) = present (owed_text what (message_of last))
text_for (Err status) last = Err status

abbrev pub field_for : Result Owed ℕ → ℕ → ℕ
field_for (Ok what) before = owed_field what before
field_for (Err status) before = before

-- there is a sealed blob exactly if one is owed, and it has at least the 16 bytes of a seal
abbrev pub is_seal : Owed → List ℕ → Bool
is_seal owed.Neither blob = length blob == 0
is_seal owed.PubKeyAuth blob = if nat_lt (length blob) 16 then false else true
is_seal owed.AuthInfo blob = if nat_lt (length blob) 16 then false else true

-- the message for the peer; over plain NTLM it is as the end made it
abbrev pub outgoing : Bool → Owed → List ℕ → Last → Option TsRequest
outgoing false what blob last = message_of last
outgoing true what blob last = sent what blob last

abbrev pub message_with : Bool → Owed → List ℕ → Last → Result TsRequest ℕ
message_with hosted what blob last = if is_seal what blob
    then present (outgoing hosted what blob last) else Err invalid_parameter

abbrev pub message_for : Bool → Result Owed ℕ → List ℕ → Option Last → Result TsRequest ℕ
message_for hosted (Ok what) blob None = Err invalid_handle
message_for hosted (Ok what) blob (Some last) = message_with hosted what blob last
message_for hosted (Err status) blob last = Err status
