-- What the calls on TSCredentials and on the early result answer.
use Rattle.std.specs.Global.{Vec}
use Rattle.std.specs.Prelude.{◌≡◌, ◌≢◌, ℕ, ◌==◌, List, Option, None, Some, Result, Ok, Err}
use Rattle.std.specs.Prelude.{if◌then◌else◌}
use Rattle.sspi_types.specs.declared.error.Error.{Error}
use Rattle.sspi_ber.specs.Pieces.{Read, Ended, Invalid}
use Rattle.sspi_names.specs.Utf16.{bytes_le}
use Rattle.sspi_names.specs.declared.credentials.CredentialsBuffers.{CredentialsBuffers}
use Rattle.sspi_names.specs.declared.credentials.CredentialsBuffers.TheVariants.{AuthIdentity}
use Rattle.sspi_names.specs.declared.credentials.CredentialsBuffers.TheVariants.{Keytab}
use Rattle.sspi_names.specs.declared.identity.AuthIdentityBuffers.{AuthIdentityBuffers}
use Rattle.sspi_tsreq.specs.Creds.{creds_text}
use Rattle.sspi_tsreq.specs.CredsAnswers.{IsOrMemory}
use Rattle.sspi_tsreq.specs.Early.{result_of, early_result_text}
use Rattle.sspi_tsreq.specs.declared.early.EarlyUserAuthResult.{EarlyUserAuthResult}
use Rattle.sspi_tsreq.specs.declared.mode.CredSspMode.TheVariants.{WithCredentials}
use Rattle.newaksu_c.specs.Putting.{spelled}
use Rattle.newaksu_c.specs.Status.{ok, absent, invalid_handle, invalid_parameter}
use Rattle.newaksu_c.specs.Status.{insufficient_memory}

-- the texts by the tags of TSPasswordCreds (MS-CSSP 2.2.1.2.1): domainName, userName and password
abbrev pub text_at : ℕ → AuthIdentityBuffers → Result (List ℕ) ℕ
text_at which buffers =
    if which == 0 then Ok (bytes_le buffers.domain)
    else if which == 1 then Ok (bytes_le buffers.user)
    else if which == 2 then Ok (bytes_le buffers.password.value)
    else Err invalid_parameter

abbrev pub text_in : ℕ → Option CredentialsBuffers → Result (List ℕ) ℕ
text_in which None = Err invalid_handle
text_in which (Some (AuthIdentity buffers)) = text_at which buffers
text_in which (Some (Keytab identity)) = Err absent

-- this answer, or out of memory
abbrev pub OrMemory : Result (List ℕ) ℕ → Result (List ℕ) ℕ → Type 0
OrMemory (Ok bytes) answer = answer ≡ Ok bytes
OrMemory (Err status) answer = status ≢ insufficient_memory → answer ≡ Err status

-- the credentials encoded
abbrev pub IsWritten : Option CredentialsBuffers → Result (List ℕ) ℕ → Type 0
IsWritten None answer = answer ≡ Err invalid_handle
IsWritten (Some buffers) answer =
    (text : Result (Vec ℕ) Error) × IsOrMemory (λ t. t.items) text
    (creds_text buffers WithCredentials) × (answer ≡ spelled text)

-- ---- the early result (MS-RDPBCGR 2.2.10.2)

abbrev pub early_bytes_of : Option EarlyUserAuthResult → Result (List ℕ) ℕ
early_bytes_of None = Err invalid_parameter
early_bytes_of (Some result) = Ok (early_result_text result)

abbrev pub early_bytes : ℕ → Result (List ℕ) ℕ
early_bytes number = early_bytes_of (result_of number)
