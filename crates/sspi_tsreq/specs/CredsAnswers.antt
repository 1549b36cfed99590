-- What the calls on TSCredentials answer.
use Rattle.std.specs.Prelude.{◌≡◌, ◌≢◌, ◌⊎◌, ℕ, List, Option, None, Some, Result, Ok, Err}
use Rattle.sspi_types.specs.Errors.{memory_error}
use Rattle.sspi_types.specs.declared.error.Error.{Error}
use Rattle.sspi_types.specs.declared.error_kind.ErrorKind.TheVariants.{InternalError}
use Rattle.sspi_ber.specs.Kinds.{io_error}
use Rattle.sspi_ber.specs.Outside.{Rose}
use Rattle.sspi_names.specs.Utf16.{bad_text}
use Rattle.sspi_names.specs.declared.credentials.CredentialsBuffers.{CredentialsBuffers}
use Rattle.sspi_names.specs.declared.credentials.CredentialsBuffers.TheVariants as buffered
use Rattle.sspi_tsreq.specs.Creds.{creds_of, keytab_refused, malformed, smart_card, unknown_type}
use Rattle.sspi_tsreq.specs.CredsGrammar.{StandsBefore}

-- this answer, or out of memory
abbrev pub IsOrMemory : {X A : Type 0} → (X → A) → Result X Error → Result A Error → Type 0
IsOrMemory view (Ok x) answer = answer ≡ Ok (view x)
IsOrMemory view (Err error) answer = (answer ≡ Err error) ⊎ (error ≡ memory_error)

-- a keytab is refused before any allocation
abbrev pub RefusesKeytab : {X : Type 0} → CredentialsBuffers → Result X Error → Type 0
RefusesKeytab (buffered.AuthIdentity buffers) result = Unit {0}
RefusesKeytab (buffered.Keytab identity) result = result ≡ Err keytab_refused

-- For a source that exposes its bytes: the buffers that they represent, and then exactly what
-- follows them is left; or their refusal, out of memory, or a fault of the source.
abbrev pub ReadsCreds : Option (List ℕ) → Option (List ℕ) → Result CredentialsBuffers Error → Type 0
ReadsCreds None after result = Unit {0}
ReadsCreds (Some text) after (Ok (buffered.AuthIdentity buffers)) = (rest : List ℕ) ×
    StandsBefore text buffers rest × (after ≡ Some rest)
ReadsCreds (Some text) after (Ok (buffered.Keytab identity)) = ⊥
ReadsCreds (Some text) after (Err error) = (creds_of text ≡ Err error) ⊎
    ((error ≡ memory_error) ⊎ (error ≡ io_error))

-- on an internal error the count of faults rose, and on any other answer it is unchanged
abbrev pub CredsCause : {X : Type 0} → ℕ → ℕ → Result X Error → Type 0
CredsCause before now (Ok x) = now ≡ before
CredsCause before now (Err error) =
    (error.error_type ≡ InternalError → Rose before now) ×
    (error.error_type ≢ InternalError → now ≡ before)

-- The refusals that reading may return: a malformed structure, a type without meaning, a smart
-- card, a text that is not UTF-16, out of memory, and a fault of the source. None has a status.
abbrev pub IsCredsRefusal : Error → Type 0
IsCredsRefusal error =
    (error ≡ malformed) ⊎ (error ≡ unknown_type) ⊎ (error ≡ smart_card) ⊎ (error ≡ bad_text) ⊎
    (error ≡ memory_error) ⊎ (error ≡ io_error)
