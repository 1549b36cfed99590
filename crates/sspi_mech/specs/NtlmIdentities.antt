-- Which of the identities given to a server is the client's: the first whose password gives the
-- client's proof.
use Rattle.std.specs.Prelude.{ℕ, Bool, true, false, List, find, Option, None, Some, Result, Ok, Err}
use Rattle.std.specs.Prelude.{if◌then◌else◌}
use Rattle.std.specs.List.{list_any}
use Rattle.std.specs.Str.{bytes_eq}
use Rattle.sspi_types.specs.declared.error_kind.ErrorKind.{ErrorKind}
use Rattle.sspi_types.specs.declared.error_kind.ErrorKind.TheVariants.{NoCredentials, LogonDenied}
use Rattle.sspi_types.specs.declared.error_kind.ErrorKind.TheVariants.{OutOfSequence}
use Rattle.sspi_names.specs.declared.credentials.Credentials.{Credentials}
use Rattle.sspi_names.specs.declared.credentials.Credentials.TheVariants.{AuthIdentity, Keytab}
use Rattle.sspi_mech.specs.declared.ntlm.stage.Claim.{Claim}
use Rattle.sspi_mech.specs.declared.ntlm.stage.Stage.{Stage}
use Rattle.sspi_mech.specs.declared.ntlm.stage.Stage.TheVariants.{Unused, NegotiateSent}
use Rattle.sspi_mech.specs.declared.ntlm.stage.Stage.TheVariants.{AuthenticateSent, ChallengeSent}
use Rattle.sspi_mech.specs.declared.ntlm.stage.Stage.TheVariants.{Claimed}
use Rattle.sspi_mech.specs.NtlmMessages.{proof_of, key_of}
use Rattle.sspi_mech.specs.NtlmStage.{NtlmState}

abbrev pub has_password : Credentials → Bool
has_password (AuthIdentity identity) = true
has_password (Keytab identity) = false

-- whether the password of these credentials gives the proof of the claim
abbrev pub proves : List ℕ → Claim → Credentials → Bool
proves challenge claim (AuthIdentity identity) =
    bytes_eq (proof_of challenge claim.text identity.password.value) claim.proof
proves challenge claim (Keytab identity) = false

abbrev pub key_by : List ℕ → Claim → Option Credentials → Result (List ℕ) ErrorKind
key_by challenge claim None = Err LogonDenied
key_by challenge claim (Some (AuthIdentity identity)) =
    Ok (key_of challenge claim.text identity.password.value)
key_by challenge claim (Some (Keytab identity)) = Err LogonDenied

-- the key of the claim, or why there is none
abbrev pub claimed_key : List ℕ → Claim → List Credentials → Result (List ℕ) ErrorKind
claimed_key challenge claim identities =
    if list_any has_password identities
    then key_by challenge claim (find (proves challenge claim) identities) else Err NoCredentials

-- the same at each stage: out of sequence except for a server with a claim, even when called again
abbrev pub key_at : Stage → List ℕ → List Credentials → Result (List ℕ) ErrorKind
key_at Unused challenge identities = Err OutOfSequence
key_at NegotiateSent challenge identities = Err OutOfSequence
key_at (AuthenticateSent name) challenge identities = Err OutOfSequence
key_at ChallengeSent challenge identities = Err OutOfSequence
key_at (Claimed claim) challenge identities = claimed_key challenge claim identities

abbrev pub with_key : NtlmState → Result (List ℕ) ErrorKind → Result NtlmState ErrorKind
with_key m (Ok key) = Ok (record m { protection = record m.protection { key = Some key } })
with_key m (Err kind) = Err kind

-- the object once it is given these identities
abbrev pub identified : NtlmState → List Credentials → Result NtlmState ErrorKind
identified m identities = with_key m (key_at m.stage m.challenge identities)
