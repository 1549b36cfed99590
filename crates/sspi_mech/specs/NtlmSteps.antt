-- The steps of plain NTLM: for each stage, what is done with the input, or the kind of the refusal.
use Rattle.std.specs.Prelude.{◌≡◌, ◌≢◌, ℕ, Bool, true, false, List, [], length, nat_lt, Option}
use Rattle.std.specs.Prelude.{None, Some, Result, Ok, Err, if◌then◌else◌}
use Rattle.sspi_types.specs.declared.error.Error.{Error}
use Rattle.sspi_types.specs.declared.error_kind.ErrorKind.{ErrorKind}
use Rattle.sspi_types.specs.declared.error_kind.ErrorKind.TheVariants.{InvalidToken}
use Rattle.sspi_types.specs.declared.error_kind.ErrorKind.TheVariants.{UnknownCredentials}
use Rattle.sspi_types.specs.declared.error_kind.ErrorKind.TheVariants.{NoCredentials, OutOfSequence}
use Rattle.sspi_types.specs.declared.error_kind.ErrorKind.TheVariants.{InternalError}
use Rattle.sspi_types.specs.declared.error_kind.ErrorKind.TheVariants.{InsufficientMemory}
use Rattle.sspi_types.specs.declared.security_status.SecurityStatus.TheVariants as status
use Rattle.sspi_names.specs.Name.{Name, inner_of, new_name}
use Rattle.sspi_names.specs.Utf16.{text_of}
use Rattle.sspi_names.specs.declared.credentials.CredentialsBuffers.{CredentialsBuffers}
use Rattle.sspi_names.specs.declared.credentials.CredentialsBuffers.TheVariants as buffers
use Rattle.sspi_mech.specs.declared.ntlm.login.Login.{Login}
use Rattle.sspi_mech.specs.declared.ntlm.stage.Claim.{Claim}
use Rattle.sspi_mech.specs.declared.ntlm.stage.Stage.{Stage}
use Rattle.sspi_mech.specs.declared.ntlm.stage.Stage.TheVariants.{Unused, NegotiateSent}
use Rattle.sspi_mech.specs.declared.ntlm.stage.Stage.TheVariants.{AuthenticateSent, ChallengeSent}
use Rattle.sspi_mech.specs.declared.ntlm.stage.Stage.TheVariants.{Claimed}
use Rattle.sspi_mech.specs.declared.step.Step.{Step}
use Rattle.sspi_mech.specs.NtlmClaims.{claim_of}
use Rattle.sspi_mech.specs.NtlmMessages.{proof_of, key_of, negotiate_message, challenge_message}
use Rattle.sspi_mech.specs.NtlmMessages.{authenticate_message, is_negotiate}
use Rattle.sspi_mech.specs.NtlmMessages.{read_challenge}
use Rattle.sspi_mech.specs.NtlmStage.{NtlmState}

pub data Outcome : Type 0 where
  Goes : NtlmState → Step → Outcome
  Stops : ErrorKind → Outcome

-- ---- the client

-- who a client logs on as, by the credentials of its handle
abbrev pub login_by : Option Name → List ℕ → Result Login ErrorKind
login_by None password = Err UnknownCredentials
login_by (Some name) password =
    if nat_lt 65535 (length (inner_of name)) then Err InternalError
    else Ok (record { name = name; password = password })

abbrev pub login_of : Option CredentialsBuffers → Result Login ErrorKind
login_of None = Err NoCredentials
login_of (Some (buffers.Keytab identity)) = Err UnknownCredentials
login_of (Some (buffers.AuthIdentity identity)) =
    login_by (new_name (text_of identity.user) (text_of identity.domain))
    (text_of identity.password.value)

abbrev pub negotiates : NtlmState → Outcome
negotiates m = Goes (record m { stage = NegotiateSent })
    (record { status = status.ContinueNeeded; output = negotiate_message })

-- the proof of a password for a challenge, under the name as text
abbrev pub authenticated : NtlmState → List ℕ → Login → List ℕ → Outcome
authenticated m challenge login name =
    Goes (record m {
      stage = AuthenticateSent login.name;
      protection = record m.protection { key = Some (key_of challenge name login.password) };
    })
    (record {
      status = status.Ok;
      output = authenticate_message name
          (proof_of challenge name login.password);
    })

abbrev pub authenticates_as : NtlmState → List ℕ → Result Login ErrorKind → Outcome
authenticates_as m challenge (Ok login) = authenticated m challenge login (inner_of login.name)
authenticates_as m challenge (Err kind) = Stops kind

abbrev pub authenticates : NtlmState → Option (List ℕ) → Option CredentialsBuffers → Outcome
authenticates m None handle = Stops InvalidToken
authenticates m (Some challenge) handle = authenticates_as m challenge (login_of handle)

abbrev pub client_step : Stage → NtlmState → Option CredentialsBuffers → List ℕ → Outcome
client_step Unused m handle input = negotiates m
client_step NegotiateSent m handle input = authenticates m (read_challenge input) handle
client_step (AuthenticateSent name) m handle input = Stops OutOfSequence
client_step ChallengeSent m handle input = Stops OutOfSequence
client_step (Claimed claim) m handle input = Stops OutOfSequence

-- ---- the server

abbrev pub challenges : NtlmState → Bool → Outcome
challenges m false = Stops InvalidToken
challenges m true =
    Goes (record m { stage = ChallengeSent })
    (record { status = status.ContinueNeeded; output = challenge_message m.challenge })

abbrev pub claims : NtlmState → Result Claim ErrorKind → Outcome
claims m (Ok claim) = Goes (record m { stage = Claimed claim })
    (record { status = status.CompleteNeeded; output = [] })
claims m (Err kind) = Stops kind

abbrev pub server_step : Stage → NtlmState → List ℕ → Outcome
server_step Unused m input = challenges m (is_negotiate input)
server_step NegotiateSent m input = Stops OutOfSequence
server_step (AuthenticateSent name) m input = Stops OutOfSequence
server_step ChallengeSent m input = claims m (claim_of input)
server_step (Claimed claim) m input = Stops OutOfSequence

-- ---- what a call that makes a step answers

-- where memory may run out: the step would be made, or refused for a name that is too long, which
-- is measured after it is copied
abbrev pub MayWant : Outcome → Type 0
MayWant (Goes m step) = Unit {0}
MayWant (Stops kind) = kind ≡ InternalError

-- the same for the credentials of a handle
abbrev pub MayWantLogin : Result Login ErrorKind → Type 0
MayWantLogin (Ok login) = Unit {0}
MayWantLogin (Err kind) = kind ≡ InternalError

-- the answer of the outcome; out of memory only where `MayWant` allows it
abbrev pub Steps : Outcome → NtlmState → Result Step Error → NtlmState → Type 0
Steps outcome m (Ok step) m2 = outcome ≡ Goes m2 step
Steps outcome m (Err error) m2 =
    (error.error_type ≢ InsufficientMemory → outcome ≡ Stops error.error_type)
    × (m2 ≡ m)
    × (error.error_type ≡ InsufficientMemory → MayWant outcome)
