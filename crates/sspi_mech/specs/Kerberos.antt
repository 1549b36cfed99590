-- What plain Kerberos means.
use Rattle.std.specs.Prelude.{◌≡◌, ℕ, List, [], ◌∷◌, Option, None, Some, is_some, Result, Ok, Err}
use Rattle.std.specs.Result.{result_err}
use Rattle.sspi_types.specs.declared.context.ContextSizes.{ContextSizes}
use Rattle.sspi_types.specs.declared.credential_use.CredentialUse.{CredentialUse}
use Rattle.sspi_types.specs.declared.error.Error.{Error}
use Rattle.sspi_types.specs.declared.error_kind.ErrorKind.{ErrorKind}
use Rattle.sspi_types.specs.declared.error_kind.ErrorKind.TheVariants.{OutOfSequence, NoCredentials}
use Rattle.sspi_types.specs.Packages.{kerberos_entry}
use Rattle.sspi_names.specs.declared.credentials.Credentials.{Credentials}
use Rattle.sspi_names.specs.declared.credentials.CredentialsBuffers.{CredentialsBuffers}
use Rattle.sspi_names.specs.declared.kdc_table.KdcEntry.{KdcEntry}
use Rattle.sspi_mech.specs.declared.kerberos.stage.Stage.{Stage}
use Rattle.sspi_mech.specs.declared.kerberos.stage.Stage.TheVariants.{Unused, PairingAsked}
use Rattle.sspi_mech.specs.declared.kerberos.stage.Stage.TheVariants.{TicketAsked, LogonAsked}
use Rattle.sspi_mech.specs.declared.kerberos.stage.Stage.TheVariants.{SessionAsked}
use Rattle.sspi_mech.specs.declared.kerberos.stage.Stage.TheVariants.{SessionSent, Ended}
use Rattle.sspi_mech.specs.declared.kerberos.stage.Stage.TheVariants.{TicketSent, Accepted}
use Rattle.sspi_mech.specs.declared.step.Answer.{Answer}
use Rattle.sspi_mech.specs.declared.step.Answer.TheVariants as answers
use Rattle.sspi_mech.specs.declared.step.Progressing.TheVariants.{Done, Suspended}
use Rattle.sspi_mech.specs.declared.step.Reply.{Reply}
use Rattle.sspi_mech.specs.declared.step.Step.{Step}
use Rattle.sspi_mech.specs.Calls.{StepArgs, AcceptArgs, Call, ToAcquire, ToName, ToIdentify}
use Rattle.sspi_mech.specs.Calls.{ToComplete, ToSeal, ToUnseal, ToSign}
use Rattle.sspi_mech.specs.Calls.{ToVerify, ToDescribe, ToShowKey}
use Rattle.sspi_mech.specs.Meaning.{Meaning}
use Rattle.sspi_mech.specs.KerberosLogon.{acquired}
use Rattle.sspi_mech.specs.KerberosStage.{KerberosState, own_direction, peer_direction, name_at}
use Rattle.sspi_mech.specs.KerberosStage.{waits_at, left_at, pairs_at}
use Rattle.sspi_mech.specs.KerberosSteps.{Outcome, Moves, Steps, client_step, resumed_step}
use Rattle.sspi_mech.specs.KerberosSteps.{server_step}
use Rattle.sspi_mech.specs.Ntlm.{absence}
use Rattle.sspi_mech.specs.Protection.{SealsBy, OpensBy, SignsBy, VerifiesBy, making_refusal}
use Rattle.sspi_mech.specs.Protection.{unseal_refusal, verify_refusal}
use Rattle.sspi_mech.specs.Protection.{counts_of, recounted, no_protection}
use Rattle.sspi_mech.specs.Settings.{Setting, OfNtlm, OfKerberos, OfKerberosServer}

-- an object that has made no step, with these KDCs and this ticket
abbrev pub kerberos_with : Option (List ℕ) → List KdcEntry → Option (List ℕ) → KerberosState
kerberos_with url kdcs ticket =
    record {
      realms = record { kdc_url = url; kdcs = kdcs };
      ticket = ticket;
      stage = Unused;
      protection = no_protection;
    }

-- a new object: what its configuration has, or nothing if that is one of NTLM
abbrev pub kerberos_of : Setting → KerberosState
kerberos_of (OfNtlm config) = kerberos_with None [] None
kerberos_of (OfKerberos config) = kerberos_with config.kdc_url config.kdcs None
kerberos_of (OfKerberosServer config server) =
    kerberos_with config.kdc_url config.kdcs server.ticket

-- the credentials are taken, and the object stays as it is
abbrev pub KerberosAcquires : KerberosState → CredentialUse → Option Credentials →
    Option CredentialsBuffers → KerberosState → Type 0
KerberosAcquires m use_of auth_data given m2 = (acquired use_of auth_data ≡ Ok given) × (m2 ≡ m)

abbrev pub Answers : Outcome → KerberosState → Answer → KerberosState → Type 0
Answers outcome m (answers.Done step) m2 = Moves outcome m (Ok (Done step)) m2
Answers outcome m (answers.Ask request) m2 = Moves outcome m (Ok (Suspended request)) m2
Answers outcome m (answers.Refused error) m2 = Moves outcome m (Err error) m2

abbrev pub KerberosSteps : KerberosState → StepArgs → Answer → KerberosState → Type 0
KerberosSteps m args answer m2 = Answers (client_step m.stage m args.handle args.requirements
    args.input) m answer m2

abbrev pub KerberosResumes : KerberosState → Reply → Answer → KerberosState → Type 0
KerberosResumes m reply answer m2 = Answers (resumed_step m.stage m reply) m answer m2

abbrev pub KerberosAccepts : KerberosState → AcceptArgs → Result Step Error → KerberosState → Type 0
KerberosAccepts m args answer m2 = Steps (server_step m.stage m args.input) m answer m2

-- a server that has the session key takes any list with an identity, and stays as it is
abbrev pub takes_any : KerberosState → List Credentials → Result KerberosState ErrorKind
takes_any m [] = Err NoCredentials
takes_any m (first ∷ rest) = Ok m

abbrev pub identified_at : Stage → KerberosState → List Credentials → Result KerberosState ErrorKind
identified_at Unused m identities = Err OutOfSequence
identified_at PairingAsked m identities = Err OutOfSequence
identified_at (TicketAsked key) m identities = Err OutOfSequence
identified_at (LogonAsked name) m identities = Err OutOfSequence
identified_at (SessionAsked name) m identities = Err OutOfSequence
identified_at (SessionSent name) m identities = Err OutOfSequence
identified_at (Ended name) m identities = Err OutOfSequence
identified_at TicketSent m identities = Err OutOfSequence
identified_at (Accepted peer) m identities = takes_any m identities

abbrev pub identified : KerberosState → List Credentials → Result KerberosState ErrorKind
identified m identities = identified_at m.stage m identities

-- why a call is refused, if it is
abbrev pub kerberos_refusal : KerberosState → Call → Option ErrorKind
kerberos_refusal m (ToAcquire use_of auth_data) = result_err (acquired use_of auth_data)
kerberos_refusal m ToName = absence (name_at m.stage)
kerberos_refusal m (ToIdentify identities) = result_err (identified m identities)
kerberos_refusal m ToComplete = absence m.protection.key
kerberos_refusal m (ToSeal text) = making_refusal m.protection.key m.protection.sealings
kerberos_refusal m (ToUnseal blob) = unseal_refusal m.protection.key (peer_direction m.stage)
    m.protection.unsealings blob
kerberos_refusal m (ToSign text) = making_refusal m.protection.key m.protection.signings
kerberos_refusal m (ToVerify mic text) = verify_refusal m.protection.key (peer_direction m.stage)
    m.protection.verifications mic text
kerberos_refusal m ToDescribe = None
kerberos_refusal m ToShowKey = absence m.protection.key

abbrev pub kerberos_sizes : ContextSizes
kerberos_sizes = record { max_token = 48000; max_signature = 16; block = 0; security_trailer = 16 }

abbrev pub kerberos_meaning : Meaning Setting KerberosState
kerberos_meaning = record {
  made = λ setting m. m ≡ kerberos_of setting;
  unmade = λ setting kind. ⊥;
  acquires = KerberosAcquires;
  steps = KerberosSteps;
  resumes = KerberosResumes;
  accepts = KerberosAccepts;
  identifies = λ m identities m2. identified m identities ≡ Ok m2;
  names = λ m. name_at m.stage;
  keyed = λ m. is_some m.protection.key;
  session_key = λ m. m.protection.key;
  waits = λ m. waits_at m.stage;
  left = λ m. left_at m.stage;
  pairs = λ m. pairs_at m.stage;
  counts = λ m. counts_of m.protection;
  counted = λ m n. record m { protection = recounted m.protection n };
  seals = λ m n text blob. SealsBy m.protection.key (own_direction m.stage) n text blob;
  opens = λ m n blob text. OpensBy m.protection.key (peer_direction m.stage) n blob text;
  signs = λ m n text mic. SignsBy m.protection.key (own_direction m.stage) n text mic;
  verifies = λ m n mic text. VerifiesBy m.protection.key (peer_direction m.stage) n mic text;
  permits = λ m call. kerberos_refusal m call ≡ None;
  refuses = λ m call kind. kerberos_refusal m call ≡ Some kind;
  entry = λ m. kerberos_entry;
  sizes = λ m. kerberos_sizes;
}
