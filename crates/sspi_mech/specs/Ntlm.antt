-- What plain NTLM means.
use Rattle.std.specs.Prelude.{◌≡◌, ℕ, List, replicate, false, Option, None, Some, is_some, Result}
use Rattle.std.specs.Prelude.{Ok, Err}
use Rattle.std.specs.Result.{result_err}
use Rattle.sspi_types.specs.declared.context.ContextSizes.{ContextSizes}
use Rattle.sspi_types.specs.declared.credential_use.CredentialUse.{CredentialUse}
use Rattle.sspi_types.specs.declared.error.Error.{Error}
use Rattle.sspi_types.specs.declared.error_kind.ErrorKind.{ErrorKind}
use Rattle.sspi_types.specs.declared.error_kind.ErrorKind.TheVariants.{OutOfSequence}
use Rattle.sspi_types.specs.Packages.{ntlm_entry}
use Rattle.sspi_names.specs.declared.credentials.Credentials.{Credentials}
use Rattle.sspi_names.specs.declared.credentials.CredentialsBuffers.{CredentialsBuffers}
use Rattle.sspi_mech.specs.declared.config.NtlmConfig.{NtlmConfig}
use Rattle.sspi_mech.specs.declared.ntlm.stage.Stage.TheVariants.{Unused}
use Rattle.sspi_mech.specs.declared.step.Answer.{Answer}
use Rattle.sspi_mech.specs.declared.step.Answer.TheVariants.{Done, Ask, Refused}
use Rattle.sspi_mech.specs.declared.step.Reply.{Reply}
use Rattle.sspi_mech.specs.declared.step.Step.{Step}
use Rattle.sspi_mech.specs.Calls.{StepArgs, AcceptArgs, Call, ToAcquire, ToName, ToIdentify}
use Rattle.sspi_mech.specs.Calls.{ToComplete, ToSeal, ToUnseal, ToSign}
use Rattle.sspi_mech.specs.Calls.{ToVerify, ToDescribe, ToShowKey}
use Rattle.sspi_mech.specs.Meaning.{Meaning}
use Rattle.sspi_mech.specs.NtlmAcquire.{acquired}
use Rattle.sspi_mech.specs.NtlmIdentities.{identified}
use Rattle.sspi_mech.specs.NtlmStage.{NtlmState, own_direction, peer_direction, name_at}
use Rattle.sspi_mech.specs.NtlmSteps.{Steps, client_step, server_step}
use Rattle.sspi_mech.specs.Protection.{SealsBy, OpensBy, SignsBy, VerifiesBy, making_refusal}
use Rattle.sspi_mech.specs.Protection.{unseal_refusal, verify_refusal}
use Rattle.sspi_mech.specs.Protection.{counts_of, recounted, no_protection}
use Rattle.sspi_mech.specs.Settings.{Setting, OfNtlm, OfKerberos, OfKerberosServer}

-- an object that has made no step, with this challenge
abbrev pub ntlm_with : List ℕ → NtlmState
ntlm_with challenge = record { challenge = challenge; stage = Unused; protection = no_protection }

-- a new object: its challenge is that of its configuration, or zeros if that is one of Kerberos
abbrev pub ntlm_of : NtlmConfig → NtlmState
ntlm_of config = ntlm_with config.challenge

abbrev pub NtlmMade : Setting → NtlmState → Type 0
NtlmMade (OfNtlm config) m = m ≡ ntlm_of config
NtlmMade (OfKerberos config) m = m ≡ ntlm_with (replicate 8 0)
NtlmMade (OfKerberosServer config server) m = m ≡ ntlm_with (replicate 8 0)

-- the credentials are taken, and the object stays as it is
abbrev pub NtlmAcquires : NtlmState → CredentialUse → Option Credentials →
    Option CredentialsBuffers → NtlmState → Type 0
NtlmAcquires m use_of auth_data given m2 = (acquired use_of auth_data ≡ Ok given) × (m2 ≡ m)

-- a step answers at once, and is never resumed
abbrev pub NtlmSteps : NtlmState → StepArgs → Answer → NtlmState → Type 0
NtlmSteps m args (Done step) m2 = Steps (client_step m.stage m args.handle args.input) m (Ok step)
    m2
NtlmSteps m args (Ask request) m2 = ⊥
NtlmSteps m args (Refused error) m2 = Steps (client_step m.stage m args.handle args.input) m
    (Err error) m2

abbrev pub NtlmResumes : NtlmState → Reply → Answer → NtlmState → Type 0
NtlmResumes m reply (Done step) m2 = ⊥
NtlmResumes m reply (Ask request) m2 = ⊥
NtlmResumes m reply (Refused error) m2 = (error.error_type ≡ OutOfSequence) × (m2 ≡ m)

abbrev pub NtlmAccepts : NtlmState → AcceptArgs → Result Step Error → NtlmState → Type 0
NtlmAccepts m args answer m2 = Steps (server_step m.stage m args.input) m answer m2

-- out of sequence if what is asked for is not there yet
abbrev pub absence : {X : Type 0} → Option X → Option ErrorKind
absence None = Some OutOfSequence
absence (Some x) = None

-- why a call is refused, if it is
abbrev pub ntlm_refusal : NtlmState → Call → Option ErrorKind
ntlm_refusal m (ToAcquire use_of auth_data) = result_err (acquired use_of auth_data)
ntlm_refusal m ToName = absence (name_at m.stage)
ntlm_refusal m (ToIdentify identities) = result_err (identified m identities)
ntlm_refusal m ToComplete = absence m.protection.key
ntlm_refusal m (ToSeal text) = making_refusal m.protection.key m.protection.sealings
ntlm_refusal m (ToUnseal blob) = unseal_refusal m.protection.key (peer_direction m.stage)
    m.protection.unsealings blob
ntlm_refusal m (ToSign text) = making_refusal m.protection.key m.protection.signings
ntlm_refusal m (ToVerify mic text) = verify_refusal m.protection.key (peer_direction m.stage)
    m.protection.verifications mic text
ntlm_refusal m ToDescribe = None
ntlm_refusal m ToShowKey = absence m.protection.key

abbrev pub ntlm_sizes : ContextSizes
ntlm_sizes = record { max_token = 2010; max_signature = 16; block = 0; security_trailer = 16 }

abbrev pub ntlm_meaning : Meaning Setting NtlmState
ntlm_meaning = record {
  made = NtlmMade;
  unmade = λ setting kind. ⊥;
  acquires = NtlmAcquires;
  steps = NtlmSteps;
  resumes = NtlmResumes;
  accepts = NtlmAccepts;
  identifies = λ m identities m2. identified m identities ≡ Ok m2;
  names = λ m. name_at m.stage;
  keyed = λ m. is_some m.protection.key;
  session_key = λ m. m.protection.key;
  waits = λ m. false;
  left = λ m. 0;
  pairs = λ m. false;
  counts = λ m. counts_of m.protection;
  counted = λ m n. record m { protection = recounted m.protection n };
  seals = λ m n text blob. SealsBy m.protection.key (own_direction m.stage) n text blob;
  opens = λ m n blob text. OpensBy m.protection.key (peer_direction m.stage) n blob text;
  signs = λ m n text mic. SignsBy m.protection.key (own_direction m.stage) n text mic;
  verifies = λ m n mic text. VerifiesBy m.protection.key (peer_direction m.stage) n mic text;
  permits = λ m call. ntlm_refusal m call ≡ None;
  refuses = λ m call kind. ntlm_refusal m call ≡ Some kind;
  entry = λ m. ntlm_entry;
  sizes = λ m. ntlm_sizes;
}
