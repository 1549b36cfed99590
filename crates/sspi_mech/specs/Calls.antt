-- What the calls of a mechanism are given, as values without references.
use Rattle.std.specs.Prelude.{◌≡◌, ℕ, ◌+◌, List, Option}
use Rattle.std.specs.Option.{option_copied}
use Rattle.sspi_types.specs.declared.client_request_flags.ClientRequestFlags.{ClientRequestFlags}
use Rattle.sspi_types.specs.declared.credential_use.CredentialUse.{CredentialUse}
use Rattle.sspi_types.specs.declared.data_representation.DataRepresentation.{DataRepresentation}
use Rattle.sspi_types.specs.declared.server_request_flags.ServerRequestFlags.{ServerRequestFlags}
use Rattle.sspi_names.specs.declared.credentials.Credentials.{Credentials}
use Rattle.sspi_names.specs.declared.credentials.CredentialsBuffers.{CredentialsBuffers}
use Rattle.sspi_mech.specs.declared.args.AcceptSecurityContext.{AcceptSecurityContext}
use Rattle.sspi_mech.specs.declared.args.InitializeSecurityContext.{InitializeSecurityContext}

-- a client's step
pub record StepArgs : Type 0 where
  pub handle : Option CredentialsBuffers
  pub requirements : ClientRequestFlags
  pub representation : DataRepresentation
  pub target : Option (List ℕ)
  pub input : List ℕ

abbrev pub step_args : InitializeSecurityContext → StepArgs
step_args args = record {
  handle = option_copied args.credentials_handle;
  requirements = args.context_requirements;
  representation = args.target_data_representation;
  target = option_copied args.target_name;
  input = args.input.now;
}

-- a server's step
pub record AcceptArgs : Type 0 where
  pub handle : Option CredentialsBuffers
  pub requirements : ServerRequestFlags
  pub representation : DataRepresentation
  pub input : List ℕ

abbrev pub accept_args : AcceptSecurityContext → AcceptArgs
accept_args args = record {
  handle = option_copied args.credentials_handle;
  requirements = args.context_requirements;
  representation = args.target_data_representation;
  input = args.input.now;
}

-- how many messages an object has made and taken
pub record Counts : Type 0 where
  pub sealings : ℕ
  pub unsealings : ℕ
  pub signings : ℕ
  pub verifications : ℕ

abbrev pub no_counts : Counts
no_counts = record { sealings = 0; unsealings = 0; signings = 0; verifications = 0 }

abbrev pub one_sealing : Counts → Counts
one_sealing n = record n { sealings = n.sealings + 1 }

abbrev pub one_unsealing : Counts → Counts
one_unsealing n = record n { unsealings = n.unsealings + 1 }

abbrev pub one_signing : Counts → Counts
one_signing n = record n { signings = n.signings + 1 }

abbrev pub one_verification : Counts → Counts
one_verification n = record n { verifications = n.verifications + 1 }

-- nothing was sealed or opened
pub record IsUnused (n : Counts) : Type 0 where
  pub sealings : n.sealings ≡ 0
  pub unsealings : n.unsealings ≡ 0

-- a call that is not a step, with its arguments
pub data Call : Type 0 where
  ToAcquire : CredentialUse → Option Credentials → Call
  ToName : Call
  ToIdentify : List Credentials → Call
  ToComplete : Call
  ToSeal : List ℕ → Call
  ToUnseal : List ℕ → Call
  ToSign : List ℕ → Call
  ToVerify : List ℕ → List ℕ → Call
  ToDescribe : Call
  ToShowKey : Call
