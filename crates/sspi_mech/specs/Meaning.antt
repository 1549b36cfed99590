-- What the calls of a security context do, as relations over its state.
use Rattle.std.specs.Prelude.{ℕ, List, Option, Result, Bool}
use Rattle.sspi_types.specs.declared.context.ContextSizes.{ContextSizes}
use Rattle.sspi_types.specs.declared.credential_use.CredentialUse.{CredentialUse}
use Rattle.sspi_types.specs.declared.error.Error.{Error}
use Rattle.sspi_types.specs.declared.error_kind.ErrorKind.{ErrorKind}
use Rattle.sspi_types.specs.declared.package.PackageInfo.{PackageInfo}
use Rattle.sspi_names.specs.declared.credentials.Credentials.{Credentials}
use Rattle.sspi_names.specs.declared.credentials.CredentialsBuffers.{CredentialsBuffers}
use Rattle.sspi_names.specs.declared.username.Username.{Username}
use Rattle.sspi_mech.specs.declared.step.Answer.{Answer}
use Rattle.sspi_mech.specs.declared.step.Reply.{Reply}
use Rattle.sspi_mech.specs.declared.step.Step.{Step}
use Rattle.sspi_mech.specs.Calls.{StepArgs, AcceptArgs, Counts, Call}

-- The meaning of a security context C that is made from an S: a mechanism, or what chooses among
-- mechanisms. A relation between two states takes the state before and the state after.
pub record Meaning (S C : Type 0) : Type 1 where
  -- what making one answers: the context, or the kind of a refusal other than out of memory
  pub made : S → C → Type 0
  pub unmade : S → ErrorKind → Type 0
  -- the credentials that were asked for and the buffers that were given
  pub acquires : C → CredentialUse → Option Credentials → Option CredentialsBuffers → C → Type 0
  -- a client's step, the same step once a KDC has replied, a server's step
  pub steps : C → StepArgs → Answer → C → Type 0
  pub resumes : C → Reply → Answer → C → Type 0
  pub accepts : C → AcceptArgs → Result Step Error → C → Type 0
  -- taking the identities that the peer may have
  pub identifies : C → List Credentials → C → Type 0
  -- the name of the peer on a server, its own on a client
  pub names : C → Option Username
  -- whether messages can be protected; the session key
  pub keyed : C → Bool
  pub session_key : C → Option (List ℕ)
  -- whether a step waits for a KDC, and how often it may still ask one
  pub waits : C → Bool
  pub left : C → ℕ
  -- whether a server authenticates user-to-user
  pub pairs : C → Bool
  -- how many messages were made and taken; the same context with other counts
  pub counts : C → Counts
  pub counted : C → Counts → C
  -- the n-th message: text and blob, blob and text, text and MIC, MIC and text
  pub seals : C → ℕ → List ℕ → List ℕ → Type 0
  pub opens : C → ℕ → List ℕ → List ℕ → Type 0
  pub signs : C → ℕ → List ℕ → List ℕ → Type 0
  pub verifies : C → ℕ → List ℕ → List ℕ → Type 0
  -- what else holds if completing or a call on a message answers Ok, or if opening a blob or taking
  -- identities is out of memory; the kinds with which a call may refuse, other than out of memory
  pub permits : C → Call → Type 0
  pub refuses : C → Call → ErrorKind → Type 0
  -- the entry of the package, and the sizes that its users must know
  pub entry : C → PackageInfo
  pub sizes : C → ContextSizes
