-- What a mechanism's object may have done since it was made, by calls in any order, and how often
-- it has asked a KDC. Calls that leave the object as it was have no case.
use Rattle.std.specs.Prelude.{ℕ, ◌+◌, List, Option, Result}
use Rattle.sspi_types.specs.declared.credential_use.CredentialUse.{CredentialUse}
use Rattle.sspi_types.specs.declared.error.Error.{Error}
use Rattle.sspi_names.specs.declared.credentials.Credentials.{Credentials}
use Rattle.sspi_names.specs.declared.credentials.CredentialsBuffers.{CredentialsBuffers}
use Rattle.sspi_mech.specs.declared.step.Answer.{Answer}
use Rattle.sspi_mech.specs.declared.step.Answer.TheVariants.{Done, Ask, Refused}
use Rattle.sspi_mech.specs.declared.step.Reply.{Reply}
use Rattle.sspi_mech.specs.declared.step.Step.{Step}
use Rattle.sspi_mech.specs.Calls.{StepArgs, AcceptArgs, Counts}
use Rattle.sspi_mech.specs.Meaning.{Meaning}

abbrev pub questions_in : Answer → ℕ
questions_in (Done step) = 0
questions_in (Ask question) = 1
questions_in (Refused error) = 0

module _ {S M : Type 0} (it : Meaning S M) where
  pub data HasLived : M → ℕ → Type 0 where
    made : (s : S) (m : M) → it.made s m → HasLived m 0
    acquired : (m m2 : M) (n : ℕ) (u : CredentialUse) (d : Option Credentials)
        (b : Option CredentialsBuffers) →
        HasLived m n → it.acquires m u d b m2 → HasLived m2 n
    stepped : (m m2 : M) (n : ℕ) (a : StepArgs) (r : Answer) → HasLived m n → it.steps m a r m2 →
        HasLived m2 (n + questions_in r)
    resumed : (m m2 : M) (n : ℕ) (b : Reply) (r : Answer) → HasLived m n → it.resumes m b r m2 →
        HasLived m2 (n + questions_in r)
    accepted : (m m2 : M) (n : ℕ) (a : AcceptArgs) (r : Result Step Error) → HasLived m n →
        it.accepts m a r m2 → HasLived m2 n
    identified : (m m2 : M) (n : ℕ) (ids : List Credentials) → HasLived m n →
        it.identifies m ids m2 → HasLived m2 n
    counted : (m : M) (n : ℕ) (counts : Counts) → HasLived m n → HasLived (it.counted m counts) n
