-- What a server's later step may do to the selected mechanism.
use Rattle.std.specs.Prelude.{◌≡◌, ◌⊎◌, ℕ, List, Result}
use Rattle.sspi_types.specs.declared.error.Error.{Error}
use Rattle.sspi_names.specs.declared.credentials.Credentials.{Credentials}
use Rattle.sspi_mech.specs.declared.step.Step.{Step}
use Rattle.sspi_mech.specs.Calls.{AcceptArgs, one_verification}
use Rattle.sspi_mech.specs.Meaning.{Meaning}
use Rattle.sspi_negotiate.specs.Hand.{Origin}
use Rattle.sspi_negotiate.specs.Verified.{Leaves}

-- The mechanism that is left is the one from before: in this order, and each at most once, it took
-- a token, got the peer's identities, verified a MIC and made one. No other is made.
pub record LivesOn {M : Type 0} (c : Meaning Origin M) (args : AcceptArgs) (old new : M) : Type 0
  where
    pub stepped : M
    pub told : M
    pub verified : M
    pub accepts : (stepped ≡ old)
        ⊎ ((token : List ℕ) × (result : Result Step Error) ×
        c.accepts old (record args { input = token }) result stepped)
    pub identifies : (told ≡ stepped) ⊎ ((identities : List Credentials) ×
        c.identifies stepped identities told)
    pub verifies : (verified ≡ told) ⊎ (verified ≡ c.counted told (one_verification (c.counts told)))
    pub signs : Leaves c verified new
