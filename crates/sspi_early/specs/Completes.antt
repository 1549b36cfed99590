-- What an undisturbed exchange with its early result comes to.
use Rattle.std.specs.Prelude.{◌≡◌, ◌<◌, ◌≤◌, ℕ, Result, Ok, Err}
use Rattle.sspi_names.specs.declared.identity.AuthIdentity.{AuthIdentity}
use Rattle.sspi_delegate.specs.declared.answer.DelegateError.TheVariants as errors
use Rattle.sspi_early.specs.declared.answer.Authorized.{Authorized}
use Rattle.sspi_early.specs.declared.answer.Early.{Early}
use Rattle.sspi_early.specs.declared.answer.EarlyError.{EarlyError}
use Rattle.sspi_early.specs.declared.answer.EarlyError.TheVariants.{Delegate, InsufficientMemory}

-- This many messages of the client delegated this identity, and the client heard what the server
-- told; or there was no memory.
abbrev pub ComesToOkEarly : ℕ → AuthIdentity → Result Early EarlyError → Type 0
ComesToOkEarly messages identity (Ok early) = (early.delegation.rounds ≡ messages) ×
    (early.delegation.credentials ≡ identity)
    × (early.heard ≡ early.told)
ComesToOkEarly messages identity (Err InsufficientMemory) = Unit {0}
ComesToOkEarly messages identity (Err error) = ⊥

-- the client may not make that many messages; or there was no memory
abbrev pub IsCutShortEarly : Result Early EarlyError → Type 0
IsCutShortEarly (Ok early) = ⊥
IsCutShortEarly (Err (Delegate errors.TurnsSpent)) = Unit {0}
IsCutShortEarly (Err InsufficientMemory) = Unit {0}
IsCutShortEarly (Err error) = ⊥

-- The first if the client may make that many messages, else the second.
pub record AnswersEarlyIn (messages limit : ℕ) (identity : AuthIdentity)
    (answer : Result Early EarlyError) : Type 0 where
  pub comes : messages ≤ limit → ComesToOkEarly messages identity answer
  pub short : limit < messages → IsCutShortEarly answer

-- the client heard what the server told; or there was no memory
abbrev pub IsHonest : Result Authorized EarlyError → Type 0
IsHonest (Ok authorized) = authorized.heard ≡ authorized.told
IsHonest (Err InsufficientMemory) = Unit {0}
IsHonest (Err error) = ⊥
