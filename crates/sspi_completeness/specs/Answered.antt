-- What matching ends come to, and the examples.
use Rattle.std.specs.Prelude.{ℕ, ◌<◌, ◌≤◌, List, codes, Result}
use Rattle.sspi_names.specs.declared.identity.AuthIdentity.{AuthIdentity}
use Rattle.sspi_names.specs.Name.{Name, down_level, principal}
use Rattle.sspi_delegate.specs.declared.answer.Delegation.{Delegation}
use Rattle.sspi_delegate.specs.declared.answer.DelegateError.{DelegateError}
use Rattle.sspi_completeness.specs.Matching.{ComesToOkIn, IsCutShort}

-- Ok after this many messages of the client, with this identity, if it may make that many, else the
-- turns are spent; or there was no memory.
pub record AnswersIn (messages limit : ℕ) (identity : AuthIdentity)
    (answer : Result Delegation DelegateError) : Type 0 where
  pub comes : messages ≤ limit → ComesToOkIn messages identity answer
  pub short : limit < messages → IsCutShort answer

abbrev pub identity_by : Name → List ℕ → AuthIdentity
identity_by name password = record { username = name; password = record { value = password } }

-- DOM\ann, and ann@example.com
abbrev pub ann : AuthIdentity
ann = identity_by (down_level (codes "ann") (codes "DOM")) (codes "pw")

abbrev pub ann_of_realm : List ℕ → AuthIdentity
ann_of_realm password = identity_by (principal (codes "ann") (codes "example.com")) password
