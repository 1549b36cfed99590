-- When each answer comes after a delegation: a policy decides on the identity, the link carries the
-- result, and the client reads it.
use Rattle.std.specs.Prelude.{◌≡◌, ℕ, List, ◌∷◌, Bool, true, false, reverse, Option, None, Some}
use Rattle.std.specs.Prelude.{Result, Ok, Err, IfOk}
use Rattle.sspi_types.specs.Counting.{Counts}
use Rattle.sspi_ber.specs.declared.wire_kind.WireKind.TheVariants as kinds
use Rattle.sspi_names.specs.declared.identity.AuthIdentity.{AuthIdentity}
use Rattle.sspi_delegate.specs.declared.carried.Carried.{Carried}
use Rattle.sspi_delegate.specs.declared.edit.Edit.{Edit}
use Rattle.sspi_delegate.specs.Link.{Delivers, edited, sent_texts, StaysTold}
use Rattle.sspi_tsreq.specs.declared.early.EarlyUserAuthResult.{EarlyUserAuthResult}
use Rattle.sspi_tsreq.specs.declared.early.EarlyUserAuthResult.TheVariants.{Success, AccessDenied}
use Rattle.sspi_tsreq.specs.Early.{early_result_text}
use Rattle.sspi_early.specs.declared.answer.Authorized.{Authorized}
use Rattle.sspi_early.specs.declared.answer.EarlyError.{EarlyError}
use Rattle.sspi_early.specs.declared.answer.EarlyError.TheVariants.{Delegate, Policy, LinkFault}
use Rattle.sspi_early.specs.declared.answer.EarlyError.TheVariants.{Read, InsufficientMemory}
use Rattle.sspi_early.specs.declared.policy.PolicyError.{PolicyError}
use Rattle.sspi_early.specs.declared.policy.PolicyError.TheVariants as decisions
use Rattle.sspi_early.specs.Heard.{Tells, Heard, IsCut, IsNoResult, IsOpen}
use Rattle.sspi_early.specs.Policy.{PolicyMeaning, HasDecided}

-- what a link shows at one moment
pub record LinkAt : Type 0 where
  -- the newest entry first
  pub log : List Carried
  -- the edits of a link that exposes them
  pub edits : Option (List Edit)
  pub faults : ℕ

abbrev pub link_at : List Carried → Option (List Edit) → ℕ → LinkAt
link_at log edits faults = record { log = log; edits = edits; faults = faults }

-- what a server tells when it admits the user, or does not
abbrev pub told_of : Bool → EarlyUserAuthResult
told_of true = Success
told_of false = AccessDenied

-- a failure of the link counts one fault, and nothing else counts any
abbrev pub CountsFault : ℕ → ℕ → Result Authorized EarlyError → Type 0
CountsFault before now (Ok authorized) = now ≡ before
CountsFault before now (Err (Read kind)) = now ≡ before
CountsFault before now (Err LinkFault) = Counts before now
CountsFault before now (Err InsufficientMemory) = now ≡ before
CountsFault before now (Err Policy) = now ≡ before
CountsFault before now (Err (Delegate error)) = now ≡ before

-- ---- the answers once the result was carried

-- what each answer shows about the entry that told the result
abbrev pub HasCause : EarlyUserAuthResult → Carried → Result Authorized EarlyError → Type 0
HasCause told e (Ok authorized) = (authorized.told ≡ told) × Heard authorized.heard e
HasCause told e (Err (Read kinds.UnexpectedEof)) = IsCut e
HasCause told e (Err (Read kinds.InvalidData)) = IsNoResult e
HasCause told e (Err (Read kinds.ReadFault)) = ⊥
HasCause told e (Err (Read kinds.WriteFault)) = ⊥
HasCause told e (Err (Read kinds.InsufficientMemory)) = ⊥
HasCause told e (Err LinkFault) = IsOpen e
HasCause told e (Err InsufficientMemory) = IsOpen e
HasCause told e (Err Policy) = ⊥
HasCause told e (Err (Delegate error)) = ⊥

-- the client heard this
abbrev pub IsHeard : EarlyUserAuthResult → Result Authorized EarlyError → Type 0
IsHeard result (Ok authorized) = authorized.heard ≡ result
IsHeard result (Err error) = ⊥

-- the only answer that the entry allows; once four bytes came or the delivery ended, nothing more
-- allocates
pub record IsOnlyAnswer (e : Carried) (answer : Result Authorized EarlyError) : Type 0 where
  pub heard : (result : EarlyUserAuthResult) → Heard result e → IsHeard result answer
  pub cut : IsCut e → answer ≡ Err (Read kinds.UnexpectedEof)
  pub no_result : IsNoResult e → answer ≡ Err (Read kinds.InvalidData)

-- The log has one more entry, the newest: it tells this result.
pub record IsCarried (told : EarlyUserAuthResult) (before after : List Carried)
    (answer : Result Authorized EarlyError) : Type 0 where
  pub entry : Carried
  pub log_is : after ≡ entry ∷ before
  pub tells : Tells told entry
  pub cause : HasCause told entry answer
  pub only : IsOnlyAnswer entry answer
  -- what was delivered as it was sent is heard as it was told
  pub honest : Delivers (Some entry.sent) entry →
      IfOk answer (λ authorized. authorized.heard ≡ told)

-- ---- the answers if it was not carried

-- the link took no entry: it failed, or there was no memory
abbrev pub IsUncarried : Result Authorized EarlyError → Type 0
IsUncarried (Ok authorized) = ⊥
IsUncarried (Err (Read kind)) = ⊥
IsUncarried (Err LinkFault) = Unit {0}
IsUncarried (Err InsufficientMemory) = Unit {0}
IsUncarried (Err Policy) = ⊥
IsUncarried (Err (Delegate error)) = ⊥

-- the link fails exactly if its edits fail the entry, unless out of memory
abbrev pub FailsByEdits : Option (List ℕ) → Result Authorized EarlyError → Type 0
FailsByEdits None (Ok authorized) = ⊥
FailsByEdits None (Err (Read kind)) = ⊥
FailsByEdits None (Err LinkFault) = Unit {0}
FailsByEdits None (Err InsufficientMemory) = Unit {0}
FailsByEdits None (Err Policy) = ⊥
FailsByEdits None (Err (Delegate error)) = ⊥
FailsByEdits (Some text) (Ok authorized) = Unit {0}
FailsByEdits (Some text) (Err (Read kind)) = Unit {0}
FailsByEdits (Some text) (Err LinkFault) = ⊥
FailsByEdits (Some text) (Err InsufficientMemory) = Unit {0}
FailsByEdits (Some text) (Err Policy) = ⊥
FailsByEdits (Some text) (Err (Delegate error)) = ⊥

-- the same for a link that exposes its edits; one that does not claims nothing
abbrev pub FailsAsTold : Option (List Edit) → List Carried → EarlyUserAuthResult →
    Result Authorized EarlyError → Type 0
FailsAsTold None log told answer = Unit {0}
FailsAsTold (Some edits) log told answer =
    FailsByEdits (edited edits (sent_texts (reverse log)) (early_result_text told)) answer

-- What telling this result comes to: the link carried it and the client read it, or the link did
-- not carry it.
pub data Comes (told : EarlyUserAuthResult) (before after : List Carried)
    (answer : Result Authorized EarlyError) : Type 0 where
  carried : IsCarried told before after answer → Comes told before after answer
  uncarried : after ≡ before → IsUncarried answer → Comes told before after answer

-- what a link did when it was to carry this result and deliver it
pub record Carries (told : EarlyUserAuthResult) (before after : LinkAt)
    (answer : Result Authorized EarlyError) : Type 0 where
  pub comes : Comes told before.log after.log answer
  pub count : CountsFault before.faults after.faults answer
  pub stays : StaysTold before.edits after.edits before.log after.log
  pub fails : FailsAsTold before.edits before.log told answer

-- ---- the whole

-- what follows a decision; without one the link is not asked
abbrev pub ComesOf : Result Bool PolicyError → LinkAt → LinkAt → Result Authorized EarlyError →
    Type 0
ComesOf (Ok admitted) before after answer = Carries (told_of admitted) before after answer
ComesOf (Err decisions.Failed) before after answer = (answer ≡ Err Policy) × (after ≡ before)
ComesOf (Err decisions.InsufficientMemory) before after answer = (answer ≡ Err InsufficientMemory) ×
    (after ≡ before)

-- The policy was asked once, of this identity, and the link carried what it decided.
pub record Authorizes {P : Type 0} (p : PolicyMeaning P) (identity : AuthIdentity)
    (before after : LinkAt) (policy policy2 : P)
    (answer : Result Authorized EarlyError) : Type 0 where
  pub decision : Result Bool PolicyError
  pub decided : HasDecided p policy identity decision policy2
  pub comes : ComesOf decision before after answer
