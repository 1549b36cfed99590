-- What is told over a link that edits nothing, by a policy that does not fail.
use Rattle.std.proofs.Common.{◌≡◌, ℕ, Bool, List, [], ◌∷◌, Option, Some, Result, Ok, Err}
use Rattle.std.proofs.Common.{refl, sym, ◌∙◌, subst, arith}
use Rattle.sspi_ber.specs.Outside.{Rose}
use Rattle.sspi_ber.specs.declared.wire_kind.WireKind.TheVariants as kinds
use Rattle.sspi_names.specs.declared.identity.AuthIdentity.{AuthIdentity}
use Rattle.sspi_names.specs.Name.{Name}
use Rattle.sspi_completeness.specs.Matching.{IsCalm}
use Rattle.sspi_delegate.specs.declared.carried.Carried.{Carried}
use Rattle.sspi_delegate.specs.declared.edit.Edit.{Edit}
use Rattle.sspi_delegate.specs.Link.{Delivers, FollowsEdits, FollowsTold}
use Rattle.sspi_tsreq.specs.declared.early.EarlyUserAuthResult.{EarlyUserAuthResult}
use Rattle.sspi_early.specs.declared.answer.Authorized.{Authorized}
use Rattle.sspi_early.specs.declared.answer.EarlyError.{EarlyError}
use Rattle.sspi_early.specs.declared.answer.EarlyError.TheVariants.{Delegate, Policy, LinkFault, Read, InsufficientMemory}
use Rattle.sspi_early.specs.declared.policy.PolicyError.{PolicyError}
use Rattle.sspi_early.specs.declared.policy.PolicyError.TheVariants as decisions
use Rattle.sspi_early.specs.Authorizes.{Authorizes, Carries, Comes, ComesOf, FailsAsTold, IsCarried, IsUncarried, LinkAt, told_of}
use Rattle.sspi_early.specs.Authorizes.{carried, uncarried}
use Rattle.sspi_early.specs.Completes.{IsHonest}
use Rattle.sspi_early.specs.Policy.{PolicyMeaning, PolicyCause, is_listed, list_meaning}
use Rattle.sspi_early.proofs.Heard.{never_cut, never_no_result}

pub calm_rose : {A : Type 0} (before now : ℕ) → IsCalm before now → Rose before now → A
calm_rose before now calm rose = absurd (omega (arith, calm.same, calm.counted, rose))

-- ---- the entry that tells the result

pub delivers : (entry : Carried) (log after : List Carried) (edits : Option (List Edit)) → edits ≡ Some [] →
    after ≡ entry ∷ log → FollowsTold edits after → Delivers (Some entry.sent) entry
delivers entry log after edits none is follows =
    let parts = subst (λ (l : List Carried). FollowsEdits [] l) is (subst (λ (e : Option (List Edit)). FollowsTold e after) none follows)
    in parts.0

honest_entry : (told : EarlyUserAuthResult) (before after : List Carried) (answer : Result Authorized EarlyError) →
    (entry : IsCarried told before after answer) → Delivers (Some entry.entry.sent) entry.entry → (answer ≡ Err LinkFault → ⊥) →
    IsHonest answer
honest_entry told before after (Ok authorized) entry whole calm = entry.honest whole ∙ sym entry.cause.0
honest_entry told before after (Err (Read kinds.UnexpectedEof)) entry whole calm =
    never_cut told entry.entry entry.tells whole entry.cause
honest_entry told before after (Err (Read kinds.InvalidData)) entry whole calm =
    never_no_result told entry.entry entry.tells whole entry.cause
honest_entry told before after (Err (Read kinds.ReadFault)) entry whole calm = absurd entry.cause
honest_entry told before after (Err (Read kinds.WriteFault)) entry whole calm = absurd entry.cause
honest_entry told before after (Err (Read kinds.InsufficientMemory)) entry whole calm = absurd entry.cause
honest_entry told before after (Err LinkFault) entry whole calm = absurd (calm refl)
honest_entry told before after (Err InsufficientMemory) entry whole calm = tt
honest_entry told before after (Err Policy) entry whole calm = absurd entry.cause
honest_entry told before after (Err (Delegate error)) entry whole calm = absurd entry.cause

honest_uncarried : (answer : Result Authorized EarlyError) → IsUncarried answer → (answer ≡ Err LinkFault → ⊥) → IsHonest answer
honest_uncarried (Ok authorized) none calm = absurd none
honest_uncarried (Err (Read kind)) none calm = absurd none
honest_uncarried (Err LinkFault) none calm = absurd (calm refl)
honest_uncarried (Err InsufficientMemory) none calm = tt
honest_uncarried (Err Policy) none calm = absurd none
honest_uncarried (Err (Delegate error)) none calm = absurd none

pub honest_told : (told : EarlyUserAuthResult) (before after : List Carried) (answer : Result Authorized EarlyError) →
    Comes told before after answer →
    ((entry : Carried) → after ≡ entry ∷ before → Delivers (Some entry.sent) entry) → (answer ≡ Err LinkFault → ⊥) → IsHonest answer
honest_told told before after answer (carried entry) whole calm =
    honest_entry told before after answer entry (whole entry.entry entry.log_is) calm
honest_told told before after answer (uncarried same none) whole calm = honest_uncarried answer none calm

pub no_fault : (told : EarlyUserAuthResult) (edits : Option (List Edit)) (log : List Carried) (answer : Result Authorized EarlyError) →
    edits ≡ Some [] → FailsAsTold edits log told answer → answer ≡ Err LinkFault → ⊥
no_fault told edits log answer none fails is =
    subst (λ (a : Result Authorized EarlyError). FailsAsTold (Some []) log told a) is
    (subst (λ (e : Option (List Edit)). FailsAsTold e log told answer) none fails)

pub honest_carry : (told : EarlyUserAuthResult) (before after : LinkAt) (answer : Result Authorized EarlyError) →
    Carries told before after answer → before.edits ≡ Some [] → FollowsTold before.edits before.log → IsHonest answer
honest_carry told before after answer carries none follows =
    honest_told told before.log after.log answer carries.comes
    (λ entry is. delivers entry before.log after.log after.edits (carries.stays.same ∙ none) is (carries.stays.follows follows))
    (no_fault told before.edits before.log answer none carries.fails)

pub honest_link : {P : Type 0} (p : PolicyMeaning P) (identity : AuthIdentity) (before after : LinkAt) (policy policy2 : P)
    (answer : Result Authorized EarlyError) → Authorizes p identity before after policy policy2 answer → before.edits ≡ Some [] →
    FollowsTold before.edits before.log → IsCalm (p.faults policy) (p.faults policy2) → IsHonest answer
honest_link p identity before after policy policy2 answer authorizes none follows calm =
    by_decision authorizes.decision authorizes.decided.cause authorizes.comes
  where
    by_decision : (decision : Result Bool PolicyError) → PolicyCause (p.faults policy) (p.faults policy2) decision →
        ComesOf decision before after answer → IsHonest answer
    by_decision (Ok admitted) cause comes = honest_carry (told_of admitted) before after answer comes none follows
    by_decision (Err decisions.Failed) cause comes = calm_rose (p.faults policy) (p.faults policy2) calm cause.1
    by_decision (Err decisions.InsufficientMemory) cause comes = rw comes.0 tt

-- ---- what a list decides

carried_told : (told : EarlyUserAuthResult) (before after : List Carried) (authorized : Authorized) →
    Comes told before after (Ok authorized) →
    authorized.told ≡ told
carried_told told before after authorized (carried entry) = entry.cause.0
carried_told told before after authorized (uncarried same none) = absurd none

pub told_by_list : (identity : AuthIdentity) (before after : LinkAt) (names names2 : List Name) (authorized : Authorized) →
    Authorizes list_meaning identity before after names names2 (Ok authorized) →
    authorized.told ≡ told_of (is_listed names identity.username)
told_by_list identity before after names names2 authorized authorizes =
    let comes : ComesOf (Ok (is_listed names identity.username)) before after (Ok authorized) =
    subst (λ (d : Result Bool PolicyError). ComesOf d before after (Ok authorized)) authorizes.decided.answered.0 authorizes.comes in
    carried_told (told_of (is_listed names identity.username)) before.log after.log authorized comes.comes
