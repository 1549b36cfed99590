-- A delegation and its early result over a link that disturbs nothing, with a policy that does not fail.
use Rattle.std.proofs.Common.{◌≡◌, ℕ, ◌≤◌, Bool, List, [], ◌∷◌, length, Option, Some, Result, Ok, Err, ap, ◌∙◌, subst, arith}
use Rattle.sspi_types.specs.Counting.{Counts}
use Rattle.sspi_credssp.specs.declared.turn.Turn.{Turn}
use Rattle.sspi_names.specs.declared.identity.AuthIdentity.{AuthIdentity}
use Rattle.sspi_delegate.specs.declared.answer.Delegation.{Delegation}
use Rattle.sspi_delegate.specs.declared.answer.DelegateError.{DelegateError}
use Rattle.sspi_delegate.specs.declared.answer.DelegateError.TheVariants as errors
use Rattle.sspi_delegate.specs.declared.carried.Carried.{Carried}
use Rattle.sspi_delegate.specs.declared.edit.Edit.{Edit}
use Rattle.sspi_delegate.specs.Log.{RunEnds}
use Rattle.sspi_delegate.specs.Link.{Delivers, StaysTold, FollowsTold}
use Rattle.sspi_delegate.specs.Log.{LoggedButLast}
use Rattle.sspi_tsreq.specs.declared.early.EarlyUserAuthResult.{EarlyUserAuthResult}
use Rattle.sspi_completeness.specs.Matching.{AreWholePast, ComesToOkIn, IsCalm, IsCutShort, IsUndisturbed, unedited, shown}
use Rattle.sspi_early.specs.declared.answer.Authorized.{Authorized}
use Rattle.sspi_early.specs.declared.answer.Early.{Early}
use Rattle.sspi_early.specs.declared.answer.EarlyError.{EarlyError}
use Rattle.sspi_early.specs.declared.answer.EarlyError.TheVariants.{Delegate, Policy, LinkFault, Read, InsufficientMemory}
use Rattle.sspi_early.specs.declared.policy.PolicyError.{PolicyError}
use Rattle.sspi_early.specs.declared.policy.PolicyError.TheVariants as decisions
use Rattle.sspi_early.specs.Authorizes.{Authorizes, Carries, Comes, ComesOf, CountsFault, LinkAt, told_of, carried, uncarried}
use Rattle.sspi_early.specs.Completes.{ComesToOkEarly, IsCutShortEarly, IsHonest}
use Rattle.sspi_early.specs.Early.{ComesBehind, GoesOn, refusal_of}
use Rattle.sspi_early.specs.Policy.{PolicyMeaning, PolicyCause}
use Rattle.sspi_completeness.proofs.Deliveries.{logged_behind}
use Rattle.sspi_completeness.proofs.Settling.{whole_unedited}
use Rattle.sspi_early.proofs.Honest.{calm_rose, honest_carry, honest_told}

-- ---- the log before the result

whole_behind : (count : ℕ) (told : EarlyUserAuthResult) (before after : List Carried) (answer : Result Authorized EarlyError) →
    Comes told before after answer → AreWholePast count after → AreWholePast count before
whole_behind count told before after answer (carried entry) whole = let parts = subst (AreWholePast count) entry.log_is whole in parts.1
whole_behind count told before after answer (uncarried same none) whole = subst (AreWholePast count) same whole

whole_before : {P : Type 0} (count : ℕ) (p : PolicyMeaning P) (identity : AuthIdentity) (before after : LinkAt) (policy policy2 : P)
    (answer : Result Authorized EarlyError) → Authorizes p identity before after policy policy2 answer → AreWholePast count after.log →
    AreWholePast count before.log
whole_before count p identity before after policy policy2 answer authorizes whole = by_decision authorizes.decision authorizes.comes
  where
    by_decision : (decision : Result Bool PolicyError) → ComesOf decision before after answer → AreWholePast count before.log
    by_decision (Ok admitted) comes = whole_behind count (told_of admitted) before.log after.log answer comes.comes whole
    by_decision (Err decisions.Failed) comes = subst (AreWholePast count) (ap (λ (l : LinkAt). l.log) comes.1) whole
    by_decision (Err decisions.InsufficientMemory) comes = subst (AreWholePast count) (ap (λ (l : LinkAt). l.log) comes.1) whole

-- ---- a link that shows that it disturbed nothing

no_fault_counted : (start before now : ℕ) (answer : Result Authorized EarlyError) → before ≡ start → IsCalm start now →
    CountsFault before now answer → answer ≡ Err LinkFault → ⊥
no_fault_counted start before now answer same calm count is =
    let counts : Counts before now = subst (λ (a : Result Authorized EarlyError). CountsFault before now a) is count in
    omega (arith, same, calm.same, calm.counted, counts)

delivers_shown : (count : ℕ) (entry : Carried) (log after : List Carried) → count ≤ length log → after ≡ entry ∷ log →
    AreWholePast count after → Delivers (Some entry.sent) entry
delivers_shown count entry log after grown is whole = let parts = subst (AreWholePast count) is whole in parts.0 grown

module _ {P : Type 0} (p : PolicyMeaning P) (edits : Option (List Edit)) (log : List Carried) (faults : ℕ) where
  -- the delegation was not disturbed either
  undisturbed_before : (identity : AuthIdentity) (before after : LinkAt) (policy policy2 : P) (answer : Result Authorized EarlyError) →
      Authorizes p identity before after policy policy2 answer → before.faults ≡ faults →
      IsUndisturbed edits log after.log faults after.faults → IsUndisturbed edits log before.log faults before.faults
  undisturbed_before identity before after policy policy2 answer authorizes same (unedited none whole) = unedited none whole
  undisturbed_before identity before after policy policy2 answer authorizes same (shown whole calm) =
      shown (whole_before (length log) p identity before after policy policy2 answer authorizes whole)
      (record { same = same; counted = calm.counted })

  undisturbed_carry : (told : EarlyUserAuthResult) (before after : LinkAt) (answer : Result Authorized EarlyError) →
      Carries told before after answer → before.faults ≡ faults → length log ≤ length before.log →
      StaysTold edits before.edits log before.log → IsUndisturbed edits log after.log faults after.faults → IsHonest answer
  undisturbed_carry told before after answer carries same grown stays (unedited none whole) =
      let begins : FollowsTold edits log = rw none (whole_unedited log whole) in
      honest_carry told before after answer carries (stays.same ∙ none) (stays.follows begins)
  undisturbed_carry told before after answer carries same grown stays (shown whole calm) =
      honest_told told before.log after.log answer carries.comes
      (λ entry is. delivers_shown (length log) entry before.log after.log grown is whole)
      (no_fault_counted faults before.faults after.faults answer same calm carries.count)

  undisturbed_link : (identity : AuthIdentity) (before after : LinkAt) (policy policy2 : P) (answer : Result Authorized EarlyError) →
      Authorizes p identity before after policy policy2 answer → before.faults ≡ faults → length log ≤ length before.log →
      StaysTold edits before.edits log before.log → IsUndisturbed edits log after.log faults after.faults →
      IsCalm (p.faults policy) (p.faults policy2) → IsHonest answer
  undisturbed_link identity before after policy policy2 answer authorizes same grown stays undisturbed calm =
      by_decision authorizes.decision authorizes.decided.cause authorizes.comes
    where
      by_decision : (decision : Result Bool PolicyError) → PolicyCause (p.faults policy) (p.faults policy2) decision →
          ComesOf decision before after answer → IsHonest answer
      by_decision (Ok admitted) cause comes = undisturbed_carry (told_of admitted) before after answer comes same grown stays undisturbed
      by_decision (Err decisions.Failed) cause comes = calm_rose (p.faults policy) (p.faults policy2) calm cause.1
      by_decision (Err decisions.InsufficientMemory) cause comes = rw comes.0 tt

  -- ---- after a delegation

  before_behind : (delegation : Delegation) (before after : LinkAt) (policy policy2 : P) (result : Result Early EarlyError) →
      ComesBehind p delegation before after policy policy2 result → before.faults ≡ faults →
      IsUndisturbed edits log after.log faults after.faults → IsUndisturbed edits log before.log faults before.faults
  before_behind delegation before after policy policy2 (Ok early) comes same undisturbed =
      undisturbed_before delegation.credentials before after policy policy2 _ comes.1 same undisturbed
  before_behind delegation before after policy policy2 (Err error) comes same undisturbed =
      undisturbed_before delegation.credentials before after policy policy2 _ comes same undisturbed

  answer_behind : (delegation : Delegation) (before after : LinkAt) (policy policy2 : P) (result : Result Early EarlyError)
      (messages : ℕ) (identity : AuthIdentity) →
      ComesBehind p delegation before after policy policy2 result → before.faults ≡ faults → length log ≤ length before.log →
      StaysTold edits before.edits log before.log → IsUndisturbed edits log after.log faults after.faults →
      IsCalm (p.faults policy) (p.faults policy2) →
      ComesToOkIn messages identity (Ok delegation) → ComesToOkEarly messages identity result
  answer_behind delegation before after policy policy2 (Ok early) messages identity comes same grown stays undisturbed calm ok = (
    ap (λ (d : Delegation). d.rounds) comes.0 ∙ ok.0,
    ap (λ (d : Delegation). d.credentials) comes.0 ∙ ok.1,
    undisturbed_link delegation.credentials before after policy policy2 _ comes.1 same grown stays undisturbed calm,
  )
  answer_behind delegation before after policy policy2 (Err (Delegate error)) messages identity comes same grown stays undisturbed calm ok =
      absurd (undisturbed_link delegation.credentials before after policy policy2 _ comes same grown stays undisturbed calm)
  answer_behind delegation before after policy policy2 (Err Policy) messages identity comes same grown stays undisturbed calm ok =
      absurd (undisturbed_link delegation.credentials before after policy policy2 _ comes same grown stays undisturbed calm)
  answer_behind delegation before after policy policy2 (Err LinkFault) messages identity comes same grown stays undisturbed calm ok =
      absurd (undisturbed_link delegation.credentials before after policy policy2 _ comes same grown stays undisturbed calm)
  answer_behind delegation before after policy policy2 (Err (Read kind)) messages identity comes same grown stays undisturbed calm ok =
      absurd (undisturbed_link delegation.credentials before after policy policy2 _ comes same grown stays undisturbed calm)
  answer_behind delegation before after policy policy2 (Err InsufficientMemory) messages identity comes same grown stays undisturbed calm
      ok = tt

  refusal_comes : (messages : ℕ) (identity : AuthIdentity) (error : DelegateError) → ComesToOkIn messages identity (Err error) →
      ComesToOkEarly messages identity (Err (refusal_of error))
  refusal_comes messages identity (errors.Client error) comes = comes
  refusal_comes messages identity (errors.Server error) comes = comes
  refusal_comes messages identity (errors.Read end kind) comes = comes
  refusal_comes messages identity (errors.Write end) comes = comes
  refusal_comes messages identity errors.LinkFault comes = comes
  refusal_comes messages identity errors.TurnsSpent comes = comes
  refusal_comes messages identity errors.InsufficientMemory comes = comes

  -- a server's last turn has no entry, and those before it have one each
  run_grown : (turns : List Turn) (after : List Carried) → LoggedButLast log turns after → length log ≤ length after
  run_grown [] after entries = absurd entries
  run_grown (t ∷ past) after entries = logged_behind log past after entries.1

  pub early_comes : {L : Type 0} (shows : L → LinkAt) (delegated : Result Delegation DelegateError) (link link2 : L) (policy policy2 : P)
      (result : Result Early EarlyError) (limit : ℕ) (turns : List Turn) (messages : ℕ) (identity : AuthIdentity) →
      GoesOn shows p delegated link link2 policy policy2 result →
      RunEnds log faults limit delegated turns (shows link).log (shows link).faults →
      StaysTold edits (shows link).edits log (shows link).log →
      (IsUndisturbed edits log (shows link).log faults (shows link).faults → ComesToOkIn messages identity delegated) →
      IsUndisturbed edits log (shows link2).log faults (shows link2).faults → IsCalm (p.faults policy) (p.faults policy2) →
      ComesToOkEarly messages identity result
  early_comes shows (Ok delegation) link link2 policy policy2 result limit turns messages identity goes_on ends stays comes
      undisturbed calm =
      answer_behind delegation (shows link) (shows link2) policy policy2 result messages identity goes_on ends.0.calm
      (run_grown turns (shows link).log ends.0.entries) stays undisturbed calm
      (comes (before_behind delegation (shows link) (shows link2) policy policy2 result goes_on ends.0.calm undisturbed))
  early_comes {L = L} shows (Err error) link link2 policy policy2 result limit turns messages identity goes_on ends stays comes undisturbed
      calm =
      let same = subst (λ (l : L). IsUndisturbed edits log (shows l).log faults (shows l).faults) goes_on.1 undisturbed in
      rw goes_on.0 (refusal_comes messages identity error (comes same))

  refusal_short : (error : DelegateError) → IsCutShort (Err error) → IsCutShortEarly (Err (refusal_of error))
  refusal_short (errors.Client error) short = short
  refusal_short (errors.Server error) short = short
  refusal_short (errors.Read end kind) short = short
  refusal_short (errors.Write end) short = short
  refusal_short errors.LinkFault short = short
  refusal_short errors.TurnsSpent short = short
  refusal_short errors.InsufficientMemory short = short

  pub early_short : {L : Type 0} (shows : L → LinkAt) (delegated : Result Delegation DelegateError) (link link2 : L) (policy policy2 : P)
      (result : Result Early EarlyError) (limit : ℕ) (turns : List Turn) →
      GoesOn shows p delegated link link2 policy policy2 result →
      RunEnds log faults limit delegated turns (shows link).log (shows link).faults →
      (IsUndisturbed edits log (shows link).log faults (shows link).faults → IsCutShort delegated) →
      IsUndisturbed edits log (shows link2).log faults (shows link2).faults → IsCutShortEarly result
  early_short shows (Ok delegation) link link2 policy policy2 result limit turns goes_on ends short undisturbed =
      absurd (short (before_behind delegation (shows link) (shows link2) policy policy2 result goes_on ends.0.calm undisturbed))
  early_short {L = L} shows (Err error) link link2 policy policy2 result limit turns goes_on ends short undisturbed =
      let same = subst (λ (l : L). IsUndisturbed edits log (shows l).log faults (shows l).faults) goes_on.1 undisturbed in
      rw goes_on.0 (refusal_short error (short same))
