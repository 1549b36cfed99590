-- The status of an early result after the exchange of a scenario whose ends match.
use Rattle.std.proofs.Common.{◌≡◌, ℕ, inr, List, [], Some, Result, Ok, Err, refl, sym, ap, ◌∙◌, subst}
use Rattle.std.proofs.Math.Dec.{lit<}
use Rattle.sspi_names.specs.declared.identity.AuthIdentity.{AuthIdentity}
use Rattle.sspi_names.specs.Name.{Name}
use Rattle.sspi_delegate.specs.declared.answer.Delegation.{Delegation}
use Rattle.sspi_delegate.specs.declared.answer.DelegateError.{DelegateError}
use Rattle.sspi_delegate.specs.declared.answer.DelegateError.TheVariants as errors
use Rattle.sspi_delegate.specs.declared.edit.Edit.{Edit}
use Rattle.sspi_delegate.specs.Link.{MemoryLinkView, FollowsEdits, FollowsTold}
use Rattle.sspi_completeness.specs.Matching.{ComesToOkIn, IsCalm, IsCutShort}
use Rattle.sspi_credssp.specs.Exchange.{delegated_as}
use Rattle.sspi_early.specs.declared.answer.Early.{Early}
use Rattle.sspi_early.specs.declared.answer.EarlyError.{EarlyError}
use Rattle.sspi_early.specs.declared.answer.EarlyError.TheVariants as early_errors
use Rattle.sspi_early.specs.Authorizes.{LinkAt, told_of}
use Rattle.sspi_early.specs.Early.{ComesBehind, GoesOn, shown_by}
use Rattle.sspi_early.specs.Policy.{is_listed, list_meaning}
use Rattle.sspi_early.proofs.Honest.{honest_link, told_by_list}
use Rattle.sspi_program.specs.declared.record.Record.{Record}
use Rattle.sspi_program.specs.declared.record.RunOutcome.{RunOutcome}
use Rattle.sspi_program.specs.Early.{IsEarlyOf, admitted_status}
use Rattle.sspi_program.specs.Exchange.{around}
use Rattle.sspi_program.specs.Outcome.{messages_in, user_identity, IsMatching}
use Rattle.sspi_program.specs.Said.{early_status, heard_status, status_of}
use Rattle.sspi_program.specs.Status.{IsUnlessWrite, EndsAs}

list_calm : (names names2 : List Name) → IsCalm (list_meaning.faults names) (list_meaning.faults names2)
list_calm names names2 = record { same = refl; counted = lit< tt }

-- the status if these names are admitted and this one was delegated
abbrev status_for : List Name → Name → ℕ
status_for names name = heard_status (told_of (is_listed names name))

some_own : (a b : ℕ) → Some a ≡ Some b → b ≡ a
some_own a b e = let is : a ≡ b = cc in sym is

behind_status : (delegation : Delegation) (before after : LinkAt) (names names2 : List Name) (result : Result Early EarlyError) (own : ℕ) →
    ComesBehind list_meaning delegation before after names names2 result → before.edits ≡ Some [] → FollowsTold before.edits before.log →
    early_status result ≡ Some own → own ≡ status_for names delegation.credentials.username
behind_status delegation before after names names2 (Ok early) own comes none follows e =
    let honest = honest_link list_meaning delegation.credentials before after names names2
    (Ok (record { told = early.told; heard = early.heard })) comes.1 none follows (list_calm names names2) in
    let told = told_by_list delegation.credentials before after names names2 (record { told = early.told; heard = early.heard }) comes.1 in
    some_own (heard_status early.heard) own e ∙ ap heard_status (honest ∙ told)
behind_status delegation before after names names2 (Err (early_errors.Delegate error)) own comes none follows e =
    absurd (honest_link list_meaning delegation.credentials before after names names2 (Err (early_errors.Delegate error)) comes none follows
    (list_calm names names2))
behind_status delegation before after names names2 (Err early_errors.Policy) own comes none follows e =
    absurd (honest_link list_meaning delegation.credentials before after names names2 (Err early_errors.Policy) comes none follows
    (list_calm names names2))
behind_status delegation before after names names2 (Err early_errors.LinkFault) own comes none follows e =
    absurd (honest_link list_meaning delegation.credentials before after names names2 (Err early_errors.LinkFault) comes none follows
    (list_calm names names2))
behind_status delegation before after names names2 (Err (early_errors.Read kind)) own comes none follows e =
    absurd (honest_link list_meaning delegation.credentials before after names names2 (Err (early_errors.Read kind)) comes none follows
    (list_calm names names2))
behind_status delegation before after names names2 (Err early_errors.InsufficientMemory) own comes none follows e = absurd cc

no_memory_status : {A : Type 0} (result : Result Early EarlyError) (own : ℕ) → result ≡ Err early_errors.InsufficientMemory →
    early_status result ≡ Some own → A
no_memory_status result own lost e =
    let none = subst (λ (r : Result Early EarlyError). early_status r ≡ Some own) lost e in absurd cc

module _ (before after : MemoryLinkView) (names names2 : List Name) (result : Result Early EarlyError) (own : ℕ)
    (e : early_status result ≡ Some own) where
  ok_behind : (messages : ℕ) (identity : AuthIdentity) (answer : Result Delegation DelegateError) → ComesToOkIn messages identity answer →
      GoesOn (shown_by around) list_meaning answer before after names names2 result → before.edits ≡ [] →
      FollowsEdits before.edits before.log → own ≡ status_for names identity.username
  ok_behind messages identity (Ok delegation) comes goes_on none follows =
      behind_status delegation (shown_by around before) (shown_by around after) names names2 result own goes_on (ap Some none) follows e
      ∙ ap (λ (i : AuthIdentity). status_for names i.username) comes.1
  ok_behind messages identity (Err errors.InsufficientMemory) comes goes_on none follows = no_memory_status result own goes_on.0 e
  ok_behind messages identity (Err (errors.Client error)) comes goes_on none follows = absurd comes
  ok_behind messages identity (Err (errors.Server error)) comes goes_on none follows = absurd comes
  ok_behind messages identity (Err (errors.Read end kind)) comes goes_on none follows = absurd comes
  ok_behind messages identity (Err (errors.Write end)) comes goes_on none follows = absurd comes
  ok_behind messages identity (Err errors.LinkFault) comes goes_on none follows = absurd comes
  ok_behind messages identity (Err errors.TurnsSpent) comes goes_on none follows = absurd comes

  short_behind : (answer : Result Delegation DelegateError) → IsCutShort answer →
      GoesOn (shown_by around) list_meaning answer before after names names2 result → own ≡ 1
  short_behind (Ok delegation) short goes_on = absurd short
  short_behind (Err errors.TurnsSpent) short goes_on =
      some_own 1 own (subst (λ (r : Result Early EarlyError). early_status r ≡ Some own) goes_on.0 e)
  short_behind (Err errors.InsufficientMemory) short goes_on = no_memory_status result own goes_on.0 e
  short_behind (Err (errors.Client error)) short goes_on = absurd short
  short_behind (Err (errors.Server error)) short goes_on = absurd short
  short_behind (Err (errors.Read end kind)) short goes_on = absurd short
  short_behind (Err (errors.Write end)) short goes_on = absurd short
  short_behind (Err errors.LinkFault) short goes_on = absurd short

pub matching_early : (made r : Record) (own status : ℕ) → IsEarlyOf made r → status_of r.outcome ≡ Some own → IsUnlessWrite own status →
    (matching : IsMatching made.scenario) →
    EndsAs (admitted_status made.scenario) (messages_in made.scenario matching) made.scenario.turns status
matching_early made r own status has e unless matching =
    let s = made.scenario in
    let exchange = has.exchange.exchange in
    let ended : early_status has.answer ≡ Some own = subst (λ (o : RunOutcome). status_of o ≡ Some own) has.outcome_is e in
    let none : made.link.edits ≡ [] = exchange.edits ∙ matching.no_edit in
    let follows : FollowsEdits made.link.edits made.link.log =
    subst (λ (edits : List Edit). FollowsEdits edits made.link.log) (sym exchange.edits) exchange.follows in (
      (λ enough. inr (subst (λ (n : ℕ). IsUnlessWrite n status)
          (ok_behind made.link r.link s.admit r.policy has.answer own ended (messages_in s matching)
          (delegated_as s.delegation (user_identity s)) exchange.answer (has.exchange.comes.comes matching enough) has.goes_on none follows)
          unless)),
      (λ few. inr (subst (λ (n : ℕ). IsUnlessWrite n status)
          (short_behind made.link r.link s.admit r.policy has.answer own ended exchange.answer (has.exchange.comes.short matching few)
          has.goes_on)
          unless)),
    )
