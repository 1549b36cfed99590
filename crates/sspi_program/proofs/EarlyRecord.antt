-- The record of an exchange and of what its server told after it.
use Rattle.std.proofs.Common.{◌≡◌, ℕ, List, ◌++◌, length, reverse, drop, Some, Result, Ok, Err, refl, sym, ap, ◌∙◌, subst}
use Rattle.std.specs.Global.{Vec}
use Rattle.std.specs.Prelude.{IfOk}
use Rattle.std.specs.Result.{IsOkAnd}
use Rattle.sspi_names.specs.Name.{Name}
use Rattle.sspi_delegate.specs.declared.answer.Delegation.{Delegation}
use Rattle.sspi_delegate.specs.declared.answer.DelegateError.{DelegateError}
use Rattle.sspi_delegate.specs.Link.{MemoryLinkView}
use Rattle.sspi_early.specs.declared.answer.Early.{Early}
use Rattle.sspi_early.specs.declared.answer.EarlyError.{EarlyError}
use Rattle.sspi_early.specs.Authorizes.{LinkAt}
use Rattle.sspi_early.specs.Early.{GoesOn, shown_by}
use Rattle.sspi_early.specs.Policy.{list_meaning}
use Rattle.sspi_program.specs.declared.record.Record.{Record}
use Rattle.sspi_program.specs.declared.record.RunOutcome.{RunOutcome}
use Rattle.sspi_program.specs.declared.record.RunOutcome.TheVariants as outcomes
use Rattle.sspi_program.specs.Delegate.{HasExchange}
use Rattle.sspi_program.specs.Early.{IsEarlyOf, IsEarlyTold, behind_text}
use Rattle.sspi_program.specs.Exchange.{around}
use Rattle.sspi_program.specs.Said.{report_of, status_of}

same_answer : (a b : Result Delegation DelegateError) → outcomes.Delegated a ≡ outcomes.Delegated b → a ≡ b
same_answer a b e = cc

-- a list stays as it is
list_stays : (shows : MemoryLinkView → LinkAt) (answer : Result Delegation DelegateError) (link link2 : MemoryLinkView)
    (names names2 : List Name)
    (result : Result Early EarlyError) → GoesOn shows list_meaning answer link link2 names names2 result → names2 ≡ names
list_stays shows (Ok delegation) link link2 names names2 (Ok early) goes_on = goes_on.1.decided.answered.1
list_stays shows (Ok delegation) link link2 names names2 (Err error) goes_on = goes_on.decided.answered.1
list_stays shows (Err error) link link2 names names2 result goes_on = goes_on.2

pub early_of : (made : Record) (answer : Result Delegation DelegateError) (link : MemoryLinkView) (names names2 : List Name)
    (result : Result Early EarlyError) → HasExchange made → names ≡ made.scenario.admit → made.outcome ≡ outcomes.Delegated answer →
    GoesOn (shown_by around) list_meaning answer made.link link names names2 result →
    IsEarlyOf made (record made { link = link; policy = names2; outcome = outcomes.Early result })
early_of made answer link names names2 result has is was goes_on =
    let same : answer ≡ has.exchange.answer = same_answer answer has.exchange.answer (sym was ∙ has.exchange.outcome_is) in
    record {
      exchange = has;
      rest = refl;
      policy = list_stays (shown_by around) answer made.link link names names2 result goes_on ∙ is;
      answer = result;
      outcome_is = refl;
      goes_on = subst (λ (list : List Name). GoesOn (shown_by around) list_meaning has.exchange.answer made.link link list names2 result) is
          (subst (λ (a : Result Delegation DelegateError). GoesOn (shown_by around) list_meaning a made.link link names names2 result) same
          goes_on);
    }

pub no_other : {A : Type 0} (made : Record) (other : RunOutcome) → HasExchange made → made.outcome ≡ other →
    ((answer : Result Delegation DelegateError) → other ≡ outcomes.Delegated answer → A) → A
no_other made other has is never = never has.exchange.answer (sym is ∙ has.exchange.outcome_is)

-- what is told about such a record
pub told_early : {E F : Type 0} (made kept : Record) (report : Result (Vec ℕ) E) (told : Result (ℕ × Vec ℕ) F) (entries : ℕ) →
    IsEarlyOf made kept → IfOk report (λ text. text.items ≡ report_of made) → entries ≡ length made.link.log →
    IfOk told (λ t. (status_of kept.outcome ≡ Some t.0) × IsOkAnd report (λ text. t.1.items ≡ text.items
    ++ behind_text kept.outcome (drop entries (reverse kept.link.log)))) → IfOk told (λ t. IsEarlyTold kept t.0 t.1.items)
told_early made kept report (Err error) entries early reported counted given = tt
told_early made kept (Err error) (Ok t) entries early reported counted given = absurd given.1
told_early made kept (Ok text) (Ok t) entries early reported counted given = record {
  made = made;
  early = early;
  status_is = given.0;
  text_is = given.1 ∙ ap (λ (front : List ℕ). front ++ behind_text kept.outcome (drop entries (reverse kept.link.log))) reported
      ∙ ap (λ (n : ℕ). report_of made ++ behind_text kept.outcome (drop n (reverse kept.link.log))) counted;
}
