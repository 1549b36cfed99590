-- What an exchange takes of the last delivery in its log, and what it adds to the log.
use Rattle.std.proofs.Common.{◌≡◌, ◌≤◌, ◌+◌, suc, ℕ, inl, inr, List, [], ◌∷◌, ◌++◌, length, reverse, slice_get, Option, None, Some}
use Rattle.std.proofs.Common.{IfSome, Bool, true, false, ◌||◌, nat_le, Result, Ok, Err, sym, ap, subst, arith, length-append}
use Rattle.std.proofs.lemmas.Bool.{cases_lt}
use Rattle.std.proofs.lemmas.List.{length-reverse}
use Rattle.std.proofs.lemmas.Option.{slice_get_past}
use Rattle.sspi_credssp.specs.declared.turn.Outcome.{Outcome}
use Rattle.sspi_credssp.specs.declared.turn.Outcome.TheVariants as outcome
use Rattle.sspi_credssp.specs.declared.turn.Turn.{Turn}
use Rattle.sspi_delegate.specs.declared.answer.DelegateError.{DelegateError}
use Rattle.sspi_delegate.specs.declared.answer.DelegateError.TheVariants as errors
use Rattle.sspi_delegate.specs.declared.answer.Delegation.{Delegation}
use Rattle.sspi_delegate.specs.declared.carried.Carried.{Carried}
use Rattle.sspi_delegate.specs.Log.{delivery_limit, IsUnread, Logged, LoggedButLast, RunEnds}
use Rattle.sspi_delegate.specs.Log.{Given, carried, too_long, link_failed, no_memory, Lacks, for_a_turn, for_a_message, by_the_client}
use Rattle.sspi_delegate.specs.Log.{by_the_server, Cause}
use Rattle.sspi_delegate.specs.Turns.{GoesOn}
use Rattle.sspi_audit.specs.Run.{IsLeftBehind, LastLeft}
use Rattle.sspi_audit.specs.Shown.{IsCounted}
use Rattle.sspi_audit.proofs.Logs.{at_place}

-- ---- what is left of one delivery

unread_left : (out : Outcome) (e : Carried) (more : List Carried) → IsUnread (e ∷ more) → IsLeftBehind out e
unread_left (outcome.Reply reply) e more is = rw is.0 (omega arith)
unread_left (outcome.Final reply) e more is = rw is.0 (omega arith)
unread_left outcome.Finished e more is = tt
unread_left (outcome.Refused kind reply) e more is = is

within_left : (out : Outcome) (e : Carried) → GoesOn out → length e.delivered ≤ delivery_limit → IsLeftBehind out e
within_left (outcome.Reply reply) e goes within = within
within_left (outcome.Final reply) e goes within = within
within_left outcome.Finished e goes within = absurd goes
within_left (outcome.Refused kind reply) e goes within = absurd goes

open_within : (ended : Bool) (taken : ℕ) → (ended || nat_le delivery_limit taken) ≡ false → taken ≤ delivery_limit
open_within true taken is = absurd (cc (is))
open_within false taken is = grind arith

module _ (base : List Carried) (start : ℕ) (t : Turn) (past : List Turn) (e : Carried) (more : List Carried)
    (logged : LoggedButLast base (t ∷ past) (e ∷ more) → ⊥) where
  given_left : (now : ℕ) → Given base start (t ∷ past) (e ∷ more) now → IsLeftBehind t.outcome e
  given_left now (carried entries unread calm) = unread_left t.outcome e more unread
  given_left now (too_long entries fits calm) = absurd (logged entries)
  given_left now (link_failed entries fits counted) = absurd (logged entries)
  given_left now (no_memory entries fits calm) = absurd (logged entries)

  lacking_left : (limit now : ℕ) → Lacks base start limit (t ∷ past) (e ∷ more) now → IsLeftBehind t.outcome e
  lacking_left limit now (for_a_turn going turn entries within calm) = within_left t.outcome e going.0 within
  lacking_left limit now (for_a_message going entries fits calm) = absurd (logged entries)
  lacking_left limit now (by_the_client newest entries calm) = absurd (logged entries)
  lacking_left limit now (by_the_server newest given) = given_left now given

  cause_left : (limit now : ℕ) (error : DelegateError) → Cause base start limit error (t ∷ past) (e ∷ more) now →
      IsLeftBehind t.outcome e
  cause_left limit now (errors.Client error) cause = absurd (logged cause.2)
  cause_left limit now (errors.Server error) cause = given_left now cause.2
  cause_left limit now (errors.Read end kind) cause = within_left t.outcome e cause.0.0 cause.5
  cause_left limit now (errors.Write end) cause = absurd (logged cause.2)
  cause_left limit now errors.LinkFault cause = elim cause.2 [
    | inl part ↦ within_left t.outcome e cause.0.0 (open_within e.ended (length e.delivered) part.1)
    | inr last ↦ absurd (logged last.0)
  ]
  cause_left limit now errors.TurnsSpent cause = unread_left t.outcome e more cause.4
  cause_left limit now errors.InsufficientMemory cause = lacking_left limit now cause

  end_left : (limit now : ℕ) (result : Result Delegation DelegateError) → RunEnds base start limit result (t ∷ past) (e ∷ more) now →
      IsLeftBehind t.outcome e
  end_left limit now (Ok delegation) ends = absurd (logged ends.0.entries)
  end_left limit now (Err error) ends = cause_left limit now error ends.cause

-- ---- which entry it is

logged_on : (base : List Carried) (turns : List Turn) (log : List Carried) → Logged base turns log →
    length log ≡ length turns + length base
logged_on base [] log is = let same = ap length is in omega (arith, same)
logged_on base (t ∷ past) [] is = absurd is
logged_on base (t ∷ past) (e ∷ log) is = let more = logged_on base past log is.2 in omega (arith, more)

if_none : {A : Type 0} (o : Option A) (P : A → Type 0) → o ≡ None → IfSome o P
if_none o P is = subst (λ (q : Option _). IfSome q P) (sym is) tt

if_some : {A : Type 0} (o : Option A) (x : A) (P : A → Type 0) → o ≡ Some x → P x → IfSome o P
if_some o x P is p = subst (λ (q : Option _). IfSome q P) (sym is) p

module _ (base : List Carried) (start limit now : ℕ) (result : Result Delegation DelegateError) where
  newest_left : (t : Turn) (past : List Turn) (e : Carried) (rest log : List Carried) → log ≡ e ∷ (rest ++ base) →
      length rest ≡ length past → RunEnds base start limit result (t ∷ past) log now → IsLeftBehind t.outcome e
  newest_left t past e rest log parts long ends =
      end_left base start t past e (rest ++ base)
      (λ last. let n = logged_on base past (e ∷ (rest ++ base)) last.1 in absurd (omega (arith, n, long, length-append rest base)))
      limit now result (subst (λ (l : List Carried). RunEnds base start limit result (t ∷ past) l now) parts ends)

  pub last_left : (turns : List Turn) (added log : List Carried) → log ≡ added ++ base → IsCounted turns (reverse added) →
      RunEnds base start limit result turns log now → LastLeft turns (reverse added)
  last_left [] added log parts counted ends = tt
  last_left (t ∷ past) [] log parts counted ends = if_none _ (IsLeftBehind t.outcome) (slice_get_past {X = Carried} [] (length past) (omega arith))
  last_left (t ∷ past) (e ∷ rest) log parts counted ends =
      let long : length (reverse (e ∷ rest)) ≡ suc (length rest) = length-reverse (e ∷ rest) in
      let most = counted.most in
      elim (cases_lt (length rest) (length past)) [
        | inl less ↦ if_none _ (IsLeftBehind t.outcome) (slice_get_past (reverse (e ∷ rest)) (length past) (omega (arith, long, less)))
        | inr more ↦
            let same : length rest ≡ length past = omega (arith, long, most, more) in
            if_some _ e (IsLeftBehind t.outcome) (subst (λ (n : ℕ). slice_get (reverse (e ∷ rest)) n ≡ Some e) same (at_place [] e rest))
            (newest_left t past e rest log parts same ends)
      ]
