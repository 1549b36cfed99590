-- What the word `early` promises.
use Rattle.std.specs.Prelude.{◌≡◌, ℕ, List, [], ◌++◌, length, drop, reverse, Some, Result, Ok}
use Rattle.sspi_delegate.specs.declared.carried.Carried.{Carried}
use Rattle.sspi_early.specs.declared.answer.Early.{Early}
use Rattle.sspi_early.specs.declared.answer.EarlyError.{EarlyError}
use Rattle.sspi_early.specs.Authorizes.{told_of}
use Rattle.sspi_early.specs.Early.{GoesOn, shown_by}
use Rattle.sspi_early.specs.Policy.{is_listed, list_meaning}
use Rattle.sspi_credssp.specs.Exchange.{delegated_as}
use Rattle.sspi_report.specs.Early.{early_text}
use Rattle.sspi_scenario.specs.declared.purpose.Purpose.TheVariants as purposes
use Rattle.sspi_scenario.specs.declared.scenario.Scenario.{Scenario}
use Rattle.sspi_scenario.specs.Scenario.{scenario_of}
use Rattle.sspi_program.specs.declared.record.Record.{Record}
use Rattle.sspi_program.specs.declared.record.RunOutcome.{RunOutcome}
use Rattle.sspi_program.specs.declared.record.RunOutcome.TheVariants as outcomes
use Rattle.sspi_program.specs.Delegate.{HasExchange}
use Rattle.sspi_program.specs.Exchange.{around}
use Rattle.sspi_program.specs.Outcome.{messages_in, user_identity, IsMatching}
use Rattle.sspi_program.specs.Said.{heard_status, report_of, status_of}
use Rattle.sspi_program.specs.Status.{EndsAs}

-- After the exchange that `made` records, the server told what the scenario's policy decides. Only
-- the link, the policy and the outcome differ from `made`: the outcome is that of the whole.
pub record IsEarlyOf (made r : Record) : Type 0 where
  pub exchange : HasExchange made
  pub rest : r ≡ record made { link = r.link; policy = r.policy; outcome = r.outcome }
  pub policy : r.policy ≡ made.scenario.admit
  pub answer : Result Early EarlyError
  pub outcome_is : r.outcome ≡ outcomes.Early answer
  pub goes_on : GoesOn (shown_by around) list_meaning exchange.exchange.answer made.link r.link
      made.scenario.admit r.policy answer

-- the ends of the scenario met, and the server told its client whether the user may log on
pub record HasEarly (kept : Record) : Type 0 where
  pub made : Record
  pub early : IsEarlyOf made kept

-- the entries of the log that came after the exchange, the first one first
abbrev pub entries_behind : Record → Record → List Carried
entries_behind made kept = drop (length made.link.log) (reverse kept.link.log)

-- what follows the report of the exchange
abbrev pub behind_text : RunOutcome → List Carried → List ℕ
behind_text (outcomes.Delegated answer) entries = []
behind_text (outcomes.Played answer) entries = []
behind_text (outcomes.Early answer) entries = early_text entries answer

-- The report of the exchange, followed by the entries that came after it and the line of the early
-- result; the status is 0 if the client heard that its user may log on.
pub record IsEarlyTold (kept : Record) (status : ℕ) (text : List ℕ) : Type 0 where
  pub made : Record
  pub early : IsEarlyOf made kept
  pub status_is : status_of kept.outcome ≡ Some status
  pub text_is : text ≡ report_of made ++ behind_text kept.outcome (entries_behind made kept)

-- the status if the exchange completes: 0 if the delegated name is one that the scenario admits,
-- and otherwise 1
abbrev pub admitted_status : Scenario → ℕ
admitted_status scenario =
    heard_status (told_of (is_listed scenario.admit
    (delegated_as scenario.delegation (user_identity scenario)).username))

-- the status if the text is that of a scenario whose ends match
abbrev pub EarlyEnds : List ℕ → ℕ → Type 0
EarlyEnds text status = (scenario : Scenario) → scenario_of purposes.Early text ≡ Ok scenario →
    (matching : IsMatching scenario) →
    EndsAs (admitted_status scenario) (messages_in scenario matching) scenario.turns status
