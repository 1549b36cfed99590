-- What the word `delegate` promises.
use Rattle.std.specs.Prelude.{◌≡◌, ℕ, List, Ok}
use Rattle.sspi_scenario.specs.declared.purpose.Purpose.TheVariants.{Exchange}
use Rattle.sspi_scenario.specs.declared.scenario.Scenario.{Scenario}
use Rattle.sspi_scenario.specs.Scenario.{scenario_of}
use Rattle.sspi_program.specs.declared.record.Record.{Record}
use Rattle.sspi_program.specs.Exchange.{IsExchange}
use Rattle.sspi_program.specs.Outcome.{messages_in, IsMatching, IsOutcome}
use Rattle.sspi_program.specs.Status.{EndsMatched}

-- the ends of the scenario met, with the outcome that they have if nothing prevents it
pub record HasExchange (kept : Record) : Type 0 where
  pub exchange : IsExchange kept
  pub comes : IsOutcome kept.scenario exchange.answer

-- the status if the text is that of a scenario whose ends match
abbrev pub DelegateEnds : List ℕ → ℕ → Type 0
DelegateEnds text status = (scenario : Scenario) → scenario_of Exchange text ≡ Ok scenario →
    (matching : IsMatching scenario) →
    EndsMatched (messages_in scenario matching) scenario.turns status
