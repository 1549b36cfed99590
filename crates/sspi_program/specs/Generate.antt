-- What the word `gen` promises.
use Rattle.std.specs.Prelude.{◌≡◌, ℕ, ◌%◌, ◌==◌, ◌⊎◌, Bool, false, List, length, sum_by, count_by}
use Rattle.std.specs.Prelude.{Some, IsSome, Ok, Err, if◌then◌else◌}
use Rattle.std.specs.List.{slice_get}
use Rattle.sspi_names.specs.declared.identity.AuthIdentity.{AuthIdentity}
use Rattle.sspi_delegate.specs.declared.answer.DelegateError.TheVariants.{TurnsSpent}
use Rattle.sspi_report.specs.Summary.{is_of, summary_text}
use Rattle.sspi_report.specs.declared.summary.Kind.{Kind}
use Rattle.sspi_report.specs.declared.summary.Kind.TheVariants as kinds
use Rattle.sspi_report.specs.declared.summary.Summary.{Summary}
use Rattle.sspi_scenario.specs.Numbered.{numbered}
use Rattle.sspi_program.specs.declared.record.Record.{Record}
use Rattle.sspi_program.specs.declared.record.RunOutcome.{RunOutcome}
use Rattle.sspi_program.specs.declared.record.RunOutcome.TheVariants.{Delegated, Played, Early}
use Rattle.sspi_program.specs.Delegate.{HasExchange}
use Rattle.sspi_program.specs.Outcome.{user_identity}
use Rattle.sspi_program.specs.Said.{status_of}

-- ---- the exchange of a number

-- nothing prevents it
abbrev pub IsFree : ℕ → Type 0
IsFree i = (i % 8 ≡ 0) ⊎ ((i % 8 ≡ 1) ⊎ ((i % 8 ≡ 2) ⊎ (i % 8 ≡ 5)))

-- the messages that the client then makes: three by NTLM alone, four in a negotiation
abbrev pub messages_at : ℕ → ℕ
messages_at i = if i % 2 == 0 then 3 else 4

-- the server has these credentials, after this many messages of the client
abbrev pub HasDelegated : ℕ → AuthIdentity → RunOutcome → Type 0
HasDelegated messages identity (Delegated (Ok delegation)) = (delegation.rounds ≡ messages) ×
    (delegation.credentials ≡ identity)
HasDelegated messages identity (Delegated (Err error)) = ⊥
HasDelegated messages identity (Played answer) = ⊥
HasDelegated messages identity (Early answer) = ⊥

-- The exchange of the scenario of a number, in which memory did not run out. If nothing prevents
-- it, the server has the user's credentials; if the client may make only two messages, its turns
-- are spent.
pub record IsNumbered (i : ℕ) (r : Record) : Type 0 where
  pub scenario_is : r.scenario ≡ numbered i
  pub exchange : HasExchange r
  pub had_memory : IsSome (status_of r.outcome)
  pub free : IsFree i → HasDelegated (messages_at i) (user_identity (numbered i)) r.outcome
  pub spent : i % 8 ≡ 4 → r.outcome ≡ Delegated (Err TurnsSpent)

-- the exchanges of this many numbers, from 0 on, in order
pub record AreNumbered (count : ℕ) (tally : List Record) : Type 0 where
  pub counted : length tally ≡ count
  pub each : (i : ℕ) (r : Record) → slice_get tally i ≡ Some r → IsNumbered i r

-- ---- the summary

abbrev pub came_to : Kind → RunOutcome → Bool
came_to kind (Delegated answer) = is_of kind answer
came_to kind (Played answer) = false
came_to kind (Early answer) = false

abbrev pub how_many : Kind → List Record → ℕ
how_many kind tally = count_by (λ r. came_to kind r.outcome) tally

-- how many exchanges there are, how many came to each kind of outcome, and how many messages their
-- logs have in total
abbrev pub summary_of : List Record → Summary
summary_of tally = record {
  runs = length tally;
  ok = how_many kinds.Ok tally;
  client = how_many kinds.Client tally;
  server = how_many kinds.Server tally;
  read = how_many kinds.Read tally;
  write = how_many kinds.Write tally;
  link = how_many kinds.Link tally;
  turns = how_many kinds.Turns tally;
  messages = sum_by (λ r. length r.link.log) tally;
}

-- the status and the text that are due for many exchanges
abbrev pub TallyDue : List Record → ℕ → List ℕ → Type 0
TallyDue tally status text = (status ≡ 0) × (text ≡ summary_text (summary_of tally))
