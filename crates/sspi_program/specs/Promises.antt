-- What each command promises if it is carried out.
use Rattle.std.specs.Prelude.{◌≡◌, ℕ, List, Option, IfSome, IsSome, IsSomeAnd}
use Rattle.sspi_scenario.specs.declared.scenario.Scenario.{Scenario}
use Rattle.sspi_program.specs.declared.command.Command.{Command}
use Rattle.sspi_program.specs.declared.command.Command.TheVariants.{Told, Gen, Explain}
use Rattle.sspi_program.specs.declared.command.Task.{Task}
use Rattle.sspi_program.specs.declared.command.Task.TheVariants.{Delegate, Play, Gate, Audit, Early}
use Rattle.sspi_program.specs.declared.command.Task.TheVariants.{Desk}
use Rattle.sspi_program.specs.declared.record.Conducted.{Conducted}
use Rattle.sspi_program.specs.declared.record.Record.{Record}
use Rattle.sspi_program.specs.Audit.{IsAudited}
use Rattle.sspi_program.specs.Desk.{HasSeats, SeatsDue}
use Rattle.sspi_program.specs.Delegate.{HasExchange, DelegateEnds}
use Rattle.sspi_program.specs.Early.{HasEarly, IsEarlyTold, EarlyEnds}
use Rattle.sspi_program.specs.Explain.{ExplainDue, ExplainEnds}
use Rattle.sspi_program.specs.Gate.{IsGated, GateEnds}
use Rattle.sspi_program.specs.Generate.{AreNumbered, TallyDue}
use Rattle.sspi_program.specs.Kept.{nothing, HasRecordAlone, HasTallyAlone, HasSeatsAlone}
use Rattle.sspi_program.specs.Play.{HasPlay, PlayEnds}
use Rattle.sspi_program.specs.Said.{status_of, RecordDue, IsDue}
use Rattle.sspi_program.specs.Status.{IsUnlessWrite}

-- if a record is kept, this holds for it, its scenario is such, and it did not run out of memory;
-- and nothing else is kept
abbrev pub KeepsRecord : (Record → Type 0) → (Scenario → Type 0) → Conducted → Type 0
KeepsRecord P IsOf conducted =
    IfSome conducted.kept (λ kept. P kept × IsOf kept.scenario × IsSome (status_of kept.outcome)) ×
    HasRecordAlone conducted

-- the same for the records of many scenarios
abbrev pub KeepsTally : (List Record → Type 0) → Conducted → Type 0
KeepsTally P conducted = IfSome conducted.tally P × HasTallyAlone conducted

-- the same for the sessions of one such scenario
abbrev pub KeepsSeats : ℕ → (Scenario → Type 0) → Conducted → Type 0
KeepsSeats count IsOf conducted =
    IfSome conducted.seats (λ seats. (scenario : Scenario) × IsOf scenario ×
    HasSeats count scenario seats) × HasSeatsAlone conducted

-- what a command keeps, for such a scenario
abbrev pub Keeps : Command → (Scenario → Type 0) → Conducted → Type 0
Keeps (Told Delegate) IsOf conducted = KeepsRecord HasExchange IsOf conducted
Keeps (Told Play) IsOf conducted = KeepsRecord HasPlay IsOf conducted
Keeps (Told Gate) IsOf conducted = KeepsRecord HasExchange IsOf conducted
Keeps (Told Audit) IsOf conducted = KeepsRecord HasExchange IsOf conducted
Keeps (Told Early) IsOf conducted = KeepsRecord HasEarly IsOf conducted
Keeps (Told (Desk count)) IsOf conducted = KeepsSeats count IsOf conducted
Keeps (Gen count) IsOf conducted = KeepsTally (AreNumbered count) conducted
Keeps Explain IsOf conducted = conducted ≡ nothing conducted.status

-- a record is kept for which this status and this text are due
abbrev pub KeptDue : (Record → ℕ → List ℕ → Type 0) → Option Record → ℕ → List ℕ → Type 0
KeptDue D kept status text = IsSomeAnd kept (λ k. D k status text)

-- the status, 0 or 1, and the text that are due for what a task keeps
abbrev pub TaskDue : Task → Conducted → ℕ → List ℕ → Type 0
TaskDue Delegate conducted status text = KeptDue RecordDue conducted.kept status text
TaskDue Play conducted status text = KeptDue RecordDue conducted.kept status text
TaskDue Gate conducted status text = KeptDue IsGated conducted.kept status text
TaskDue Audit conducted status text = KeptDue IsAudited conducted.kept status text
TaskDue Early conducted status text = KeptDue IsEarlyTold conducted.kept status text
TaskDue (Desk count) conducted status text =
    IsSomeAnd conducted.seats (λ seats. SeatsDue seats status text)

-- the same for a command, if the source has this left
abbrev pub Due : Command → Option (List ℕ) → Conducted → ℕ → List ℕ → Type 0
Due (Told task) left conducted status text = TaskDue task conducted status text
Due (Gen count) left conducted status text =
    IsSomeAnd conducted.tally (λ tally. TallyDue tally status text)
Due Explain left conducted status text = ExplainDue left status text

-- what a command made of such a scenario
abbrev pub Does : Command → Option (List ℕ) → (Scenario → Type 0) → Conducted → List ℕ → Type 0
Does command left IsOf conducted text = Keeps command IsOf conducted ×
    IsDue (Due command left conducted) conducted.status text

-- the status if the source exposes its text
abbrev pub EndsSo : Command → Option (List ℕ) → ℕ → Type 0
EndsSo (Told Delegate) left status = IfSome left (λ text. DelegateEnds text status)
EndsSo (Told Play) left status = IfSome left (λ text. PlayEnds text status)
EndsSo (Told Gate) left status = IfSome left (λ text. GateEnds text status)
EndsSo (Told Audit) left status = IfSome left (λ text. DelegateEnds text status)
EndsSo (Told Early) left status = IfSome left (λ text. EarlyEnds text status)
EndsSo (Told (Desk count)) left status = Unit {0}
EndsSo (Gen count) left status = IsUnlessWrite 0 status
EndsSo Explain left status = IfSome left (λ text. ExplainEnds text status)
