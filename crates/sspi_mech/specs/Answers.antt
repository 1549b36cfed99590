use Rattle.std.specs.Prelude.{Result, Ok, Err}
use Rattle.sspi_types.specs.declared.error.Error.{Error}
use Rattle.sspi_mech.specs.declared.step.Answer.{Answer}
use Rattle.sspi_mech.specs.declared.step.Answer.TheVariants as answers
use Rattle.sspi_mech.specs.declared.step.Progressing.{Progressing}
use Rattle.sspi_mech.specs.declared.step.Progressing.TheVariants as progress

-- what a step answered, of a call that returns its refusals as errors
abbrev pub answer_of : Result Progressing Error → Answer
answer_of (Ok (progress.Done step)) = answers.Done step
answer_of (Ok (progress.Suspended request)) = answers.Ask request
answer_of (Err error) = answers.Refused error

-- a fact about the refusal, if a step was refused
abbrev pub IfRefused : Answer → (Error → Type 0) → Type 0
IfRefused (answers.Done step) P = Unit {0}
IfRefused (answers.Ask request) P = Unit {0}
IfRefused (answers.Refused error) P = P error

-- a fact that holds if a step was refused
abbrev pub OnRefused : Answer → Type 0 → Type 0
OnRefused answer P = IfRefused answer (λ _. P)

-- a fact that holds if a step waits for a KDC
abbrev pub OnAsk : Answer → Type 0 → Type 0
OnAsk (answers.Done step) P = Unit {0}
OnAsk (answers.Ask request) P = P
OnAsk (answers.Refused error) P = Unit {0}
