-- A step as a plan: what the selected mechanism is asked in turn, what is done with each answer,
-- and how the step ends. The values next to a question are those left if it is refused, or a KDC is
-- asked.
use Rattle.std.specs.Prelude.{ℕ, List, Bool}
use Rattle.sspi_types.specs.declared.error_kind.ErrorKind.{ErrorKind}
use Rattle.sspi_names.specs.Name.{Name}
use Rattle.sspi_names.specs.declared.credentials.Credentials.{Credentials}
use Rattle.sspi_mech.specs.declared.step.Reply.{Reply}
use Rattle.sspi_mech.specs.declared.step.Step.{Step}
use Rattle.sspi_mech.specs.Calls.{StepArgs, AcceptArgs}
use Rattle.sspi_negotiate.specs.Hand.{Origin}
use Rattle.sspi_negotiate.specs.Values.{Values}

pub data Plan : Type 0 where
  -- the step is made, and leaves these values
  Goes : Values → Step → Plan
  -- it is refused with this kind
  Stops : Values → ErrorKind → Plan
  -- another mechanism is made and selected
  Takes : Origin → Plan → Plan
  -- a client's step, and the same step once a KDC has replied; the last is what follows a refusal
  Steps : StepArgs → Values → (Step → Plan) → (ErrorKind → Plan) → Plan
  Resumes : Reply → Values → (Step → Plan) → (ErrorKind → Plan) → Plan
  -- a server's step
  Accepts : AcceptArgs → Values → (Step → Plan) → Plan
  -- whether it authenticates user-to-user
  Pairs : (Bool → Plan) → Plan
  -- the name of the peer; the identities that the peer may have
  Names : Values → (Name → Plan) → Plan
  Identifies : List Credentials → Values → Plan → Plan
  -- the MIC of a text; whether this is the MIC of this text
  Signs : List ℕ → Values → (List ℕ → Plan) → Plan
  Verifies : List ℕ → List ℕ → Values → Plan → Plan
