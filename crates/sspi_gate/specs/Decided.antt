-- The answers that the two streams decide: all but faults of a stream and out of memory.
use Rattle.std.specs.Prelude.{Result, Ok, Err}
use Rattle.sspi_gate.specs.declared.answer.GateError.{GateError}
use Rattle.sspi_gate.specs.declared.answer.GateFault.{GateFault}
use Rattle.sspi_gate.specs.declared.answer.GateFault.TheVariants.{Bad, Version, ReadFault}
use Rattle.sspi_gate.specs.declared.answer.GateFault.TheVariants.{WriteFault, TurnsSpent}
use Rattle.sspi_gate.specs.declared.answer.GateFault.TheVariants.{InsufficientMemory}
use Rattle.sspi_gate.specs.declared.answer.Relayed.{Relayed}

abbrev pub IsOfRequests : GateFault → Type 0
IsOfRequests (Bad end kind) = Unit {0}
IsOfRequests (Version end) = Unit {0}
IsOfRequests (ReadFault end) = ⊥
IsOfRequests (WriteFault end) = ⊥
IsOfRequests TurnsSpent = Unit {0}
IsOfRequests InsufficientMemory = ⊥

abbrev pub IsDecided : Result Relayed GateError → Type 0
IsDecided (Ok relayed) = Unit {0}
IsDecided (Err error) = IsOfRequests error.why
