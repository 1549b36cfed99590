use Rattle.sspi_completeness.specs.WorkedOut.{in_memory}
use Rattle.sspi_faithful.proofs.HandedOn.{delegation_faithful}
use Rattle.sspi_faithful.proofs.worked_exchanges_are_faithful.Goals as goal

pub returns : goal.returns
returns c = λ x messages limit delegation new worked.
    delegation_faithful in_memory worked.old new limit delegation worked.matching worked.undisturbed worked.delegates
