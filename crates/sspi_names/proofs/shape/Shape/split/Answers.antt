use Rattle.sspi_names.specs.Name.{at_sign, backslash}
use Rattle.sspi_names.proofs.Parse.{mixed, last_any, first_any, principal_split, bare_split}
use Rattle.sspi_names.proofs.shape.Shape.split.Goals as goal

pub returns-in-Some-Some : goal.returns-in-Some-Some
returns-in-Some-Some c =
    mixed c.args.value.now (last_any c.args.value.now at_sign _ c.in-Some-Some.ensures)
    (first_any c.args.value.now backslash _ c.in-Some-Some.ensures')

pub returns-in-Some-None : goal.returns-in-Some-None
returns-in-Some-None c = principal_split c.args.value.now c.utf8.value c.in-Some-None.at c.in-Some-None.ensures c.in-Some-None.ensures'

pub returns-in-None-None : goal.returns-in-None-None
returns-in-None-None c = bare_split c.args.value.now c.utf8.value (rw c.in-None-None.is-0 at c.last_at_sign.ensures) c.in-None-None.ensures
