use Rattle.std.proofs.lemmas.Result.{err_from_is_err_and}
use Rattle.sspi_scenario.proofs.Walk.{unreadable, parsed-fault, parsed}
use Rattle.sspi_scenario.proofs.scenario.Scenario.parse.Goals as goal

pub returns-in_err-checked : goal.returns-in_err-checked
returns-in_err-checked c =
    let p = err_from_is_err_and c.from_residual.result c.from_residual.ensures.1 in
    rw (p.1, p.2, c.in_err-checked.ensures.refused.0) (unreadable c.args.purpose c.args.text.now c.in_err-checked.ensures.refused.1)

pub returns-in_err-read : goal.returns-in_err-read
returns-in_err-read c =
    let p = err_from_is_err_and c.from_residual-in_err-read.result c.from_residual-in_err-read.ensures.1 in
    rw (p.1, p.2)
    (parsed-fault c.args.purpose c.args.text.now c.in_ok-checked.field-0.now c.in_ok-checked.ensures.text.0 c.in_ok-checked.ensures.text.1
    c.in_err-read.field-0.0 c.in_err-read.ensures)

pub returns : goal.returns
returns c =
    parsed c.args.purpose c.args.text.now c.in_ok-checked.field-0.now c.in_ok-checked.ensures.text.0 c.in_ok-checked.ensures.text.1
    c.in_ok-read.field-0 c.complete.result c.in_ok-read.ensures c.complete.ensures
