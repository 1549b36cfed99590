use Rattle.std.proofs.Common.{◌≡◌, ◌+◌, ℕ, length, List, ap, ◌∙◌, arith}
use Rattle.std.specs.Prelude.{option_copied, Option}
use Rattle.std.specs.Borrow.{Bor}
use Rattle.sspi_scenario.specs.Lines.{lines_of}
use Rattle.sspi_scenario.specs.Reads.{lines_after}
use Rattle.sspi_scenario.specs.Faults.{lines_from}
use Rattle.sspi_scenario.specs.Scenario.{scenario_of_lines}
use Rattle.sspi_scenario.proofs.Walk.{left, told-start, told-more, told-fault, told-end, left-shorter}
use Rattle.sspi_scenario.proofs.scenario.read.Goals as goal

pub loop-rest-init : goal.loop-rest-init
loop-rest-init c = record {
  told = told-start c.args.purpose c.in_ok-draft.draft (lines_of c.args.text.now) c.in_ok-draft.ensures;
  fits = omega arith;
}

pub returns-in-Err-Fault : goal.returns-in-Err-Fault
returns-in-Err-Fault c =
    let cut = ap (λ (r : Option (Bor (List ℕ))). lines_after (option_copied r)) c.in-Some.is ∙ c.first_line.ensures.lines in
    told-fault c.args.purpose c.loop-rest.draft c.loop-rest.number
    (scenario_of_lines c.args.purpose (lines_from c.args.purpose 1 (lines_of c.args.text.now)))
    (lines_after (option_copied c.loop-rest.rest)) c.first_line.result.0.now (lines_after (option_copied c.first_line.result.1)) cut
    (rw c.in-Err-Fault.field-0-is at c.in-Err-Fault.ensures) c.loop-rest.invariant.told

pub overflow_add-number : goal.overflow_add-number
overflow_add-number c = let fits = c.loop-rest.invariant.fits in omega arith

pub loop-rest-preserved : goal.loop-rest-preserved
loop-rest-preserved c =
    let cut = ap (λ (r : Option (Bor (List ℕ))). lines_after (option_copied r)) c.in-Some.is ∙ c.first_line.ensures.lines in
    let size : left (option_copied c.loop-rest.rest) ≡ length c.in-Some.text.now + 1 =
    ap (λ (r : Option (Bor (List ℕ))). left (option_copied r)) c.in-Some.is in
    let less = left-shorter c.first_line.result.1 (length c.in-Some.text.now) c.first_line.ensures.shorter in
    let fits = c.loop-rest.invariant.fits in
    record {
      told = told-more c.args.purpose c.loop-rest.draft c.loop-rest.number
          (scenario_of_lines c.args.purpose (lines_from c.args.purpose 1 (lines_of c.args.text.now)))
          (lines_after (option_copied c.loop-rest.rest)) c.first_line.result.0.now (lines_after (option_copied c.first_line.result.1)) cut
          c.take_line.new.self c.in-Ok.ensures c.loop-rest.invariant.told;
      fits = omega (arith, size, less, fits);
    }

pub returns : goal.returns
returns c =
    told-end c.args.purpose c.loop-rest.draft c.loop-rest.number
    (scenario_of_lines c.args.purpose (lines_from c.args.purpose 1 (lines_of c.args.text.now)))
    (rw c.in_default.is at c.loop-rest.invariant.told)
