use Rattle.std.proofs.Common.{◌+◌, ◌∙◌, ap, subst, sym}
use Rattle.std.specs.Prelude.{IsSome, is_some}
use Rattle.sspi_program.specs.Generate.{AreNumbered}
use Rattle.sspi_program.specs.Said.{status_of}
use Rattle.sspi_program.proofs.Numbered.{numbered_exchange}
use Rattle.sspi_program.proofs.Tallying.{tally_more}
use Rattle.sspi_program.proofs.words.generate.add_exchange.Goals as goal

pub returns-then-had_memory : goal.returns-then-had_memory
returns-then-had_memory c are =
    let made = c.in_ok-made.made in
    let memory : IsSome (status_of made.outcome) =
    ap is_some (sym c.status_of.ensures) ∙ sym c.is_some-had_memory.ensures ∙ c.if-had_memory.true in
    subst (AreNumbered (c.args.number + 1)) (sym c.in_ok-push.ensures.ok) (tally_more c.args.number c.args.tally.now made are
    (numbered_exchange c.args.number c.ranges.number.fits made c.in_ok-made.ensures.scenario c.in_ok-made.ensures.exchange memory))
