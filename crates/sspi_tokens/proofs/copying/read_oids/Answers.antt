use Rattle.std.proofs.Common.{◌∙◌, sym}
use Rattle.std.proofs.lemmas.Result.{err_from_is_err_and}
use Rattle.sspi_ber.specs.Pieces.{element_at}
use Rattle.sspi_tokens.specs.Reading.{oids_at}
use Rattle.sspi_tokens.proofs.OidsLoop.{reading_step, reading_end, reading_fault, fault_given, shorter}
use Rattle.sspi_tokens.proofs.copying.read_oids.Goals as goal

pub returns-in_err-content : goal.returns-in_err-content
returns-in_err-content c =
    let next = sym c.is_next.ensures ∙ c.oids-test.true in
    let p = err_from_is_err_and c.from_residual.result c.from_residual.ensures.1 in
    rw (p.1, p.2) (fault_given c.in_err-content.field-0.0 (element_at 0x06 c.oids.source) (oids_at c.args.source.now)
    (λ fault e. reading_fault fault c.oids.invariant next e) c.in_err-content.ensures.read)

pub oids-smaller : goal.oids-smaller
oids-smaller c = shorter c.oids.source c.in_ok-content.content.now c.read_element.new.source c.in_ok-content.ensures.read

pub oids-preserved : goal.oids-preserved
oids-preserved c =
    let next = sym c.is_next.ensures ∙ c.oids-test.true in
    let step = reading_step c.in_ok-content.content.now c.read_element.new.source c.oids.invariant next c.in_ok-content.ensures.read in
    rw (c.in_ok-push.ensures.items, c.in_ok-from_content.ensures) step

pub returns : goal.returns
returns c = reading_end c.oids.invariant (sym c.is_next.ensures ∙ c.oids-test.false)
