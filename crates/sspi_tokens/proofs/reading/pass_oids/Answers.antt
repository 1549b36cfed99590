use Rattle.std.proofs.Common.{◌∙◌, sym}
use Rattle.std.proofs.lemmas.Result.{err_from_is_err_and}
use Rattle.sspi_ber.specs.Pieces.{element_at}
use Rattle.sspi_tokens.specs.Reading.{oids_at}
use Rattle.sspi_tokens.proofs.OidsLoop.{passed_start, passed_step, passed_end, reading_fault, fault_given, shorter}
use Rattle.sspi_tokens.proofs.reading.pass_oids.Goals as goal

pub oids-init : goal.oids-init
oids-init c = passed_start c.args.source.now

pub oids-smaller : goal.oids-smaller
oids-smaller c = shorter c.oids.source c.in_ok-read_element.field-0.now c.read_element.new.source c.in_ok-read_element.ensures.read

pub oids-preserved : goal.oids-preserved
oids-preserved c =
    let next = sym c.is_next.ensures ∙ c.oids-test.true in
    passed_step c.in_ok-read_element.field-0.now c.read_element.new.source c.oids.invariant next c.in_ok-read_element.ensures.read

pub returns-in_err-read_element-clause-read : goal.returns-in_err-read_element-clause-read
returns-in_err-read_element-clause-read c =
    let next = sym c.is_next.ensures ∙ c.oids-test.true in
    let p = err_from_is_err_and c.from_residual.result c.from_residual.ensures.1 in
    rw (p.1, p.2) (fault_given c.in_err-read_element.field-0.0 (element_at 0x06 c.oids.source) (oids_at c.args.source.now)
    (λ fault e. reading_fault fault c.oids.invariant.reading next e) c.in_err-read_element.ensures.read)

pub returns-clause-read : goal.returns-clause-read
returns-clause-read c = passed_end c.oids.invariant (sym c.is_next.ensures ∙ c.oids-test.false)
