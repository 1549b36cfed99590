use Rattle.std.proofs.Common.{◌∙◌, sym}
use Rattle.std.proofs.lemmas.Result.{err_from_is_err_and}
use Rattle.sspi_explain.specs.Token.{mech_told, mechs_told}
use Rattle.sspi_explain.proofs.Mechs.{telling_start, telling_step, telling_end, telling_fault}
use Rattle.sspi_explain.proofs.Mechs.{refusal_given, shorter}
use Rattle.sspi_explain.proofs.token.tell_mechs.Goals as goal

pub mechs-init : goal.mechs-init
mechs-init c = telling_start c.args.page.now c.args.list.now

pub mechs-smaller : goal.mechs-smaller
mechs-smaller c = shorter c.mechs.page c.mechs.list _ c.in_ok-tell_mech.ensures

pub mechs-preserved : goal.mechs-preserved
mechs-preserved c = telling_step _ c.mechs.invariant (sym c.is_next.ensures ∙
    c.mechs-test.true) c.in_ok-tell_mech.ensures

pub returns-in_err-tell_mech : goal.returns-in_err-tell_mech
returns-in_err-tell_mech c =
    let next = sym c.is_next.ensures ∙ c.mechs-test.true in
    let p = err_from_is_err_and c.from_residual.result c.from_residual.ensures.1 in
    rw (p.1, p.2) (refusal_given c.in_err-tell_mech.field-0.0 c.tell_mech.new.page c.tell_mech.new.list
    (mech_told c.mechs.page c.mechs.list) (mechs_told c.args.page.now c.args.list.now)
    (λ told fault e. telling_fault told fault c.mechs.invariant next e) c.in_err-tell_mech.ensures)

pub returns : goal.returns
returns c = telling_end c.mechs.invariant (sym c.is_next.ensures ∙ c.mechs-test.false)
