use Rattle.std.proofs.Common.{Some, sym, ap, ◌∙◌}
use Rattle.std.specs.Result.{result_ok}
use Rattle.std.proofs.lemmas.Result.{err_from_is_err_and}
use Rattle.sspi_scenario.specs.Hex.{hex_of}
use Rattle.sspi_scenario.proofs.Hexes.{hex-refused}
use Rattle.sspi_scenario.proofs.hexadecimal.bytes.Goals as goal

pub returns-in_err-decode : goal.returns-in_err-decode
returns-in_err-decode c =
    let p = err_from_is_err_and c.from_residual.result c.from_residual.ensures.1 in
    rw (p.1, p.2) (hex-refused c.args.text.now c.in_err-decode.field-0.0 c.in_err-decode.ensures.err)

pub returns : goal.returns
unfolding hex_of
returns c = ap result_ok c.in_ok-decode.ensures.ok ∙ ap Some (sym c.from_vec.ensures)
