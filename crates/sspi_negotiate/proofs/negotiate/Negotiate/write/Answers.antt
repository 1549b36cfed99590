use Rattle.std.proofs.Common.{rules, refl}
use Rattle.sspi_negotiate.proofs.Tokens.{unspelled, spelled}
use Rattle.sspi_tokens.specs.Spelling.{spelled_targ}
use Rattle.sspi_negotiate.specs.Rows.{written, writes}
use Rattle.sspi_negotiate.specs.Values.{values_of}
use Rattle.std.proofs.lemmas.Result.{err_from_is_err_and}
use Rattle.sspi_negotiate.proofs.negotiate.Negotiate.write.Goals as goal

pub returns-in_err-output-clause-step : goal.returns-in_err-output-clause-step
unfolding writes
returns-in_err-output-clause-step g c = let p = err_from_is_err_and c.from_residual.result c.from_residual.ensures.1 in rw (p.1, p.2)
    (let v = values_of c.args.self.now in
    unspelled (spelled_targ c.args.token.now) (λ o. written o v (record v { need = c.args.need; state = c.args.state }) c.args.status)
    _ refl (search rules))

pub returns-clause-step : goal.returns-clause-step
unfolding writes
returns-clause-step g c = let v = values_of c.args.self.now in
    spelled (spelled_targ c.args.token.now) (λ o. written o v (record v { need = c.args.need; state = c.args.state }) c.args.status)
    c.in_ok-output.output (search rules) (search rules)
