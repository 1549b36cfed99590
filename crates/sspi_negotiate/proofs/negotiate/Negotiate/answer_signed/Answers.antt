use Rattle.std.proofs.Common.{rules, refl}
use Rattle.sspi_negotiate.proofs.Tokens.{unspelled, spelled}
use Rattle.std.proofs.Common.{Some, None}
use Rattle.sspi_tokens.specs.Spelling.{spelled_list}
use Rattle.sspi_negotiate.specs.Rows.{signs_text, answers_signed, writes, targ, if_some}
use Rattle.sspi_negotiate.specs.Values.{values_of}
use Rattle.std.proofs.lemmas.Result.{err_from_is_err_and}
use Rattle.sspi_negotiate.proofs.negotiate.Negotiate.answer_signed.Goals as goal

pub returns-in_err-text-clause-step : goal.returns-in_err-text-clause-step
unfolding answers_signed
returns-in_err-text-clause-step g c = let p = err_from_is_err_and c.from_residual.result c.from_residual.ensures.1 in rw (p.1, p.2)
    (unspelled (spelled_list c.args.self.now.list)
    (λ o. signs_text o (values_of c.args.self.now)
    (λ mic. writes (targ c.args.result_field None (if_some c.args.token) (Some mic)) (values_of c.args.self.now)
    (record (values_of c.args.self.now) { state = c.args.state }) c.args.status)) _ refl (search rules))

pub returns-clause-step : goal.returns-clause-step
unfolding answers_signed
returns-clause-step g c = spelled (spelled_list c.args.self.now.list)
    (λ o. signs_text o (values_of c.args.self.now)
    (λ mic. writes (targ c.args.result_field None (if_some c.args.token) (Some mic)) (values_of c.args.self.now)
    (record (values_of c.args.self.now) { state = c.args.state }) c.args.status)) c.in_ok-text.text (search rules) (search rules)
