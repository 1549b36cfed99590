use Rattle.std.proofs.Common.{Some, rules}
use Rattle.sspi_explain.specs.Request.{error_code_told}
use Rattle.sspi_explain.proofs.request.tell_error_code.Goals as goal

pub returns-in_ok-field-in-Some : goal.returns-in_ok-field-in-Some
unfolding error_code_told
returns-in_ok-field-in-Some c = (Some (record { 0 = c.in_ok-code-in-Some.code }), search rules)
