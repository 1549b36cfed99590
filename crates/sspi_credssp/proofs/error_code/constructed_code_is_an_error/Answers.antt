use Rattle.std.proofs.Common.{◌≤◌, arith}
use Rattle.std.proofs.lemmas.Nat.{le_or_r}
use Rattle.sspi_credssp.specs.Requests.{error_code_of}
use Rattle.sspi_credssp.proofs.error_code.constructed_code_is_an_error.Goals as goal

pub returns : goal.returns
returns c = λ kind zero.
    let high : 0xC0000000 ≤ (error_code_of kind).0 = le_or_r _ _ in
    omega arith
