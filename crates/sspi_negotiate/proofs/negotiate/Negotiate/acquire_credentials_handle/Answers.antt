use Rattle.std.proofs.Common.{rules, option_copied, Ok, Err}
use Rattle.std.proofs.lemmas.Result.{err_from_is_err_and}
use Rattle.sspi_mech.specs.Refusals.{error_of}
use Rattle.sspi_negotiate.proofs.Acquiring.{acquired_in_hand, refused_in_hand}
use Rattle.sspi_negotiate.proofs.negotiate.Negotiate.acquire_credentials_handle.Goals as goal

pub returns-in_ok-acquire_in_hand-in-None-clause-acquired : goal.returns-in_ok-acquire_in_hand-in-None-clause-acquired
returns-in_ok-acquire_in_hand-in-None-clause-acquired g c = acquired_in_hand g.N.Mechanism.meaning g.K.Mechanism.meaning c.args.self.now
    c.args.self.now c.acquire_in_hand.new.self c.args.credential_use (option_copied c.args.auth_data)
    (Ok c.in_ok-acquire_in_hand-in-None.field-0) (search rules) (search rules) (search rules) (search rules) (search rules)

pub returns-in_ok-acquire_in-in-Some-clause-acquired : goal.returns-in_ok-acquire_in-in-Some-clause-acquired
returns-in_ok-acquire_in-in-Some-clause-acquired g c = acquired_in_hand g.N.Mechanism.meaning g.K.Mechanism.meaning c.args.self.now
    (record c.args.self.now { mech = c.in-Some.kerberos }) c.acquire_in.new.self c.args.credential_use (option_copied c.args.auth_data)
    (Ok c.in_ok-acquire_in-in-Some.field-0) (search rules) (search rules) (search rules) (search rules) (search rules)

pub returns-in_err-acquire_in_hand-in-None-clause-cause : goal.returns-in_err-acquire_in_hand-in-None-clause-cause
returns-in_err-acquire_in_hand-in-None-clause-cause g c =
    let p = err_from_is_err_and c.from_residual-in_err-acquire_in_hand-in-None.result
    c.from_residual-in_err-acquire_in_hand-in-None.ensures.1 in rw (p.1, p.2)
    (refused_in_hand g.N.Mechanism.meaning g.K.Mechanism.meaning c.args.self.now c.args.self.now c.args.credential_use
    (option_copied c.args.auth_data) (Err (error_of c.in_err-acquire_in_hand-in-None.field-0.0)) (search rules) (search rules)
    c.in_err-acquire_in_hand-in-None.ensures.cause)

pub returns-in_err-acquire_in-in-Some-clause-cause : goal.returns-in_err-acquire_in-in-Some-clause-cause
returns-in_err-acquire_in-in-Some-clause-cause g c =
    let p = err_from_is_err_and c.from_residual-in_err-acquire_in-in-Some.result
    c.from_residual-in_err-acquire_in-in-Some.ensures.1 in rw (p.1, p.2)
    (refused_in_hand g.N.Mechanism.meaning g.K.Mechanism.meaning c.args.self.now (record c.args.self.now { mech = c.in-Some.kerberos })
    c.args.credential_use (option_copied c.args.auth_data) (Err (error_of c.in_err-acquire_in-in-Some.field-0.0))
    (search rules) (search rules) c.in_err-acquire_in-in-Some.ensures.cause)
