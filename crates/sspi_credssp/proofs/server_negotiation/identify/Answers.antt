use Rattle.std.proofs.Common.{rules, subst}
use Rattle.std.proofs.lemmas.Result.{err_from_is_err_and}
use Rattle.sspi_mech.specs.Calls.{ToIdentify}
use Rattle.sspi_credssp.specs.Context.{either}
use Rattle.sspi_credssp.specs.ServerCause.{looked, unset}
use Rattle.sspi_credssp.specs.ServerTurn.{is_identified}
use Rattle.sspi_credssp.proofs.server_negotiation.identify.Goals as goal

pub returns-in_err-candidates-clause-cause : goal.returns-in_err-candidates-clause-cause
returns-in_err-candidates-clause-cause g c =
    let p = err_from_is_err_and c.from_residual-in_err-candidates.result c.from_residual-in_err-candidates.ensures.1 in
    rw (p.1, p.2) (λ memory. looked c.in_ok-names.names.username (search rules) (c.in_err-candidates.ensures.cause memory))

pub returns-clause-identified : goal.returns-clause-identified
returns-clause-identified g c =
    let it = either g.N.Mechanism.REQUESTS g.N.Mechanism.meaning g.K.Mechanism.meaning in
    is_identified c.in_ok-names.names.username c.in_ok-candidates.candidates.items (search rules) (search rules)
    c.in_ok-candidates.ensures.some
    (subst (λ all. it.identifies c.args.context.now all c.custom_set_auth_identities.new.self) c.in_ok-identities.ensures.ok
    c.in_ok-custom_set_auth_identities.ensures.identified)

pub returns-in_err-custom_set_auth_identities-clause-cause : goal.returns-in_err-custom_set_auth_identities-clause-cause
returns-in_err-custom_set_auth_identities-clause-cause g c =
    let it = either g.N.Mechanism.REQUESTS g.N.Mechanism.meaning g.K.Mechanism.meaning in
    let kind = c.in_err-custom_set_auth_identities.field-0.0.error_type in
    let p = err_from_is_err_and c.from_residual-in_err-custom_set_auth_identities.result
    c.from_residual-in_err-custom_set_auth_identities.ensures.1 in
    rw (p.1, p.2) (λ memory. unset c.in_ok-names.names.username c.in_ok-candidates.candidates.items (search rules) (search rules)
    c.in_ok-candidates.ensures.some
    (subst (λ all. it.refuses c.args.context.now (ToIdentify all) kind) c.in_ok-identities.ensures.ok
    (c.in_err-custom_set_auth_identities.ensures.cause.kind memory)))
