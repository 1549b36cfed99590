use Rattle.sspi_credssp.proofs.context.SspiContext.custom_set_auth_identity.Goals as goal

pub returns-in-Negotiate-clause-keytab : goal.returns-in-Negotiate-clause-keytab
returns-in-Negotiate-clause-keytab g c refused = c.custom_set_auth_identity.ensures.keytab (rw c.in-Negotiate.is at refused)

pub returns-in-Negotiate-clause-cause : goal.returns-in-Negotiate-clause-cause
returns-in-Negotiate-clause-cause g c taken =
    rw c.in-Negotiate.is (c.custom_set_auth_identity.ensures.cause (rw c.in-Negotiate.is at taken))
