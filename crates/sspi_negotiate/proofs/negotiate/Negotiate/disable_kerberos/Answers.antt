use Rattle.sspi_negotiate.proofs.Beginning.{on_err, only_ntlm}
use Rattle.sspi_negotiate.specs.Hand.{hand}
use Rattle.sspi_mech.specs.Calls.{step_args}
use Rattle.sspi_negotiate.specs.Holding.{user_of}
use Rattle.sspi_negotiate.proofs.negotiate.Negotiate.disable_kerberos.Goals as goal

pub returns-clause-held : goal.returns-clause-held
returns-clause-held g c = rw (← c.self.view_is) c.with_handle.ensures.held

pub returns-clause-asked : goal.returns-clause-asked
returns-clause-asked g c = rw (← c.self.view_is) c.with_handle.ensures.asked

pub returns-clause-kept : goal.returns-clause-kept
returns-clause-kept g c = rw (← c.self.view_is) c.with_handle.ensures.kept

pub returns-clause-begun : goal.returns-clause-begun
returns-clause-begun g c = rw (← c.self.view_is) (λ first ntlm. on_err c.with_handle.result
    (only_ntlm (hand g.N.Mechanism.meaning g.K.Mechanism.meaning) _ c.with_handle.new.self (user_of (step_args c.args.args.now).handle)
    (step_args c.args.args.now) ntlm) (c.with_handle.ensures.begun first))
