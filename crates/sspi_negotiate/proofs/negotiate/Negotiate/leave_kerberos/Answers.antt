use Rattle.std.proofs.Common.{false}
use Rattle.sspi_negotiate.proofs.Holding.{held_left, kept_past}
use Rattle.sspi_negotiate.specs.Holding.{user_of}
use Rattle.sspi_negotiate.proofs.Passing.{passed}
use Rattle.sspi_negotiate.specs.Client.{with_handle}
use Rattle.sspi_negotiate.specs.Values.{values_of}
use Rattle.sspi_negotiate.specs.declared.protocol.Protocol.TheVariants as protocols
use Rattle.sspi_mech.specs.Calls.{step_args}
use Rattle.sspi_negotiate.proofs.Beginning.{begun_left}
use Rattle.sspi_negotiate.specs.Hand.{hand}
use Rattle.sspi_negotiate.proofs.negotiate.Negotiate.leave_kerberos.Goals as goal

pub returns-clause-step : goal.returns-clause-step
returns-clause-step g c = passed c.in_ok-take_ntlm.ensures.step
    (λ v. with_handle (record v { packages = record v.packages { kerberos = false } }) (step_args c.args.args.now))
    c.disable_kerberos.ensures.step

pub returns-clause-kept : goal.returns-clause-kept
returns-clause-kept g c = kept_past (record (values_of c.args.self.now) { hand = protocols.Ntlm }) (values_of c.take_ntlm.new.self)
    c.in_ok-take_ntlm.ensures.step.onward.0 c.disable_kerberos.ensures.kept

pub returns-clause-held : goal.returns-clause-held
returns-clause-held g c = held_left (values_of c.args.self.now) (values_of c.take_ntlm.new.self)
    (user_of (step_args c.args.args.now).handle) c.args.args.now.input.now (values_of c.disable_kerberos.new.self)
    c.in_ok-take_ntlm.ensures.step.onward.0 c.disable_kerberos.ensures.held

pub returns-clause-begun : goal.returns-clause-begun
returns-clause-begun g c = begun_left (hand g.N.Mechanism.meaning g.K.Mechanism.meaning) c.disable_kerberos.result
    c.args.self.now c.take_ntlm.new.self c.disable_kerberos.new.self
    c.in_ok-take_ntlm.ensures.step.onward.0 c.disable_kerberos.ensures.begun
