use Rattle.std.proofs.Common.{rules}
use Rattle.sspi_negotiate.specs.Rule.{rule_url}
use Rattle.sspi_negotiate.specs.Values.{values_of}
use Rattle.sspi_negotiate.proofs.Holding.{held_ruled}
use Rattle.sspi_negotiate.proofs.Passing.{ruled_met}
use Rattle.sspi_negotiate.proofs.Beginning.{begun_by_rule}
use Rattle.sspi_negotiate.specs.Hand.{hand}
use Rattle.sspi_mech.specs.Calls.{step_args}
use Rattle.sspi_negotiate.proofs.negotiate.Negotiate.rule.Goals as goal

pub returns-clause-step : goal.returns-clause-step
returns-clause-step g c = ruled_met {m1 = c.take_by_rule.new.self.mech} (rule_url (values_of c.args.self.now) c.args.name.now) _ _
    (search rules) (search rules)

pub returns-clause-held : goal.returns-clause-held
returns-clause-held g c = held_ruled (rule_url (values_of c.args.self.now) c.args.name.now) (values_of c.args.self.now)
    (values_of c.take_by_rule.new.self) c.args.args.now.input.now (values_of c.step_at.new.self) c.in_ok-take_by_rule.ensures.named
    c.step_at.ensures.held

pub returns-clause-begun : goal.returns-clause-begun
returns-clause-begun g c = begun_by_rule (hand g.N.Mechanism.meaning g.K.Mechanism.meaning) c.step_at.result
    (rule_url (values_of c.args.self.now) c.args.name.now) (step_args c.args.args.now) c.args.self.now c.take_by_rule.new.self
    c.step_at.new.self c.in_ok-take_by_rule.ensures.taken c.in_ok-take_by_rule.ensures.named c.step_at.ensures.begun
