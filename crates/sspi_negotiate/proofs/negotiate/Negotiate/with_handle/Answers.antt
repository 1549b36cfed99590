use Rattle.std.proofs.Common.{rules, option_copied}
use Rattle.sspi_negotiate.specs.Values.{values_of}
use Rattle.sspi_negotiate.proofs.Holding.{held_handed, kept_handed}
use Rattle.sspi_negotiate.proofs.Beginning.{begun_identified, begun_plain, handed_user}
use Rattle.sspi_negotiate.specs.Hand.{hand}
use Rattle.sspi_mech.specs.Calls.{step_args}
use Rattle.sspi_names.specs.Identity.{identity_of}
use Rattle.sspi_negotiate.specs.Holding.{user_of, user_url}
use Rattle.sspi_negotiate.proofs.negotiate.Negotiate.with_handle.Goals as goal

pub returns-in-Some-AuthIdentity-clause-held : goal.returns-in-Some-AuthIdentity-clause-held
returns-in-Some-AuthIdentity-clause-held g c = λ late. held_handed (values_of c.args.self.now)
    (option_copied c.args.args.now.credentials_handle) _ (values_of c.convert.new.self) (search rules) (c.convert.ensures.held late)

pub returns-in-Some-AuthIdentity-clause-kept : goal.returns-in-Some-AuthIdentity-clause-kept
returns-in-Some-AuthIdentity-clause-kept g c = kept_handed (option_copied c.args.args.now.credentials_handle) _ (search rules)
    c.convert.ensures.kept

pub returns-in-Some-AuthIdentity-clause-begun : goal.returns-in-Some-AuthIdentity-clause-begun
returns-in-Some-AuthIdentity-clause-begun g c = begun_identified (hand g.N.Mechanism.meaning g.K.Mechanism.meaning) c.convert.result
    (values_of c.args.self.now) (user_of (option_copied c.args.args.now.credentials_handle)) (identity_of c.in-Some-AuthIdentity.buffers)
    (step_args c.args.args.now) c.args.self.now c.convert.new.self
    (handed_user (option_copied c.args.args.now.credentials_handle) c.in-Some-AuthIdentity.buffers (search rules))
    c.convert.ensures.begun

pub returns-in-Some-Keytab-clause-begun : goal.returns-in-Some-Keytab-clause-begun
returns-in-Some-Keytab-clause-begun g c = begun_plain (hand g.N.Mechanism.meaning g.K.Mechanism.meaning) c.step_at-in-Some-Keytab.result
    (user_url (values_of c.args.self.now) (user_of (option_copied c.args.args.now.credentials_handle))) (step_args c.args.args.now)
    c.args.self.now c.step_at-in-Some-Keytab.new.self (search rules) c.step_at-in-Some-Keytab.ensures.begun

pub returns-in-None-clause-begun : goal.returns-in-None-clause-begun
returns-in-None-clause-begun g c = begun_plain (hand g.N.Mechanism.meaning g.K.Mechanism.meaning) c.step_at.result
    (user_url (values_of c.args.self.now) (user_of (option_copied c.args.args.now.credentials_handle))) (step_args c.args.args.now)
    c.args.self.now c.step_at.new.self (search rules) c.step_at.ensures.begun
