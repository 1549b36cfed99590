use Rattle.sspi_names.specs.Identity.{identity_of}
use Rattle.sspi_negotiate.specs.Values.{values_of}
use Rattle.sspi_negotiate.proofs.Holding.{held_identified, kept_identified}
use Rattle.std.proofs.Common.{Some}
use Rattle.sspi_negotiate.proofs.Beginning.{begun_identified}
use Rattle.sspi_negotiate.specs.Hand.{hand}
use Rattle.sspi_mech.specs.Calls.{step_args}
use Rattle.sspi_negotiate.proofs.negotiate.Negotiate.convert.Goals as goal

pub returns-clause-held : goal.returns-clause-held
returns-clause-held g c = λ late. held_identified (values_of c.args.self.now) (identity_of c.args.buffers.now)
    c.in_ok-identity.identity (values_of c.keep.new.self) c.in_ok-identity.ensures (c.keep.ensures.held late)

pub returns-clause-kept : goal.returns-clause-kept
returns-clause-kept g c = kept_identified (identity_of c.args.buffers.now) c.in_ok-identity.identity c.in_ok-identity.ensures
    c.keep.ensures.kept

pub returns-clause-begun : goal.returns-clause-begun
returns-clause-begun g c = begun_identified (hand g.N.Mechanism.meaning g.K.Mechanism.meaning) c.keep.result (values_of c.args.self.now)
    (identity_of c.args.buffers.now) (Some c.in_ok-identity.identity) (step_args c.args.args.now) c.args.self.now c.keep.new.self
    c.in_ok-identity.ensures c.keep.ensures.begun
