use Rattle.std.proofs.Common.{Some, refl, ap, ◌∙◌}
use Rattle.sspi_names.specs.declared.credentials.CredentialsBuffers.TheVariants.{AuthIdentity}
use Rattle.sspi_negotiate.specs.Holding.{as_handed}
use Rattle.sspi_negotiate.proofs.Beginning.{begun_kept}
use Rattle.sspi_negotiate.specs.Hand.{hand}
use Rattle.sspi_mech.specs.Calls.{step_args}
use Rattle.sspi_negotiate.proofs.negotiate.Negotiate.keep.Goals as goal

pub returns-clause-held : goal.returns-clause-held
returns-clause-held g c = rw (← c.self.view_is) c.rule.ensures.held

pub returns-clause-asked : goal.returns-clause-asked
returns-clause-asked g c = rw (← c.self.view_is) c.rule.ensures.asked

pub returns-clause-kept : goal.returns-clause-kept
returns-clause-kept g c = rw (← c.self.view_is) (as_handed c.args.identity.now refl
    (c.rule.ensures.kept ∙ ap (λ buffers. Some (AuthIdentity buffers)) c.in_ok-kept.ensures.buffers))

pub returns-clause-begun : goal.returns-clause-begun
returns-clause-begun g c = rw (← c.self.view_is) (begun_kept (hand g.N.Mechanism.meaning g.K.Mechanism.meaning) c.rule.result
    c.args.identity.now.username (step_args c.args.args.now) (record {
      role = c.self.inside.role;
      state = c.self.inside.state;
      packages = c.self.inside.packages;
      list = c.self.inside.mech_types;
      need = c.self.inside.mic_needed;
      kept = c.self.inside.auth_identity;
      known = c.self.inside.known.items;
      computer = c.self.inside.client_computer_name;
      kdcs = c.self.inside.kdcs;
      branch = c.self.inside.branch;
      mech = c.self.inside.protocol;
    }) c.rule.new.self _ c.rule.ensures.begun)
