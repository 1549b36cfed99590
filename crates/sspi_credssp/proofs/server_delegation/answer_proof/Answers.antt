use Rattle.std.proofs.Common.{ap, ◌∙◌}
use Rattle.sspi_credssp.specs.declared.acts.Acts.{Acts}
use Rattle.sspi_credssp.proofs.ContextLaws.{lawful}
use Rattle.sspi_credssp.proofs.Opened.{other_stops}
use Rattle.sspi_credssp.proofs.Deliver.{exchanged}
use Rattle.sspi_credssp.proofs.OneText.{owed_always, sealed_exactly}
use Rattle.sspi_credssp.proofs.server_delegation.answer_proof.Goals as goal

pub returns-in_ok-proof-clause-exchanges : goal.returns-in_ok-proof-clause-exchanges
returns-in_ok-proof-clause-exchanges g c =
    let sealed = c.seal_text.ensures in
    let opened = c.in_ok-opens_to.ensures.opened in
    exchanged _ (lawful _ _ g.N.Mechanism.meaning g.K.Mechanism.meaning g.met.N.Mechanism.laws g.met.K.Mechanism.laws)
    _ _ _ _ _ _ _ _ _ _ _ (ap (λ (a : Acts). a.proved) opened.noted ∙ c.requires.proved) opened c.if-branch.true
    sealed.noted sealed.ok sealed.count sealed.err sealed.err_noted

pub returns-in_ok-proof-clause-exact : goal.returns-in_ok-proof-clause-exact
returns-in_ok-proof-clause-exact g c =
    sealed_exactly _ (lawful _ _ g.N.Mechanism.meaning g.K.Mechanism.meaning g.met.N.Mechanism.laws g.met.K.Mechanism.laws)
    c.seal_text.result _ _ _ _ _ c.in_ok-opens_to.ensures.opened c.if-branch.true c.seal_text.ensures.err

pub returns-else-branch-clause-cause : goal.returns-else-branch-clause-cause
returns-else-branch-clause-cause g c = λ _. other_stops _ c.in_ok-opens_to.ensures.opened c.if-branch.false c.altered.ensures.kind

pub returns-in_err-proof-clause-exact : goal.returns-in_err-proof-clause-exact
returns-in_err-proof-clause-exact g c =
    owed_always _ (lawful _ _ g.N.Mechanism.meaning g.K.Mechanism.meaning g.met.N.Mechanism.laws g.met.K.Mechanism.laws)
    _ _ _ _ _ c.in_ok-opens_to.ensures.opened c.if-branch.true
