use Rattle.sspi_credssp.specs.ClientCause.{SealsCause}
use Rattle.sspi_credssp.specs.Context.{either}
use Rattle.sspi_credssp.proofs.ContextLaws.{lawful}
use Rattle.sspi_credssp.proofs.OneText.{never_altered, only_unsealed}
use Rattle.sspi_credssp.proofs.laws.an_altered_blob_is_not_the_proof.Goals as goal

pub returns-clause-altered : goal.returns-clause-altered
returns-clause-altered g c = never_altered _
    (lawful _ _ g.N.Mechanism.meaning g.K.Mechanism.meaning g.met.N.Mechanism.laws g.met.K.Mechanism.laws)

pub returns-clause-unsealed : goal.returns-clause-unsealed
returns-clause-unsealed g c = λ m context blob proof same opens owed kind.
    let it = either g.N.Mechanism.REQUESTS g.N.Mechanism.meaning g.K.Mechanism.meaning in
    only_unsealed it (lawful _ _ g.N.Mechanism.meaning g.K.Mechanism.meaning g.met.N.Mechanism.laws g.met.K.Mechanism.laws)
    m context blob proof same opens (SealsCause it m owed kind) kind
