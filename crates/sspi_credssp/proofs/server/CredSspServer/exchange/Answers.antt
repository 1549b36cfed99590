use Rattle.std.proofs.Common.{rules}
use Rattle.std.proofs.lemmas.Result.{IfErr-weaker}
use Rattle.sspi_credssp.proofs.server.CredSspServer.exchange.Goals as goal

pub returns-clause-exact : goal.returns-clause-exact
returns-clause-exact g c =
    IfErr-weaker c.answer_proof.result _ _ (λ error why. search rules) c.answer_proof.ensures.exact
