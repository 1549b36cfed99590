use Rattle.sspi_desk.proofs.Proved.{finished_after}
use Rattle.sspi_desk.proofs.laws.a_session_proves_before_it_finishes.Goals as goal

pub returns : goal.returns
returns g c = λ first old new calls answers bytes identity at alone call.
    finished_after _ g.C.CredentialsProxy.meaning first old new calls answers bytes identity at alone call
