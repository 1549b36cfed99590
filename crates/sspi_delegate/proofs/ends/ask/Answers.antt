use Rattle.sspi_delegate.proofs.Asking.{answered}
use Rattle.sspi_delegate.proofs.ends.ask.Goals as goal

pub returns-in-Ok-clause-replied : goal.returns-in-Ok-clause-replied
returns-in-Ok-clause-replied g c =
    rw c.from_vec.ensures
    (answered g.D.Kdc.told g.D.Kdc.asked g.D.Kdc.faults c.args.kdc.now c.ask.new.self c.args.question.now c.in-Ok.bytes
    c.in-Ok.ensures.told c.in-Ok.ensures.asked c.in-Ok.ensures.reply c.in-Ok.ensures.cause)
