use Rattle.std.proofs.Common.{Ok, ◌∙◌, ap}
use Rattle.sspi_credssp.specs.Context.{either}
use Rattle.sspi_delegate.specs.Chain.{kdc_calls}
use Rattle.sspi_seats.proofs.Speaking.{kept_done, speaks_on, long_ends}
use Rattle.sspi_seats.proofs.guest.Guest.speak.Goals as goal

pub returns-in-Some-clause-visited : goal.returns-in-Some-clause-visited
returns-in-Some-clause-visited g c came server none speaking alone found =
    let m = either g.N.Mechanism.REQUESTS g.N.Mechanism.meaning g.K.Mechanism.meaning in
    let p = g.C.CredentialsProxy.meaning in
    let k = kdc_calls g.D.Kdc.told g.D.Kdc.asked g.D.Kdc.faults in
    let guest = c.args.self.now in
    kept_done c.keep.result (λ keeps. speaks_on m p k came c.args.turn guest.number guest c.keep.new.self c.message.result
    c.in-Some.bytes c.serve-answer.result c.hear-heard.result server c.args.desk.now c.serve-answer.new.desk none speaking alone found
    (c.in_ok-bytes.was ∙ ap Ok c.in-Some.is) c.message.ensures c.serve-answer.ensures.serves c.hear-heard.ensures.heard keeps)
    c.keep.ensures.kept

pub returns-in-None-clause-visited : goal.returns-in-None-clause-visited
returns-in-None-clause-visited g c came server none speaking alone found =
    let m = either g.N.Mechanism.REQUESTS g.N.Mechanism.meaning g.K.Mechanism.meaning in
    let p = g.C.CredentialsProxy.meaning in
    let k = kdc_calls g.D.Kdc.told g.D.Kdc.asked g.D.Kdc.faults in
    rw c.put.ensures (long_ends m p k came c.args.turn c.args.self.now c.message.result server _ none speaking alone found
    (c.in_ok-bytes.was ∙ ap Ok c.in-None.is) c.message.ensures)
