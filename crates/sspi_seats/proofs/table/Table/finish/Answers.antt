use Rattle.std.proofs.Common.{◌≡◌, ◌∙◌, ap, map, subst}
use Rattle.std.specs.Prelude.{IfOk}
use Rattle.sspi_credssp.specs.Context.{either}
use Rattle.sspi_credssp.specs.declared.context.SspiContext.{SspiContext}
use Rattle.sspi_delegate.specs.Chain.{kdc_calls}
use Rattle.sspi_seats.specs.Table.{AreSeats, TableView, place_of}
use Rattle.sspi_seats.proofs.table.Table.finish.Goals as goal

pub returns : goal.returns
returns g c =
    let m = either g.N.Mechanism.REQUESTS g.N.Mechanism.meaning g.K.Mechanism.meaning in
    let k = kdc_calls g.D.Kdc.told g.D.Kdc.asked g.D.Kdc.faults in
    let cames = map place_of c.into_inner.result.items in
    let same : cames ≡ c.args.self.places = ap (map place_of) c.into_inner.ensures
    ∙ ap (λ (t : TableView (SspiContext g.row.N.Denot g.row.K.Denot) g.row.C.Denot g.row.D.Denot). t.places) c.self.view_is in
    subst (λ l. IfOk c.leave.result (AreSeats m g.C.CredentialsProxy.meaning k l c.args.limit)) same
    (c.leave.ensures cames c.args.limit (c.in_ok-serve.ensures cames _ c.in_ok-sessions.ensures))
