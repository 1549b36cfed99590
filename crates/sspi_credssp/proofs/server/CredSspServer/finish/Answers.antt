use Rattle.std.proofs.Common.{◌≡◌, Ok, ap, sym, subst, rules}
use Rattle.sspi_tsreq.specs.declared.request.TsRequest.{TsRequest}
use Rattle.sspi_credssp.specs.declared.server_state.ServerState.TheVariants.{Finished}
use Rattle.sspi_credssp.specs.declared.state.CredSspState.TheVariants.{Final}
use Rattle.sspi_credssp.specs.Context.{either}
use Rattle.sspi_credssp.specs.ServerTurn.{ServerGoes}
use Rattle.sspi_credssp.proofs.ServerFinished.{finished}
use Rattle.sspi_credssp.proofs.server.CredSspServer.finish.Goals as goal

pub returns-in-Ok-clause-turn : goal.returns-in-Ok-clause-turn
returns-in-Ok-clause-turn g c = λ start d same ready state output.
    let it = either g.N.Mechanism.REQUESTS g.N.Mechanism.meaning g.K.Mechanism.meaning in
    let new = c.open.new.self in
    let is : c.match-request-3.self ≡ record new { state = Final } = search rules in
    subst (λ v. ServerGoes it start d (Ok (Finished c.in-Ok.identity)) v) (sym is)
    (finished it start c.args.self.now new d c.args.request.auth_info c.in-Ok.identity ready state output
    (ap (λ (r : TsRequest). r.auth_info) same) c.in-Ok.ensures.opens)
