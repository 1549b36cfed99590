use Rattle.std.proofs.Common.{◌≡◌, Some, subst, rules}
use Rattle.sspi_credssp.specs.Acts.{no_acts}
use Rattle.sspi_credssp.specs.Context.{either}
use Rattle.sspi_credssp.specs.Opened.{Opens}
use Rattle.sspi_credssp.proofs.ServerOpening.{opened, opened_cause}
use Rattle.sspi_credssp.proofs.server.CredSspServer.open.Goals as goal

pub returns-clause-opens : goal.returns-clause-opens
returns-clause-opens g c =
    let it = either g.N.Mechanism.REQUESTS g.N.Mechanism.meaning g.K.Mechanism.meaning in
    let here : c.args.self.now.context ≡ Some c.in-Some.context = search rules in
    let idle : c.self.inside.acts ≡ no_acts = search rules in
    let acts = c.open_credentials.new.acts in
    opened it c.args.self.now _ c.args.auth_info.now c.in_ok-blob.blob.now c.in-Some.context c.open_credentials.new.context acts
    c.open_credentials.result c.in_ok-blob.ensures.blob here c.requires.acts (search rules)
    (subst (λ a. Opens it c.in-Some.context c.open_credentials.new.context a acts) idle c.open_credentials.ensures.opens)
    c.open_credentials.ensures.ok c.open_credentials.ensures.gives

pub returns-clause-cause : goal.returns-clause-cause
returns-clause-cause g c =
    opened_cause (either g.N.Mechanism.REQUESTS g.N.Mechanism.meaning g.K.Mechanism.meaning) c.args.auth_info.now c.in_ok-blob.blob.now
    c.open_credentials.new.context
    c.open_credentials.new.acts.opened c.open_credentials.result c.in_ok-blob.ensures.blob c.open_credentials.ensures.cause
