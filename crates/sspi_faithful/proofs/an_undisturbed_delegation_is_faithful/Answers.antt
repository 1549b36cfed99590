use Rattle.sspi_delegate.specs.Headline.{around_by}
use Rattle.sspi_faithful.proofs.HandedOn.{delegation_faithful}
use Rattle.sspi_faithful.proofs.an_undisturbed_delegation_is_faithful.Goals as goal

pub returns : goal.returns
returns g c = λ old new limit delegation matching calm made.
    delegation_faithful (around_by g.C.CredentialsProxy.meaning g.L.Link.log g.L.Link.edits g.L.Link.faults g.D.Kdc.told g.D.Kdc.asked
    g.D.Kdc.faults) old new limit delegation matching calm made
