use Rattle.std.proofs.Common.{refl}
use Rattle.std.proofs.lemmas.Result.{IfOk-weaker, IfErr-weaker}
use Rattle.sspi_mech.specs.Refusals.{error_of}
use Rattle.sspi_credssp.specs.Exchange.{opens_identity}
use Rattle.sspi_credssp.specs.ServerCause.{unread}
use Rattle.sspi_credssp.proofs.server_delegation.open_credentials.Goals as goal

pub returns-clause-gives : goal.returns-clause-gives
returns-clause-gives g c =
    IfOk-weaker c.read_identity.result _ _
    (λ identity is. opens_identity c.in_ok-text.text.items c.in_ok-text.ensures.last (rw (← c.deref.ensures.value) is))
    c.read_identity.ensures.identity

pub returns-clause-cause : goal.returns-clause-cause
returns-clause-cause g c =
    IfErr-weaker c.read_identity.result _ _
    (λ error is memory. unread c.in_ok-text.text.items (error_of error) c.in_ok-text.ensures.last
    (rw (← c.deref.ensures.value) (is memory)) refl)
    c.read_identity.ensures.cause
