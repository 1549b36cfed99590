use Rattle.std.proofs.Common.{◌↔◌, IsTrue, sym, subst}
use Rattle.sspi_credssp.specs.declared.turn.Outcome.{Outcome}
use Rattle.sspi_audit.specs.Refusals.{ClientRefuses}
use Rattle.sspi_audit.specs.Run.{IfRefused}
use Rattle.sspi_audit.proofs.heeds.client_refusal.Goals as goal

pub returns-in-Refused : goal.returns-in-Refused
returns-in-Refused c =
    subst (λ (out : Outcome). IsTrue c.client_refuses.result ↔ IfRefused out (ClientRefuses c.args.frame.now c.args.turn.now))
    (sym c.in-Refused.is) c.client_refuses.ensures
