use Rattle.sspi_tsreq.proofs.CredsAre.{refusal_listed}
use Rattle.sspi_tsreq.proofs.creds_laws.no_other_refusal.Goals as goal

pub returns : goal.returns
returns c = refusal_listed
