use Rattle.sspi_outside.proofs.Reported.{awaits_once_proved, proof_follows}
use Rattle.sspi_outside.proofs.laws.server_proof_follows_the_proof.Goals as goal

pub returns-clause-proof : goal.returns-clause-proof
returns-clause-proof g c = proof_follows g.C.CredentialsProxy.meaning

pub returns-clause-state : goal.returns-clause-state
returns-clause-state g c = awaits_once_proved g.C.CredentialsProxy.meaning
