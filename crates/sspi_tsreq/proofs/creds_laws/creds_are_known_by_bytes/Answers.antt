use Rattle.sspi_tsreq.proofs.CredsAre.{one_creds, one_passwords, one_identity}
use Rattle.sspi_tsreq.proofs.creds_laws.creds_are_known_by_bytes.Goals as goal

pub returns-clause-creds : goal.returns-clause-creds
returns-clause-creds c = one_creds

pub returns-clause-passwords : goal.returns-clause-passwords
returns-clause-passwords c = one_passwords

pub returns-clause-buffers : goal.returns-clause-buffers
returns-clause-buffers c = one_identity
