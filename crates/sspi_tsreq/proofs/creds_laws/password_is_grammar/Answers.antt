use Rattle.sspi_tsreq.proofs.CredsAre.{password_read, password_stands, keytab_never}
use Rattle.sspi_tsreq.proofs.creds_laws.password_is_grammar.Goals as goal

pub returns-clause-password : goal.returns-clause-password
returns-clause-password c = λ text buffers. (password_stands text buffers, password_read text buffers)

pub returns-clause-keytab : goal.returns-clause-keytab
returns-clause-keytab c = keytab_never
