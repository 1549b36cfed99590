use Rattle.sspi_names.proofs.SameValues.{keytab_decided, credentials_decided, credentials_buffers_decided}
use Rattle.sspi_names.proofs.laws.equality_of_credentials_is_of_values.Goals as goal

pub returns-clause-keytabs : goal.returns-clause-keytabs
returns-clause-keytabs c = keytab_decided

pub returns-clause-credentials : goal.returns-clause-credentials
returns-clause-credentials c = credentials_decided

pub returns-clause-credentials_buffers : goal.returns-clause-credentials_buffers
returns-clause-credentials_buffers c = credentials_buffers_decided
