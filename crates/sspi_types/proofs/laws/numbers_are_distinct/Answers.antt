use Rattle.sspi_types.proofs.Numbers.{same_error_kind, same_security_status, same_buffer_type}
use Rattle.sspi_types.proofs.Numbers.{same_data_representation, same_credential_use}
use Rattle.sspi_types.proofs.laws.numbers_are_distinct.Goals as goal

pub returns-clause-error_kind : goal.returns-clause-error_kind
returns-clause-error_kind c = same_error_kind

pub returns-clause-security_status : goal.returns-clause-security_status
returns-clause-security_status c = same_security_status

pub returns-clause-buffer_type : goal.returns-clause-buffer_type
returns-clause-buffer_type c = same_buffer_type

pub returns-clause-data_representation : goal.returns-clause-data_representation
returns-clause-data_representation c = same_data_representation

pub returns-clause-credential_use : goal.returns-clause-credential_use
returns-clause-credential_use c = same_credential_use
