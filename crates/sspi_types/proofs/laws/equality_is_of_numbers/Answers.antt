use Rattle.sspi_types.proofs.Numbers.{error_kind_test, security_status_test, buffer_type_test}
use Rattle.sspi_types.proofs.Numbers.{data_representation_test, credential_use_test}
use Rattle.sspi_types.proofs.laws.equality_is_of_numbers.Goals as goal

pub returns-clause-error_kind : goal.returns-clause-error_kind
returns-clause-error_kind c = error_kind_test

pub returns-clause-security_status : goal.returns-clause-security_status
returns-clause-security_status c = security_status_test

pub returns-clause-buffer_type : goal.returns-clause-buffer_type
returns-clause-buffer_type c = buffer_type_test

pub returns-clause-data_representation : goal.returns-clause-data_representation
returns-clause-data_representation c = data_representation_test

pub returns-clause-credential_use : goal.returns-clause-credential_use
returns-clause-credential_use c = credential_use_test
