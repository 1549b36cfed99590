use Rattle.std.proofs.Common.{refl}
use Rattle.sspi_types.proofs.laws.values_are_read_back.Goals as goal

pub returns-clause-error_kind : goal.returns-clause-error_kind
returns-clause-error_kind c value read reads = reads.each value refl

pub returns-clause-security_status : goal.returns-clause-security_status
returns-clause-security_status c value read reads = reads.each value refl

pub returns-clause-buffer_type : goal.returns-clause-buffer_type
returns-clause-buffer_type c value read reads = reads.each value refl

pub returns-clause-data_representation : goal.returns-clause-data_representation
returns-clause-data_representation c value read reads = reads.each value refl

pub returns-clause-credential_use : goal.returns-clause-credential_use
returns-clause-credential_use c value read reads = reads.each value refl
