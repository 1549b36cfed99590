use Rattle.std.proofs.Common.{refl}
use Rattle.sspi_types.proofs.laws.connection_values_are_read_back.Goals as goal

pub returns-clause-connection_protocol : goal.returns-clause-connection_protocol
returns-clause-connection_protocol c value read reads = reads.each value refl

pub returns-clause-connection_cipher : goal.returns-clause-connection_cipher
returns-clause-connection_cipher c value read reads = reads.each value refl

pub returns-clause-connection_hash : goal.returns-clause-connection_hash
returns-clause-connection_hash c value read reads = reads.each value refl

pub returns-clause-connection_key_exchange : goal.returns-clause-connection_key_exchange
returns-clause-connection_key_exchange c value read reads = reads.each value refl

pub returns-clause-cert_encoding_type : goal.returns-clause-cert_encoding_type
returns-clause-cert_encoding_type c value read reads = reads.each value refl
