use Rattle.sspi_types.proofs.Numbers.{connection_protocol_test, connection_cipher_test, connection_hash_test}
use Rattle.sspi_types.proofs.Numbers.{connection_key_exchange_test, cert_encoding_type_test}
use Rattle.sspi_types.proofs.laws.connection_equality_is_of_numbers.Goals as goal

pub returns-clause-connection_protocol : goal.returns-clause-connection_protocol
returns-clause-connection_protocol c = connection_protocol_test

pub returns-clause-connection_cipher : goal.returns-clause-connection_cipher
returns-clause-connection_cipher c = connection_cipher_test

pub returns-clause-connection_hash : goal.returns-clause-connection_hash
returns-clause-connection_hash c = connection_hash_test

pub returns-clause-connection_key_exchange : goal.returns-clause-connection_key_exchange
returns-clause-connection_key_exchange c = connection_key_exchange_test

pub returns-clause-cert_encoding_type : goal.returns-clause-cert_encoding_type
returns-clause-cert_encoding_type c = cert_encoding_type_test
