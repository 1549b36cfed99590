use Rattle.sspi_types.proofs.Numbers.{same_connection_protocol, same_connection_cipher, same_connection_hash}
use Rattle.sspi_types.proofs.Numbers.{same_connection_key_exchange, same_cert_encoding_type}
use Rattle.sspi_types.proofs.laws.connection_numbers_are_distinct.Goals as goal

pub returns-clause-connection_protocol : goal.returns-clause-connection_protocol
returns-clause-connection_protocol c = same_connection_protocol

pub returns-clause-connection_cipher : goal.returns-clause-connection_cipher
returns-clause-connection_cipher c = same_connection_cipher

pub returns-clause-connection_hash : goal.returns-clause-connection_hash
returns-clause-connection_hash c = same_connection_hash

pub returns-clause-connection_key_exchange : goal.returns-clause-connection_key_exchange
returns-clause-connection_key_exchange c = same_connection_key_exchange

pub returns-clause-cert_encoding_type : goal.returns-clause-cert_encoding_type
returns-clause-cert_encoding_type c = same_cert_encoding_type
