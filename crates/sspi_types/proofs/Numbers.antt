-- The numbers of an enum are distinct, so `==` compares them: by `Variants`, once for each table.
use Rattle.std.proofs.Common.{◌≡◌, eqb, refl}
use denote.Enum.Bare.{sameb}
use Rattle.sspi_types.specs.declared.error_kind.ErrorKind.{ErrorKind}
use Rattle.sspi_types.specs.contracts.error_kind.ErrorKind as the-error_kind
use Rattle.sspi_types.specs.declared.security_status.SecurityStatus.{SecurityStatus}
use Rattle.sspi_types.specs.contracts.security_status.SecurityStatus as the-security_status
use Rattle.sspi_types.specs.declared.buffer_type.BufferType.{BufferType}
use Rattle.sspi_types.specs.contracts.buffer_type.BufferType as the-buffer_type
use Rattle.sspi_types.specs.declared.data_representation.DataRepresentation.{DataRepresentation}
use Rattle.sspi_types.specs.contracts.data_representation.DataRepresentation as the-data_representation
use Rattle.sspi_types.specs.declared.credential_use.CredentialUse.{CredentialUse}
use Rattle.sspi_types.specs.contracts.credential_use.CredentialUse as the-credential_use
use Rattle.sspi_types.specs.declared.connection.ConnectionProtocol.{ConnectionProtocol}
use Rattle.sspi_types.specs.contracts.connection.ConnectionProtocol as the-connection_protocol
use Rattle.sspi_types.specs.declared.connection.ConnectionCipher.{ConnectionCipher}
use Rattle.sspi_types.specs.contracts.connection.ConnectionCipher as the-connection_cipher
use Rattle.sspi_types.specs.declared.connection.ConnectionHash.{ConnectionHash}
use Rattle.sspi_types.specs.contracts.connection.ConnectionHash as the-connection_hash
use Rattle.sspi_types.specs.declared.connection.ConnectionKeyExchange.{ConnectionKeyExchange}
use Rattle.sspi_types.specs.contracts.connection.ConnectionKeyExchange as the-connection_key_exchange
use Rattle.sspi_types.specs.declared.certificate.CertEncodingType.{CertEncodingType}
use Rattle.sspi_types.specs.contracts.certificate.CertEncodingType as the-cert_encoding_type
use Rattle.sspi_types.specs.Errors.{error_kind_number}
use Rattle.sspi_types.specs.SecurityStatuses.{security_status_number}
use Rattle.sspi_types.specs.BufferTypes.{buffer_type_number}
use Rattle.sspi_types.specs.DataRepresentations.{data_representation_number}
use Rattle.sspi_types.specs.CredentialUses.{credential_use_number}
use Rattle.sspi_types.specs.Connections.{connection_protocol_number, connection_cipher_number}
use Rattle.sspi_types.specs.Connections.{connection_hash_number, connection_key_exchange_number}
use Rattle.sspi_types.specs.Certificates.{cert_encoding_type_number}
use Rattle.sspi_types.proofs.Variants.{same_number, same_test}

pub same_error_kind : (a b : ErrorKind) → error_kind_number a ≡ error_kind_number b → a ≡ b
same_error_kind = same_number the-error_kind.enum tt error_kind_number refl

pub same_security_status : (a b : SecurityStatus) → security_status_number a ≡ security_status_number b → a ≡ b
same_security_status = same_number the-security_status.enum tt security_status_number refl

pub same_buffer_type : (a b : BufferType) → buffer_type_number a ≡ buffer_type_number b → a ≡ b
same_buffer_type = same_number the-buffer_type.enum tt buffer_type_number refl

pub same_data_representation : (a b : DataRepresentation) → data_representation_number a ≡ data_representation_number b → a ≡ b
same_data_representation = same_number the-data_representation.enum tt data_representation_number refl

pub same_credential_use : (a b : CredentialUse) → credential_use_number a ≡ credential_use_number b → a ≡ b
same_credential_use = same_number the-credential_use.enum tt credential_use_number refl

pub same_connection_protocol : (a b : ConnectionProtocol) → connection_protocol_number a ≡ connection_protocol_number b → a ≡ b
same_connection_protocol = same_number the-connection_protocol.enum tt connection_protocol_number refl

pub same_connection_cipher : (a b : ConnectionCipher) → connection_cipher_number a ≡ connection_cipher_number b → a ≡ b
same_connection_cipher = same_number the-connection_cipher.enum tt connection_cipher_number refl

pub same_connection_hash : (a b : ConnectionHash) → connection_hash_number a ≡ connection_hash_number b → a ≡ b
same_connection_hash = same_number the-connection_hash.enum tt connection_hash_number refl

pub same_connection_key_exchange : (a b : ConnectionKeyExchange) →
    connection_key_exchange_number a ≡ connection_key_exchange_number b → a ≡ b
same_connection_key_exchange = same_number the-connection_key_exchange.enum tt connection_key_exchange_number refl

pub same_cert_encoding_type : (a b : CertEncodingType) → cert_encoding_type_number a ≡ cert_encoding_type_number b → a ≡ b
same_cert_encoding_type = same_number the-cert_encoding_type.enum tt cert_encoding_type_number refl

pub error_kind_test : (a b : ErrorKind) → sameb the-error_kind.the_type a b ≡ eqb (error_kind_number a) (error_kind_number b)
error_kind_test = same_test the-error_kind.enum tt error_kind_number refl

pub security_status_test : (a b : SecurityStatus) → sameb the-security_status.the_type a b ≡ eqb (security_status_number a)
    (security_status_number b)
security_status_test = same_test the-security_status.enum tt security_status_number refl

pub buffer_type_test : (a b : BufferType) → sameb the-buffer_type.the_type a b ≡ eqb (buffer_type_number a) (buffer_type_number b)
buffer_type_test = same_test the-buffer_type.enum tt buffer_type_number refl

pub data_representation_test : (a b : DataRepresentation) → sameb the-data_representation.the_type a b ≡ eqb
    (data_representation_number a) (data_representation_number b)
data_representation_test = same_test the-data_representation.enum tt data_representation_number refl

pub credential_use_test : (a b : CredentialUse) → sameb the-credential_use.the_type a b ≡ eqb (credential_use_number a)
    (credential_use_number b)
credential_use_test = same_test the-credential_use.enum tt credential_use_number refl

pub connection_protocol_test : (a b : ConnectionProtocol) → sameb the-connection_protocol.the_type a b ≡ eqb
    (connection_protocol_number a) (connection_protocol_number b)
connection_protocol_test = same_test the-connection_protocol.enum tt connection_protocol_number refl

pub connection_cipher_test : (a b : ConnectionCipher) → sameb the-connection_cipher.the_type a b ≡ eqb
    (connection_cipher_number a) (connection_cipher_number b)
connection_cipher_test = same_test the-connection_cipher.enum tt connection_cipher_number refl

pub connection_hash_test : (a b : ConnectionHash) → sameb the-connection_hash.the_type a b ≡ eqb (connection_hash_number a)
    (connection_hash_number b)
connection_hash_test = same_test the-connection_hash.enum tt connection_hash_number refl

pub connection_key_exchange_test : (a b : ConnectionKeyExchange) → sameb the-connection_key_exchange.the_type a b ≡ eqb
    (connection_key_exchange_number a) (connection_key_exchange_number b)
connection_key_exchange_test = same_test the-connection_key_exchange.enum tt connection_key_exchange_number refl

pub cert_encoding_type_test : (a b : CertEncodingType) → sameb the-cert_encoding_type.the_type a b ≡ eqb
    (cert_encoding_type_number a) (cert_encoding_type_number b)
cert_encoding_type_test = same_test the-cert_encoding_type.enum tt cert_encoding_type_number refl
