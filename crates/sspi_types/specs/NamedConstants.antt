-- The named constants of the code, each set in the order of its table.
use Rattle.std.specs.Prelude.{List, [], ◌∷◌}
use Rattle.sspi_types.specs.declared.client_request_flags.ClientRequestFlags.{ClientRequestFlags}
use Rattle.sspi_types.specs.declared.client_request_flags.TheConstants.ClientRequestFlags as client_request
use Rattle.sspi_types.specs.declared.server_request_flags.ServerRequestFlags.{ServerRequestFlags}
use Rattle.sspi_types.specs.declared.server_request_flags.TheConstants.ServerRequestFlags as server_request
use Rattle.sspi_types.specs.declared.client_response_flags.ClientResponseFlags.{ClientResponseFlags}
use Rattle.sspi_types.specs.declared.client_response_flags.TheConstants.ClientResponseFlags as client_response
use Rattle.sspi_types.specs.declared.server_response_flags.ServerResponseFlags.{ServerResponseFlags}
use Rattle.sspi_types.specs.declared.server_response_flags.TheConstants.ServerResponseFlags as server_response
use Rattle.sspi_types.specs.declared.package_capabilities.PackageCapabilities.{PackageCapabilities}
use Rattle.sspi_types.specs.declared.package_capabilities.TheConstants.PackageCapabilities as capability
use Rattle.sspi_types.specs.declared.cert_trust_error_status.CertTrustErrorStatus.{CertTrustErrorStatus}
use Rattle.sspi_types.specs.declared.cert_trust_error_status.TheConstants.CertTrustErrorStatus as cert_trust_error
use Rattle.sspi_types.specs.declared.cert_trust_info_status.CertTrustInfoStatus.{CertTrustInfoStatus}
use Rattle.sspi_types.specs.declared.cert_trust_info_status.TheConstants.CertTrustInfoStatus as cert_trust_info
use Rattle.sspi_types.specs.declared.buffer_flags.SecurityBufferFlags.{SecurityBufferFlags}
use Rattle.sspi_types.specs.declared.buffer_flags.TheConstants.SecurityBufferFlags as security_buffer
use Rattle.sspi_types.specs.declared.protection_flags.EncryptionFlags.{EncryptionFlags}
use Rattle.sspi_types.specs.declared.protection_flags.TheConstants.EncryptionFlags as encryption
use Rattle.sspi_types.specs.declared.protection_flags.DecryptionFlags.{DecryptionFlags}
use Rattle.sspi_types.specs.declared.protection_flags.TheConstants.DecryptionFlags as decryption
use Rattle.sspi_types.specs.declared.nstatus.NStatusCode.{NStatusCode}
use Rattle.sspi_types.specs.declared.nstatus.TheConstants.NStatusCode as status

-- what a client asks of its context
abbrev pub client_request_constants : List ClientRequestFlags
client_request_constants =
    client_request.DELEGATE ∷ client_request.MUTUAL_AUTH ∷ client_request.REPLAY_DETECT ∷
    client_request.SEQUENCE_DETECT ∷
    client_request.CONFIDENTIALITY ∷ client_request.USE_SESSION_KEY ∷
    client_request.PROMPT_FOR_CREDS ∷
    client_request.USE_SUPPLIED_CREDS ∷ client_request.ALLOCATE_MEMORY ∷
    client_request.USE_DCE_STYLE ∷
    client_request.DATAGRAM ∷ client_request.CONNECTION ∷ client_request.CALL_LEVEL ∷
    client_request.FRAGMENT_SUPPLIED ∷
    client_request.EXTENDED_ERROR ∷ client_request.STREAM ∷ client_request.INTEGRITY ∷
    client_request.IDENTIFY ∷
    client_request.NULL_SESSION ∷ client_request.MANUAL_CRED_VALIDATION ∷ client_request.RESERVED1 ∷
    client_request.FRAGMENT_TO_FIT ∷ client_request.FORWARD_CREDENTIALS ∷
    client_request.NO_INTEGRITY ∷
    client_request.USE_HTTP_STYLE ∷ client_request.UNVERIFIED_TARGET_NAME ∷
    client_request.CONFIDENTIALITY_ONLY ∷ []

-- what a server asks of its context
abbrev pub server_request_constants : List ServerRequestFlags
server_request_constants =
    server_request.DELEGATE ∷ server_request.MUTUAL_AUTH ∷ server_request.REPLAY_DETECT ∷
    server_request.SEQUENCE_DETECT ∷
    server_request.CONFIDENTIALITY ∷ server_request.USE_SESSION_KEY ∷
    server_request.SESSION_TICKET ∷
    server_request.ALLOCATE_MEMORY ∷ server_request.USE_DCE_STYLE ∷ server_request.DATAGRAM ∷
    server_request.CONNECTION ∷
    server_request.CALL_LEVEL ∷ server_request.FRAGMENT_SUPPLIED ∷ server_request.EXTENDED_ERROR ∷
    server_request.STREAM ∷
    server_request.INTEGRITY ∷ server_request.LICENSING ∷ server_request.IDENTIFY ∷
    server_request.ALLOW_NULL_SESSION ∷
    server_request.ALLOW_NON_USER_LOGONS ∷ server_request.ALLOW_CONTEXT_REPLAY ∷
    server_request.FRAGMENT_TO_FIT ∷
    server_request.NO_TOKEN ∷ server_request.PROXY_BINDINGS ∷
    server_request.ALLOW_MISSING_BINDINGS ∷ []

-- what a client's context has
abbrev pub client_response_constants : List ClientResponseFlags
client_response_constants =
    client_response.DELEGATE ∷ client_response.MUTUAL_AUTH ∷ client_response.REPLAY_DETECT ∷
    client_response.SEQUENCE_DETECT ∷ client_response.CONFIDENTIALITY ∷
    client_response.USE_SESSION_KEY ∷
    client_response.USED_COLLECTED_CREDS ∷ client_response.USED_SUPPLIED_CREDS ∷
    client_response.ALLOCATED_MEMORY ∷
    client_response.USED_DCE_STYLE ∷ client_response.DATAGRAM ∷ client_response.CONNECTION ∷
    client_response.INTERMEDIATE_RETURN ∷ client_response.CALL_LEVEL ∷
    client_response.EXTENDED_ERROR ∷
    client_response.STREAM ∷ client_response.INTEGRITY ∷ client_response.IDENTIFY ∷
    client_response.NULL_SESSION ∷
    client_response.MANUAL_CRED_VALIDATION ∷ client_response.RESERVED1 ∷
    client_response.FRAGMENT_ONLY ∷
    client_response.FORWARD_CREDENTIALS ∷ client_response.USED_HTTP_STYLE ∷
    client_response.NO_ADDITIONAL_TOKEN ∷
    client_response.REAUTHENTICATION ∷ client_response.CONFIDENTIALITY_ONLY ∷ []

-- what a server's context has
abbrev pub server_response_constants : List ServerResponseFlags
server_response_constants =
    server_response.DELEGATE ∷ server_response.MUTUAL_AUTH ∷ server_response.REPLAY_DETECT ∷
    server_response.SEQUENCE_DETECT ∷ server_response.CONFIDENTIALITY ∷
    server_response.USE_SESSION_KEY ∷
    server_response.SESSION_TICKET ∷ server_response.ALLOCATED_MEMORY ∷
    server_response.USED_DCE_STYLE ∷
    server_response.DATAGRAM ∷ server_response.CONNECTION ∷ server_response.CALL_LEVEL ∷
    server_response.THIRD_LEG_FAILED
    ∷ server_response.EXTENDED_ERROR ∷ server_response.STREAM ∷ server_response.INTEGRITY ∷
    server_response.LICENSING ∷
    server_response.IDENTIFY ∷ server_response.NULL_SESSION ∷
    server_response.ALLOW_NON_USER_LOGONS ∷
    server_response.ALLOW_CONTEXT_REPLAY ∷ server_response.FRAGMENT_ONLY ∷
    server_response.NO_TOKEN ∷
    server_response.NO_ADDITIONAL_TOKEN ∷ []

-- what a package can do
abbrev pub capability_constants : List PackageCapabilities
capability_constants =
    capability.INTEGRITY ∷ capability.PRIVACY ∷ capability.TOKEN_ONLY ∷ capability.DATAGRAM ∷
    capability.CONNECTION ∷
    capability.MULTI_REQUIRED ∷ capability.CLIENT_ONLY ∷ capability.EXTENDED_ERROR ∷
    capability.IMPERSONATION ∷
    capability.ACCEPT_WIN32_NAME ∷ capability.STREAM ∷ capability.NEGOTIABLE ∷
    capability.GSS_COMPATIBLE ∷
    capability.LOGON ∷ capability.ASCII_BUFFERS ∷ capability.FRAGMENT ∷ capability.MUTUAL_AUTH ∷
    capability.DELEGATION ∷
    capability.READONLY_WITH_CHECKSUM ∷ capability.RESTRICTED_TOKENS ∷ capability.NEGO_EXTENDER ∷
    capability.NEGOTIABLE2 ∷
    capability.APP_CONTAINER_PASSTHROUGH ∷ capability.APP_CONTAINER_CHECKS ∷ []

-- why a certificate chain is not trusted
abbrev pub cert_trust_error_constants : List CertTrustErrorStatus
cert_trust_error_constants =
    cert_trust_error.NO_ERROR ∷ cert_trust_error.IS_NOT_TIME_VALID ∷
    cert_trust_error.IS_NOT_TIME_NESTED ∷
    cert_trust_error.IS_REVOKED ∷ cert_trust_error.IS_NOT_SIGNATURE_VALID ∷
    cert_trust_error.IS_NOT_VALID_FOR_USAGE ∷
    cert_trust_error.IS_UNTRUSTED_ROOT ∷ cert_trust_error.REVOCATION_STATUS_UNKNOWN ∷
    cert_trust_error.IS_CYCLIC ∷
    cert_trust_error.INVALID_EXTENSION ∷ cert_trust_error.INVALID_POLICY_CONSTRAINTS ∷
    cert_trust_error.INVALID_BASIC_CONSTRAINTS ∷ cert_trust_error.INVALID_NAME_CONSTRAINTS ∷
    cert_trust_error.HAS_NOT_SUPPORTED_NAME_CONSTRAINT ∷
    cert_trust_error.HAS_NOT_DEFINED_NAME_CONSTRAINT ∷
    cert_trust_error.HAS_NOT_PERMITTED_NAME_CONSTRAINT ∷
    cert_trust_error.HAS_EXCLUDED_NAME_CONSTRAINT ∷
    cert_trust_error.IS_PARTIAL_CHAIN ∷ cert_trust_error.CTL_IS_NOT_TIME_VALID ∷
    cert_trust_error.CTL_IS_NOT_SIGNATURE_VALID ∷ cert_trust_error.CTL_IS_NOT_VALID_FOR_USAGE ∷
    cert_trust_error.IS_OFFLINE_REVOCATION ∷ cert_trust_error.NO_ISSUANCE_CHAIN_POLICY ∷ []

-- what is known of a certificate chain
abbrev pub cert_trust_info_constants : List CertTrustInfoStatus
cert_trust_info_constants =
    cert_trust_info.HAS_EXACT_MATCH_ISSUER ∷ cert_trust_info.HAS_KEY_MATCH_ISSUER ∷
    cert_trust_info.HAS_NAME_MATCH_ISSUER
    ∷ cert_trust_info.IS_SELF_SIGNED ∷ cert_trust_info.AUTO_UPDATE_CA_REVOCATION ∷
    cert_trust_info.AUTO_UPDATE_END_REVOCATION ∷ cert_trust_info.NO_OCSP_FAILOVER_TO_CRL ∷
    cert_trust_info.IS_KEY_ROLLOVER
    ∷ cert_trust_info.HAS_PREFERRED_ISSUER ∷ cert_trust_info.HAS_ISSUANCE_CHAIN_POLICY ∷
    cert_trust_info.HAS_VALID_NAME_CONSTRAINTS ∷ cert_trust_info.IS_PEER_TRUSTED ∷
    cert_trust_info.HAS_CRL_VALIDITY_EXTENDED ∷ cert_trust_info.IS_FROM_EXCLUSIVE_TRUST_STORE ∷
    cert_trust_info.IS_CA_TRUSTED ∷ cert_trust_info.HAS_AUTO_UPDATE_WEAK_SIGNATURE ∷
    cert_trust_info.IS_COMPLEX_CHAIN ∷
    cert_trust_info.HAS_ALLOW_WEAK_SIGNATURE ∷ cert_trust_info.SSL_HANDSHAKE_OCSP ∷
    cert_trust_info.SSL_TIME_VALID_OCSP ∷
    cert_trust_info.SSL_RECONNECT_OCSP ∷ cert_trust_info.SSL_TIME_VALID ∷
    cert_trust_info.NO_TIME_CHECK ∷ []

-- what may be done with a buffer
abbrev pub security_buffer_constants : List SecurityBufferFlags
security_buffer_constants =
    security_buffer.NONE ∷ security_buffer.SECBUFFER_READONLY ∷
    security_buffer.SECBUFFER_READONLY_WITH_CHECKSUM ∷ []

-- how a message is to be sealed
abbrev pub encryption_constants : List EncryptionFlags
encryption_constants =
    encryption.WRAP_OOB_DATA ∷ encryption.WRAP_NO_ENCRYPT ∷ []

-- how a message was sealed
abbrev pub decryption_constants : List DecryptionFlags
decryption_constants =
    decryption.SIGN_ONLY ∷ decryption.WRAP_NO_ENCRYPT ∷ []

-- the NTSTATUS codes
abbrev pub status_constants : List NStatusCode
status_constants =
    status.SUCCESS ∷ status.NO_QUOTAS_FOR_ACCOUNT ∷ status.NO_LOGON_SERVERS ∷
    status.NO_SUCH_LOGON_SESSION ∷
    status.NO_SUCH_PRIVILEGE ∷ status.PRIVILEGE_NOT_HELD ∷ status.INVALID_ACCOUNT_NAME ∷
    status.USER_EXISTS ∷
    status.NO_SUCH_USER ∷ status.GROUP_EXISTS ∷ status.NO_SUCH_GROUP ∷ status.MEMBER_IN_GROUP ∷
    status.MEMBER_NOT_IN_GROUP
    ∷ status.LAST_ADMIN ∷ status.WRONG_PASSWORD ∷ status.ILL_FORMED_PASSWORD ∷
    status.PASSWORD_RESTRICTION ∷
    status.LOGON_FAILURE ∷ status.ACCOUNT_RESTRICTION ∷ status.INVALID_LOGON_HOURS ∷
    status.INVALID_WORKSTATION ∷
    status.PASSWORD_EXPIRED ∷ status.ACCOUNT_DISABLED ∷ status.IO_TIMEOUT ∷
    status.NOT_LOGON_PROCESS ∷
    status.LOGON_SESSION_EXISTS ∷ status.BAD_LOGON_SESSION_STATE ∷ status.LOGON_SESSION_COLLISION ∷
    status.INVALID_LOGON_TYPE ∷ status.SPECIAL_ACCOUNT ∷ status.TOKEN_ALREADY_IN_USE ∷
    status.LOGON_SERVER_CONFLICT ∷
    status.TIME_DIFFERENCE_AT_DC ∷ status.MEMBER_NOT_IN_ALIAS ∷ status.MEMBER_IN_ALIAS ∷
    status.LOGON_NOT_GRANTED ∷
    status.LOGON_TYPE_NOT_GRANTED ∷ status.TRANSACTION_TIMED_OUT ∷ status.PASSWORD_MUST_CHANGE ∷
    status.ACCOUNT_LOCKED_OUT
    ∷ status.INSUFFICIENT_LOGON_INFO ∷ status.SMARTCARD_LOGON_REQUIRED ∷ status.CTX_LOGON_DISABLED ∷
    []
