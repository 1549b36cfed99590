-- Names and numbers of the trust flags of a certificate chain.
use Rattle.std.specs.Prelude.{ℕ, List, [], ◌∷◌, codes}

-- why a certificate chain is not trusted (wincrypt.h, dwErrorStatus of CERT_TRUST_STATUS)
abbrev pub cert_trust_error_flags : List (List ℕ × ℕ)
cert_trust_error_flags =
    (codes "NO_ERROR", 0x00000000) ∷
    (codes "IS_NOT_TIME_VALID", 0x00000001) ∷
    (codes "IS_NOT_TIME_NESTED", 0x00000002) ∷
    (codes "IS_REVOKED", 0x00000004) ∷
    (codes "IS_NOT_SIGNATURE_VALID", 0x00000008) ∷
    (codes "IS_NOT_VALID_FOR_USAGE", 0x00000010) ∷
    (codes "IS_UNTRUSTED_ROOT", 0x00000020) ∷
    (codes "REVOCATION_STATUS_UNKNOWN", 0x00000040) ∷
    (codes "IS_CYCLIC", 0x00000080) ∷
    (codes "INVALID_EXTENSION", 0x00000100) ∷
    (codes "INVALID_POLICY_CONSTRAINTS", 0x00000200) ∷
    (codes "INVALID_BASIC_CONSTRAINTS", 0x00000400) ∷
    (codes "INVALID_NAME_CONSTRAINTS", 0x00000800) ∷
    (codes "HAS_NOT_SUPPORTED_NAME_CONSTRAINT", 0x00001000) ∷
    (codes "HAS_NOT_DEFINED_NAME_CONSTRAINT", 0x00002000) ∷
    (codes "HAS_NOT_PERMITTED_NAME_CONSTRAINT", 0x00004000) ∷
    (codes "HAS_EXCLUDED_NAME_CONSTRAINT", 0x00008000) ∷
    (codes "IS_PARTIAL_CHAIN", 0x00010000) ∷
    (codes "CTL_IS_NOT_TIME_VALID", 0x00020000) ∷
    (codes "CTL_IS_NOT_SIGNATURE_VALID", 0x00040000) ∷
    (codes "CTL_IS_NOT_VALID_FOR_USAGE", 0x00080000) ∷
    (codes "IS_OFFLINE_REVOCATION", 0x01000000) ∷
    (codes "NO_ISSUANCE_CHAIN_POLICY", 0x02000000) ∷
    []

-- what is known of a certificate chain (wincrypt.h, dwInfoStatus of CERT_TRUST_STATUS)
abbrev pub cert_trust_info_flags : List (List ℕ × ℕ)
cert_trust_info_flags =
    (codes "HAS_EXACT_MATCH_ISSUER", 0x00000001) ∷
    (codes "HAS_KEY_MATCH_ISSUER", 0x00000002) ∷
    (codes "HAS_NAME_MATCH_ISSUER", 0x00000004) ∷
    (codes "IS_SELF_SIGNED", 0x00000008) ∷
    (codes "AUTO_UPDATE_CA_REVOCATION", 0x00000010) ∷
    (codes "AUTO_UPDATE_END_REVOCATION", 0x00000020) ∷
    (codes "NO_OCSP_FAILOVER_TO_CRL", 0x00000040) ∷
    (codes "IS_KEY_ROLLOVER", 0x00000080) ∷
    (codes "HAS_PREFERRED_ISSUER", 0x00000100) ∷
    (codes "HAS_ISSUANCE_CHAIN_POLICY", 0x00000200) ∷
    (codes "HAS_VALID_NAME_CONSTRAINTS", 0x00000400) ∷
    (codes "IS_PEER_TRUSTED", 0x00000800) ∷
    (codes "HAS_CRL_VALIDITY_EXTENDED", 0x00001000) ∷
    (codes "IS_FROM_EXCLUSIVE_TRUST_STORE", 0x00002000) ∷
    (codes "IS_CA_TRUSTED", 0x00004000) ∷
    (codes "HAS_AUTO_UPDATE_WEAK_SIGNATURE", 0x00008000) ∷
    (codes "IS_COMPLEX_CHAIN", 0x00010000) ∷
    (codes "HAS_ALLOW_WEAK_SIGNATURE", 0x00020000) ∷
    (codes "SSL_HANDSHAKE_OCSP", 0x00040000) ∷
    (codes "SSL_TIME_VALID_OCSP", 0x00080000) ∷
    (codes "SSL_RECONNECT_OCSP", 0x00100000) ∷
    (codes "SSL_TIME_VALID", 0x01000000) ∷
    (codes "NO_TIME_CHECK", 0x02000000) ∷
    []
