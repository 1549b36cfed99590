-- Names and numbers of what the context of each end has.
use Rattle.std.specs.Prelude.{ℕ, List, [], ◌∷◌, codes}

-- what a client's context has (sspi.h, ISC_RET_*)
abbrev pub client_response_flags : List (List ℕ × ℕ)
client_response_flags =
    (codes "DELEGATE", 0x00000001) ∷
    (codes "MUTUAL_AUTH", 0x00000002) ∷
    (codes "REPLAY_DETECT", 0x00000004) ∷
    (codes "SEQUENCE_DETECT", 0x00000008) ∷
    (codes "CONFIDENTIALITY", 0x00000010) ∷
    (codes "USE_SESSION_KEY", 0x00000020) ∷
    (codes "USED_COLLECTED_CREDS", 0x00000040) ∷
    (codes "USED_SUPPLIED_CREDS", 0x00000080) ∷
    (codes "ALLOCATED_MEMORY", 0x00000100) ∷
    (codes "USED_DCE_STYLE", 0x00000200) ∷
    (codes "DATAGRAM", 0x00000400) ∷
    (codes "CONNECTION", 0x00000800) ∷
    (codes "INTERMEDIATE_RETURN", 0x00001000) ∷
    (codes "CALL_LEVEL", 0x00002000) ∷
    (codes "EXTENDED_ERROR", 0x00004000) ∷
    (codes "STREAM", 0x00008000) ∷
    (codes "INTEGRITY", 0x00010000) ∷
    (codes "IDENTIFY", 0x00020000) ∷
    (codes "NULL_SESSION", 0x00040000) ∷
    (codes "MANUAL_CRED_VALIDATION", 0x00080000) ∷
    (codes "RESERVED1", 0x00100000) ∷
    (codes "FRAGMENT_ONLY", 0x00200000) ∷
    (codes "FORWARD_CREDENTIALS", 0x00400000) ∷
    (codes "USED_HTTP_STYLE", 0x01000000) ∷
    (codes "NO_ADDITIONAL_TOKEN", 0x02000000) ∷
    (codes "REAUTHENTICATION", 0x08000000) ∷
    (codes "CONFIDENTIALITY_ONLY", 0x40000000) ∷
    []

-- what a server's context has (sspi.h, ASC_RET_*)
abbrev pub server_response_flags : List (List ℕ × ℕ)
server_response_flags =
    (codes "DELEGATE", 0x00000001) ∷
    (codes "MUTUAL_AUTH", 0x00000002) ∷
    (codes "REPLAY_DETECT", 0x00000004) ∷
    (codes "SEQUENCE_DETECT", 0x00000008) ∷
    (codes "CONFIDENTIALITY", 0x00000010) ∷
    (codes "USE_SESSION_KEY", 0x00000020) ∷
    (codes "SESSION_TICKET", 0x00000040) ∷
    (codes "ALLOCATED_MEMORY", 0x00000100) ∷
    (codes "USED_DCE_STYLE", 0x00000200) ∷
    (codes "DATAGRAM", 0x00000400) ∷
    (codes "CONNECTION", 0x00000800) ∷
    (codes "CALL_LEVEL", 0x00002000) ∷
    (codes "THIRD_LEG_FAILED", 0x00004000) ∷
    (codes "EXTENDED_ERROR", 0x00008000) ∷
    (codes "STREAM", 0x00010000) ∷
    (codes "INTEGRITY", 0x00020000) ∷
    (codes "LICENSING", 0x00040000) ∷
    (codes "IDENTIFY", 0x00080000) ∷
    (codes "NULL_SESSION", 0x00100000) ∷
    (codes "ALLOW_NON_USER_LOGONS", 0x00200000) ∷
    (codes "ALLOW_CONTEXT_REPLAY", 0x00400000) ∷
    (codes "FRAGMENT_ONLY", 0x00800000) ∷
    (codes "NO_TOKEN", 0x01000000) ∷
    (codes "NO_ADDITIONAL_TOKEN", 0x02000000) ∷
    []
