-- Names and numbers of what each end asks of its context.
use Rattle.std.specs.Prelude.{ℕ, List, [], ◌∷◌, codes}

-- what a client asks of its context (sspi.h, ISC_REQ_*)
abbrev pub client_request_flags : List (List ℕ × ℕ)
client_request_flags =
    (codes "DELEGATE", 0x00000001) ∷
    (codes "MUTUAL_AUTH", 0x00000002) ∷
    (codes "REPLAY_DETECT", 0x00000004) ∷
    (codes "SEQUENCE_DETECT", 0x00000008) ∷
    (codes "CONFIDENTIALITY", 0x00000010) ∷
    (codes "USE_SESSION_KEY", 0x00000020) ∷
    (codes "PROMPT_FOR_CREDS", 0x00000040) ∷
    (codes "USE_SUPPLIED_CREDS", 0x00000080) ∷
    (codes "ALLOCATE_MEMORY", 0x00000100) ∷
    (codes "USE_DCE_STYLE", 0x00000200) ∷
    (codes "DATAGRAM", 0x00000400) ∷
    (codes "CONNECTION", 0x00000800) ∷
    (codes "CALL_LEVEL", 0x00001000) ∷
    (codes "FRAGMENT_SUPPLIED", 0x00002000) ∷
    (codes "EXTENDED_ERROR", 0x00004000) ∷
    (codes "STREAM", 0x00008000) ∷
    (codes "INTEGRITY", 0x00010000) ∷
    (codes "IDENTIFY", 0x00020000) ∷
    (codes "NULL_SESSION", 0x00040000) ∷
    (codes "MANUAL_CRED_VALIDATION", 0x00080000) ∷
    (codes "RESERVED1", 0x00100000) ∷
    (codes "FRAGMENT_TO_FIT", 0x00200000) ∷
    (codes "FORWARD_CREDENTIALS", 0x00400000) ∷
    (codes "NO_INTEGRITY", 0x00800000) ∷
    (codes "USE_HTTP_STYLE", 0x01000000) ∷
    (codes "UNVERIFIED_TARGET_NAME", 0x20000000) ∷
    (codes "CONFIDENTIALITY_ONLY", 0x40000000) ∷
    []

-- what a server asks of its context (sspi.h, ASC_REQ_*)
abbrev pub server_request_flags : List (List ℕ × ℕ)
server_request_flags =
    (codes "DELEGATE", 0x00000001) ∷
    (codes "MUTUAL_AUTH", 0x00000002) ∷
    (codes "REPLAY_DETECT", 0x00000004) ∷
    (codes "SEQUENCE_DETECT", 0x00000008) ∷
    (codes "CONFIDENTIALITY", 0x00000010) ∷
    (codes "USE_SESSION_KEY", 0x00000020) ∷
    (codes "SESSION_TICKET", 0x00000040) ∷
    (codes "ALLOCATE_MEMORY", 0x00000100) ∷
    (codes "USE_DCE_STYLE", 0x00000200) ∷
    (codes "DATAGRAM", 0x00000400) ∷
    (codes "CONNECTION", 0x00000800) ∷
    (codes "CALL_LEVEL", 0x00001000) ∷
    (codes "FRAGMENT_SUPPLIED", 0x00002000) ∷
    (codes "EXTENDED_ERROR", 0x00008000) ∷
    (codes "STREAM", 0x00010000) ∷
    (codes "INTEGRITY", 0x00020000) ∷
    (codes "LICENSING", 0x00040000) ∷
    (codes "IDENTIFY", 0x00080000) ∷
    (codes "ALLOW_NULL_SESSION", 0x00100000) ∷
    (codes "ALLOW_NON_USER_LOGONS", 0x00200000) ∷
    (codes "ALLOW_CONTEXT_REPLAY", 0x00400000) ∷
    (codes "FRAGMENT_TO_FIT", 0x00800000) ∷
    (codes "NO_TOKEN", 0x01000000) ∷
    (codes "PROXY_BINDINGS", 0x04000000) ∷
    (codes "ALLOW_MISSING_BINDINGS", 0x10000000) ∷
    []
