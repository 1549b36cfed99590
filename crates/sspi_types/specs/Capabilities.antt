-- Names and numbers of what a package can do.
use Rattle.std.specs.Prelude.{ℕ, List, [], ◌∷◌, codes}

-- what a package can do (sspi.h, SECPKG_FLAG_*)
abbrev pub package_capabilities : List (List ℕ × ℕ)
package_capabilities =
    (codes "INTEGRITY", 0x00000001) ∷
    (codes "PRIVACY", 0x00000002) ∷
    (codes "TOKEN_ONLY", 0x00000004) ∷
    (codes "DATAGRAM", 0x00000008) ∷
    (codes "CONNECTION", 0x00000010) ∷
    (codes "MULTI_REQUIRED", 0x00000020) ∷
    (codes "CLIENT_ONLY", 0x00000040) ∷
    (codes "EXTENDED_ERROR", 0x00000080) ∷
    (codes "IMPERSONATION", 0x00000100) ∷
    (codes "ACCEPT_WIN32_NAME", 0x00000200) ∷
    (codes "STREAM", 0x00000400) ∷
    (codes "NEGOTIABLE", 0x00000800) ∷
    (codes "GSS_COMPATIBLE", 0x00001000) ∷
    (codes "LOGON", 0x00002000) ∷
    (codes "ASCII_BUFFERS", 0x00004000) ∷
    (codes "FRAGMENT", 0x00008000) ∷
    (codes "MUTUAL_AUTH", 0x00010000) ∷
    (codes "DELEGATION", 0x00020000) ∷
    (codes "READONLY_WITH_CHECKSUM", 0x00040000) ∷
    (codes "RESTRICTED_TOKENS", 0x00080000) ∷
    (codes "NEGO_EXTENDER", 0x00100000) ∷
    (codes "NEGOTIABLE2", 0x00200000) ∷
    (codes "APP_CONTAINER_PASSTHROUGH", 0x00400000) ∷
    (codes "APP_CONTAINER_CHECKS", 0x00800000) ∷
    []
