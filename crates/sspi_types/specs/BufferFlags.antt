-- Names and numbers of the flags of a buffer.
use Rattle.std.specs.Prelude.{ℕ, List, [], ◌∷◌, codes}

-- what may be done with a buffer (sspi.h, SECBUFFER_READONLY*)
abbrev pub security_buffer_flags : List (List ℕ × ℕ)
security_buffer_flags =
    (codes "NONE", 0x00000000) ∷
    (codes "SECBUFFER_READONLY", 0x80000000) ∷
    (codes "SECBUFFER_READONLY_WITH_CHECKSUM", 0x10000000) ∷
    []
