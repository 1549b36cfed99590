-- Names and numbers of the flags of sealing and opening.
use Rattle.std.specs.Prelude.{ℕ, List, [], ◌∷◌, codes}

-- how a message is to be sealed (sspi.h, SECQOP_WRAP_*)
abbrev pub encryption_flags : List (List ℕ × ℕ)
encryption_flags =
    (codes "WRAP_OOB_DATA", 0x40000000) ∷
    (codes "WRAP_NO_ENCRYPT", 0x80000001) ∷
    []

-- how a message was sealed (sspi.h, SECQOP_WRAP_NO_ENCRYPT, and schannel.h, SIGN_ONLY)
abbrev pub decryption_flags : List (List ℕ × ℕ)
decryption_flags =
    (codes "SIGN_ONLY", 0x80000000) ∷
    (codes "WRAP_NO_ENCRYPT", 0x80000001) ∷
    []
