-- The three messages of plain NTLM, its proof and its key. They are this project's own, modeled on
-- the roles of MS-NLMP 1.3.1.1.
use Rattle.std.specs.Prelude.{ℕ, ◌==◌, Bool, List, [], ◌∷◌, ◌++◌, length, codes, Option, None, Some}
use Rattle.std.specs.Prelude.{if◌then◌else◌}
use Rattle.std.specs.Str.{bytes_eq}
use Rattle.sha2.specs.Sha256.{sha256}
use Rattle.sspi_mech.specs.Named.{Named, after_letters, named_message, read_named}

-- what shows that the client knows the password, over the challenge and the name as sent
unfoldable pub proof_of : List ℕ → List ℕ → List ℕ → List ℕ
proof_of challenge name password = sha256 ((codes "plain ntlm proof" ++ 0 ∷ []) ++ challenge ++
    name ++ password)

-- the key of both ends
unfoldable pub key_of : List ℕ → List ℕ → List ℕ → List ℕ
key_of challenge name password = sha256 ((codes "plain ntlm key" ++ 0 ∷ []) ++ challenge ++ name ++
    password)

abbrev pub negotiate_message : List ℕ
negotiate_message = codes "N1"

abbrev pub challenge_message : List ℕ → List ℕ
challenge_message challenge = codes "N2" ++ challenge

abbrev pub authenticate_message : List ℕ → List ℕ → List ℕ
authenticate_message name proof = named_message (codes "N3") name proof

-- ---- reading: the whole message, with nothing after it

abbrev pub is_negotiate : List ℕ → Bool
is_negotiate message = bytes_eq message negotiate_message

abbrev pub challenge_in : Option (List ℕ) → Option (List ℕ)
challenge_in None = None
challenge_in (Some body) = if length body == 8 then Some body else None

-- the challenge that a challenge message carries
abbrev pub read_challenge : List ℕ → Option (List ℕ)
read_challenge message = challenge_in (after_letters (codes "N2") message)

-- what an authenticate message carries: the bytes of the name, and the proof
abbrev pub read_authenticate : List ℕ → Option Named
read_authenticate message = read_named (codes "N3") message
