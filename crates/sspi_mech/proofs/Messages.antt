-- Messages that are written can be read back.
use Rattle.std.proofs.Common.{◌≡◌, ℕ, ◌+◌, ◌*◌, ◌/◌, ◌%◌, ◌<◌, ◌^◌, List, ◌++◌, length, Some, arith, length-append, eq-eqb}
use Rattle.std.proofs.Math.Seq.{take-append_seam, drop-append_seam}
use Rattle.sspi_mech.specs.Named.{named_at, named_in, u16_le}
use Rattle.sspi_mech.specs.NtlmMessages.{challenge_message, authenticate_message, read_challenge, read_authenticate}

pub challenge_is_read : (challenge : List ℕ) → length challenge ≡ 8 → read_challenge (challenge_message challenge) ≡ Some challenge
challenge_is_read challenge eight = rw eight

joined : (name body : List ℕ) → length body ≡ 32 →
    named_at (length name) (name ++ body) ≡ Some (record { name = name; body = body })
joined name body long =
    let whole : length (name ++ body) ≡ length name + 32 = omega (arith, length-append name body) in
    rw (eq-eqb _ _ whole, take-append_seam name body, drop-append_seam name body)

-- a name and 32 bytes, after the two letters
pub named_is_read : (name body : List ℕ) → length name < 2 ^ 16 → length body ≡ 32 →
    named_in (Some (u16_le (length name) ++ name ++ body)) ≡ Some (record { name = name; body = body })
named_is_read name body short long =
    let number : length name % 256 + 256 * (length name / 256) ≡ length name = omega arith in
    rw number (joined name body long)

pub authenticate_is_read : (name proof : List ℕ) → length name < 2 ^ 16 → length proof ≡ 32 →
    read_authenticate (authenticate_message name proof) ≡ Some (record { name = name; body = proof })
authenticate_is_read = named_is_read
