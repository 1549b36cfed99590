-- What an end of plain Kerberos or its KDC writes can be read.
use Rattle.std.proofs.Common.{◌≡◌, ℕ, ◌<◌, ◌^◌, List, length, Some, Ok, refl}
use Rattle.std.proofs.lemmas.Str.{is_utf8-from_IsUtf8}
use Rattle.sspi_names.specs.Name.{Name, IsName, inner_of}
use Rattle.sspi_names.proofs.Identities.{inner_of-IsUtf8}
use Rattle.sspi_names.proofs.Joined.{inner_back}
use Rattle.sspi_mech.specs.KerberosMessages.{reply_proof, ap_request, ap_reply}
use Rattle.sspi_mech.specs.KerberosSteps.{arrival_of, shown_to}
use Rattle.sspi_mech.specs.Named.{block_in}
use Rattle.sspi_mech.proofs.Messages.{named_is_read}
use Rattle.sspi_mech.proofs.Opened.{same_bytes}
use Rattle.sha2.proofs.Facts256.{length-sha256}

-- 32 bytes are a block
pub block_is_read : (body : List ℕ) → length body ≡ 32 → block_in (Some body) ≡ Some body
block_is_read body long = rw long

pub arrives : (name : Name) (key : List ℕ) → IsName name → length (inner_of name) < 2 ^ 16 → length key ≡ 32 →
    arrival_of (ap_request (inner_of name) key) ≡ Ok (record { name = name; key = key })
arrives name key is short long =
    let utf8 = is_utf8-from_IsUtf8 (inner_of name) (inner_of-IsUtf8 name is) in
    rw (named_is_read (inner_of name) key short long, utf8, inner_back name is) refl

pub length-reply_proof : (key : List ℕ) → length (reply_proof key) ≡ 32
unfolding reply_proof
length-reply_proof key = length-sha256 _

pub is_shown : (key : List ℕ) → shown_to (Some key) (ap_reply key) ≡ Ok tt
is_shown key = rw (block_is_read (reply_proof key) (length-reply_proof key), same_bytes (reply_proof key) (reply_proof key) refl) refl
