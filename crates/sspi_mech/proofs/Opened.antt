-- What is protected by a key is taken by the same key, direction and number.
use Rattle.std.proofs.Common.{◌≡◌, ℕ, ◌-◌, ◌^◌, ◌≤◌, ◌<◌, nat_eq, List, take, drop, length, true, false, nat_lt, Option, None, Some}
use Rattle.std.proofs.Common.{sym, arith}
use Rattle.std.specs.Str.{bytes_eq}
use Rattle.std.proofs.lemmas.Bool.{ne_eqb, le-ltb}
use Rattle.std.proofs.lemmas.List.{take_at, drop_at}
use Rattle.std.proofs.lemmas.Slice.Eq.{bytes_eq-Decides}
use Rattle.sspi_mech.specs.declared.protection.Direction.{Direction}
use Rattle.sspi_mech.specs.Protection.{seal_tag, mic_of, SealsBy, OpensBy, SignsBy, VerifiesBy, unseal_refusal, verify_refusal}
use Rattle.sspi_mech.specs.Tags.{length-seal_tag, long_blob}

-- of what opens, the text is all that follows the tag
pub opened_is_body : (key : Option (List ℕ)) (direction : Direction) (n : ℕ) (blob text : List ℕ) → OpensBy key direction n blob text →
    text ≡ drop 16 blob
opened_is_body None direction n blob text opened = absurd opened
opened_is_body (Some key) direction n blob text opened = opened.2

-- what is sealed opens, and a MIC verifies, by the same key, direction and number
pub sealed_opens : (key : Option (List ℕ)) (direction : Direction) (n : ℕ) (text blob : List ℕ) → SealsBy key direction n text blob →
    OpensBy key direction n blob text
sealed_opens None direction n text blob sealed = absurd sealed
sealed_opens (Some key) direction n text blob sealed =
    let tagged = take_at (seal_tag key direction n text) text 16 (length-seal_tag key direction n text) in
    let body = drop_at (seal_tag key direction n text) text 16 (length-seal_tag key direction n text) in
    (long_blob (Some key) direction n text blob sealed, rw sealed tagged, rw sealed (sym body))

pub signed_verifies : (key : Option (List ℕ)) (direction : Direction) (n : ℕ) (text mic : List ℕ) → SignsBy key direction n text mic →
    VerifiesBy key direction n mic text
signed_verifies None direction n text mic signed = absurd signed
signed_verifies (Some key) direction n text mic signed = signed

-- ---- and neither is refused

pub same_bytes : (xs ys : List ℕ) → xs ≡ ys → bytes_eq xs ys ≡ true
same_bytes xs ys same = (bytes_eq-Decides xs ys).1 same

last_number : (n : ℕ) → n < 2 ^ 64 - 1 → nat_eq n (2 ^ 64 - 1) ≡ false
last_number n below = ne_eqb n (2 ^ 64 - 1) (λ same. omega (arith, same, below))

long_enough : (n : ℕ) → 16 ≤ n → nat_lt n 16 ≡ false
long_enough n long = le-ltb n 16 long

pub opened_is_taken : (key : Option (List ℕ)) (direction : Direction) (n : ℕ) (blob text : List ℕ) →
    OpensBy key direction n blob text → n < 2 ^ 64 - 1 → unseal_refusal key direction n blob ≡ None
opened_is_taken None direction n blob text opened below = absurd opened
opened_is_taken (Some key) direction n blob text opened below =
    let tag : take 16 blob ≡ seal_tag key direction n (drop 16 blob) = rw (sym opened.2) opened.1 in
    rw (last_number n below, long_enough (length blob) opened.0, same_bytes (take 16 blob) (seal_tag key direction n (drop 16 blob)) tag)

pub verified_is_taken : (key : Option (List ℕ)) (direction : Direction) (n : ℕ) (mic text : List ℕ) →
    VerifiesBy key direction n mic text → n < 2 ^ 64 - 1 → verify_refusal key direction n mic text ≡ None
verified_is_taken None direction n mic text verified below = absurd verified
verified_is_taken (Some key) direction n mic text verified below =
    rw (last_number n below, same_bytes mic (mic_of key direction n text) verified)
