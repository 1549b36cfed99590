-- What a plain mechanism seals and opens.
use Rattle.std.proofs.Common.{◌≡◌, ◌+◌, ℕ, ◌<◌, ◌^◌, ◌++◌, length, List, false, Option, None, Some, sym, ◌∙◌, arith, refl, ◌-◌}
use Rattle.std.proofs.Common.{nat_eq, nat_lt}
use Rattle.std.proofs.lemmas.Bool.{ne_eqb, le-ltb}
use Rattle.std.proofs.lemmas.List.{length-append}
use Rattle.sspi_types.specs.declared.error_kind.ErrorKind.{ErrorKind}
use Rattle.sspi_mech.specs.declared.protection.Direction.{Direction}
use Rattle.sspi_mech.specs.Protection.{OpensBy, seal_tag, making_refusal, unseal_refusal}
use Rattle.sspi_mech.specs.Tags.{long_blob, length-seal_tag}
use Rattle.sspi_mech.proofs.Opened.{sealed_opens, opened_is_body, opened_is_taken}

-- the blob by which this key seals a text as the n-th message of that direction
abbrev pub blob_of : List ℕ → Direction → ℕ → List ℕ → List ℕ
blob_of key direction n text = seal_tag key direction n text ++ text

pub blob_long : (key : List ℕ) (direction : Direction) (n : ℕ) (text : List ℕ) → nat_lt (length (blob_of key direction n text)) 16 ≡ false
blob_long key direction n text = le-ltb _ 16 (long_blob (Some key) direction n text (blob_of key direction n text) refl)

blob_opens : (key : List ℕ) (direction : Direction) (n : ℕ) (text : List ℕ) →
    OpensBy (Some key) direction n (blob_of key direction n text) text
blob_opens key direction n text = sealed_opens (Some key) direction n text (blob_of key direction n text) refl

-- it opens only to its text
pub one_text : (o : Option (List ℕ)) (towards : Direction) (key : List ℕ) (direction : Direction) (n n2 : ℕ) (text text2 : List ℕ) →
    OpensBy o towards n2 (blob_of key direction n text) text2 → text2 ≡ text
one_text o towards key direction n n2 text text2 opens =
    opened_is_body o towards n2 (blob_of key direction n text) text2 opens
    ∙ sym (opened_is_body (Some key) direction n (blob_of key direction n text) text (blob_opens key direction n text))

-- and is not refused at the other end if it is the next
pub never_unopened : (o : Option (List ℕ)) (towards : Direction) (unsealed : ℕ) (key : List ℕ) (direction : Direction) (n : ℕ)
    (text : List ℕ) (kind : ErrorKind) →
    o ≡ Some key → towards ≡ direction → unsealed ≡ n → n < 2 ^ 64 - 1 →
    unseal_refusal o towards unsealed (blob_of key direction n text) ≡ Some kind → ⊥
never_unopened o towards unsealed key direction n text kind keyed same next few refuses =
    let taken = opened_is_taken (Some key) direction n (blob_of key direction n text) text (blob_opens key direction n text) few in
    let refused : unseal_refusal (Some key) direction n (blob_of key direction n text) ≡ Some kind = rw (keyed, same, next) at refuses in
    let never : None ≡ Some kind = sym taken ∙ refused in cc

pub never_unsealed : (o : Option (List ℕ)) (key : List ℕ) (sealed : ℕ) (kind : ErrorKind) → o ≡ Some key → sealed < 2 ^ 64 - 1 →
    making_refusal o sealed ≡ Some kind → ⊥
never_unsealed o key sealed kind keyed few refuses =
    let more : nat_eq sealed (2 ^ 64 - 1) ≡ false = ne_eqb _ _ (λ same. omega (arith, same, few)) in
    let never : None ≡ Some kind = rw (keyed, more) at refuses in cc

pub blob_length : (key : List ℕ) (direction : Direction) (n : ℕ) (text : List ℕ) → length (blob_of key direction n text) ≡ length text + 16
blob_length key direction n text = let e = length-append (seal_tag key direction n text) text in let t =
    length-seal_tag key direction n text in omega arith
