-- How the plain mechanisms protect messages: a tag of 16 bytes over the key, who made the message,
-- its number and its text.
use Rattle.std.specs.Prelude.{◌≡◌, ℕ, ◌-◌, ◌^◌, ◌≤◌, ◌==◌, List, [], ◌∷◌, ◌++◌, take, drop, length}
use Rattle.std.specs.Prelude.{codes, nat_lt, Option, None, Some}
use Rattle.std.specs.Prelude.{if◌then◌else◌}
use Rattle.std.specs.Int.{w64, to_le_bytes}
use Rattle.std.specs.Str.{bytes_eq}
use Rattle.sha2.specs.Sha256.{sha256}
use Rattle.sspi_types.specs.declared.error_kind.ErrorKind.{ErrorKind}
use Rattle.sspi_types.specs.declared.error_kind.ErrorKind.TheVariants.{OutOfSequence}
use Rattle.sspi_types.specs.declared.error_kind.ErrorKind.TheVariants.{ContextExpired, InvalidToken}
use Rattle.sspi_types.specs.declared.error_kind.ErrorKind.TheVariants.{MessageAltered}
use Rattle.sspi_mech.specs.declared.protection.Direction.{Direction}
use Rattle.sspi_mech.specs.declared.protection.Direction.TheVariants.{FromClient, FromServer}
use Rattle.sspi_mech.specs.declared.protection.Protection.{Protection}
use Rattle.sspi_mech.specs.Calls.{Counts}

abbrev pub direction_byte : Direction → ℕ
direction_byte FromClient = 1
direction_byte FromServer = 2

abbrev pub tag_of : List ℕ → List ℕ → Direction → ℕ → List ℕ → List ℕ
tag_of label key direction n text =
    take 16 (sha256 (label ++ key ++ (direction_byte direction ∷ []) ++ to_le_bytes w64 n ++ text))

abbrev pub seal_label : List ℕ
seal_label = codes "seal" ++ 0 ∷ []

abbrev pub mic_label : List ℕ
mic_label = codes "mic" ++ 0 ∷ []

unfoldable pub seal_tag : List ℕ → Direction → ℕ → List ℕ → List ℕ
seal_tag = tag_of seal_label

unfoldable pub mic_of : List ℕ → Direction → ℕ → List ℕ → List ℕ
mic_of = tag_of mic_label

-- the n-th message by this key, if there is one: text and blob, blob and text, text and MIC, MIC
-- and text
abbrev pub SealsBy : Option (List ℕ) → Direction → ℕ → List ℕ → List ℕ → Type 0
SealsBy None direction n text blob = ⊥
SealsBy (Some key) direction n text blob = blob ≡ seal_tag key direction n text ++ text

abbrev pub OpensBy : Option (List ℕ) → Direction → ℕ → List ℕ → List ℕ → Type 0
OpensBy None direction n blob text = ⊥
OpensBy (Some key) direction n blob text =
    (16 ≤ length blob) × (take 16 blob ≡ seal_tag key direction n text) × (text ≡ drop 16 blob)

abbrev pub SignsBy : Option (List ℕ) → Direction → ℕ → List ℕ → List ℕ → Type 0
SignsBy None direction n text mic = ⊥
SignsBy (Some key) direction n text mic = mic ≡ mic_of key direction n text

abbrev pub VerifiesBy : Option (List ℕ) → Direction → ℕ → List ℕ → List ℕ → Type 0
VerifiesBy None direction n mic text = ⊥
VerifiesBy (Some key) direction n mic text = mic ≡ mic_of key direction n text

-- why a message is refused, in this order: no key, the last number, then the input
abbrev pub unless_spent : ℕ → Option ErrorKind → Option ErrorKind
unless_spent n refusal = if n == 2 ^ 64 - 1 then Some ContextExpired else refusal

abbrev pub making_refusal : Option (List ℕ) → ℕ → Option ErrorKind
making_refusal None n = Some OutOfSequence
making_refusal (Some key) n = unless_spent n None

abbrev pub unseal_refusal : Option (List ℕ) → Direction → ℕ → List ℕ → Option ErrorKind
unseal_refusal None direction n blob = Some OutOfSequence
unseal_refusal (Some key) direction n blob =
    unless_spent n (if nat_lt (length blob) 16
    then Some InvalidToken
    else if bytes_eq (take 16 blob) (seal_tag key direction n (drop 16 blob)) then None
    else Some MessageAltered)

abbrev pub verify_refusal : Option (List ℕ) → Direction → ℕ → List ℕ → List ℕ → Option ErrorKind
verify_refusal None direction n mic text = Some OutOfSequence
verify_refusal (Some key) direction n mic text =
    unless_spent n (if bytes_eq mic (mic_of key direction n text) then None
    else Some MessageAltered)

abbrev pub counts_of : Protection → Counts
counts_of p = record {
  sealings = p.sealings;
  unsealings = p.unsealings;
  signings = p.signings;
  verifications = p.verifications;
}

-- the same key with other counts
abbrev pub recounted : Protection → Counts → Protection
recounted p n = record p {
  sealings = n.sealings;
  unsealings = n.unsealings;
  signings = n.signings;
  verifications = n.verifications;
}

abbrev pub no_protection : Protection
no_protection = record { key = None; sealings = 0; unsealings = 0; signings = 0; verifications = 0 }
