-- The test of UTF-8 decides `IsUtf8`.
use Rattle.std.proofs.Common.{◌≡◌, ℕ, List, Bool, true, false, Some, None, if◌then◌else◌, refl}
use Rattle.std.specs.Str.{IsUtf8, is_utf8}
use Rattle.std.proofs.lemmas.Str.{IsUtf8-from_is_utf8, is_utf8-from_IsUtf8}

fails : (b : Bool) → (b ≡ true → ⊥) → b ≡ false
fails true differs = absurd (differs refl)
fails false differs = refl

-- bytes that are UTF-8 are a text, others are not
pub is_text : (bytes : List ℕ) → IsUtf8 bytes → (if is_utf8 bytes then Some bytes else None) ≡ Some bytes
is_text bytes utf8 = rw (is_utf8-from_IsUtf8 bytes utf8)

pub no_text : (bytes : List ℕ) → ¬ (IsUtf8 bytes) → (if is_utf8 bytes then Some bytes else None) ≡ None
no_text bytes other = rw (fails (is_utf8 bytes) (λ is. other (IsUtf8-from_is_utf8 bytes is)))
