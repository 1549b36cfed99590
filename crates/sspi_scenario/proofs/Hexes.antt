-- What decoding into a buffer of a given size gives.
use Rattle.std.proofs.Common.{inl, inr, ◌≡◌, ℕ, List, Some, None, Result, Ok, Err, refl, ap}
use Rattle.std.specs.Prelude.{MatchResult, ◌⊎◌}
use Rattle.hex.specs.Hex.{decode_of}
use Rattle.hex.specs.declared.error.FromHexError.{FromHexError}
use Rattle.hex.specs.declared.error.FromHexError.TheVariants.{OutOfMemory, InvalidHexCharacter, OddLength, InvalidStringLength}
use Rattle.sspi_scenario.specs.Hex.{hex_of}
use Rattle.sspi_scenario.specs.Reads.{hex_refusal, Reads}
use Rattle.std.specs.Result.{result_ok}

module _ {E : Type 0} (out : List ℕ) where
  pub sized-ok : (d : Result (List ℕ) E) (x : Unit {0})
      → MatchResult d (λ bytes. (◌≡◌ {A = Result (Unit {0}) E} (Ok x) (Ok tt)) × (out ≡ bytes))
      (λ e. ◌≡◌ {A = Result (Unit {0}) E} (Ok x) (Err e)) → Some out ≡ result_ok d
  sized-ok (Ok bytes) x h = ap Some h.1
  sized-ok (Err e) x h = absurd cc

  pub sized-err : (d : Result (List ℕ) E) (e : E)
      → MatchResult d (λ bytes. (◌≡◌ {A = Result (Unit {0}) E} (Err e) (Ok tt)) × (out ≡ bytes))
      (λ e'. ◌≡◌ {A = Result (Unit {0}) E} (Err e) (Err e')) → None ≡ result_ok d
  sized-err (Ok bytes) e h = let different = h.0 in absurd cc
  sized-err (Err e') e h = refl

hex-none : (text : List ℕ) (e : FromHexError) → decode_of text ≡ Err e → hex_of text ≡ None
unfolding hex_of
hex-none text e h = rw h refl

pub hex-refused : (text : List ℕ) (e : FromHexError) → (e ≡ OutOfMemory) ⊎ (decode_of text ≡ Err e)
    → Reads {T = List ℕ} (Err (hex_refusal e)) (hex_of text)
hex-refused text OutOfMemory h = tt
hex-refused text (InvalidHexCharacter digit place) (inl e) = absurd cc
hex-refused text (InvalidHexCharacter digit place) (inr e) = hex-none text _ e
hex-refused text OddLength (inl e) = absurd cc
hex-refused text OddLength (inr e) = hex-none text _ e
hex-refused text InvalidStringLength (inl e) = absurd cc
hex-refused text InvalidStringLength (inr e) = hex-none text _ e
