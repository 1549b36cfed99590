-- The answer of `encode`, depending on whether the content fits.
use Rattle.std.proofs.Common.{◌≡◌, ℕ, ◌<◌, ◌≤◌, true, false, cond, leb, List, length, None, Some, Ok, Err, refl, sym, subst}
use Rattle.std.specs.Global.{Vec}
use Rattle.std.proofs.lemmas.Bool.{le-leb, lt-leb, leb-true}
use Rattle.sspi_types.specs.Errors.{memory_error}
use Rattle.sspi_ber.specs.Forms.{max_content}
use Rattle.sspi_ber.specs.Short.{element}
use Rattle.sspi_tokens.specs.Answers.{WritesAs, too_long}
use Rattle.sspi_tokens.specs.Spelling.{whole}

pub whole_none : (tag : ℕ) (content : List ℕ) → max_content < length content → whole tag content ≡ None
unfolding whole
whole_none tag content lt = rw (lt-leb (length content) max_content lt) refl

pub whole_some : (tag : ℕ) (content : List ℕ) → length content ≤ max_content → whole tag content ≡ Some (element tag content)
unfolding whole
whole_some tag content le = rw (le-leb (length content) max_content le) refl

pub refused : (tag : ℕ) (content : List ℕ) → max_content < length content → WritesAs (whole tag content) (Err too_long)
refused tag content lt = subst (λ text. WritesAs text (Err too_long)) (sym (whole_none tag content lt)) refl

pub unwritten : (tag : ℕ) (content : List ℕ) → length content ≤ max_content → WritesAs (whole tag content) (Err memory_error)
unwritten tag content le = subst (λ text. WritesAs text (Err memory_error)) (sym (whole_some tag content le)) refl

pub written : (tag : ℕ) (content : List ℕ) (bytes : Vec ℕ) → length content ≤ max_content → bytes.items ≡ element tag content →
    WritesAs (whole tag content) (Ok bytes)
written tag content bytes le is = subst (λ text. WritesAs text (Ok bytes)) (sym (whole_some tag content le)) is

-- an encoding that exists
pub whole_is : (tag : ℕ) (content text : List ℕ) → whole tag content ≡ Some text → (length content ≤ max_content)
    × (text ≡ element tag content)
unfolding whole
whole_is tag content text e =
    (elim (leb (length content) max_content) as (λ b. leb (length content) max_content ≡ b →
    cond b (Some (element tag content)) None ≡ Some text → (length content ≤ max_content) × (text ≡ element tag content)) [
      | true ↦ λ at is. (leb-true (length content) max_content at, cc)
      | false ↦ λ at is. absurd cc
    ]) refl e
