-- What a writer appended to what was written before.
use Rattle.std.proofs.Common.{◌≡◌, ℕ, List, [], ◌∷◌, ◌++◌, length, None, Some, Result, Ok, Err, refl, sym, ap, ◌∙◌, append_assoc}
use Rattle.std.proofs.lemmas.List.{append-nil}
use Rattle.std.specs.declared.alloc.AllocError.{AllocError}
use Rattle.sspi_ber.specs.Short.{header, element}
use Rattle.sspi_ber.proofs.Written.{length-element}
use Rattle.sspi_tokens.specs.Spelling.{field, result_text, result_code}
use Rattle.sspi_tokens.specs.Writing.{Put, Puts}
use Rattle.sspi_tokens.specs.declared.neg_result.NegResult.{NegResult}
use Rattle.sspi_tokens.proofs.Lengths.{element_size_more, sizing}

-- a header, and then the content that it announces
pub put_around : {before mid after : List ℕ} (tag n : ℕ) (content : List ℕ) → Put before mid (header tag n) →
    Put mid after content → n ≡ length content → Put before after (element tag content)
unfolding element
put_around {before} {mid} {after} tag n content first second size = record {
  appended = second.appended ∙ ap (λ (l : List ℕ). l ++ content) (first.appended ∙ ap (λ (k : ℕ). before ++ header tag k) size)
      ∙ append_assoc before (header tag (length content)) content;
}

-- one text after another
pub put_then : {before mid after a b : List ℕ} → Put before mid a → Put mid after b → Put before after (a ++ b)
put_then {before} {mid} {after} {a} {b} first second = record {
  appended = second.appended
      ∙ ap (λ (l : List ℕ). l ++ b) first.appended ∙ append_assoc before a b;
}

-- the same with the result of a writer of the content
pub puts_around : {before mid : List ℕ} (after : List ℕ) (tag n : ℕ) (content : List ℕ) (result : Result (Unit {0}) AllocError) →
    Put before mid (header tag n) → n ≡ length content → Puts mid after result content
    → Puts before after result (element tag content)
puts_around after tag n content (Ok x) first size second = put_around tag n content first second size
puts_around after tag n content (Err error) first size second = tt

pub put_nothing : (known : List ℕ) → Put known known []
put_nothing known = record { appended = sym (append-nil known) }

pub field-none : (tag : ℕ) → field tag None ≡ []
unfolding field
field-none tag = refl

pub field-some : (tag : ℕ) (inner : List ℕ) → field tag (Some inner) ≡ element tag inner
unfolding field
field-some tag inner = refl

pub result_text-is : (result : NegResult) → result_text result ≡ element 0x0A (result_code result ∷ [])
unfolding result_text
result_text-is result = refl

pub ruleset putting = (put_then, put_nothing, field-none, field-some, result_text-is, length-element, element_size_more)

pub ruleset sized = (putting, sizing)
