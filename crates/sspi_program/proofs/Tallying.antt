-- The exchanges of this many numbers, and of one more.
use Rattle.std.proofs.Common.{◌≡◌, ℕ, ◌+◌, inl, inr, List, [], ◌∷◌, ◌++◌, Result, Ok, Err, refl, sym, subst}
use Rattle.std.proofs.Common.{arith}
use Rattle.std.proofs.lemmas.List.{length-append}
use Rattle.std.specs.Prelude.{OnOk}
use Rattle.sspi_seats.proofs.Lists.{last_or_before}
use Rattle.sspi_program.specs.declared.record.Record.{Record}
use Rattle.sspi_program.specs.Generate.{AreNumbered, IsNumbered}

pub tally_none : (tally : List Record) → tally ≡ [] → AreNumbered 0 tally
tally_none tally none = subst (AreNumbered 0) (sym none) (record { counted = refl; each = λ i r e. absurd cc })

pub tally_more : (n : ℕ) (tally : List Record) (r : Record) → AreNumbered n tally → IsNumbered n r → AreNumbered (n + 1) (tally ++ r ∷ [])
tally_more n tally r are is = record {
  counted = omega (arith, length-append tally (r ∷ []), are.counted);
  each = λ i k e. elim (last_or_before tally r i k e) [
    | inl before ↦ are.each i k before
    | inr last ↦ subst (IsNumbered i) last.1 (subst (λ (m : ℕ). IsNumbered m r) (sym (rw are.counted at last.0)) is)
  ];
}

pub tally_pushed : {E : Type 0} (n : ℕ) (tally new : List Record) (r : Record) (pushed : Result (Unit {0}) E) → IsNumbered n r →
    OnOk pushed (new ≡ tally ++ r ∷ []) → AreNumbered n tally → OnOk pushed (AreNumbered (n + 1) new)
tally_pushed n tally new r (Ok done) is more are = subst (AreNumbered (n + 1)) (sym more) (tally_more n tally r are is)
tally_pushed n tally new r (Err e) is more are = tt
