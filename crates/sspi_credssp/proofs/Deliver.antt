-- What a context opened stays opened, and what it sealed stays sealed, whatever its counts become.
use Rattle.std.proofs.Common.{◌≡◌, ℕ, List, Bool, Result, Ok, Err, OnOk, OnErr, true, false, refl, sym, ◌∙◌, ap, subst, add-zero}
use Rattle.std.proofs.lemmas.Bool.{true≢false}
use Rattle.sspi_mech.specs.Calls.{Counts, one_sealing}
use Rattle.sspi_mech.specs.Context.{IsContext}
use Rattle.sspi_mech.specs.Meaning.{Meaning}
use Rattle.sspi_credssp.specs.declared.acts.Acts.{Acts}
use Rattle.sspi_credssp.specs.Acts.{silent, cleared}
use Rattle.sspi_credssp.specs.Opened.{Exchanges, OpensAs, HasOpened}

module _ {S C : Type 0} (c : Meaning S C) (laws : IsContext c) where
  counted_back : (m m2 : C) (n : Counts) → m2 ≡ c.counted m n → c.counted m2 (c.counts m) ≡ m
  counted_back m m2 n e = rw e (laws.counted_counted m n (c.counts m) ∙ laws.counted_counts m)

  pub bare_after : (m m2 : C) (n : Counts) → m2 ≡ c.counted m n → silent n ≡ silent (c.counts m) → cleared c m2 ≡ cleared c m
  bare_after m m2 n e quiet =
      rw e (laws.counted_counted m n (silent (c.counts (c.counted m n))) ∙ ap (λ k. c.counted m (silent k)) (laws.counts_counted m n) ∙ ap
      (c.counted m) quiet)

  pub opens_still : (m m2 : C) (n : Counts) (i : ℕ) (blob text : List ℕ) → m2 ≡ c.counted m n → c.opens m i blob text →
      c.opens m2 i blob text
  opens_still m m2 n i blob text e o =
      laws.opens_counted m2 (c.counts m) i blob text (subst (λ x. c.opens x i blob text) (sym (counted_back m m2 n e)) o)

  pub seals_still : (m m2 : C) (n : Counts) (i : ℕ) (text blob : List ℕ) → m2 ≡ c.counted m n → c.seals m i text blob →
      c.seals m2 i text blob
  seals_still m m2 n i text blob e o =
      laws.seals_counted m2 (c.counts m) i text blob (subst (λ x. c.seals x i text blob) (sym (counted_back m m2 n e)) o)

  -- after the right proof the end seals what it owes and records it, or its sealing is refused
  pub exchanged : {E : Type 0} (m m1 m2 : C) (acts acts1 : Acts) (before now : Bool) (blob proof : List ℕ) (same : Bool)
      (r : Result (List ℕ) E) →
      before ≡ false → HasOpened c m m1 acts acts1 blob proof same → same ≡ true →
      OnOk r (now ≡ true) → OnOk r (m2 ≡ c.counted m1 (one_sealing (c.counts m1))) →
      OnOk r (c.counts m2 ≡ one_sealing (c.counts m1)) → OnErr r (m2 ≡ m1) → OnErr r (now ≡ before) →
      Exchanges c m blob proof m2 acts1.checked now r
  exchanged m m1 m2 acts acts1 before now blob proof same (Ok text) unset opened is done made count _ _ =
      let is_checked : acts1.checked ≡ true = ap (λ (a : Acts). a.checked) opened.noted in
      let held = subst (λ b. OpensAs c m1 blob proof b) is opened.holds in
      record {
        answered = (is_checked, done);
        after_proof = λ _. (is_checked, rw count (opens_still m1 m2 _ _ blob proof made held));
        sealings = rw (count, opened.count, done) refl;
        unsealings = rw (count, opened.count, is_checked) refl;
        bare = bare_after m1 m2 _ made refl ∙ bare_after m m1 _ opened.counted refl;
      }
  exchanged m m1 m2 acts acts1 before now blob proof same (Err e) unset opened is _ _ _ stays kept =
      let not_set : now ≡ false = kept ∙ unset in
      let is_checked : acts1.checked ≡ true = ap (λ (a : Acts). a.checked) opened.noted in
      record {
        answered = tt;
        after_proof = λ h. absurd (true≢false (sym h ∙ not_set));
        sealings = rw (stays, opened.count, not_set) (sym (add-zero _));
        unsealings = rw (stays, opened.count, is_checked) refl;
        bare = rw stays (bare_after m m1 _ opened.counted refl);
      }
