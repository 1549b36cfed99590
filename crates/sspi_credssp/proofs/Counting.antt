-- What a context counts that has sealed and opened nothing in the authentication.
use Rattle.std.proofs.Common.{◌≡◌, ◌+◌, ℕ, Option, None, Some, refl, sym, ap, add-zero, ◌∙◌, inl, inr}
use Rattle.sspi_mech.specs.Meaning.{Meaning}
use Rattle.sspi_credssp.specs.declared.acts.Acts.{Acts}
use Rattle.sspi_credssp.specs.declared.state.CredSspState.{CredSspState}
use Rattle.sspi_credssp.specs.declared.state.CredSspState.TheVariants.{NegoToken}
use Rattle.sspi_credssp.specs.Acts.{no_acts, sealings_by, unsealings_by, sealings_in, unsealings_in, AddsActs, CountsEachAct}
use Rattle.sspi_credssp.specs.Unused.{IsUnusedIn}

module _ {S C : Type 0} (c : Meaning S C) where
  pub unused_counts : (o : Option C) → IsUnusedIn c o → (sealings_in c o ≡ 0) × (unsealings_in c o ≡ 0)
  unused_counts None h = (refl, refl)
  unused_counts (Some m) h = (h.sealings, h.unsealings)

  -- a context that has counted no effects yet, and then these
  pub counts_more : (state : CredSspState) (before mid : Option C) (acts : Acts) (now : Option C) →
      CountsEachAct c state before no_acts mid → AddsActs c mid acts now → CountsEachAct c state before acts now
  counts_more state before mid acts now (inl counts) adds = inl (
    adds.0 ∙ ap (λ (n : ℕ). n + sealings_by acts) (counts.0 ∙ add-zero _),
    adds.1 ∙ ap (λ (n : ℕ). n + unsealings_by acts) (counts.1 ∙ add-zero _),
  )
  counts_more state before mid acts now (inr (nego, counts)) adds = inr (
    nego,
    (
      adds.0 ∙ ap (λ (n : ℕ). n + sealings_by acts) counts.0,
      adds.1 ∙ ap (λ (n : ℕ). n + unsealings_by acts) counts.1,
    ),
  )

  -- for such a context both ways of counting agree
  pub counted_by : (state : CredSspState) (before : Option C) (acts : Acts) (now : Option C) →
      (state ≡ NegoToken → IsUnusedIn c before) → CountsEachAct c state before acts now → AddsActs c before acts now
  counted_by state before acts now unused (inl counts) = counts
  counted_by state before acts now unused (inr (nego, (sealed, opened))) =
      let none = unused_counts before (unused nego) in (
        sealed ∙ ap (λ (n : ℕ). n + sealings_by acts) (sym none.0),
        opened ∙ ap (λ (n : ℕ). n + unsealings_by acts) (sym none.1),
      )
