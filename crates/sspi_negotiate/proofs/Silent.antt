-- No step of a negotiation seals or opens, even if running out of memory breaks it off.
use Rattle.std.proofs.Common.{◌≡◌, ◌⊎◌, ap, inl, inr, ◌∙◌}
use Rattle.sspi_types.specs.declared.error.Error.{Error}
use Rattle.sspi_types.specs.declared.error_kind.ErrorKind.{ErrorKind}
use Rattle.std.proofs.Common.{Result, Ok, Err, subst, sym, refl}
use Rattle.sspi_mech.specs.declared.step.Answer.{Answer}
use Rattle.sspi_mech.specs.declared.step.Answer.TheVariants.{Done, Ask, Refused}
use Rattle.sspi_mech.specs.declared.step.Step.{Step}
use Rattle.sspi_mech.specs.Calls.{Counts, IsUnused, no_counts, one_signing, one_verification}
use Rattle.sspi_mech.specs.Context.{IsContext, NeitherSealsNorOpens}
use Rattle.sspi_mech.specs.Meaning.{Meaning}
use Rattle.sspi_negotiate.specs.Hand.{Origin}
use Rattle.sspi_negotiate.specs.Plan.{Plan, Goes, Stops, Takes, Steps, Resumes, Accepts, Pairs, Names, Identifies, Signs, Verifies}
use Rattle.sspi_negotiate.specs.Reaches.{Onwards, Accepted, Moved, Reaches}

pub fresh_unused : (counts : Counts) → counts ≡ no_counts → IsUnused counts
fresh_unused counts none = subst IsUnused (sym none) (record { sealings = refl; unsealings = refl })

-- one that neither seals nor opens, after another
pub silent_after : (n k l : Counts) → NeitherSealsNorOpens n k → NeitherSealsNorOpens k l → NeitherSealsNorOpens n l
silent_after n k l (inl same) (inl again) = inl (again.0 ∙ same.0, again.1 ∙ same.1)
silent_after n k l (inr unused) (inl again) = inr (record {
  sealings = again.0 ∙ unused.sealings;
  unsealings = again.1 ∙ unused.unsealings;
})
silent_after n k l first (inr unused) = inr unused

module _ {M : Type 0} (c : Meaning Origin M) (laws : IsContext c) where
  abbrev Silent : M → M → Type 0
  Silent m m2 = NeitherSealsNorOpens (c.counts m) (c.counts m2)

  alike : (m m2 : M) → c.counts m2 ≡ c.counts m → Silent m m2
  alike m m2 same = inl (ap (λ (n : Counts). n.sealings) same, ap (λ (n : Counts). n.unsealings) same)

  signed : (m m2 : M) → m2 ≡ c.counted m (one_signing (c.counts m)) → Silent m m2
  signed m m2 is = let counts = ap (λ x. c.counts x) is ∙ laws.counts_counted m (one_signing (c.counts m)) in
      inl (ap (λ (n : Counts). n.sealings) counts, ap (λ (n : Counts). n.unsealings) counts)

  verified : (m m2 : M) → m2 ≡ c.counted m (one_verification (c.counts m)) → Silent m m2
  verified m m2 is = let counts = ap (λ x. c.counts x) is ∙ laws.counts_counted m (one_verification (c.counts m)) in
      inl (ap (λ (n : Counts). n.sealings) counts, ap (λ (n : Counts). n.unsealings) counts)

  after : (m m1 m2 : M) → Silent m m1 → Silent m1 m2 → Silent m m2
  after m m1 m2 = silent_after (c.counts m) (c.counts m1) (c.counts m2)

  still : (m m2 : M) → m2 ≡ m → Silent m m2
  still m m2 same = alike m m2 (ap (λ x. c.counts x) same)

  behind : {X : Type 0} (m m1 m2 : M) → Silent m m1 → (X → Silent m1 m2) → (m2 ≡ m1) ⊎ X → Silent m m2
  behind m m1 m2 first on (inl same) = after m m1 m2 first (still m1 m2 same)
  behind m m1 m2 first on (inr h) = after m m1 m2 first (on h)

  onwards : {Go : Step → Type 0} {Fall : ErrorKind → Type 0} (m m1 m2 : M) (r x : Answer) → Silent m m1 →
      ((step : Step) → Go step → Silent m1 m2) → ((kind : ErrorKind) → Fall kind → Silent m1 m2) → Onwards x Go Fall r m1 m2 → Silent m m2
  onwards m m1 m2 r (Done step) first go fall h = behind m m1 m2 first (go step) h
  onwards m m1 m2 r (Ask request) first go fall h = after m m1 m2 first (still m1 m2 h.0)
  onwards m m1 m2 r (Refused error) first go fall h = behind m m1 m2 first (fall error.error_type) h

  accepted : {Go : Step → Type 0} (m m1 m2 : M) (r : Answer) (x : Result Step Error) → Silent m m1 →
      ((step : Step) → Go step → Silent m1 m2) → Accepted x Go r m1 m2 → Silent m m2
  accepted m m1 m2 r (Ok step) first go h = behind m m1 m2 first (go step) h
  accepted m m1 m2 r (Err error) first go h = after m m1 m2 first (still m1 m2 h.0)

  moved_silent : (p : Plan) (m m2 : M) (r : Answer) → Moved c p m r m2 → Silent m m2
  moved_silent (Goes v step) m m2 r h = absurd h
  moved_silent (Stops v kind) m m2 r h = absurd h
  moved_silent (Takes origin p) m m2 r h =
      behind m h.0 m2 (inr (fresh_unused (c.counts h.0) (laws.made_fresh origin h.0 h.1))) (moved_silent p h.0 m2 r) h.2
  moved_silent (Steps args v go fall) m m2 r h = onwards m h.0 m2 r h.1 (laws.step_silent m h.0 args h.1 h.2)
      (λ step. moved_silent (go step) h.0 m2 r) (λ kind. moved_silent (fall kind) h.0 m2 r) h.3
  moved_silent (Resumes reply v go fall) m m2 r h = onwards m h.0 m2 r h.1 (laws.resume_silent m h.0 reply h.1 h.2)
      (λ step. moved_silent (go step) h.0 m2 r) (λ kind. moved_silent (fall kind) h.0 m2 r) h.3
  moved_silent (Accepts args v go) m m2 r h = accepted m h.0 m2 r h.1 (laws.accept_silent m h.0 args h.1 h.2)
      (λ step. moved_silent (go step) h.0 m2 r) h.3
  moved_silent (Pairs go) m m2 r h = moved_silent (go (c.pairs m)) m m2 r h
  moved_silent (Names v go) m m2 r h = moved_silent (go h.0) m m2 r h.2
  moved_silent (Identifies identities v p) m m2 r h =
      behind m h.0 m2 (alike m h.0 (laws.identify_counts m h.0 identities h.1)) (moved_silent p h.0 m2 r) h.2
  moved_silent (Signs text v go) m m2 r h = behind m h.0 m2 (signed m h.0 h.3) (moved_silent (go h.1) h.0 m2 r) h.5
  moved_silent (Verifies mic text v p) m m2 r h = behind m h.0 m2 (verified m h.0 h.2) (moved_silent p h.0 m2 r) h.4

  pub reached_silent : (p : Plan) (m m2 : M) (r : Answer) → Reaches c p m r m2 → Silent m m2
  reached_silent p m m2 r (inl same) = still m m2 same
  reached_silent p m m2 r (inr h) = moved_silent p m m2 r h
