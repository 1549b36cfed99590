-- What is known of an opened blob, depending on whether it held the proof.
use Rattle.std.proofs.Common.{◌≡◌, ◌≢◌, ℕ, ◌-◌, List, Bool, true, false, Result, Ok, Err, OnErr, IfErr, refl, ap, subst}
use Rattle.sspi_types.specs.declared.error_kind.ErrorKind.{ErrorKind}
use Rattle.sspi_types.specs.declared.error_kind.ErrorKind.TheVariants.{InsufficientMemory, MessageAltered}
use Rattle.sspi_mech.specs.declared.refusal.Refusal.{Refusal}
use Rattle.sspi_mech.specs.Meaning.{Meaning}
use Rattle.sspi_credssp.specs.declared.acts.Acts.{Acts}
use Rattle.sspi_credssp.specs.Exchange.{ProofCause, opens_other, altered, unsealed}
use Rattle.sspi_credssp.specs.Opened.{OpensAs, HasOpened}

module _ {S C : Type 0} (c : Meaning S C) where
  pub opened_as : (m : C) (blob text proof : List ℕ) (same : Bool) → c.opens m ((c.counts m).unsealings - 1) blob text →
      (same ≡ true → text ≡ proof) → (same ≡ false → text ≢ proof) → OpensAs c m blob proof same
  opened_as m blob text proof true opens is other =
      subst (λ (t : List ℕ). c.opens m ((c.counts m).unsealings - 1) blob t) (is refl) opens
  opened_as m blob text proof false opens is other = opens_other text opens (other refl)

-- another text is the cause of the refusal
pub other_stops : {S C : Type 0} {c : Meaning S C} {m m2 : C} {acts acts2 : Acts} {blob proof : List ℕ} {same : Bool}
    {kind : ErrorKind} (Unsealed : Type 0) → HasOpened c m m2 acts acts2 blob proof same → same ≡ false → kind ≡ MessageAltered →
    ProofCause c acts2.checked m2 blob proof Unsealed kind
other_stops {c = c} {m2 = m2} {blob = blob} {proof = proof} Unsealed opened other is =
    rw (ap (λ (a : Acts). a.checked) opened.noted) (altered (subst (λ b. OpensAs c m2 blob proof b) other opened.holds) is)

-- the proof was the right one, and what the end then owes is not sealed
pub owed_stops : {S C : Type 0} {c : Meaning S C} {m m2 : C} {acts acts2 : Acts} {blob proof : List ℕ} {same : Bool}
    (kind : ErrorKind) (Unsealed : Type 0) → HasOpened c m m2 acts acts2 blob proof same → same ≡ true → Unsealed →
    ProofCause c acts2.checked m2 blob proof Unsealed kind
owed_stops {c = c} {m2 = m2} {blob = blob} {proof = proof} kind Unsealed opened is why =
    rw (ap (λ (a : Acts). a.checked) opened.noted) (unsealed (subst (λ b. OpensAs c m2 blob proof b) is opened.holds) why)

-- the same for what the end then owes, sealed or refused
pub owed_causes : {T S C : Type 0} {c : Meaning S C} {m m1 : C} {acts acts2 : Acts} {blob proof : List ℕ} {same : Bool} (m2 : C)
    (Unsealed : ErrorKind → Type 0) (r : Result T Refusal) → HasOpened c m m1 acts acts2 blob proof same → same ≡ true →
    OnErr r (m2 ≡ m1) → IfErr r (λ e. e.error_type ≢ InsufficientMemory → Unsealed e.error_type) →
    IfErr r (λ e. e.error_type ≢ InsufficientMemory → ProofCause c acts2.checked m2 blob proof (Unsealed e.error_type) e.error_type)
owed_causes m2 Unsealed (Ok x) opened is stays why = tt
owed_causes m2 Unsealed (Err e) opened is stays why =
    λ memory. rw stays (owed_stops e.error_type (Unsealed e.error_type) opened is (why memory))
