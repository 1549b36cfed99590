-- What follows from a blob opening to a single text.
use Rattle.std.proofs.Common.{◌≡◌, ℕ, ◌-◌, List, Bool, true, Option, None, Some, Result, Ok, Err, OnErr, IfErr, sym, ◌∙◌, ap, subst}
use Rattle.sspi_types.specs.declared.error_kind.ErrorKind.{ErrorKind}
use Rattle.sspi_names.specs.declared.identity.AuthIdentity.{AuthIdentity}
use Rattle.sspi_mech.specs.declared.refusal.Refusal.{Refusal}
use Rattle.sspi_mech.specs.Context.{IsContext}
use Rattle.sspi_mech.specs.Meaning.{Meaning}
use Rattle.sspi_credssp.specs.declared.acts.Acts.{Acts}
use Rattle.sspi_credssp.specs.Acts.{OpensIn, SameBut, cleared}
use Rattle.sspi_credssp.specs.Context.{ContextSetting}
use Rattle.sspi_credssp.specs.Exchange.{delegated_identity, OpensIdentity, opens_identity, OpensOther, opens_other}
use Rattle.sspi_credssp.specs.Exchange.{AlteredExactly, other_is_altered, CheckedCause, altered, unsealed}
use Rattle.sspi_credssp.specs.Opened.{HasOpened, OpensAs}
use Rattle.sspi_credssp.specs.ServerTurn.{HoldsIdentity}
use Rattle.sspi_credssp.proofs.Walks.{recounted_as}

module _ {C : Type 0} (c : Meaning ContextSetting C) (laws : IsContext c) where
  one_opened : (m : C) (blob : List ℕ) (identity other : AuthIdentity) → OpensIdentity c m blob identity → OpensIdentity c m blob other →
      identity ≡ other
  one_opened m blob identity other (opens_identity text opens is) (opens_identity text2 opens2 is2) =
      let both : Ok identity ≡ Ok other = sym is ∙ ap delegated_identity (laws.one_text m _ blob text text2 opens opens2) ∙ is2 in cc

  pub one_held : (context : Option C) (field : Option (List ℕ)) (identity other : AuthIdentity) → HoldsIdentity c context field identity →
      HoldsIdentity c context field other → identity ≡ other
  one_held None field identity other holds again = absurd holds
  one_held (Some m) None identity other holds again = absurd holds
  one_held (Some m) (Some blob) identity other holds again = one_opened m blob identity other holds again

  -- a context that differs only in its counts opens a blob to the same text
  opens_before : (m m2 : C) (n : ℕ) (blob text : List ℕ) → cleared c m2 ≡ cleared c m → c.opens m2 n blob text → c.opens m n blob text
  opens_before m m2 n blob text same opens = laws.opens_counted m (c.counts m2) n blob text
      (subst (λ (x : C). c.opens x n blob text) (recounted_as c laws m m2 same) opens)

  pub never_altered : (m : C) (context : Option C) (blob proof : List ℕ) → SameBut c (Some m) context → OpensOther c m blob proof →
      OpensIn c context ((c.counts m).unsealings - 1) (Some blob) proof → ⊥
  never_altered m None blob proof same other opens = absurd opens
  never_altered m (Some m2) blob proof same (opens_other text opened differs) opens =
      differs (laws.one_text m _ blob text proof opened (opens_before m m2 _ blob proof same opens))

  -- the last blob that the context opened holds the proof, and so no other text
  pub not_altered : (m : C) (blob proof : List ℕ) → c.opens m ((c.counts m).unsealings - 1) blob proof → OpensOther c m blob proof → ⊥
  not_altered m blob proof opens (opens_other text opened differs) = differs (laws.one_text m _ blob text proof opened opens)

  pub owed_exactly : {acts acts2 : Acts} {same : Bool} (m m2 : C) (blob proof : List ℕ) (kind : ErrorKind) →
      HasOpened c m m2 acts acts2 blob proof same → same ≡ true → AlteredExactly c acts2.checked m2 blob proof kind
  owed_exactly m m2 blob proof kind opened is =
      rw (ap (λ (a : Acts). a.checked) opened.noted) (other_is_altered
      (λ other. absurd (not_altered m2 blob proof (subst (λ (b : Bool). OpensAs c m2 blob proof b) is opened.holds) other)))

  -- whatever the rest answers
  pub owed_always : {T : Type 0} {acts acts2 : Acts} {same : Bool} (r : Result T Refusal) (m m2 : C) (blob proof : List ℕ) →
      HasOpened c m m2 acts acts2 blob proof same → same ≡ true →
      IfErr r (λ e. AlteredExactly c acts2.checked m2 blob proof e.error_type)
  owed_always (Ok x) m m2 blob proof opened is = tt
  owed_always (Err e) m m2 blob proof opened is = owed_exactly m m2 blob proof e.error_type opened is

  -- what the end then owes is sealed, or its sealing is refused
  pub sealed_exactly : {T : Type 0} {acts acts2 : Acts} {same : Bool} (r : Result T Refusal) (m m1 m2 : C) (blob proof : List ℕ) →
      HasOpened c m m1 acts acts2 blob proof same → same ≡ true → OnErr r (m2 ≡ m1) →
      IfErr r (λ e. AlteredExactly c acts2.checked m2 blob proof e.error_type)
  sealed_exactly (Ok x) m m1 m2 blob proof opened is stays = tt
  sealed_exactly (Err e) m m1 m2 blob proof opened is stays = rw stays (owed_exactly m m1 blob proof e.error_type opened is)

  pub only_unsealed : (m : C) (context : Option C) (blob proof : List ℕ) → SameBut c (Some m) context →
      OpensIn c context ((c.counts m).unsealings - 1) (Some blob) proof →
      (Unsealed : Type 0) (kind : ErrorKind) → CheckedCause c m blob proof Unsealed kind → Unsealed
  only_unsealed m context blob proof same opens Unsealed kind (altered other is) =
      absurd (never_altered m context blob proof same other opens)
  only_unsealed m context blob proof same opens Unsealed kind (unsealed opened why) = why
