-- What opening the credentials did to the server, from what it did to its context.
use Rattle.std.proofs.Common.{◌≡◌, ◌≢◌, ℕ, List, Option, None, Some, Result, Ok, Err, IfOk, IfErr, OnOk, Bool, true, refl, sym, ◌∙◌}
use Rattle.std.proofs.Common.{ap, subst, ◌+◌}
use Rattle.sspi_types.specs.declared.error_kind.ErrorKind.TheVariants.{InsufficientMemory}
use Rattle.sspi_names.specs.declared.identity.AuthIdentity.{AuthIdentity}
use Rattle.sspi_mech.specs.Meaning.{Meaning}
use Rattle.sspi_mech.specs.declared.refusal.Refusal.{Refusal}
use Rattle.sspi_mech.specs.Refusals.{error_of}
use Rattle.sspi_mech.specs.Answered.{answered}
use Rattle.sspi_credssp.specs.declared.acts.Acts.{Acts}
use Rattle.sspi_credssp.specs.Acts.{no_acts, count_of, sealings_in, unsealings_in, SameBut}
use Rattle.sspi_credssp.specs.Context.{ContextSetting}
use Rattle.sspi_credssp.specs.Exchange.{OpensIdentity, BlobStops}
use Rattle.sspi_credssp.specs.Opened.{Opens, IsSealedBlob}
use Rattle.sspi_credssp.specs.Requests.{IsLong}
use Rattle.sspi_credssp.specs.Ends.{ServerView}
use Rattle.sspi_credssp.specs.ServerCause.{OpenedCause}
use Rattle.sspi_credssp.specs.ServerTurn.{HoldsIdentity}
use Rattle.sspi_credssp.specs.ServerStage.{ServerOpens, ServerOpensBlob}

long_blob : (field : Option (List ℕ)) (blob : List ℕ) → IsSealedBlob field blob → IsLong field
long_blob None blob h = absurd h
long_blob (Some held) blob h = rw h.same h.long

module _ {C : Type 0} (c : Meaning ContextSetting C) where
  holds : (field : Option (List ℕ)) (blob : List ℕ) (m : C) (identity : AuthIdentity) → IsSealedBlob field blob →
      OpensIdentity c m blob identity → HoldsIdentity c (Some m) field identity
  holds None blob m identity long h = absurd long
  holds (Some held) blob m identity long h = rw long.same h

  pub opened_cause : (field : Option (List ℕ)) (blob : List ℕ) (m : C) (opened : Bool) (r : Result AuthIdentity Refusal) →
      IsSealedBlob field blob →
      IfErr r (λ e. e.error_type ≢ InsufficientMemory → OpenedCause c opened (Some m) blob e.error_type) →
      IfErr r (λ e. e.error_type ≢ InsufficientMemory → BlobStops field e.error_type (λ b. OpenedCause c opened (Some m) b e.error_type))
  opened_cause field blob m opened (Ok identity) long h = h
  opened_cause None blob m opened (Err e) long h = absurd long
  opened_cause (Some held) blob m opened (Err e) long h = λ memory. rw long.passes (rw long.same (h memory))

module _ {C P : Type 0} (c : Meaning ContextSetting C) where
  opened_blob : (old : ServerView C P) (field : Option (List ℕ)) (blob : List ℕ) (m m2 : C) (acts : Acts) → IsSealedBlob field blob →
      old.context ≡ Some m → old.acts ≡ no_acts → Opens c m m2 no_acts acts →
      ServerOpensBlob c old field (record old { context = Some m2; acts = acts })
  opened_blob old field blob m m2 acts long here idle h = record {
    rest = refl;
    acts = h.acts_are;
    opened = λ _. long_blob field blob long;
    sealings = h.sealings ∙ sym (ap (sealings_in c) here);
    unsealings = h.unsealings ∙ ap (λ n. n + count_of acts.opened) (sym (ap (unsealings_in c) here));
    bare = subst (λ x. SameBut c x (Some m2)) (sym here) h.bare;
  }

  pub opened : (old new : ServerView C P) (field : Option (List ℕ)) (blob : List ℕ) (m m2 : C) (acts : Acts)
      (r : Result AuthIdentity Refusal) →
      IsSealedBlob field blob → old.context ≡ Some m → old.acts ≡ no_acts → new ≡ record old { context = Some m2; acts = acts } →
      Opens c m m2 no_acts acts → OnOk r (acts.opened ≡ true) → IfOk r (λ identity. OpensIdentity c m2 blob identity) →
      ServerOpens c old field (answered r) new
  opened old new field blob m m2 acts (Ok identity) long here idle made h is_opened gives =
      subst (λ v. ServerOpens c old field (Ok identity) v) (sym made)
      (opened_blob old field blob m m2 acts long here idle h, is_opened, holds c field blob m2 identity long gives)
  opened old new field blob m m2 acts (Err error) long here idle made h is_opened gives =
      subst (λ v. ServerOpens c old field (Err (error_of error)) v) (sym made) (opened_blob old field blob m m2 acts long here idle h)
