-- What a client reports about a proof that it did not open.
use Rattle.std.proofs.Common.{◌≡◌, ℕ, List, Option, None, Some, false, sym, subst}
use Rattle.sspi_types.specs.declared.error_kind.ErrorKind.{ErrorKind}
use Rattle.sspi_mech.specs.Answered.{IsRefusedAs}
use Rattle.sspi_mech.specs.Calls.{ToUnseal}
use Rattle.sspi_mech.specs.Meaning.{Meaning}
use Rattle.sspi_credssp.specs.ClientCause.{BlobExact, DeliverExact}
use Rattle.sspi_credssp.specs.Context.{ContextSetting}
use Rattle.sspi_credssp.specs.Ends.{ClientView}
use Rattle.sspi_credssp.specs.Exchange.{BlobStops}
use Rattle.sspi_credssp.specs.Opened.{IsSealedBlob}

stops_at : (field : Option (List ℕ)) (blob : List ℕ) (kind : ErrorKind) (Later : List ℕ → Type 0) → IsSealedBlob field blob → Later blob →
    BlobStops field kind Later
stops_at None blob kind Later sealed h = absurd sealed
stops_at (Some held) blob kind Later sealed h = rw sealed.passes (subst Later (sym sealed.same) h)

module _ {C : Type 0} (c : Meaning ContextSetting C) where
  unopened : (noted : Option ℕ) (context : Option C) (m : C) (blob : List ℕ) (new : ClientView C) (kind : ErrorKind) →
      context ≡ Some m → new.acts.checked ≡ false →
      IsRefusedAs (c.permits m (ToUnseal blob)) (c.refuses m (ToUnseal blob)) kind → BlobExact c noted context blob new kind
  unopened None context m blob new kind here unchecked exact = tt
  unopened (Some noted) context m blob new kind here unchecked exact = rw (here, unchecked) exact

  pub unopened_exactly : (field : Option (List ℕ)) (blob : List ℕ) (m : C) (new : ClientView C) (kind : ErrorKind) →
      IsSealedBlob field blob → new.context ≡ Some m → new.acts.checked ≡ false →
      IsRefusedAs (c.permits m (ToUnseal blob)) (c.refuses m (ToUnseal blob)) kind → DeliverExact c field new kind
  unopened_exactly field blob m new kind sealed here unchecked exact =
      stops_at field blob kind (λ (b : List ℕ). BlobExact c new.noted new.context b new kind) sealed
      (unopened new.noted new.context m blob new kind here unchecked exact)
