-- A new context that has acquired credentials, or was refused them.
use Rattle.std.proofs.Common.{◌≡◌, Option, None, Some, Result, Ok, Err}
use Rattle.std.specs.Prelude.{◌≢◌, OnOk, IfErr}
use Rattle.sspi_types.specs.declared.credential_use.CredentialUse.{CredentialUse}
use Rattle.sspi_types.specs.declared.error_kind.ErrorKind.{ErrorKind}
use Rattle.sspi_types.specs.declared.error_kind.ErrorKind.TheVariants.{InsufficientMemory}
use Rattle.sspi_names.specs.declared.credentials.Credentials.{Credentials}
use Rattle.sspi_names.specs.declared.credentials.CredentialsBuffers.{CredentialsBuffers}
use Rattle.sspi_mech.specs.Calls.{ToAcquire}
use Rattle.sspi_mech.specs.Meaning.{Meaning}
use Rattle.sspi_mech.specs.declared.refusal.Refusal.{Refusal}
use Rattle.sspi_credssp.specs.Context.{Begun, BeginCause, IfContext, is_new, unacquired}
use Rattle.sspi_credssp.specs.Refused.{IsRefusedFor}

module _ {S C : Type 0} (c : Meaning S C) (setting : S) (purpose : CredentialUse) (asked : Option Credentials) (m : C)
    (made : c.made setting m) where
  in_place : (context new : Option C) (had handle : Option CredentialsBuffers) → context ≡ None →
      IfContext new (c.acquires m purpose asked handle) → IfContext new (Begun c context had setting purpose asked handle)
  in_place context None had handle none acquired = acquired
  in_place context (Some n) had handle none acquired = is_new m none made acquired

  pub adopted : {X E : Type 0} (result : Result X E) (context new : Option C) (had handle : Option CredentialsBuffers) → context ≡ None →
      OnOk result (IfContext new (c.acquires m purpose asked handle)) →
      OnOk result (IfContext new (Begun c context had setting purpose asked handle))
  adopted (Ok x) context new had handle none acquired = in_place context new had handle none acquired
  adopted (Err e) context new had handle none acquired = tt

  pub unadopted : {X : Type 0} (causes : ErrorKind → Type 0) (result : Result X Refusal) →
      ((kind : ErrorKind) → BeginCause c setting purpose asked kind → causes kind) →
      IfErr result (λ refusal. refusal.error_type ≢ InsufficientMemory → c.refuses m (ToAcquire purpose asked) refusal.error_type) →
      IsRefusedFor result causes
  unadopted causes (Ok x) among cause = tt
  unadopted causes (Err e) among cause = λ memory. among e.error_type (unacquired m made (cause memory))
