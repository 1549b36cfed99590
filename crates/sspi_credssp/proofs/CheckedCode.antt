-- What a request's check for an error code tells a client about the code.
use Rattle.std.proofs.Common.{◌≡◌, Option, None, Some, Ok, Err, true, false, not, refl, ap, inl, inr}
use Rattle.std.proofs.lemmas.Bool.Decides.{eqb_tells}
use Rattle.sspi_types.specs.declared.error.Error.{Error}
use Rattle.sspi_types.specs.declared.error_kind.ErrorKind.TheVariants.{InvalidToken}
use Rattle.sspi_types.specs.declared.nstatus.NStatusCode.{NStatusCode}
use Rattle.sspi_tsreq.specs.Status.{ChecksCode}
use Rattle.sspi_credssp.specs.Requests.{is_code}

pub no_code : {X : Type 0} (code : Option NStatusCode) (x : X) → ChecksCode code (Ok x) → is_code code ≡ false
no_code None x h = refl
no_code (Some code) x h = rw h refl

pub coded : (X : Type 0) (code : Option NStatusCode) (error : Error) → ChecksCode {X = X} code (Err error) →
    (is_code code ≡ true) × (error.error_type ≡ InvalidToken) × (error.nstatus ≡ code)
coded X None error h = absurd h
coded X (Some code) error h = elim (eqb_tells code.0 0) [
  | inl same ↦ absurd (h.0 same.1)
  | inr other ↦ (ap not other.0, ap (λ (e : Error). e.error_type) h.1, ap (λ (e : Error). e.nstatus) h.1)
]
