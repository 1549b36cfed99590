-- What a refusal says to a caller.
use Rattle.std.proofs.Common.{◌≡◌, Option, None, Result, Ok, Err, OnErr, IfErr, refl, sym, ap}
use Rattle.sspi_types.specs.declared.error.Error.{Error}
use Rattle.sspi_types.specs.declared.error_kind.ErrorKind.{ErrorKind}
use Rattle.sspi_types.specs.declared.nstatus.NStatusCode.{NStatusCode}
use Rattle.sspi_mech.specs.declared.refusal.Refusal.{Refusal}
use Rattle.sspi_mech.specs.Refusals.{error_of, refusal_of}
use Rattle.sspi_mech.specs.Answered.{answered}
use Rattle.sspi_credssp.specs.Refusal.{IsRefusedBy}
use Rattle.sspi_credssp.specs.Refused.{IsRefusedFor}

-- an error without a code is determined by its kind and its reason
pub codeless_again : (error : Error) → error.nstatus ≡ None → error_of (refusal_of error) ≡ error
codeless_again error none = ap (λ (code : Option NStatusCode). record error { nstatus = code }) (sym none)

-- the causes of a refusal are those of the answer to a caller
pub caused : {T : Type 0} (causes : ErrorKind → Type 0) (result : Result T Refusal) → IsRefusedFor result causes →
    IsRefusedBy (answered result) causes
caused causes (Ok x) h = record { kind = tt; codeless = tt }
caused causes (Err refusal) h = record { kind = h; codeless = refl }

pub err_answered : {T : Type 0} (causes : ErrorKind → Type 0) (result : Result T Refusal) → IfErr result (λ e. causes e.error_type) →
    IfErr (answered result) (λ e. causes e.error_type)
err_answered causes (Ok x) h = tt
err_answered causes (Err refusal) h = h

pub on_err_answered : {T : Type 0} (P : Type 0) (result : Result T Refusal) → OnErr result P → OnErr (answered result) P
on_err_answered P (Ok x) h = tt
on_err_answered P (Err refusal) h = h
