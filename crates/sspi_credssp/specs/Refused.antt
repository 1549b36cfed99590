-- What a refusal of a type without an NTSTATUS code says.
use Rattle.std.specs.Prelude.{Result, IfErr}
use Rattle.sspi_types.specs.declared.error_kind.ErrorKind.{ErrorKind}
use Rattle.sspi_mech.specs.declared.refusal.Refusal.{Refusal}
use Rattle.sspi_credssp.specs.Noted.{OrMemory}

-- of a call that returns a refusal of such a type
abbrev pub IsRefusedFor : {T : Type 0} → Result T Refusal → (ErrorKind → Type 0) → Type 0
IsRefusedFor result causes = IfErr result
    (λ refusal. OrMemory refusal.error_type (causes refusal.error_type))
