-- What holds while the bytes of a result are taken from the newest delivery, piece by piece.
use Rattle.std.proofs.Common.{◌≡◌, ℕ, List, [], ◌∷◌, false, Option, None, Some}
use Rattle.sspi_delegate.specs.declared.carried.Carried.{Carried}
use Rattle.sspi_delegate.specs.declared.edit.Edit.{Edit}

-- this was taken from the newest delivery, which has not ended
abbrev pub IsSoFar : List Carried → List Carried → List ℕ → Type 0
IsSoFar [] now text = ⊥
IsSoFar (e ∷ log) now text = now ≡ record e { delivered = text; ended = false } ∷ log

-- if the edits are exposed, no fault was counted
abbrev pub IsStill : Option (List Edit) → ℕ → ℕ → Type 0
IsStill None before now = Unit {0}
IsStill (Some edits) before now = now ≡ before
