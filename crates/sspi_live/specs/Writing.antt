-- The result of writing a message of an end.
use Rattle.std.specs.Prelude.{◌≡◌, ℕ, ◌≤◌, true, false, List, Option, Result, Ok, Err}
use Rattle.std.specs.Io.KnownBytes.{Appends, Keeps}
use Rattle.sspi_ber.specs.Outside.{Rose, WroteFront}
use Rattle.sspi_tsreq.specs.declared.request.TsRequest.{TsRequest}
use Rattle.sspi_tsreq.specs.Spelling.{fits, spelled}
use Rattle.sspi_credssp.specs.declared.turn.End.{End}
use Rattle.sspi_delegate.specs.declared.answer.DelegateError.{DelegateError}
use Rattle.sspi_delegate.specs.declared.answer.DelegateError.TheVariants as errors

-- The encoding of a message of this end was written, or why not all of it was; the counts of the
-- sink's faults are those before and now.
abbrev pub Writes : End → TsRequest → Option (List ℕ) → Option (List ℕ) → ℕ → ℕ →
    Result (Unit {0}) DelegateError → Type 0
Writes from m old new before now (Ok done) = (fits m ≡ true) × Appends old new (spelled m) ×
    (now ≡ before)
Writes from m old new before now (Err (errors.Write end)) = (end ≡ from) × (fits m ≡ false) ×
    Keeps old new × (now ≡ before)
Writes from m old new before now (Err errors.LinkFault) =
    (fits m ≡ true) × WroteFront old new (spelled m) × (before ≤ now) × Rose before now
Writes from m old new before now (Err errors.InsufficientMemory) = (fits m ≡ true) ×
    WroteFront old new (spelled m) × (now ≡ before)
Writes from m old new before now (Err (errors.Client error)) = ⊥
Writes from m old new before now (Err (errors.Server error)) = ⊥
Writes from m old new before now (Err (errors.Read end kind)) = ⊥
Writes from m old new before now (Err errors.TurnsSpent) = ⊥
