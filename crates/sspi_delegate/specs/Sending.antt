-- How a message is encoded and carried.
use Rattle.std.specs.Prelude.{◌≡◌, ℕ, true, false, List, ◌∷◌, reverse, Option, None, Some, Result}
use Rattle.std.specs.Prelude.{Ok, Err}
use Rattle.sspi_types.specs.Counting.{Counts}
use Rattle.sspi_tsreq.specs.declared.request.TsRequest.{TsRequest}
use Rattle.sspi_tsreq.specs.Spelling.{fits, spelled}
use Rattle.sspi_credssp.specs.declared.turn.End.{End}
use Rattle.sspi_delegate.specs.declared.answer.DelegateError.{DelegateError}
use Rattle.sspi_delegate.specs.declared.answer.DelegateError.TheVariants.{Client, Server, Read}
use Rattle.sspi_delegate.specs.declared.answer.DelegateError.TheVariants.{Write, LinkFault}
use Rattle.sspi_delegate.specs.declared.answer.DelegateError.TheVariants.{TurnsSpent}
use Rattle.sspi_delegate.specs.declared.answer.DelegateError.TheVariants.{InsufficientMemory}
use Rattle.sspi_delegate.specs.declared.carried.Carried.{Carried}
use Rattle.sspi_delegate.specs.declared.edit.Edit.{Edit}
use Rattle.sspi_delegate.specs.Link.{edited, sent_texts}
use Rattle.sspi_delegate.specs.Log.{begun}

-- what sending a message does to the log and to the count of faults
abbrev pub Sends : End → TsRequest → List Carried → List Carried → ℕ → ℕ →
    Result (Unit {0}) DelegateError → Type 0
Sends from message old new before now (Ok done) =
    (fits message ≡ true) × (new ≡ begun from (spelled message) ∷ old) × (now ≡ before)
Sends from message old new before now (Err (Write end)) = (end ≡ from) × (fits message ≡ false) ×
    (new ≡ old) × (now ≡ before)
Sends from message old new before now (Err LinkFault) = (fits message ≡ true) × (new ≡ old) ×
    Counts before now
Sends from message old new before now (Err InsufficientMemory) = (fits message ≡ true) ×
    (new ≡ old) × (now ≡ before)
Sends from message old new before now (Err (Client error)) = ⊥
Sends from message old new before now (Err (Server error)) = ⊥
Sends from message old new before now (Err (Read end kind)) = ⊥
Sends from message old new before now (Err TurnsSpent) = ⊥

-- if the edits are exposed, the link fails only where they say so; then one fault is counted, and
-- otherwise none is
abbrev pub SendTold : Option (List Edit) → List Carried → TsRequest → ℕ → ℕ →
    Result (Unit {0}) DelegateError → Type 0
SendTold None log message before now result = Unit {0}
SendTold (Some edits) log message before now (Ok done) = now ≡ before
SendTold (Some edits) log message before now (Err LinkFault) =
    (edited edits (sent_texts (reverse log)) (spelled message) ≡ None) × Counts before now
SendTold (Some edits) log message before now (Err (Client error)) = now ≡ before
SendTold (Some edits) log message before now (Err (Server error)) = now ≡ before
SendTold (Some edits) log message before now (Err (Read end kind)) = now ≡ before
SendTold (Some edits) log message before now (Err (Write end)) = now ≡ before
SendTold (Some edits) log message before now (Err TurnsSpent) = now ≡ before
SendTold (Some edits) log message before now (Err InsufficientMemory) = now ≡ before

-- the same for the newest turn's message, if it has one; otherwise nothing is sent
abbrev pub GiveTold : Option (List Edit) → List Carried → Option TsRequest → ℕ → ℕ →
    Result (Unit {0}) DelegateError → Type 0
GiveTold edits log None before now result = now ≡ before
GiveTold edits log (Some message) before now result = SendTold edits log message before now result

-- if the edits are exposed, reading a request never fails
abbrev pub RequestTold : {X : Type 0} → Option (List Edit) → ℕ → ℕ → Result X DelegateError → Type 0
RequestTold None before now result = Unit {0}
RequestTold (Some edits) before now (Ok x) = now ≡ before
RequestTold (Some edits) before now (Err (Client error)) = now ≡ before
RequestTold (Some edits) before now (Err (Server error)) = now ≡ before
RequestTold (Some edits) before now (Err (Read end kind)) = now ≡ before
RequestTold (Some edits) before now (Err (Write end)) = now ≡ before
RequestTold (Some edits) before now (Err LinkFault) = ⊥
RequestTold (Some edits) before now (Err TurnsSpent) = now ≡ before
RequestTold (Some edits) before now (Err InsufficientMemory) = now ≡ before
