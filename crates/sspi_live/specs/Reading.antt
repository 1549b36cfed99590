-- The result of reading the next request of an end.
use Rattle.std.specs.Prelude.{◌≡◌, ℕ, ◌≤◌, ◌⊎◌, List, [], Option, Result, Ok, Err}
use Rattle.std.specs.Io.KnownBytes.{Consumes, IsAtEnd}
use Rattle.sspi_ber.specs.Outside.{Rose}
use Rattle.sspi_ber.specs.declared.wire_kind.WireKind.{WireKind}
use Rattle.sspi_ber.specs.declared.wire_kind.WireKind.TheVariants as kinds
use Rattle.sspi_tsreq.specs.declared.request.TsRequest.{TsRequest}
use Rattle.sspi_credssp.specs.declared.turn.End.{End}
use Rattle.sspi_framing.specs.Front.{IsText}
use Rattle.sspi_framing.specs.Taking.{IsBad, NeedsMemory, TakesNeedy, TakesToFault}
use Rattle.sspi_framing.specs.Taking.{TakesWanted}
use Rattle.sspi_delegate.specs.declared.answer.DelegateError.{DelegateError}
use Rattle.sspi_delegate.specs.declared.answer.DelegateError.TheVariants as errors

-- nothing is left, or what is left does not begin with a request; and no byte was taken after those
-- that show it
abbrev pub HasNone : Option (List ℕ) → Option (List ℕ) → WireKind → Type 0
HasNone before after kind =
    ((kind ≡ kinds.UnexpectedEof) × IsAtEnd after × Consumes before after []) ⊎
    (IsBad before kind × TakesToFault kind before after)

-- This end took a request and no byte after it, or why it took none; the counts of the source's
-- faults are those before and now.
abbrev pub Reads : End → Option (List ℕ) → Option (List ℕ) → ℕ → ℕ →
    Result TsRequest DelegateError → Type 0
Reads to left rest before now (Ok d) = ((text : List ℕ) × IsText text d × Consumes left rest text) ×
    (now ≡ before)
Reads to left rest before now (Err (errors.Read end kind)) = (end ≡ to) × HasNone left rest kind ×
    (now ≡ before)
Reads to left rest before now (Err errors.LinkFault) = TakesWanted left rest × (before ≤ now) ×
    Rose before now
Reads to left rest before now (Err errors.InsufficientMemory) =
    TakesNeedy NeedsMemory left rest × (now ≡ before)
Reads to left rest before now (Err (errors.Client error)) = ⊥
Reads to left rest before now (Err (errors.Server error)) = ⊥
Reads to left rest before now (Err (errors.Write end)) = ⊥
Reads to left rest before now (Err errors.TurnsSpent) = ⊥
