-- What copying bytes from a source gives.
use Rattle.std.specs.Prelude.{◌≡◌, ℕ, List, [], Option, None, Some, Result, Ok, Err}
use Rattle.sspi_ber.specs.declared.wire_kind.WireKind.{WireKind}
use Rattle.sspi_ber.specs.declared.wire_kind.WireKind.TheVariants.{UnexpectedEof, InvalidData}
use Rattle.sspi_ber.specs.declared.wire_kind.WireKind.TheVariants.{ReadFault, WriteFault}
use Rattle.sspi_ber.specs.declared.wire_kind.WireKind.TheVariants.{InsufficientMemory}
use Rattle.sspi_ber.specs.Outside.{Reads}
use Rattle.sspi_ber.specs.Pieces.{bytes_at}

-- `into` has the next `size` bytes of the source, or the first fault is reported
abbrev pub Fills : {X : Type 0} → Option (List ℕ) → Option (List ℕ) → Result X WireKind → List ℕ →
    ℕ → Type 0
Fills before after (Ok x) into size = Reads {X = List ℕ} (λ bytes. bytes) before after (Ok into)
    (bytes_at size)
Fills before after (Err kind) into size = Reads {X = List ℕ} (λ bytes. bytes) before after
    (Err kind) (bytes_at size)

-- memory runs out only for bytes that are there
abbrev pub WantsForContent : {X : Type 0} → Option (List ℕ) → Result X WireKind → Type 0
WantsForContent None result = Unit {0}
WantsForContent (Some bytes) (Ok x) = Unit {0}
WantsForContent (Some bytes) (Err UnexpectedEof) = Unit {0}
WantsForContent (Some bytes) (Err InvalidData) = Unit {0}
WantsForContent (Some bytes) (Err ReadFault) = Unit {0}
WantsForContent (Some bytes) (Err WriteFault) = Unit {0}
WantsForContent (Some bytes) (Err InsufficientMemory) = bytes ≡ [] → ⊥
