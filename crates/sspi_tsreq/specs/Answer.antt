-- What reading a request answers: the request that the bytes begin with, or their first fault.
use Rattle.std.specs.Prelude.{◌≡◌, ℕ, true, false, List, None, Some, Result, Ok, Err}
use Rattle.std.specs.Global.{Vec}
use Rattle.sspi_ber.specs.declared.wire_kind.WireKind.{WireKind}
use Rattle.sspi_ber.specs.declared.wire_kind.WireKind.TheVariants.{UnexpectedEof, InvalidData}
use Rattle.sspi_ber.specs.declared.wire_kind.WireKind.TheVariants.{ReadFault, WriteFault}
use Rattle.sspi_ber.specs.declared.wire_kind.WireKind.TheVariants.{InsufficientMemory}
use Rattle.sspi_ber.specs.Pieces.{Ended, Invalid}
use Rattle.sspi_tsreq.specs.declared.request.TsRequest.{TsRequest}
use Rattle.sspi_tsreq.specs.Grammar.{IsRequest}
use Rattle.sspi_tsreq.specs.Quiet.{HasOctets}
use Rattle.sspi_tsreq.specs.Reading.{fault}
use Rattle.sspi_tsreq.specs.Spelling.{fits, spelled}

-- The answer has its cause. Memory runs out only for a request that the bytes do begin with, and
-- only for its OCTET STRINGs.
abbrev pub IsAnswer : List ℕ → Result TsRequest WireKind → Type 0
IsAnswer bytes (Ok r) = ((count : ℕ) × IsRequest bytes r count) × (fault bytes ≡ None)
IsAnswer bytes (Err UnexpectedEof) = fault bytes ≡ Some Ended
IsAnswer bytes (Err InvalidData) = fault bytes ≡ Some Invalid
IsAnswer bytes (Err ReadFault) = ⊥
IsAnswer bytes (Err WriteFault) = ⊥
IsAnswer bytes (Err InsufficientMemory) = (r : TsRequest) × (count : ℕ) × IsRequest bytes r count ×
    HasOctets r

-- this value, or out of memory
abbrev pub IsUnlessMemory : {X : Type 0} → Result X WireKind → X → Type 0
IsUnlessMemory (Ok x) value = x ≡ value
IsUnlessMemory (Err UnexpectedEof) value = ⊥
IsUnlessMemory (Err InvalidData) value = ⊥
IsUnlessMemory (Err ReadFault) value = ⊥
IsUnlessMemory (Err WriteFault) value = ⊥
IsUnlessMemory (Err InsufficientMemory) value = Unit {0}

-- a request is written, or it is too long, which is found before any allocation
abbrev pub Encodes : TsRequest → Result (Vec ℕ) WireKind → Type 0
Encodes request (Ok text) = (fits request ≡ true) × (text.items ≡ spelled request)
Encodes request (Err InvalidData) = fits request ≡ false
Encodes request (Err InsufficientMemory) = fits request ≡ true
Encodes request (Err UnexpectedEof) = ⊥
Encodes request (Err ReadFault) = ⊥
Encodes request (Err WriteFault) = ⊥
