-- What a call on a source or a sink says of the outside world: the bytes that are left or written,
-- if they are exposed, and the object's count of faults.
use Rattle.std.specs.Prelude.{◌≡◌, ◌≢◌, ℕ, ◌≤◌, Bool, true, false, List, [], ◌∷◌, ◌++◌, Option}
use Rattle.std.specs.Prelude.{None, Some, Result, Ok, Err}
use Rattle.std.specs.Io.KnownBytes.{Appends, Consumes, Keeps, IsAtEnd}
use Rattle.sspi_types.specs.Counting.{counted_on}
use Rattle.sspi_ber.specs.declared.source.SourceError.{SourceError}
use Rattle.sspi_ber.specs.declared.source.SourceError.TheVariants as source_errors
use Rattle.sspi_ber.specs.declared.sink.SinkError.{SinkError}
use Rattle.sspi_ber.specs.declared.sink.SinkError.TheVariants as sink_errors
use Rattle.sspi_ber.specs.declared.wire_kind.WireKind.{WireKind}
use Rattle.sspi_ber.specs.declared.wire_kind.WireKind.TheVariants.{UnexpectedEof, InvalidData}
use Rattle.sspi_ber.specs.declared.wire_kind.WireKind.TheVariants.{ReadFault, WriteFault}
use Rattle.sspi_ber.specs.declared.wire_kind.WireKind.TheVariants.{InsufficientMemory}
use Rattle.sspi_ber.specs.Pieces.{Ended, Invalid, Read}

-- the count of faults rose, or is at the last value of its counter
abbrev pub Rose : ℕ → ℕ → Type 0
Rose before now = counted_on before ≤ now

-- what a call of `read` says of the count: a failure raises it, and nothing else changes it
abbrev pub SourceCause : {X : Type 0} → ℕ → ℕ → Result X SourceError → Type 0
SourceCause before now (Ok x) = now ≡ before
SourceCause before now (Err source_errors.Failed) = (before ≤ now) × Rose before now

-- what a call of `next_byte` takes: one byte, or nothing if none is left
abbrev pub NextConsumes : Option (List ℕ) → Option (List ℕ) → Result (Option ℕ) SourceError → Type 0
NextConsumes before after (Ok (Some byte)) = Consumes before after (byte ∷ [])
NextConsumes before after (Ok None) = Keeps before after × IsAtEnd after
NextConsumes before after (Err error) = Keeps before after

-- what a call of `write` says of the count: a failure raises it, and nothing else changes it
abbrev pub SinkCause : {X : Type 0} → ℕ → ℕ → Result X SinkError → Type 0
SinkCause before now (Ok x) = now ≡ before
SinkCause before now (Err sink_errors.Failed) = (before ≤ now) × Rose before now
SinkCause before now (Err sink_errors.InsufficientMemory) = now ≡ before

-- ---- readers

-- What a reader says of the source's count: `ReadFault` only if it rose, and no other fault from
-- outside. On any other answer the count is unchanged, so no failed call was tried again.
abbrev pub ReadCause : {X : Type 0} → ℕ → ℕ → Result X WireKind → Type 0
ReadCause before now (Ok x) = now ≡ before
ReadCause before now (Err UnexpectedEof) = now ≡ before
ReadCause before now (Err InvalidData) = now ≡ before
ReadCause before now (Err ReadFault) = (before ≤ now) × Rose before now
ReadCause before now (Err WriteFault) = ⊥
ReadCause before now (Err InsufficientMemory) = ⊥

-- the same for a reader that allocates
abbrev pub CopyCause : {X : Type 0} → ℕ → ℕ → Result X WireKind → Type 0
CopyCause before now (Ok x) = now ≡ before
CopyCause before now (Err UnexpectedEof) = now ≡ before
CopyCause before now (Err InvalidData) = now ≡ before
CopyCause before now (Err ReadFault) = (before ≤ now) × Rose before now
CopyCause before now (Err WriteFault) = ⊥
CopyCause before now (Err InsufficientMemory) = now ≡ before

-- What a source has left after a call, refused or not, is a suffix of what it had.
pub record LeavesRest (before after : Option (List ℕ)) : Type 0 where
  pub taken : List ℕ
  pub consumed : Consumes before after taken

-- a reader's answer, seen by view, is what reading the list gives, up to a fault of the source
abbrev pub Answers : {X A : Type 0} → (X → A) → Option (List ℕ) → Result X WireKind → Read A →
    Type 0
Answers view after (Ok x) (Ok read) = (view x ≡ read.0) × (after ≡ Some read.1)
Answers view after (Ok x) (Err fault) = ⊥
Answers view after (Err UnexpectedEof) read = read ≡ Err Ended
Answers view after (Err InvalidData) read = read ≡ Err Invalid
Answers view after (Err ReadFault) read = Unit {0}
Answers view after (Err WriteFault) read = Unit {0}
Answers view after (Err InsufficientMemory) read = Unit {0}

-- the same for a source that may not expose its bytes
abbrev pub Reads : {X A : Type 0} → (X → A) → Option (List ℕ) → Option (List ℕ) →
    Result X WireKind → (List ℕ → Read A) → Type 0
Reads view None after result read = Unit {0}
Reads view (Some bytes) after result read = Answers view after result (read bytes)

-- the same over a slice, where no fault comes from outside; out of memory is allowed, for readers
-- that copy
abbrev pub Gives : {X A : Type 0} → (X → A) → List ℕ → Result X WireKind → Read A → Type 0
Gives view after (Ok x) read = read ≡ Ok (view x, after)
Gives view after (Err UnexpectedEof) read = read ≡ Err Ended
Gives view after (Err InvalidData) read = read ≡ Err Invalid
Gives view after (Err ReadFault) read = ⊥
Gives view after (Err WriteFault) read = ⊥
Gives view after (Err InsufficientMemory) read = Unit {0}

-- never out of memory: what a reader that copies nothing says in addition
abbrev pub NeedsNoMemory : {X : Type 0} → Result X WireKind → Type 0
NeedsNoMemory (Ok x) = Unit {0}
NeedsNoMemory (Err UnexpectedEof) = Unit {0}
NeedsNoMemory (Err InvalidData) = Unit {0}
NeedsNoMemory (Err ReadFault) = Unit {0}
NeedsNoMemory (Err WriteFault) = Unit {0}
NeedsNoMemory (Err InsufficientMemory) = ⊥

-- ---- writers

-- the whole text was written
pub record Wrote (before after : Option (List ℕ)) (text : List ℕ) : Type 0 where
  pub appended : Appends before after text

-- a proper prefix of the text was written: not all of it, so the text was not empty
pub record WroteFront (before after : Option (List ℕ)) (text : List ℕ) : Type 0 where
  pub front : List ℕ
  pub rest : List ℕ
  pub appended : Appends before after front
  pub parts : text ≡ front ++ rest
  pub cut : rest ≢ []

-- what a writer of this text did: all of it was written, or it was refused and something is missing
abbrev pub Writes : {X : Type 0} → Option (List ℕ) → Option (List ℕ) → Result X WireKind → List ℕ →
    Type 0
Writes before after (Ok x) text = Wrote before after text
Writes before after (Err UnexpectedEof) text = ⊥
Writes before after (Err InvalidData) text = ⊥
Writes before after (Err ReadFault) text = ⊥
Writes before after (Err WriteFault) text = WroteFront before after text
Writes before after (Err InsufficientMemory) text = WroteFront before after text

-- A writer that refuses what is too long, and then leaves the sink as it was.
abbrev pub WritesIf : {X W : Type 0} → Bool → (W → Option (List ℕ)) → W → W → Result X WireKind →
    List ℕ → Type 0
WritesIf true written old new result text = Writes (written old) (written new) result text
WritesIf false written old new result text = (result ≡ Err InvalidData) × (new ≡ old)

-- What a writer says of the sink's count: `WriteFault` only if it rose. After a fault of the sink,
-- which raises a count below its last value, there is no other answer: out of memory does not
-- replace it.
abbrev pub WriteCause : {X : Type 0} → ℕ → ℕ → Result X WireKind → Type 0
WriteCause before now (Ok x) = now ≡ before
WriteCause before now (Err UnexpectedEof) = now ≡ before
WriteCause before now (Err InvalidData) = now ≡ before
WriteCause before now (Err ReadFault) = now ≡ before
WriteCause before now (Err WriteFault) = (before ≤ now) × Rose before now
WriteCause before now (Err InsufficientMemory) = now ≡ before
