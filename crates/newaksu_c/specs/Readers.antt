-- What the calls on a reader do.
use Rattle.std.specs.Prelude.{◌≡◌, ◌≢◌, ℕ, ◌++◌, List, [], Option, None, Some, Result, Ok, Err}
use Rattle.sspi_ber.specs.Outside.{NeedsNoMemory}
use Rattle.sspi_ber.specs.declared.wire_kind.WireKind.{WireKind}
use Rattle.sspi_tsreq.specs.Answer.{IsAnswer}
use Rattle.sspi_tsreq.specs.Feeding.{IsPastReading, Stands}
use Rattle.sspi_tsreq.specs.Grammar.{IsRequest}
use Rattle.sspi_tsreq.specs.Quiet.{IsWithout}
use Rattle.sspi_tsreq.specs.declared.reader.TsReader.{TsReader}
use Rattle.sspi_tsreq.specs.declared.request.TsRequest.{TsRequest}
use Rattle.newaksu_c.specs.declared.object.Object.{Object}
use Rattle.newaksu_c.specs.declared.object.Object.TheVariants.{Reader, Request}
use Rattle.newaksu_c.specs.Status.{ok, invalid_handle, insufficient_memory, wire_status}

-- A reader that was fed a piece, or is as it was when out of memory. It needs no memory if no byte
-- is the identifier octet of an OCTET STRING, or if nothing more is read.
pub record Feeds (before : TsReader) (piece : List ℕ) (after : TsReader) (status : ℕ) : Type 0 where
  pub fed : (bytes : List ℕ) → Stands before bytes → status ≡ ok → Stands after (bytes ++ piece)
  pub unfed : status ≢ ok → (status ≡ insufficient_memory) × (after ≡ before)
  pub free : (bytes : List ℕ) → Stands before bytes → IsWithout 0x04 (bytes ++ piece) → status ≡ ok
  pub past : (bytes : List ℕ) → Stands before bytes → IsPastReading bytes → status ≡ ok

abbrev pub HasFed : Option TsReader → List ℕ → Option Object → Option Object → ℕ → Type 0
HasFed None piece before after status = (status ≡ invalid_handle) × (after ≡ before)
HasFed (Some reader) piece before after status = (next : TsReader) ×
    Feeds reader piece next status × (after ≡ Some (Reader next))

-- what a reader answers to all that it was fed, as one call on the whole would
pub record Finishes (reader : TsReader) (answer : Result TsRequest WireKind) : Type 0 where
  pub whole : (bytes : List ℕ) → Stands reader bytes → IsAnswer bytes answer
  pub only : (bytes : List ℕ) → Stands reader bytes → (r : TsRequest) (count : ℕ) →
      IsRequest bytes r count → answer ≡ Ok r
  pub memory : NeedsNoMemory answer

-- the request replaces the reader, or a reader that has been fed nothing does
abbrev pub Becomes : Result TsRequest WireKind → Option Object → ℕ → Type 0
Becomes (Ok r) after status = (status ≡ ok) × (after ≡ Some (Request r))
Becomes (Err kind) after status = (status ≡ wire_status kind) ×
    ((fresh : TsReader) × Stands fresh [] × (after ≡ Some (Reader fresh)))

abbrev pub HasFinished : Option TsReader → Option Object → Option Object → ℕ → Type 0
HasFinished None before after status = (status ≡ invalid_handle) × (after ≡ before)
HasFinished (Some reader) before after status =
    (answer : Result TsRequest WireKind) × Finishes reader answer × Becomes answer after status
