-- A walk through a message: it goes on with a value, or ends with the first fault; what it has read
-- is on the page.
use Rattle.std.specs.Prelude.{◌≡◌, ℕ, ◌-◌, List, length, Result, Ok, Err}
use Rattle.sspi_ber.specs.declared.wire_kind.WireKind.{WireKind}
use Rattle.sspi_ber.specs.declared.wire_kind.WireKind.TheVariants as kinds
use Rattle.sspi_ber.specs.Pieces.{Fault, Ended, Invalid, Read}
use Rattle.sspi_explain.specs.declared.stop.Fault as stop
use Rattle.sspi_explain.specs.declared.stop.Fault.TheVariants as faults
use Rattle.sspi_explain.specs.declared.stop.Stop.{Stop}
use Rattle.sspi_explain.specs.declared.stop.Stop.TheVariants.{Refused, OutOfMemory}
use Rattle.sspi_explain.specs.Page.{Sheet}

-- a fault, as the readers' definitions name it
abbrev pub fault_of : stop.Fault → Fault
fault_of faults.Ended = Ended
fault_of faults.Invalid = Invalid

-- what is left of a content, and the offset in the message at which that content ends
pub record Spot : Type 0 where
  pub rest : List ℕ
  pub end : ℕ

abbrev pub spot : List ℕ → ℕ → Spot
spot rest end = record { rest = rest; end = end }

-- the offset in the message of what comes next
abbrev pub offset : Spot → ℕ
offset place = place.end - length place.rest

pub record At (A : Type 0) : Type 0 where
  pub page : Sheet
  pub value : A
  pub place : Spot

pub data Told (A : Type 0) : Type 0 where
  Goes : At A → Told A
  Ends : Sheet → Fault → Told A

infixl 10 ◌>>=◌
abbrev pub ◌>>=◌ : {A B : Type 0} → Told A → (At A → Told B) → Told B
(Goes at) >>= next = next at
(Ends page fault) >>= next = Ends page fault

-- what a reader's own piece gives, or the page that reports its fault
abbrev pub told : {A : Type 0} → Sheet → Spot → (Fault → Sheet) → Read A → Told A
told page place refuse (Ok x) =
    Goes (record { page = page; value = x.0; place = record place { rest = x.1 } })
told page place refuse (Err fault) = Ends (refuse fault) fault

-- the same without the page: what was read
abbrev pub read_of : {A : Type 0} → Told A → Read A
read_of (Goes at) = Ok (at.value, at.place.rest)
read_of (Ends page fault) = Err fault

-- a walk over a message in memory is as defined here, unless it runs out of memory
abbrev pub Tells : {X A : Type 0} → (X → A) → Sheet → Spot → Result X Stop → Told A → Type 0
Tells view page place (Ok x) walk =
    walk ≡ Goes (record { page = page; value = view x; place = place })
Tells view page place (Err (Refused fault)) walk = walk ≡ Ends page (fault_of fault)
Tells view page place (Err OutOfMemory) walk = Unit {0}

-- the same for a walk that returns nothing of what it read
abbrev pub TellsSome : {X A : Type 0} → Sheet → Spot → Result X Stop → Told A → Type 0
TellsSome {A = A} page place (Ok x) walk = (value : A) ×
    (walk ≡ Goes (record { page = page; value = value; place = place }))
TellsSome page place (Err (Refused fault)) walk = walk ≡ Ends page (fault_of fault)
TellsSome page place (Err OutOfMemory) walk = Unit {0}

-- the walk is refused with this fault, and this holds of the page; or it ran out of memory
abbrev pub IsRefused : stop.Fault → Stop → Type 0 → Type 0
IsRefused fault (Refused other) P = (other ≡ fault) × P
IsRefused fault OutOfMemory P = Unit {0}

-- the fault for a reader's error kind
abbrev pub IsFaultOf : WireKind → stop.Fault → Type 0
IsFaultOf kinds.UnexpectedEof fault = fault ≡ faults.Ended
IsFaultOf kinds.InvalidData fault = fault ≡ faults.Invalid
IsFaultOf other fault = Unit {0}
