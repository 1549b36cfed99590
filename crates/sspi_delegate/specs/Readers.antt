-- A reader that was fed with the newest delivery of a log.
use Rattle.std.specs.Prelude.{ℕ, List, Result, Ok, Err, ◌≡◌, ◌≤◌, true, [], ◌∷◌, length}
use Rattle.sspi_tsreq.specs.declared.reader.TsReader.{TsReader}
use Rattle.sspi_tsreq.specs.Feeding.{Stands}
use Rattle.sspi_delegate.specs.declared.carried.Carried.{Carried}
use Rattle.sspi_delegate.specs.declared.link.LinkError.{LinkError}
use Rattle.sspi_delegate.specs.Log.{delivery_limit, is_taken, HeadOpen, HeadWithin}
use Rattle.sspi_delegate.specs.declared.link.LinkError.TheVariants.{Failed, InsufficientMemory}

-- only what was delivered of the newest entry, and whether it ended, may differ
abbrev pub Fed : List Carried → List Carried → Type 0
Fed [] new = new ≡ []
Fed (e ∷ log) [] = ⊥
Fed (e ∷ log) (f ∷ more) = (f.from ≡ e.from) × (f.sent ≡ e.sent) × (more ≡ log)

-- this is the newest delivery, which was taken, and no more of it than the limit
abbrev pub HeadTaken : List Carried → List ℕ → Type 0
HeadTaken [] text = ⊥
HeadTaken (e ∷ log) text = (is_taken e ≡ true) × (e.delivered ≡ text) ×
    (length text ≤ delivery_limit)

-- reading takes the whole delivery, or fails before it was taken
abbrev pub Takes : List Carried → List Carried → Result (List ℕ) LinkError → Type 0
Takes old new (Ok text) = Fed old new × HeadTaken new text
Takes old new (Err Failed) = Fed old new × HeadOpen new
Takes old new (Err InsufficientMemory) = Fed old new × HeadWithin new

-- the reader represents the text that was taken of the newest delivery, and a failure is one of
-- taking it
abbrev pub TakesIn : List Carried → List Carried → Result TsReader LinkError → Type 0
TakesIn old new (Ok reader) = (text : List ℕ) × Takes old new (Ok text) × Stands reader text
TakesIn old new (Err error) = Takes old new (Err error)
