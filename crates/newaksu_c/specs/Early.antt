-- What reading an early result answers.
use Rattle.std.specs.Prelude.{◌≡◌, ℕ, Result, Ok, Err}
use Rattle.sspi_ber.specs.Pieces.{Read, Ended, Invalid}
use Rattle.sspi_tsreq.specs.Early.{number_of}
use Rattle.sspi_tsreq.specs.declared.early.EarlyUserAuthResult.{EarlyUserAuthResult}
use Rattle.newaksu_c.specs.Status.{ok}

-- its number, or the fault
abbrev pub ReadsEarly : Read EarlyUserAuthResult → ℕ → ℕ → ℕ → Type 0
ReadsEarly (Ok read) before after status = (after ≡ number_of read.0) × (status ≡ ok)
ReadsEarly (Err Ended) before after status = (after ≡ before) × (status ≡ 1)
ReadsEarly (Err Invalid) before after status = (after ≡ before) × (status ≡ 2)
