-- What a client makes of the entry by which its server told the result (MS-RDPBCGR 2.2.10.2).
use Rattle.std.specs.Prelude.{◌≡◌, ◌<◌, ◌≤◌, length, take, true, false}
use Rattle.sspi_credssp.specs.declared.turn.End.TheVariants.{Server}
use Rattle.sspi_delegate.specs.declared.carried.Carried.{Carried}
use Rattle.sspi_tsreq.specs.declared.early.EarlyUserAuthResult.{EarlyUserAuthResult}
use Rattle.sspi_tsreq.specs.Early.{early_result_text}

-- the server's entry that tells this result; no more bytes than those of a result were taken from
-- its delivery
pub record Tells (told : EarlyUserAuthResult) (e : Carried) : Type 0 where
  pub from : e.from ≡ Server
  pub sent : e.sent ≡ early_result_text told
  pub within : length e.delivered ≤ 4

-- the first four bytes that were delivered are this result
abbrev pub Heard : EarlyUserAuthResult → Carried → Type 0
Heard result e = take 4 e.delivered ≡ early_result_text result

-- the delivery ended before four bytes came
abbrev pub IsCut : Carried → Type 0
IsCut e = (e.ended ≡ true) × (length e.delivered < 4)

-- four bytes came that are not a result
abbrev pub IsNoResult : Carried → Type 0
IsNoResult e = (4 ≤ length e.delivered) × ((result : EarlyUserAuthResult) → Heard result e → ⊥)

-- fewer than four bytes came, and the delivery has not ended
abbrev pub IsOpen : Carried → Type 0
IsOpen e = (e.ended ≡ false) × (length e.delivered < 4)
