-- The early result after a delegation (MS-RDPBCGR 2.2.10.2), which is told and heard if the
-- scenario admits anybody.
use Rattle.std.specs.Prelude.{◌≡◌, ℕ, Bool, true, false, List, [], ◌∷◌, Option, None, Some, Result}
use Rattle.std.specs.Prelude.{Ok, Err}
use Rattle.sspi_ber.specs.Outside.{ReadCause, Reads, WriteCause, Writes}
use Rattle.sspi_ber.specs.declared.wire_kind.WireKind.{WireKind}
use Rattle.sspi_ber.specs.declared.wire_kind.WireKind.TheVariants as kinds
use Rattle.sspi_early.specs.Authorizes.{told_of}
use Rattle.sspi_early.specs.Policy.{is_listed}
use Rattle.sspi_names.specs.Name.{Name}
use Rattle.sspi_scenario.specs.Reading.{TakesAtMost}
use Rattle.sspi_tsreq.specs.declared.early.EarlyUserAuthResult.{EarlyUserAuthResult}
use Rattle.sspi_tsreq.specs.Early.{early_result_at, early_result_text}
use Rattle.sspi_channel.specs.declared.answer.ChannelError.{ChannelError}
use Rattle.sspi_channel.specs.declared.answer.ChannelError.TheVariants as channel

-- what is told of a user: whether it is among those who are admitted; nothing if nobody is
abbrev pub told_by : List Name → Name → Option EarlyUserAuthResult
told_by [] user = None
told_by (name ∷ names) user = Some (told_of (is_listed (name ∷ names) user))

-- whether the client of a scenario that admits these hears the result
abbrev pub is_asked : List Name → Bool
is_asked [] = false
is_asked (name ∷ names) = true

-- ---- the server

abbrev pub told_as : EarlyUserAuthResult → Result (Unit {0}) WireKind →
    Result (Option EarlyUserAuthResult) ChannelError
told_as told (Ok done) = Ok (Some told)
told_as told (Err kinds.InsufficientMemory) = Err channel.InsufficientMemory
told_as told (Err kind) = Err channel.WriteFault

-- The four octets of this result were written, or a prefix of them; what was written, and the
-- counts of the sink's faults.
pub record Tells (told : EarlyUserAuthResult) (before after : Option (List ℕ)) (faults faults2 : ℕ)
    (result : Result (Option EarlyUserAuthResult) ChannelError) : Type 0 where
  pub wire : Result (Unit {0}) WireKind
  pub wrote : Writes before after wire (early_result_text told)
  pub cause : WriteCause faults faults2 wire
  pub answer : result ≡ told_as told wire

abbrev pub TellsIfAsked : Option EarlyUserAuthResult → Option (List ℕ) → Option (List ℕ) → ℕ → ℕ →
    Result (Option EarlyUserAuthResult) ChannelError → Type 0
TellsIfAsked None before after faults faults2 result = (after ≡ before) × (faults2 ≡ faults) ×
    (result ≡ Ok None)
TellsIfAsked (Some told) before after faults faults2 result =
    Tells told before after faults faults2 result

-- ---- the client

abbrev pub heard_as : Result EarlyUserAuthResult WireKind →
    Result (Option EarlyUserAuthResult) ChannelError
heard_as (Ok heard) = Ok (Some heard)
heard_as (Err kinds.ReadFault) = Err channel.ReadFault
heard_as (Err kind) = Err (channel.Early kind)

-- Four octets were read; at most these were taken, also where there is no result. What is left, and
-- the counts of the source's faults.
pub record Hears (before after : Option (List ℕ)) (faults faults2 : ℕ)
    (result : Result (Option EarlyUserAuthResult) ChannelError)
    : Type 0 where
  pub wire : Result EarlyUserAuthResult WireKind
  pub read : Reads (λ r. r) before after wire early_result_at
  pub cause : ReadCause faults faults2 wire
  pub taken : TakesAtMost 4 before after
  pub answer : result ≡ heard_as wire

abbrev pub HearsIfAsked : Bool → Option (List ℕ) → Option (List ℕ) → ℕ → ℕ →
    Result (Option EarlyUserAuthResult) ChannelError → Type 0
HearsIfAsked false before after faults faults2 result = (after ≡ before) × (faults2 ≡ faults) ×
    (result ≡ Ok None)
HearsIfAsked true before after faults faults2 result = Hears before after faults faults2 result
