-- How a result is taken and read.
use Rattle.std.specs.Prelude.{◌≡◌, ℕ, ◌≤◌, List, [], ◌∷◌, Option, None, Some, Result, Ok, Err}
use Rattle.std.specs.Prelude.{length}
use Rattle.sspi_tsreq.specs.declared.early.EarlyUserAuthResult.{EarlyUserAuthResult}
use Rattle.sspi_tsreq.specs.Early.{early_result_text}
use Rattle.sspi_delegate.specs.declared.carried.Carried.{Carried}
use Rattle.sspi_delegate.specs.declared.link.LinkError.{LinkError}
use Rattle.sspi_delegate.specs.Readers.{Fed}
use Rattle.sspi_delegate.specs.Link.{StaysTold}
use Rattle.sspi_delegate.specs.declared.edit.Edit.{Edit}
use Rattle.sspi_early.specs.Heard.{IsCut, IsOpen}
use Rattle.sspi_early.specs.declared.answer.EarlyError.TheVariants.{LinkFault}
use Rattle.sspi_early.specs.Authorizes.{CountsFault, LinkAt, HasCause}
use Rattle.sspi_early.specs.declared.answer.Authorized.{Authorized}
use Rattle.sspi_early.specs.declared.answer.EarlyError.{EarlyError}

-- this holds of the newest entry
abbrev pub OfNewest : (Carried → Type 0) → List Carried → Type 0
OfNewest P [] = ⊥
OfNewest P (e ∷ log) = P e

-- the four bytes taken from the newest delivery, or none if it ended before; or the link was asked
-- in vain
abbrev pub Takes : List Carried → List Carried → Result (Option (List ℕ)) LinkError → Type 0
Takes old new (Ok (Some bytes)) = Fed old new × OfNewest (λ e. e.delivered ≡ bytes) new
Takes old new (Ok None) = Fed old new × OfNewest IsCut new
Takes old new (Err error) = Fed old new × OfNewest IsOpen new

-- the result that these bytes encode; none if they encode no result
abbrev pub IsResultIn : List ℕ → Option EarlyUserAuthResult → Type 0
IsResultIn bytes (Some result) = bytes ≡ early_result_text result
IsResultIn bytes None = (result : EarlyUserAuthResult) → bytes ≡ early_result_text result → ⊥

-- a link that exposes its edits does not fail to deliver
abbrev pub NeverFailsToDeliver : Option (List Edit) → Result Authorized EarlyError → Type 0
NeverFailsToDeliver None answer = Unit {0}
NeverFailsToDeliver (Some edits) answer = answer ≡ Err LinkFault → ⊥

-- the client read the newest delivery, from which nothing was taken before
pub record Hears (told : EarlyUserAuthResult) (before after : LinkAt)
    (answer : Result Authorized EarlyError) : Type 0 where
  pub fed : Fed before.log after.log
  pub within : OfNewest (λ e. length e.delivered ≤ 4) after.log
  pub cause : OfNewest (λ e. HasCause told e answer) after.log
  pub count : CountsFault before.faults after.faults answer
  pub stays : StaysTold before.edits after.edits before.log after.log
  pub still : NeverFailsToDeliver before.edits answer
