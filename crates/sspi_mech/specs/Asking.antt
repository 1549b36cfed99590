-- What a call on a KDC says about the outside world.
use Rattle.std.specs.Prelude.{◌≡◌, ℕ, ◌≤◌, Option, None, Some, Result, Ok, Err, Vec}
use Rattle.sspi_types.specs.Counting.{counted_on}
use Rattle.sspi_names.specs.declared.network.NetworkRequest.{NetworkRequest}
use Rattle.sspi_mech.specs.declared.kdc.KdcError.{KdcError}
use Rattle.sspi_mech.specs.declared.kdc.KdcError.TheVariants as errors
use Rattle.sspi_mech.specs.declared.step.Reply.{Reply}
use Rattle.sspi_mech.specs.declared.step.Reply.TheVariants as replies

-- the count of faults never falls; a failure raises it, or finds it at its maximum
abbrev pub AskCause : {X : Type 0} → ℕ → ℕ → Result X KdcError → Type 0
AskCause before now (Ok x) = before ≤ now
AskCause before now (Err errors.Failed) = (before ≤ now) × (counted_on before ≤ now)
AskCause before now (Err errors.InsufficientMemory) = before ≤ now

-- if the replies are exposed, by the number of the call, the answer is the exposed one: a call
-- fails exactly if that fails, and no other call is counted as a fault
abbrev pub IsTold : {A : Type 0} → Option (ℕ → NetworkRequest → Reply) → ℕ → NetworkRequest → ℕ →
    ℕ → Result (Vec ℕ A) KdcError → Type 0
IsTold None call request before now answer = Unit {0}
IsTold (Some told) call request before now (Ok reply) =
    (told call request ≡ replies.Answered reply.items) × (now ≡ before)
IsTold (Some told) call request before now (Err errors.Failed) = told call request ≡ replies.Failed
IsTold (Some told) call request before now (Err errors.InsufficientMemory) = now ≡ before
