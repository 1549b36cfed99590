-- The selected mechanism and the packages that a client's refused first step leaves, out of memory
-- included.
use Rattle.std.specs.Prelude.{◌≡◌, ℕ, List, Option, Some, true, false}
use Rattle.sspi_types.specs.declared.error.Error.{Error}
use Rattle.sspi_mech.specs.declared.step.Answer.TheVariants.{Refused}
use Rattle.sspi_mech.specs.declared.step.Reply.{Reply}
use Rattle.sspi_mech.specs.Calls.{StepArgs}
use Rattle.sspi_mech.specs.Meaning.{Meaning}
use Rattle.sspi_negotiate.specs.declared.protocol.NegotiatedProtocol.{NegotiatedProtocol}
use Rattle.sspi_negotiate.specs.declared.protocol.Protocol.TheVariants.{Kerberos, Ntlm}
use Rattle.sspi_negotiate.specs.Fallback.{is_fallback}
use Rattle.sspi_negotiate.specs.Hand.{Origin, hand_of}
use Rattle.sspi_negotiate.specs.Rule.{TakenBy}
use Rattle.sspi_negotiate.specs.Values.{Values, Negotiation, values_of}

-- the name of the selected mechanism and the packages are as they were
pub record SameHand (old new : Values) : Type 0 where
  pub hand : new.hand ≡ old.hand
  pub packages : new.packages ≡ old.packages

-- NTLM is selected, and Kerberos is disabled
pub record OnlyNtlm (old new : Values) : Type 0 where
  pub hand : new.hand ≡ Ntlm
  pub packages : new.packages ≡ record old.packages { kerberos = false }

-- both are as they were, or only NTLM is left, for a cause
pub data FallsBy (Cause : Type 0) (old new : Values) : Type 0 where
  unmoved : SameHand old new → FallsBy Cause old new
  by_cause : Cause → OnlyNtlm old new → FallsBy Cause old new

module _ {N K : Type 0} (c : Meaning Origin (NegotiatedProtocol N K)) where
  -- a Kerberos refuses a step with a kind after which NTLM replaces it
  abbrev pub Falls : NegotiatedProtocol N K → StepArgs → Type 0
  Falls m args = (hand_of m ≡ Kerberos) × (error : Error) × (m2 : NegotiatedProtocol N K) ×
      c.steps m args (Refused error) m2
      × (is_fallback error.error_type ≡ true)

  -- the same for a step that a KDC has replied to
  abbrev pub FallsResumed : NegotiatedProtocol N K → Reply → Type 0
  FallsResumed m reply = (hand_of m ≡ Kerberos) × (error : Error) × (m2 : NegotiatedProtocol N K) ×
      c.resumes m reply (Refused error) m2
      × (is_fallback error.error_type ≡ true)

  -- What a client's refused first step leaves of the two: both as they were; Kerberos selected,
  -- because of the URL of a KDC; or only NTLM, because of the target's address or such a refusal by
  -- the selected Kerberos.
  pub data MayBegin (ByAddress : Type 0) (url : Option (List ℕ)) (args : StepArgs)
      (old new : Negotiation (NegotiatedProtocol N K)) :
      Type 0 where
    unchanged : SameHand (values_of old) (values_of new) → MayBegin ByAddress url args old new
    by_url : (found : List ℕ) → url ≡ Some found → hand_of new.mech ≡ Kerberos →
        new.packages ≡ old.packages →
        MayBegin ByAddress url args old new
    by_address : ByAddress → OnlyNtlm (values_of old) (values_of new) →
        MayBegin ByAddress url args old new
    by_refusal : (held : NegotiatedProtocol N K) →
        TakenBy c url old.kdcs old.computer old.mech held → Falls held args →
        OnlyNtlm (values_of old) (values_of new) → MayBegin ByAddress url args old new
