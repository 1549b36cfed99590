-- What a call on the selected mechanism passes on.
use Rattle.std.specs.Prelude.{◌≡◌, Result, Ok, Err}
use Rattle.sspi_types.specs.declared.error.Error.{Error}
use Rattle.sspi_mech.specs.Meaning.{Meaning}
use Rattle.sspi_mech.specs.Settings.{Setting}
use Rattle.sspi_mech.specs.declared.step.Answer.TheVariants.{Refused}
use Rattle.sspi_mech.specs.declared.step.Answer.{Answer}
use Rattle.sspi_negotiate.specs.declared.protocol.NegotiatedProtocol.{NegotiatedProtocol}
use Rattle.sspi_negotiate.specs.Plan.{Plan}
use Rattle.sspi_negotiate.specs.Values.{Values, Negotiation, values_of}
use Rattle.sspi_negotiate.specs.Hand.{hand}
use Rattle.sspi_negotiate.specs.Does.{Meets}

module _ {N K : Type 0} (n : Meaning Setting N) (k : Meaning Setting K) where
  -- a part of a step: if it is done, the rest follows; if it is refused, so is the whole step
  abbrev pub Onward : {T : Type 0} → (Plan → Plan) → Values → Negotiation (NegotiatedProtocol N K) →
      Result T Error →
      Negotiation (NegotiatedProtocol N K) → Type 0
  Onward p v old (Ok x) new = (values_of new ≡ v)
      × ((rest : Plan) (r : Answer) (v2 : Values) (m2 : NegotiatedProtocol N K) →
      Meets (hand n k) rest new.mech r v2 m2 → Meets (hand n k) (p rest) old.mech r v2 m2)
  Onward p v old (Err error) new = (rest : Plan) →
      Meets (hand n k) (p rest) old.mech (Refused error) (values_of new) new.mech

pub record Passes {N K T : Type 0} (n : Meaning Setting N) (k : Meaning Setting K) (p : Plan →
    Plan) (v : Values)
    (old : Negotiation (NegotiatedProtocol N K)) (result : Result T Error)
    (new : Negotiation (NegotiatedProtocol N K)) : Type 0 where
  pub onward : Onward n k p v old result new
