-- Where MICs are needed, an end finishes only after a MIC over the list that it keeps.
use Rattle.std.proofs.Common.{◌≡◌, ◌≢◌, ◌⊎◌, inl, inr, true, sym, subst, Ok}
use Rattle.sspi_mech.specs.declared.step.Answer.TheVariants.{Done}
use Rattle.sspi_mech.specs.declared.step.Reply.{Reply}
use Rattle.sspi_mech.specs.declared.step.Step.{Step}
use Rattle.sspi_mech.specs.Calls.{StepArgs, AcceptArgs}
use Rattle.sspi_mech.specs.Meaning.{Meaning}
use Rattle.sspi_mech.specs.Settings.{Setting}
use Rattle.sspi_negotiate.specs.declared.protocol.NegotiatedProtocol.{NegotiatedProtocol}
use Rattle.sspi_negotiate.specs.declared.state.NegotiateState.TheVariants as states
use Rattle.sspi_negotiate.specs.Client.{spnego_resumed}
use Rattle.sspi_negotiate.specs.Does.{Does}
use Rattle.sspi_negotiate.specs.Hand.{hand}
use Rattle.sspi_negotiate.specs.Negotiate.{ClientMoves, ServerMoves}
use Rattle.sspi_negotiate.specs.Values.{Negotiation, values_of}
use Rattle.sspi_negotiate.specs.Verified.{IsVerified, IsGuestNamed}
use Rattle.sspi_negotiate.proofs.Shown.{client_shown, resumed_shown, server_shown}

module _ {N K : Type 0} (n : Meaning Setting N) (k : Meaning Setting K) (old new : Negotiation (NegotiatedProtocol N K)) where
  pub client_ended : (args : StepArgs) (step : Step) → ClientMoves n k old args (Done step) new → new.state ≡ states.Ok →
      new.need ≡ true → IsVerified (hand n k) new.list new.mech
  client_ended args step s over need =
      let h = (client_shown (hand n k) s.ip (values_of old) args old.mech).ends new.mech (Done step) (values_of new)
      s.moves.follows.as_planned over need in
      subst (λ list. IsVerified (hand n k) list new.mech) (sym h.0) h.1

  pub resumed_ended : (reply : Reply) (step : Step) → old.state ≢ states.Ok →
      Does n k (spnego_resumed (values_of old) reply) old (Done step) new →
      new.state ≡ states.Ok → new.need ≡ true → IsVerified (hand n k) new.list new.mech
  resumed_ended reply step before follows over need =
      let h = (resumed_shown (hand n k) (values_of old) reply old.mech before).ends new.mech (Done step) (values_of new)
      follows.as_planned over need in
      subst (λ list. IsVerified (hand n k) list new.mech) (sym h.0) h.1

  pub server_ended : (args : AcceptArgs) (step : Step) → ServerMoves n k old args (Ok step) new → new.state ≡ states.Ok →
      new.need ≡ true → IsVerified (hand n k) new.list new.mech
  server_ended args step s over need =
      let h = ((server_shown (hand n k) (values_of old) args old.mech).ends new.mech (Done step) (values_of new)
      s.moves.follows.as_planned).0 over need in
      subst (λ list. IsVerified (hand n k) list new.mech) (sym h.0) h.1

  pub server_needs : (args : AcceptArgs) (step : Step) → ServerMoves n k old args (Ok step) new → old.state ≢ states.Initial →
      old.need ≡ true → (new.need ≡ true) ⊎ IsGuestNamed (hand n k) new.mech
  server_needs args step s late need = ((server_shown (hand n k) (values_of old) args old.mech).ends new.mech (Done step)
      (values_of new) s.moves.follows.as_planned).1 late need

  ended_by : {B : Type 0} → (new.need ≡ true → IsVerified (hand n k) new.list new.mech) → (new.need ≡ true) ⊎ B →
      IsVerified (hand n k) new.list new.mech ⊎ B
  ended_by ended (inl need) = inl (ended need)
  ended_by ended (inr other) = inr other

  pub server_ended_before : (args : AcceptArgs) (step : Step) → ServerMoves n k old args (Ok step) new → new.state ≡ states.Ok →
      old.state ≢ states.Initial → old.need ≡ true → IsVerified (hand n k) new.list new.mech ⊎ IsGuestNamed (hand n k) new.mech
  server_ended_before args step s over late need = ended_by (server_ended args step s over) (server_needs args step s late need)
