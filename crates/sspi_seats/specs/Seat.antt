-- What holds of a seat.
use Rattle.std.specs.Prelude.{ℕ, ◌≤◌, List, length, reverse}
use Rattle.sspi_mech.specs.Meaning.{Meaning}
use Rattle.sspi_credssp.specs.declared.context.SspiContext.{SspiContext}
use Rattle.sspi_credssp.specs.declared.turn.Turn.{Turn}
use Rattle.sspi_credssp.specs.Ends.{ClientView, IsFreshClient, ServerView}
use Rattle.sspi_credssp.specs.Context.{ContextSetting}
use Rattle.sspi_credssp.specs.Proxy.{ProxyMeaning}
use Rattle.sspi_delegate.specs.Chain.{KdcCalls, client_stage, ClientChain}
use Rattle.sspi_delegate.specs.Turns.{client_end, ClientRan}
use Rattle.sspi_delegate.specs.Headline.{sealed_turns, SealsAfterProof, EachHeedsServer}
use Rattle.sspi_delegate.specs.History.{ClientHistory, ClientStopped, ClientRefused}
use Rattle.sspi_desk.specs.Alone.{Alone}
use Rattle.sspi_seats.specs.Outcomes.{Shows}
use Rattle.sspi_seats.specs.declared.seat.Seat.{Seat}
use Rattle.sspi_seats.specs.declared.seat.SeatOutcome.{SeatOutcome}
use Rattle.sspi_seats.specs.declared.seat.SeatOutcome.TheVariants as seats

-- a client, its KDC and its server, as they joined
pub record Place (C P D : Type 0) : Type 0 where
  pub client : ClientView C
  pub kdc : D
  pub server : ServerView C P

abbrev pub place : {C P D : Type 0} → ClientView C → D → ServerView C P → Place C P D
place client kdc server = record { client = client; kdc = kdc; server = server }

module _ {C D : Type 0} (c : Meaning ContextSetting C) (k : KdcCalls D) where
  -- These turns, newest first, were the client's calls, and nothing moved it between two of them;
  -- if that is the outcome, the last one was refused.
  abbrev pub ClientCame : ClientView C → D → SeatOutcome → List Turn → ClientView C → D → Type 0
  ClientCame first kdc (seats.Client error) turns now kdc2 =
      ClientStopped c k first kdc error turns now kdc2
  ClientCame first kdc outcome turns now kdc2 = ClientHistory c k first kdc turns now kdc2

  -- the last turn was refused as that outcome says, for a cause over the chain of the turns before
  -- it
  abbrev pub OutcomeHasCause : ClientView C → D → SeatOutcome → List Turn → ClientView C → D →
      Type 0
  OutcomeHasCause first kdc (seats.Client error) turns now kdc2 =
      ClientRefused c k first kdc error now kdc2 turns
  OutcomeHasCause first kdc outcome turns now kdc2 = Unit {0}

  -- The turns, newest first, of a client to which nothing had been delivered before: each is a turn
  -- over the context that it has now, and a server that is too old is refused as such. It seals its
  -- credentials at most once, after it opened the proof that its server owes. Its context is that
  -- of the chain of its turns.
  pub record ClientRuns (first : ClientView C) (kdc : D) (outcome : SeatOutcome) (turns : List Turn)
      (now : ClientView C) (kdc2 : D)
      : Type 0 where
    pub client_ran : ClientRan c first now turns
    pub client_heeds : EachHeedsServer c now.settings.least turns
    pub credentials_are_sealed_at_most_once : sealed_turns turns ≤ 1
    pub the_client_seals_after_the_proof : SealsAfterProof c (client_end now) turns
    pub the_client_has_the_context_of_its_chain : ClientChain c k first kdc turns
        (client_stage now kdc2)
    pub a_refusal_has_its_cause : OutcomeHasCause first kdc outcome turns now kdc2

module _ {N K P D : Type 0} (c : Meaning ContextSetting (SspiContext N K)) (p : ProxyMeaning P)
    (k : KdcCalls D) where
  -- limit: how many turns the client may make
  pub record IsSeat (came : Place (SspiContext N K) P D) (limit : ℕ) (seat : Seat N K P D) : Type 0
    where
      pub turns_calls_and_answers_show_the_outcome : Shows limit seat.outcome (reverse seat.turns)
          (reverse seat.calls) (reverse seat.answers)
      pub turns_are_the_clients_calls : ClientCame c k came.client came.kdc seat.outcome
          (reverse seat.turns) seat.client seat.kdc
      pub the_server_answers_as_if_alone : Alone c p came.server seat.calls seat.answers seat.server
      pub no_more_turns_than_may_be : length seat.turns ≤ limit
      pub the_client_runs : IsFreshClient came.client →
          ClientRuns c k came.client came.kdc seat.outcome (reverse seat.turns) seat.client seat.kdc
