-- What holds of every play, whatever is delivered to whom.
use Rattle.std.specs.Prelude.{◌≡◌, ◌≤◌, ℕ, List, reverse, take, length, Result, Ok, Err, IfOk}
use Rattle.sspi_mech.specs.Meaning.{Meaning}
use Rattle.sspi_credssp.specs.Ends.{ClientView, ServerView}
use Rattle.sspi_credssp.specs.Context.{ContextSetting}
use Rattle.sspi_credssp.specs.Proxy.{ProxyMeaning}
use Rattle.sspi_credssp.specs.declared.turn.End.TheVariants.{Client, Server}
use Rattle.sspi_credssp.specs.declared.turn.Turn.{Turn}
use Rattle.sspi_delegate.specs.declared.answer.DelegateError.{DelegateError}
use Rattle.sspi_delegate.specs.Chain.{KdcCalls, client_stage, server_stage, ServerChain}
use Rattle.sspi_delegate.specs.Turns.{ClientRan, ServerRan}
use Rattle.sspi_delegate.specs.Turns.{client_turns, server_turns}
use Rattle.sspi_delegate.specs.Headline.{sealed_turns, EachHeedsServer, EachHeedsClient}
use Rattle.sspi_delegate.specs.History.{ServerHistory, ClientRefused, ServerRefused}
use Rattle.sspi_play.specs.declared.played.Delivery.{Delivery}
use Rattle.sspi_play.specs.declared.played.Played.{Played}
use Rattle.sspi_play.specs.Plays.{IsNoWant, ending_of, Plays, OthersHadMemory, IsNext}
use Rattle.sspi_play.specs.History.{ClientPlayed, ClientPlayedChain, Gave, IfRefused}

-- what takes part in a play, at one moment
pub record Both (C P D : Type 0) : Type 0 where
  pub client : ClientView C
  pub server : ServerView C P
  pub kdc : D
  -- the transcript's turns, the newest first
  pub turns : List Turn

abbrev pub both : {C P D : Type 0} → ClientView C → ServerView C P → D → List Turn → Both C P D
both client server kdc turns = record { client = client; server = server; kdc = kdc; turns = turns }

-- the turns are those of the whole schedule, or of a prefix of it if memory ran out
pub record PlaysFront (schedule : List Delivery) (turns : List Turn) : Type 0 where
  pub handed : ℕ
  pub within : handed ≤ length schedule
  pub plays : Plays (reverse (take handed schedule)) turns
  pub memory : OthersHadMemory turns

abbrev pub PlaysBy : List Delivery → Result Played DelegateError → List Turn → Type 0
PlaysBy schedule (Ok played) turns = Plays (reverse schedule) turns
PlaysBy schedule (Err error) turns = PlaysFront schedule turns

-- each end's state
pub record Standings (schedule : List Delivery) (played : Played) (turns : List Turn) : Type 0 where
  pub client : played.client ≡ ending_of Client (reverse schedule) turns
  pub server : played.server ≡ ending_of Server (reverse schedule) turns
  pub client_kind : IsNoWant played.client
  pub server_kind : IsNoWant played.server

module _ {C P D : Type 0} (c : Meaning ContextSetting C) where
  -- of every play
  pub record Accounts (p : ProxyMeaning P) (k : KdcCalls D) (schedule : List Delivery)
      (old : Both C P D)
      (result : Result Played DelegateError)
      (new : Both C P D) : Type 0 where
    pub the_turns_are_those_of_the_deliveries : PlaysBy schedule result new.turns
    pub deliveries_and_turns_say_how_the_ends_stand : IfOk result
        (λ played. Standings schedule played new.turns)
    -- each turn of an end was one of its calls, and nothing changed it between two of them
    pub client_turns_are_its_calls : ClientPlayed c k {X = Played} (IsNext schedule new.turns)
        old.client old.kdc result
        (client_turns new.turns) new.client new.kdc
    pub server_turns_are_its_calls : ServerHistory c p old.server (server_turns new.turns)
        new.server
    pub the_identity_is_that_of_the_turn_that_finished : IfOk result
        (λ played. Gave c p old.server played.identity (server_turns new.turns) new.server)

  -- Of a play between two fresh ends: each turn is one of its end, over the context that the play
  -- left, which sealed and opened exactly what the turns say. A peer that is too old, and no other,
  -- is refused for that. Credentials are sealed at most once.
  pub record IsPlay (p : ProxyMeaning P) (k : KdcCalls D) (schedule : List Delivery)
      (old : Both C P D)
      (result : Result Played DelegateError)
      (new : Both C P D) : Type 0 where
    pub client_ran : ClientRan c old.client new.client (client_turns new.turns)
    pub server_ran : ServerRan c old.server new.server (server_turns new.turns)
    pub client_heeds : EachHeedsServer c new.client.settings.least (client_turns new.turns)
    pub server_heeds : EachHeedsClient c new.server.context new.server.settings.least
        (server_turns new.turns)
    pub credentials_are_sealed_at_most_once : sealed_turns new.turns ≤ 1
    -- so what an end offered, chose, signed and verified in a turn is what its context did in that
    -- step
    pub the_client_has_the_context_of_its_chain : ClientPlayedChain c k {X = Played}
        (IsNext schedule new.turns) old.client
        old.kdc result (client_turns new.turns) (client_stage new.client new.kdc)
    pub the_server_has_the_context_of_its_chain : ServerChain c p old.server
        (server_turns new.turns) (server_stage new.server)
    pub a_refusal_of_the_client_has_its_cause : IfOk result (λ played. IfRefused played.client
        (λ error. ClientRefused c k old.client old.kdc error new.client new.kdc
        (client_turns new.turns)))
    pub a_refusal_of_the_server_has_its_cause : IfOk result (λ played. IfRefused played.server
        (λ error. ServerRefused c p old.server error new.server (server_turns new.turns)))
