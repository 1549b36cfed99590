-- What holds of a client and its session between two rounds; its turns are newest first.
use Rattle.std.specs.Prelude.{◌≡◌, ℕ, ◌≤◌, List, [], length, reverse, Option, None, Some}
use Rattle.sspi_mech.specs.Meaning.{Meaning}
use Rattle.sspi_tsreq.specs.declared.request.TsRequest.{TsRequest}
use Rattle.sspi_credssp.specs.declared.context.SspiContext.{SspiContext}
use Rattle.sspi_credssp.specs.declared.turn.Turn.{Turn}
use Rattle.sspi_credssp.specs.Context.{ContextSetting}
use Rattle.sspi_credssp.specs.Proxy.{ProxyMeaning}
use Rattle.sspi_credssp.specs.Ends.{ServerView}
use Rattle.sspi_delegate.specs.Chain.{KdcCalls}
use Rattle.sspi_delegate.specs.Turns.{client_turns, server_turns, OthersGoOn, AllGoOn}
use Rattle.sspi_delegate.specs.History.{ClientHistory}
use Rattle.sspi_desk.specs.Alone.{Alone}
use Rattle.sspi_seats.specs.Messages.{IsNext, AreServed}
use Rattle.sspi_seats.specs.Outcomes.{Shows}
use Rattle.sspi_seats.specs.Seat.{Place, ClientCame}
use Rattle.sspi_seats.specs.declared.guest.Guest.{Guest}
use Rattle.sspi_seats.specs.declared.seat.SeatOutcome.TheVariants as seats

-- these turns are a client's alone
pub record AreClients (turns : List Turn) : Type 0 where
  pub all : client_turns turns ≡ turns
  pub none : server_turns turns ≡ []

module _ {N K P D : Type 0} (c : Meaning ContextSetting (SspiContext N K)) (p : ProxyMeaning P)
    (k : KdcCalls D)
    (came : Place (SspiContext N K) P D) where
  -- the turns so far are the client's alone, went on, and were its calls
  pub record HasTurned (rounds : ℕ) (guest : Guest N K D) : Type 0 where
    pub own : AreClients guest.transcript.turns
    pub go : AllGoOn guest.transcript.turns
    pub history : ClientHistory c k came.client came.kdc guest.transcript.turns guest.client
        guest.kdc
    pub count : length guest.transcript.turns ≡ rounds
    pub spent : guest.outcome ≡ seats.TurnsSpent

  -- a client that still runs, and takes this request next
  pub record Runs (rounds : ℕ) (request : TsRequest) (guest : Guest N K D) : Type 0 where
    pub turned : HasTurned rounds guest
    pub served : AreServed guest.transcript.turns (reverse guest.calls) (reverse guest.answers)
    pub next : IsNext (reverse guest.answers) request

  -- a client that has come to its outcome
  pub record HasEnded (rounds : ℕ) (guest : Guest N K D) : Type 0 where
    pub shown : (limit : ℕ) → Shows limit guest.outcome guest.transcript.turns (reverse guest.calls)
        (reverse guest.answers)
    pub history : ClientCame c k came.client came.kdc guest.outcome guest.transcript.turns
        guest.client guest.kdc
    pub own : AreClients guest.transcript.turns
    pub others : OthersGoOn guest.transcript.turns
    pub count : length guest.transcript.turns ≤ rounds

  abbrev pub StandsBy : Option TsRequest → ℕ → Guest N K D → Type 0
  StandsBy (Some request) rounds guest = Runs rounds request guest
  StandsBy None rounds guest = HasEnded rounds guest

  -- a client and its server after this many rounds
  pub record IsVisited (rounds : ℕ) (guest : Guest N K D)
      (server : ServerView (SspiContext N K) P) : Type 0 where
    pub alone : Alone c p came.server guest.calls guest.answers server
    pub stands : StandsBy guest.next rounds guest
