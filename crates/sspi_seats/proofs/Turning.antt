-- A turn of a client at its seat.
use Rattle.std.proofs.Common.{◌≡◌, ◌≢◌, ℕ, ◌+◌, ◌≤◌, List, [], ◌∷◌, length, reverse}
use Rattle.std.proofs.Common.{Option, None, Some, Result, refl, sym, ap, subst, arith}
use Rattle.sspi_types.specs.declared.error.Error.{Error}
use Rattle.sspi_types.specs.declared.error_kind.ErrorKind.TheVariants as kinds
use Rattle.sspi_mech.specs.Meaning.{Meaning}
use Rattle.sspi_tsreq.specs.declared.request.TsRequest.{TsRequest}
use Rattle.sspi_credssp.specs.declared.context.SspiContext.{SspiContext}
use Rattle.sspi_credssp.specs.declared.turn.End.{End}
use Rattle.sspi_credssp.specs.declared.turn.End.TheVariants.{Client}
use Rattle.sspi_credssp.specs.declared.turn.Outcome.{Outcome}
use Rattle.sspi_credssp.specs.declared.turn.Turn.{Turn}
use Rattle.sspi_credssp.specs.Ends.{ClientView, ServerView}
use Rattle.sspi_credssp.specs.Context.{ContextSetting}
use Rattle.sspi_credssp.specs.Proxy.{ProxyMeaning}
use Rattle.sspi_delegate.specs.Chain.{KdcCalls}
use Rattle.sspi_delegate.specs.Log.{IsClientRefusal, NewestIs}
use Rattle.sspi_delegate.specs.Turns.{client_turns, server_turns, onto_client, onto_server, OthersGoOn, AllGoOn, GoesOn, TranscriptView}
use Rattle.sspi_desk.specs.Alone.{Alone}
use Rattle.sspi_desk.specs.declared.answer.DeskError.{DeskError}
use Rattle.sspi_desk.specs.declared.answer.Served.{Served}
use Rattle.sspi_delegate.specs.History.{ClientHistory, ClientStopped}
use Rattle.sspi_delegate.specs.Recorded.{PushedSuch}
use Rattle.sspi_seats.specs.Guest.{AreClients, Runs, HasEnded, IsVisited, StandsBy}
use Rattle.sspi_seats.specs.Keeping.{IsNew}
use Rattle.sspi_seats.specs.Hearing.{IsSpeaking}
use Rattle.sspi_seats.specs.Messages.{IsNext, AreServed, AreServedButLast}
use Rattle.sspi_seats.specs.Seat.{Place}
use Rattle.sspi_seats.specs.Sessions.{IsKept}
use Rattle.sspi_seats.specs.declared.guest.Guest.{Guest}
use Rattle.sspi_seats.specs.declared.seat.SeatOutcome.TheVariants as seats

own_more : (end : End) (t : Turn) (past : List Turn) → end ≡ Client → AreClients past →
    (onto_client end t (client_turns past) ≡ t ∷ past) × (onto_server end t (server_turns past) ≡ [])
own_more end t past is own = rw is (ap (λ (l : List Turn). t ∷ l) own.all, own.none)

-- for an added turn of which P holds
pub pushed_own : (d : TsRequest) (P : Outcome → Type 0) (old new : List Turn) → PushedSuch Client d P old new → AreClients old →
    AreClients new
pushed_own d P old [] pushed own = absurd pushed
pushed_own d P old (t ∷ past) pushed own =
    let more = own_more t.end t past pushed.1 (rw pushed.0 own) in
    record { all = more.0; none = more.1 }

pub pushed_count : (d : TsRequest) (P : Outcome → Type 0) (old new : List Turn) (rounds : ℕ) → PushedSuch Client d P old new →
    length old ≡ rounds → length new ≡ rounds + 1
pushed_count d P old [] rounds pushed count = absurd pushed
pushed_count d P old (t ∷ past) rounds pushed count = omega (arith, ap (λ (l : List Turn). length l) pushed.0, count)

pub pushed_goes : (d : TsRequest) (old new : List Turn) → PushedSuch Client d GoesOn old new → AllGoOn old → AllGoOn new
pushed_goes d old [] pushed go = absurd pushed
pushed_goes d old (t ∷ past) pushed go = (pushed.3, rw pushed.0 go)

pub pushed_newest : (d : TsRequest) (P : Outcome → Type 0) (old new : List Turn) → PushedSuch Client d P old new → NewestIs Client P new
pushed_newest d P old [] pushed = absurd pushed
pushed_newest d P old (t ∷ past) pushed = (pushed.1, pushed.3)

pub pushed_others : (d : TsRequest) (P : Outcome → Type 0) (old new : List Turn) → PushedSuch Client d P old new → AllGoOn old →
    OthersGoOn new
pushed_others d P old [] pushed go = absurd pushed
pushed_others d P old (t ∷ past) pushed go = rw pushed.0 go

module _ (calls : List (List ℕ)) (answers : List (Result Served DeskError)) where
  -- the turn took what the client was to take next, and was not served
  pub pushed_served : (d : TsRequest) (P : Outcome → Type 0) (old new : List Turn) → PushedSuch Client d P old new →
      AreServed old calls answers → IsNext answers d → AreServedButLast new calls answers
  pushed_served d P old [] pushed served next = absurd pushed
  pushed_served d P old (t ∷ past) pushed served next = (rw pushed.2 next, rw pushed.0 served)

module _ {N K P D : Type 0} (c : Meaning ContextSetting (SspiContext N K)) (p : ProxyMeaning P) (k : KdcCalls D)
    (came : Place (SspiContext N K) P D) where
  -- ---- before the first turn

  pub new_visited : (number : ℕ) (guest : Guest N K D) → IsNew number came.client came.kdc guest →
      IsVisited c p k came 0 guest came.server
  new_visited number guest is = rw (is.next, is.calls, is.answers) (record {
    alone = refl;
    stands = record {
      turned = record {
        own = rw is.turns (record { all = refl; none = refl });
        go = rw is.turns tt;
        history = rw (is.turns, is.client_is, is.kdc_is) (refl, refl);
        count = rw is.turns refl;
        spent = is.outcome;
      };
      served = rw is.turns tt;
      next = refl;
    };
  })

  -- ---- a turn

  -- a client that goes on has a message that has not been served yet
  pub turn_speaks : (rounds : ℕ) (request : TsRequest) (guest : Guest N K D) (client : ClientView (SspiContext N K)) (kdc : D)
      (transcript : TranscriptView) (next : Option TsRequest) → Runs c p k came rounds request guest →
      PushedSuch Client request GoesOn guest.transcript.turns transcript.turns →
      (ClientHistory c k came.client came.kdc (client_turns guest.transcript.turns) guest.client guest.kdc →
      ClientHistory c k came.client came.kdc (client_turns transcript.turns) client kdc) →
      IsSpeaking c p k came (rounds + 1) (record guest { client = client; kdc = kdc; transcript = transcript; next = next })
  turn_speaks rounds request guest client kdc transcript next runs pushed goes =
      let own : AreClients transcript.turns = pushed_own request GoesOn guest.transcript.turns transcript.turns pushed runs.turned.own in
      record {
        turned = record {
          own = own;
          go = pushed_goes request guest.transcript.turns transcript.turns pushed runs.turned.go;
          history = subst (λ (l : List Turn). ClientHistory c k came.client came.kdc l client kdc) own.all
              (goes (subst (λ (l : List Turn). ClientHistory c k came.client came.kdc l guest.client guest.kdc) (sym runs.turned.own.all)
              runs.turned.history));
          count = pushed_count request GoesOn guest.transcript.turns transcript.turns rounds pushed runs.turned.count;
          spent = runs.turned.spent;
        };
        served = pushed_served (reverse guest.calls) (reverse guest.answers) request GoesOn guest.transcript.turns transcript.turns pushed
            runs.served runs.next;
      }

  -- a client that refused its turn
  pub turn_ends : (rounds : ℕ) (request : TsRequest) (error : Error) (guest : Guest N K D) (client : ClientView (SspiContext N K)) (kdc : D)
      (transcript : TranscriptView) (next : Option TsRequest) → Runs c p k came rounds request guest →
      PushedSuch Client request (IsClientRefusal error.error_type) guest.transcript.turns transcript.turns →
      (ClientHistory c k came.client came.kdc (client_turns guest.transcript.turns) guest.client guest.kdc →
      ClientStopped c k came.client came.kdc error (client_turns transcript.turns) client
      kdc) → error.error_type ≢ kinds.InsufficientMemory →
      HasEnded c p k came (rounds + 1)
      (record guest { client = client; kdc = kdc; transcript = transcript; next = next; outcome = seats.Client error })
  turn_ends rounds request error guest client kdc transcript next runs pushed stops other =
      let own : AreClients transcript.turns =
      pushed_own request (IsClientRefusal error.error_type) guest.transcript.turns transcript.turns pushed runs.turned.own in
      let count = pushed_count request (IsClientRefusal error.error_type) guest.transcript.turns transcript.turns rounds pushed
      runs.turned.count in
      record {
        shown = λ limit. (
          pushed_served (reverse guest.calls) (reverse guest.answers) request (IsClientRefusal error.error_type) guest.transcript.turns
              transcript.turns pushed runs.served runs.next,
          pushed_newest request (IsClientRefusal error.error_type) guest.transcript.turns transcript.turns pushed,
          other,
        );
        history = subst (λ (l : List Turn). ClientStopped c k came.client came.kdc error l client kdc) own.all
            (stops (subst (λ (l : List Turn). ClientHistory c k came.client came.kdc l guest.client guest.kdc) (sym runs.turned.own.all)
            runs.turned.history));
        own = own;
        others = pushed_others request (IsClientRefusal error.error_type) guest.transcript.turns transcript.turns pushed runs.turned.go;
        count = omega (arith, count);
      }

  -- ---- a client that has ended

  pub ended_later : (rounds later : ℕ) (guest : Guest N K D) → rounds ≤ later → HasEnded c p k came rounds guest →
      HasEnded c p k came later guest
  ended_later rounds later guest more ended = record {
    shown = ended.shown;
    history = ended.history;
    own = ended.own;
    others = ended.others;
    count = omega (arith, ended.count, more);
  }

  stands_later : (rounds later : ℕ) (guest : Guest N K D) (next : Option TsRequest) → rounds ≤ later → next ≡ None →
      StandsBy c p k came next rounds guest → StandsBy c p k came None later guest
  stands_later rounds later guest None more none stands = ended_later rounds later guest more stands
  stands_later rounds later guest (Some request) more none stands = absurd cc

  visited_later : (rounds later : ℕ) (guest : Guest N K D) (server : ServerView (SspiContext N K) P) → rounds ≤ later → guest.next ≡ None →
      IsVisited c p k came rounds guest server → IsVisited c p k came later guest server
  visited_later rounds later guest server more none visited = record {
    alone = visited.alone;
    stands = subst (λ (next : Option TsRequest). StandsBy c p k came next later guest) (sym none)
        (stands_later rounds later guest guest.next more none visited.stands);
  }

  -- a round does not change it
  pub kept_later : (rounds later : ℕ) (guest : Guest N K D) (server : Option (ServerView (SspiContext N K) P)) → rounds ≤ later →
      guest.next ≡ None → IsKept c p k came rounds guest server → IsKept c p k came later guest server
  kept_later rounds later guest None more none kept = absurd kept
  kept_later rounds later guest (Some server) more none kept = visited_later rounds later guest server more none kept

  -- ---- a client that runs

  runs_by : (rounds : ℕ) (guest : Guest N K D) (next : Option TsRequest) (request : TsRequest) → next ≡ Some request →
      StandsBy c p k came next rounds guest → Runs c p k came rounds request guest
  runs_by rounds guest None request is stands = absurd cc
  runs_by rounds guest (Some next) request is stands =
      let same : next ≡ request = cc (is) in
      subst (λ (r : TsRequest). Runs c p k came rounds r guest) same stands

  -- its session is kept, and its server served only its calls
  pub record RunsAt (rounds : ℕ) (request : TsRequest) (guest : Guest N K D) (at : Option (ServerView (SspiContext N K) P)) : Type 0 where
    pub server : ServerView (SspiContext N K) P
    pub found : at ≡ Some server
    pub alone : Alone c p came.server guest.calls guest.answers server
    pub runs : Runs c p k came rounds request guest

  pub kept_runs : (rounds : ℕ) (guest : Guest N K D) (request : TsRequest) (at : Option (ServerView (SspiContext N K) P)) →
      guest.next ≡ Some request → IsKept c p k came rounds guest at → RunsAt rounds request guest at
  kept_runs rounds guest request None is kept = absurd kept
  kept_runs rounds guest request (Some server) is kept = record {
    server = server;
    found = refl;
    alone = kept.alone;
    runs = runs_by rounds guest guest.next request is kept.stands;
  }

  -- a client that ended its turn by itself
  pub kept_ended : (turn : ℕ) (guest : Guest N K D) (server : ServerView (SspiContext N K) P)
      (at : Option (ServerView (SspiContext N K) P)) →
      at ≡ Some server → guest.next ≡ None → Alone c p came.server guest.calls guest.answers server → HasEnded c p k came turn guest →
      IsKept c p k came turn guest at
  kept_ended turn guest server at found none alone ended =
      subst (λ (o : Option (ServerView (SspiContext N K) P)). IsKept c p k came turn guest o) (sym found)
      (record { alone = alone; stands = subst (λ (next : Option TsRequest). StandsBy c p k came next turn guest) (sym none) ended })
