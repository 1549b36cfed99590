-- How a client's message, and the desk's answer to it, change its seat.
use Rattle.std.proofs.Common.{◌≡◌, ℕ, List, [], ◌∷◌, ◌++◌, length, reverse, Option, None, Some, Result, Ok, Err, refl, sym, subst, arith}
use Rattle.std.specs.Prelude.{false, IfOk, OnOk}
use Rattle.sspi_mech.specs.Meaning.{Meaning}
use Rattle.sspi_tsreq.specs.declared.request.TsRequest.{TsRequest}
use Rattle.sspi_credssp.specs.declared.context.SspiContext.{SspiContext}
use Rattle.sspi_credssp.specs.declared.turn.End.{End}
use Rattle.sspi_credssp.specs.declared.turn.End.TheVariants.{Client, Server}
use Rattle.sspi_credssp.specs.declared.turn.Outcome.{Outcome}
use Rattle.sspi_credssp.specs.declared.turn.Outcome.TheVariants as outcome
use Rattle.sspi_credssp.specs.declared.turn.Turn.{Turn}
use Rattle.sspi_credssp.specs.Ends.{ClientView, ServerView}
use Rattle.sspi_credssp.specs.Context.{ContextSetting}
use Rattle.sspi_credssp.specs.Proxy.{ProxyMeaning}
use Rattle.sspi_credssp.specs.Turn.{message_of}
use Rattle.sspi_delegate.specs.Chain.{KdcCalls}
use Rattle.sspi_delegate.specs.Log.{NewestFits, NewestIs, MessageFits}
use Rattle.sspi_delegate.specs.Turns.{onto_server, server_turns, OthersGoOn, AllGoOn, GoesOn}
use Rattle.sspi_delegate.specs.History.{ClientHistory}
use Rattle.sspi_delegate.specs.Log.{IsSent}
use Rattle.sspi_desk.specs.Alone.{Alone}
use Rattle.sspi_desk.specs.Call.{IsServed, Spells}
use Rattle.sspi_desk.specs.Desk.{DeskView, session, Serves, ServesAt}
use Rattle.sspi_desk.proofs.Sessions.{Alone-append}
use Rattle.sspi_desk.specs.declared.answer.DeskError.{DeskError}
use Rattle.sspi_desk.specs.declared.answer.DeskError.TheVariants.{NoSession, Unread, Refused, TooLong, InsufficientMemory}
use Rattle.sspi_desk.specs.declared.answer.Served.{Served}
use Rattle.sspi_desk.specs.declared.answer.Served.TheVariants.{Answer, Finished}
use Rattle.sspi_seats.specs.Guest.{AreClients, IsVisited, StandsBy}
use Rattle.sspi_seats.specs.Keeping.{KeepsCall, OthersStay}
use Rattle.sspi_seats.specs.Hearing.{Speaks, SpeaksAs, IsHeard, IsSpeaking}
use Rattle.sspi_seats.specs.Messages.{IsNext, AreServed, AreServedButLast}
use Rattle.sspi_seats.specs.Outcomes.{Shows}
use Rattle.sspi_seats.specs.Seat.{Place, ClientCame}
use Rattle.sspi_seats.specs.Sessions.{IsKept}
use Rattle.sspi_seats.specs.declared.guest.Guest.{Guest}
use Rattle.sspi_seats.specs.declared.hearing.Heard.{Heard}
use Rattle.sspi_seats.specs.declared.hearing.Heard.TheVariants.{Next, Ends}
use Rattle.sspi_seats.specs.declared.seat.SeatOutcome.{SeatOutcome}
use Rattle.sspi_seats.specs.declared.seat.SeatOutcome.TheVariants as seats
use Rattle.sspi_seats.proofs.Lists.{reverse_push}

-- if a call succeeded
pub kept_done : {E : Type 0} {P Q : Type 0} (done : Result (Unit {0}) E) → (P → Q) → OnOk done P → OnOk done Q
kept_done (Ok done) more holds = more holds
kept_done (Err error) more holds = tt

-- ---- the message

long_by : {E : Type 0} (out : Outcome) (said : Result (Option (List ℕ)) E) → GoesOn out → said ≡ Ok None → SpeaksAs (message_of out) said →
    MessageFits (message_of out) false
long_by {E} (outcome.Reply reply) said goes is speaks = subst (λ (s : Result (Option (List ℕ)) E). Spells reply s) is speaks
long_by {E} (outcome.Final reply) said goes is speaks = subst (λ (s : Result (Option (List ℕ)) E). Spells reply s) is speaks
long_by outcome.Finished said goes is speaks = absurd goes
long_by (outcome.Refused kind reply) said goes is speaks = absurd goes

-- too long
pub speaks_long : {E : Type 0} (turns : List Turn) (said : Result (Option (List ℕ)) E) → AllGoOn turns → said ≡ Ok None →
    Speaks turns said →
    (calls : List (List ℕ)) (answers : List (Result Served DeskError)) → AreServedButLast turns calls answers → NewestFits turns false
speaks_long [] said go is speaks calls answers served = absurd served
speaks_long (t ∷ past) said go is speaks calls answers served = long_by t.outcome said go.0 is speaks

sent_by : {E : Type 0} (out : Outcome) (said : Result (Option (List ℕ)) E) (bytes : List ℕ) → GoesOn out → said ≡ Ok (Some bytes) →
    SpeaksAs (message_of out) said → IsSent (message_of out) bytes
sent_by {E} (outcome.Reply reply) said bytes goes is speaks = subst (λ (s : Result (Option (List ℕ)) E). Spells reply s) is speaks
sent_by {E} (outcome.Final reply) said bytes goes is speaks = subst (λ (s : Result (Option (List ℕ)) E). Spells reply s) is speaks
sent_by outcome.Finished said bytes goes is speaks = absurd goes
sent_by (outcome.Refused kind reply) said bytes goes is speaks = absurd goes

-- one more turn was served
pub speaks_sent : {E : Type 0} (turns : List Turn) (said : Result (Option (List ℕ)) E) (bytes : List ℕ) (answer : Result Served DeskError) →
    AllGoOn turns → said ≡ Ok (Some bytes) → Speaks turns said → (calls : List (List ℕ)) (answers : List (Result Served DeskError)) →
    AreServedButLast turns calls answers → AreServed turns (bytes ∷ calls) (answer ∷ answers)
speaks_sent [] said bytes answer go is speaks calls answers served = absurd served
speaks_sent (t ∷ past) said bytes answer go is speaks calls answers served =
    (served.0, sent_by t.outcome said bytes go.0 is speaks, served.1)

-- the newest turn is the client's
newest_is : (end : End) (t : Turn) (past : List Turn) → t.end ≡ end → onto_server end t (server_turns past) ≡ [] → end ≡ Client
newest_is Client t past is none = refl
newest_is Server t past is none = absurd cc

newest_goes : (turns : List Turn) → AllGoOn turns → AreClients turns → (calls : List (List ℕ)) (answers : List (Result Served DeskError)) →
    AreServedButLast turns calls answers → NewestIs Client GoesOn turns
newest_goes [] go own calls answers served = absurd served
newest_goes (t ∷ past) go own calls answers served = (newest_is t.end t past refl own.none, go.0)

others_of : (turns : List Turn) → AllGoOn turns → OthersGoOn turns
others_of [] go = tt
others_of (t ∷ past) go = go.1

-- ---- the answer

module _ (turns : List Turn) (calls : List (List ℕ)) (answers : List (Result Served DeskError)) (messages : ℕ)
    (count : length turns ≡ messages)
  where
    -- an answer that is the end shows the outcome
    pub heard_shows : (answer : Result Served DeskError) (out : SeatOutcome) → IsHeard messages answer (Ends out) →
        AreServed turns calls (answer ∷ answers) → (limit : ℕ) → Shows limit out turns calls (answer ∷ answers)
    heard_shows (Ok (Answer text)) (seats.Read Client kind) heard served limit = (served, heard)
    heard_shows (Ok (Answer text)) (seats.Read Server kind) heard served limit = absurd heard
    heard_shows (Ok (Answer text)) (seats.Ok n identity) heard served limit = absurd heard
    heard_shows (Ok (Answer text)) (seats.Client error) heard served limit = absurd heard
    heard_shows (Ok (Answer text)) (seats.Server error) heard served limit = absurd heard
    heard_shows (Ok (Answer text)) (seats.Write end) heard served limit = absurd heard
    heard_shows (Ok (Answer text)) seats.TurnsSpent heard served limit = absurd heard
    heard_shows (Ok (Finished identity)) out heard served limit =
        let is : out ≡ seats.Ok messages identity = cc in
        subst (λ (o : SeatOutcome). Shows limit o turns calls (Ok (Finished identity) ∷ answers)) (sym is) (served, refl, sym count)
    heard_shows (Err NoSession) out heard served limit = absurd heard
    heard_shows (Err (Unread kind)) out heard served limit =
        let is : out ≡ seats.Read Server kind = cc in
        subst (λ (o : SeatOutcome). Shows limit o turns calls (Err (Unread kind) ∷ answers)) (sym is) (served, refl)
    heard_shows (Err (Refused error text)) out heard served limit =
        let is : out ≡ seats.Server error = cc in
        subst (λ (o : SeatOutcome). Shows limit o turns calls (Err (Refused error text) ∷ answers)) (sym is) (served, (text, refl))
    heard_shows (Err TooLong) out heard served limit =
        let is : out ≡ seats.Write Server = cc in
        subst (λ (o : SeatOutcome). Shows limit o turns calls (Err TooLong ∷ answers)) (sym is) (served, refl)
    heard_shows (Err InsufficientMemory) out heard served limit = absurd heard

module _ {C D : Type 0} (c : Meaning ContextSetting C) (k : KdcCalls D) (first : ClientView C) (kdc : D) (turns : List Turn)
    (now : ClientView C)
    (kdc2 : D) (history : ClientHistory c k first kdc turns now kdc2) where
  -- the client itself refused nothing
  pub heard_came : (messages : ℕ) (answer : Result Served DeskError) (out : SeatOutcome) → IsHeard messages answer (Ends out) →
      ClientCame c k first kdc out turns now kdc2
  heard_came messages (Ok (Answer text)) (seats.Read end kind) heard = history
  heard_came messages (Ok (Answer text)) (seats.Ok n identity) heard = absurd heard
  heard_came messages (Ok (Answer text)) (seats.Client error) heard = absurd heard
  heard_came messages (Ok (Answer text)) (seats.Server error) heard = absurd heard
  heard_came messages (Ok (Answer text)) (seats.Write end) heard = absurd heard
  heard_came messages (Ok (Answer text)) seats.TurnsSpent heard = absurd heard
  heard_came messages (Ok (Finished identity)) out heard =
      let is : out ≡ seats.Ok messages identity = cc in
      subst (λ (o : SeatOutcome). ClientCame c k first kdc o turns now kdc2) (sym is) history
  heard_came messages (Err NoSession) out heard = absurd heard
  heard_came messages (Err (Unread kind)) out heard =
      let is : out ≡ seats.Read Server kind = cc in
      subst (λ (o : SeatOutcome). ClientCame c k first kdc o turns now kdc2) (sym is) history
  heard_came messages (Err (Refused error text)) out heard =
      let is : out ≡ seats.Server error = cc in
      subst (λ (o : SeatOutcome). ClientCame c k first kdc o turns now kdc2) (sym is) history
  heard_came messages (Err TooLong) out heard =
      let is : out ≡ seats.Write Server = cc in
      subst (λ (o : SeatOutcome). ClientCame c k first kdc o turns now kdc2) (sym is) history
  heard_came messages (Err InsufficientMemory) out heard = absurd heard

-- only the bytes of a message let a client go on
heard_next : (messages : ℕ) (answer : Result Served DeskError) (request : TsRequest) (answers : List (Result Served DeskError)) →
    IsHeard messages answer (Next request) → IsNext (answer ∷ answers) request
heard_next messages (Ok (Answer text)) request answers heard = heard
heard_next messages (Ok (Finished identity)) request answers heard = absurd cc
heard_next messages (Err NoSession) request answers heard = absurd heard
heard_next messages (Err (Unread kind)) request answers heard = absurd cc
heard_next messages (Err (Refused error text)) request answers heard = absurd cc
heard_next messages (Err TooLong) request answers heard = absurd cc
heard_next messages (Err InsufficientMemory) request answers heard = absurd heard

-- ---- the desk

module _ {C P : Type 0} (c : Meaning ContextSetting C) (p : ProxyMeaning P) where
  -- the desk's server answered
  pub record ServedAt (number : ℕ) (bytes : List ℕ) (answer : Result Served DeskError) (server : ServerView C P)
      (new : DeskView C P) : Type 0 where
    pub after : ServerView C P
    pub served : IsServed c p server bytes answer after
    pub found : session number new ≡ Some after

  pub served_at : (number : ℕ) (bytes : List ℕ) (answer : Result Served DeskError) (server : ServerView C P)
      (at : Option (ServerView C P)) (old new : DeskView C P) → at ≡ Some server →
      ServesAt c p at number bytes answer old new → ServedAt number bytes answer server new
  served_at number bytes answer server None old new is serves = absurd cc
  served_at number bytes answer server (Some found) old new is serves =
      let same : found ≡ server = cc (is) in
      record {
        after = serves.after;
        served = subst (λ (s : ServerView C P). IsServed c p s bytes answer serves.after) same serves.answers;
        found = serves.changes.here;
      }

  others_served : (number : ℕ) (bytes : List ℕ) (answer : Result Served DeskError) (at : Option (ServerView C P))
      (old new : DeskView C P) → ServesAt c p at number bytes answer old new → OthersStay number old new
  others_served number bytes answer None old new serves = rw serves.1 (record { others = λ other apart. refl; admitted = refl })
  others_served number bytes answer (Some found) old new serves =
      record { others = serves.changes.others; admitted = serves.counts.admitted_is }

  pub others_stay : (number : ℕ) (bytes : List ℕ) (answer : Result Served DeskError) (old new : DeskView C P) →
      Serves c p number bytes answer old new → OthersStay number old new
  others_stay number bytes answer old new serves = others_served number bytes answer (session number old) old new serves

-- ---- the seat

module _ {N K P D : Type 0} (c : Meaning ContextSetting (SspiContext N K)) (p : ProxyMeaning P) (k : KdcCalls D)
    (came : Place (SspiContext N K) P D) where
  -- a message that is too long ends it
  pub long_ends : {E : Type 0} (turn : ℕ) (guest : Guest N K D) (said : Result (Option (List ℕ)) E)
      (server : ServerView (SspiContext N K) P)
      (at : Option (ServerView (SspiContext N K) P)) → guest.next ≡ None → IsSpeaking c p k came turn guest →
      Alone c p came.server guest.calls guest.answers server → at ≡ Some server → said ≡ Ok None → Speaks guest.transcript.turns said →
      IsKept c p k came turn (record guest { outcome = seats.Write Client }) at
  long_ends turn guest said server at none speaking alone kept is speaks = rw kept (record {
    alone = alone;
    stands = rw none (record {
      shown = λ limit. (
        speaking.served,
        newest_goes guest.transcript.turns speaking.turned.go speaking.turned.own (reverse guest.calls) (reverse guest.answers)
            speaking.served,
        speaks_long guest.transcript.turns said speaking.turned.go is speaks (reverse guest.calls) (reverse guest.answers) speaking.served,
      );
      history = speaking.turned.history;
      own = speaking.turned.own;
      others = others_of guest.transcript.turns speaking.turned.go;
      count = omega (arith, speaking.turned.count);
    });
  })

  module _ (turn : ℕ) (guest : Guest N K D) (bytes : List ℕ) (answer : Result Served DeskError)
      (server after : ServerView (SspiContext N K) P)
      (none : guest.next ≡ None) (speaking : IsSpeaking c p k came turn guest)
      (alone : Alone c p came.server guest.calls guest.answers server)
      (served : IsServed c p server bytes answer after)
      (sent : AreServed guest.transcript.turns (bytes ∷ reverse guest.calls) (answer ∷ reverse guest.answers)) where
    alone_more : Alone c p came.server (guest.calls ++ bytes ∷ []) (guest.answers ++ answer ∷ []) after
    alone_more = Alone-append c p came.server server after guest.calls (bytes ∷ []) guest.answers (answer ∷ []) alone (after, served, refl)

    -- the client has its next request
    goes_on : (request : TsRequest) → IsHeard turn answer (Next request) →
        IsVisited c p k came turn
        (record guest { next = Some request; calls = guest.calls ++ bytes ∷ []; answers = guest.answers ++ answer ∷ [] }) after
    goes_on request heard = record {
      alone = alone_more;
      stands = record {
        turned = record {
          own = speaking.turned.own;
          go = speaking.turned.go;
          history = speaking.turned.history;
          count = speaking.turned.count;
          spent = speaking.turned.spent;
        };
        served = rw (reverse_push guest.calls bytes, reverse_push guest.answers answer) sent;
        next = rw (reverse_push guest.answers answer) (heard_next turn answer request (reverse guest.answers) heard);
      };
    }

    -- the client came to its end
    comes_to : (out : SeatOutcome) → IsHeard turn answer (Ends out) →
        IsVisited c p k came turn
        (record guest { outcome = out; calls = guest.calls ++ bytes ∷ []; answers = guest.answers ++ answer ∷ [] }) after
    comes_to out heard = record {
      alone = alone_more;
      stands = subst (λ (next : Option TsRequest). StandsBy c p k came next turn
          (record guest { outcome = out; calls = guest.calls ++ bytes ∷ []; answers = guest.answers ++ answer ∷ [] })) (sym none) (record {
            shown = λ limit. rw (reverse_push guest.calls bytes, reverse_push guest.answers answer)
                (heard_shows guest.transcript.turns (bytes ∷ reverse guest.calls) (reverse guest.answers) turn
                speaking.turned.count answer out heard
                sent limit);
            history = heard_came c k came.client came.kdc guest.transcript.turns guest.client guest.kdc speaking.turned.history
                turn answer out heard;
            own = speaking.turned.own;
            others = others_of guest.transcript.turns speaking.turned.go;
            count = omega (arith, speaking.turned.count);
          });
    }

    kept_as : {E : Type 0} (heard : Result Heard E) (new : Guest N K D) → IfOk heard (λ h. IsHeard turn answer h) →
        KeepsCall bytes answer heard guest new → IsVisited c p k came turn new after
    kept_as (Ok (Next request)) new means keeps =
        subst (λ (x : Guest N K D). IsVisited c p k came turn x after) (sym keeps) (goes_on request means)
    kept_as (Ok (Ends out)) new means keeps = subst (λ (x : Guest N K D). IsVisited c p k came turn x after) (sym keeps)
        (comes_to out means)
    kept_as (Err error) new means keeps = absurd keeps

  -- the message was served, and the call kept
  pub speaks_on : {E F : Type 0} (turn number : ℕ) (guest new : Guest N K D) (said : Result (Option (List ℕ)) F) (bytes : List ℕ)
      (answer : Result Served DeskError) (heard : Result Heard E) (server : ServerView (SspiContext N K) P)
      (old now : DeskView (SspiContext N K) P) → guest.next ≡ None → IsSpeaking c p k came turn guest →
      Alone c p came.server guest.calls guest.answers server → session number old ≡ Some server → said ≡ Ok (Some bytes) →
      Speaks guest.transcript.turns said → Serves c p number bytes answer old now → IfOk heard (λ h. IsHeard turn answer h) →
      KeepsCall bytes answer heard guest new → IsKept c p k came turn new (session number now)
  speaks_on turn number guest new said bytes answer heard server old now none speaking alone found is speaks serves means keeps =
      let at = served_at c p number bytes answer server (session number old) old now found serves in
      let sent = speaks_sent guest.transcript.turns said bytes answer speaking.turned.go is speaks (reverse guest.calls)
      (reverse guest.answers)
      speaking.served in
      subst (λ (o : Option (ServerView (SspiContext N K) P)). IsKept c p k came turn new o) (sym at.found)
      (kept_as turn guest bytes answer server at.after none speaking alone at.served sent heard new means keeps)
