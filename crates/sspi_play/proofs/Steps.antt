-- The state of a play after one more delivery.
use Rattle.std.proofs.Common.{◌≡◌, ◌≢◌, ◌<◌, ◌≤◌, ◌+◌, ℕ, length, take, reverse, get_or, arith, inl, inr, List, [], ◌∷◌, Option}
use Rattle.std.proofs.Common.{None, Some, Result, Ok, Err, Bool, true, false, not, sym, ◌∙◌, ap, subst, refl}
use Rattle.sspi_types.specs.declared.error_kind.ErrorKind.{ErrorKind}
use Rattle.sspi_types.specs.declared.error_kind.ErrorKind.TheVariants as kinds
use Rattle.sspi_names.specs.declared.identity.AuthIdentity.{AuthIdentity}
use Rattle.sspi_ber.specs.declared.wire_kind.WireKind.{WireKind}
use Rattle.sspi_ber.specs.declared.wire_kind.WireKind.TheVariants as wire
use Rattle.sspi_tsreq.specs.declared.request.TsRequest.{TsRequest}
use Rattle.sspi_credssp.specs.declared.turn.End.{End}
use Rattle.sspi_credssp.specs.declared.turn.End.TheVariants.{Client, Server}
use Rattle.sspi_credssp.specs.declared.turn.Outcome.{Outcome}
use Rattle.sspi_credssp.specs.declared.turn.Outcome.TheVariants as outcome
use Rattle.sspi_credssp.specs.declared.turn.Turn.{Turn}
use Rattle.sspi_delegate.specs.declared.answer.DelegateError.{DelegateError}
use Rattle.sspi_delegate.specs.Log.{IsClientRefusal, IsServerRefusal, IsFinished}
use Rattle.sspi_delegate.specs.Recorded.{PushedSuch}
use Rattle.sspi_delegate.specs.Turns.{GoesOn}
use Rattle.sspi_play.specs.declared.hand.Handed.TheVariants as handed
use Rattle.sspi_play.specs.declared.hand.Standing.{Standing}
use Rattle.sspi_play.specs.declared.played.Delivery.{Delivery}
use Rattle.sspi_play.specs.declared.played.Ending.{Ending}
use Rattle.sspi_play.specs.declared.played.Ending.TheVariants.{Running, Refused, Unread}
use Rattle.sspi_play.specs.Hands.{RequestIs, IsLeft, EndsBy, HasTurn, TurnsSo, EndsSo, LacksSo, ClientHands, ServerHands, Stands, StopsAt}
use Rattle.sspi_play.specs.Plays.{IsNoWant, any_for, is_start, unread_kind, refusal_in, ending_by, ending_of, IsGiven, Plays, begins}
use Rattle.sspi_play.specs.Plays.{takes, passes, AllHadMemory, OthersHadMemory, IsTaken}
use Rattle.sspi_play.specs.Played.{PlaysFront}
use Rattle.sspi_play.proofs.Order.{reverse_more, reverse_all, still_runs, is_unread, stays, server_apart, client_apart, client_after}
use Rattle.sspi_play.proofs.Order.{server_after, server_beside, client_beside}

-- ---- the request of a delivery

pub unread_is : (start : Bool) (bytes : List ℕ) (kind : WireKind) → kind ≢ wire.InsufficientMemory → RequestIs start bytes (Err kind) →
    unread_kind start bytes ≡ Some kind
unread_is start bytes wire.UnexpectedEof other h = h
unread_is start bytes wire.InvalidData other h = h
unread_is start bytes wire.ReadFault other h = absurd h
unread_is start bytes wire.WriteFault other h = absurd h
unread_is start bytes wire.InsufficientMemory other h = absurd (other refl)

-- the turn that a round adds
pub pushed_turn : (end : End) (start : Bool) (bytes : List ℕ) (request : TsRequest) (P : Outcome → Type 0) (old new : List Turn) →
    RequestIs start bytes (Ok request) → PushedSuch end request P old new → TurnsSo end start bytes P old new
pushed_turn end start bytes request P old [] given pushed = absurd pushed
pushed_turn end start bytes request P old (t ∷ past) given pushed =
    (given.1, (pushed.0, pushed.1, subst (λ (r : TsRequest). IsGiven start bytes r) (sym pushed.2) given.0, pushed.3))

-- an end that refused, by the answer
pub client_ended : (start : Bool) (bytes : List ℕ) (kind : ErrorKind) (answer : Result Ending DelegateError) (old new : List Turn) →
    EndsBy kind answer →
    TurnsSo Client start bytes (IsClientRefusal kind) old new → ClientHands start bytes answer old new
client_ended start bytes kind (Ok ending) old new by turns = rw by.0 (by.1, turns)
client_ended start bytes kind (Err error) old new by turns = record {
  error_is = by.0;
  turns = inr (subst (λ (k : ErrorKind). TurnsSo Client start bytes (IsClientRefusal k) old new) by.1 turns);
}

pub server_ended : (bytes : List ℕ) (kind : ErrorKind) (ending : Ending) (old new : List Turn) → EndsBy kind (Ok ending) →
    TurnsSo Server false bytes (IsServerRefusal kind) old new → ServerHands bytes (Ok (handed.Stands ending)) old new
server_ended bytes kind ending old new by turns = rw by.0 (by.1, turns)

pub server_lacks : (bytes : List ℕ) (kind : ErrorKind) (error : DelegateError) (old new : List Turn) → EndsBy kind (Err error) →
    TurnsSo Server false bytes (IsServerRefusal kind) old new → ServerHands bytes (Err error) old new
server_lacks bytes kind error old new by turns = record {
  error_is = by.0;
  turns = inr (subst (λ (k : ErrorKind). TurnsSo Server false bytes (IsServerRefusal k) old new) by.1 turns);
}

-- ---- the state in which a turn leaves an end

went_ending : (out : Outcome) → GoesOn out → ending_by (refusal_in out) None ≡ Running
went_ending (outcome.Reply reply) went = refl
went_ending (outcome.Final reply) went = refl
went_ending outcome.Finished went = absurd went
went_ending (outcome.Refused kind reply) went = absurd went

finished_ending : (out : Outcome) → IsFinished out → ending_by (refusal_in out) None ≡ Running
finished_ending (outcome.Reply reply) is = absurd is
finished_ending (outcome.Final reply) is = absurd is
finished_ending outcome.Finished is = refl
finished_ending (outcome.Refused kind reply) is = absurd is

client_refused_ending : (kind : ErrorKind) (out : Outcome) → IsClientRefusal kind out → ending_by (refusal_in out) None ≡ Refused kind
client_refused_ending kind (outcome.Reply reply) is = absurd is
client_refused_ending kind (outcome.Final reply) is = absurd is
client_refused_ending kind outcome.Finished is = absurd is
client_refused_ending kind (outcome.Refused refused None) is = ap Refused is
client_refused_ending kind (outcome.Refused refused (Some reply)) is = absurd is

server_refused_ending : (kind : ErrorKind) (out : Outcome) → IsServerRefusal kind out → ending_by (refusal_in out) None ≡ Refused kind
server_refused_ending kind (outcome.Reply reply) is = absurd is
server_refused_ending kind (outcome.Final reply) is = absurd is
server_refused_ending kind outcome.Finished is = absurd is
server_refused_ending kind (outcome.Refused refused None) is = absurd is
server_refused_ending kind (outcome.Refused refused (Some reply)) is = ap Refused is

had_memory : (out : Outcome) (ending : Ending) → ending_by (refusal_in out) None ≡ ending → IsNoWant ending →
    refusal_in out ≢ Some kinds.InsufficientMemory
had_memory out ending is want = λ wanted.
    let no : IsNoWant (Refused kinds.InsufficientMemory) =
    subst IsNoWant (sym is ∙ ap (λ (r : Option ErrorKind). ending_by r None) wanted) want in
    no refl

others_had : (turns : List Turn) → AllHadMemory turns → OthersHadMemory turns
others_had [] memory = tt
others_had (t ∷ past) memory = memory.1

-- ---- one more turn

turn_plays : (end : End) (d : Delivery) (past : List Delivery) (t : Turn) (before turns : List Turn) → d.to ≡ end → before ≡ turns →
    t.end ≡ end →
    ending_of end past turns ≡ Running → unread_kind (is_start end past) d.bytes ≡ None → IsGiven (is_start end past) d.bytes t.delivered →
    Plays past turns → Plays (d ∷ past) (t ∷ before)
turn_plays end d past t before turns to same is runs read given plays =
    subst (λ (l : List Turn). Plays (d ∷ past) (t ∷ l)) (sym same)
    (takes d past t turns plays
    (subst (λ (e : End). ending_of e (d ∷ past) turns ≡ Running) (sym to) (still_runs end d past turns to runs read))
    (is ∙ sym to)
    (subst (λ (e : End). IsGiven (is_start e past) d.bytes t.delivered) (sym to) given))

no_turn_plays : (end : End) (d : Delivery) (past : List Delivery) (turns : List Turn) → d.to ≡ end →
    ending_of end (d ∷ past) turns ≢ Running →
    Plays past turns → Plays (d ∷ past) turns
no_turn_plays end d past turns to stops plays =
    passes d past turns plays (subst (λ (e : End). ending_of e (d ∷ past) turns ≢ Running) (sym to) stops)

has_plays : (end : End) (d : Delivery) (past : List Delivery) (P : Outcome → Type 0) (turns new : List Turn) → d.to ≡ end →
    ending_of end past turns ≡ Running →
    TurnsSo end (is_start end past) d.bytes P turns new → Plays past turns → Plays (d ∷ past) new
has_plays end d past P turns [] to runs h plays = absurd h.1
has_plays end d past P turns (t ∷ before) to runs h plays = turn_plays end d past t before turns to h.1.0 h.1.1 runs h.0 h.1.2 plays

none_stops : (d : Delivery) (past : List Delivery) (turns new : List Turn) → new ≡ turns → Plays past turns → AllHadMemory turns →
    StopsAt d past new
none_stops d past turns new none plays memory =
    subst (λ (l : List Turn). StopsAt d past l) (sym none) (inl plays, others_had turns memory)

newest_had : (end : End) (start : Bool) (bytes : List ℕ) (P : Outcome → Type 0) (turns new : List Turn) →
    HasTurn end start bytes P turns new → AllHadMemory turns → OthersHadMemory new
newest_had end start bytes P turns [] h memory = tt
newest_had end start bytes P turns (t ∷ before) h memory = rw h.0 memory

pub unread_stops : (ending : Ending) (kind : WireKind) → ending ≡ Unread kind → ending ≢ Running
unread_stops ending kind is runs = absurd (cc (is, runs))

pub refused_stops : (ending : Ending) (kind : ErrorKind) → ending ≡ Refused kind → ending ≢ Running
refused_stops ending kind is runs = absurd (cc (is, runs))

begun_more : (d : Delivery) (past : List Delivery) → d.to ≡ Client → true ≡ any_for Client (d ∷ past)
begun_more d past to = rw to refl

begun_apart : (d : Delivery) (past : List Delivery) → d.to ≡ Server → any_for Client past ≡ any_for Client (d ∷ past)
begun_apart d past to = rw to refl

-- ---- a delivery to the client

client_turned : (d : Delivery) (past : List Delivery) (P : Outcome → Type 0) (ending : Ending) (turns new : List Turn)
    (standing : Standing) → d.to ≡ Client →
    standing.played.client ≡ Running → IsNoWant ending → ((out : Outcome) → P out → ending_by (refusal_in out) None ≡ ending) →
    TurnsSo Client (is_start Client past) d.bytes P turns new → Stands past turns standing →
    Stands (d ∷ past) new (record { begun = true; played = record standing.played { client = ending } })
client_turned d past P ending turns [] standing to running want by h stands = absurd h.1
client_turned d past P ending turns (t ∷ before) standing to running want by h stands =
    let runs = sym stands.client ∙ running in
    let all = still_runs Client d past turns to runs h.0 in
    record {
      plays = turn_plays Client d past t before turns to h.1.0 h.1.1 runs h.0 h.1.2 stands.plays;
      memory = (had_memory t.outcome ending (by t.outcome h.1.3) want, rw h.1.0 stands.memory);
      begun = begun_more d past to;
      client = subst (λ (l : List Turn). ending ≡ ending_of Client (d ∷ past) (t ∷ l)) (sym h.1.0)
          (sym (client_after (d ∷ past) t turns ending h.1.1 all (by t.outcome h.1.3)));
      server = subst (λ (l : List Turn). standing.played.server ≡ ending_of Server (d ∷ past) (t ∷ l)) (sym h.1.0)
          (stands.server ∙ sym (server_apart d past turns to) ∙ sym (server_beside (d ∷ past) t turns h.1.1));
      client_kind = want;
      server_kind = stands.server_kind;
    }

pub client_stands : (d : Delivery) (past : List Delivery) (start : Bool) (ending : Ending) (turns new : List Turn) (standing : Standing) →
    d.to ≡ Client →
    start ≡ not standing.begun → standing.played.client ≡ Running → EndsSo Client IsClientRefusal start d.bytes ending turns new →
    Stands past turns standing → Stands (d ∷ past) new (record { begun = true; played = record standing.played { client = ending } })
client_stands d past start Running turns new standing to started running h stands =
    client_turned d past GoesOn Running turns new standing to running tt went_ending
    (subst (λ (s : Bool). TurnsSo Client s d.bytes GoesOn turns new) (started ∙ ap not stands.begun) h) stands
client_stands d past start (Refused kind) turns new standing to started running h stands =
    client_turned d past (IsClientRefusal kind) (Refused kind) turns new standing to running h.0 (client_refused_ending kind)
    (subst (λ (s : Bool). TurnsSo Client s d.bytes (IsClientRefusal kind) turns new) (started ∙ ap not stands.begun) h.1) stands
client_stands d past start (Unread kind) turns new standing to started running h stands =
    let read : unread_kind (is_start Client past) d.bytes ≡ Some kind =
    subst (λ (s : Bool). unread_kind s d.bytes ≡ Some kind) (started ∙ ap not stands.begun) h.0 in
    let ending = is_unread Client d past turns kind to (sym stands.client ∙ running) read in
    subst (λ (l : List Turn). Stands (d ∷ past) l (record { begun = true; played = record standing.played { client = Unread kind } }))
    (sym h.1)
    (record {
      plays = no_turn_plays Client d past turns to (unread_stops _ kind ending) stands.plays;
      memory = stands.memory;
      begun = begun_more d past to;
      client = sym ending;
      server = stands.server ∙ sym (server_apart d past turns to);
      client_kind = tt;
      server_kind = stands.server_kind;
    })

-- a client that no longer runs
pub client_passed : (d : Delivery) (past : List Delivery) (turns : List Turn) (standing : Standing) → d.to ≡ Client →
    standing.played.client ≢ Running →
    Stands past turns standing → Stands (d ∷ past) turns (record standing { begun = true })
client_passed d past turns standing to stopped stands =
    let stops : ending_of Client past turns ≢ Running = λ runs. stopped (stands.client ∙ runs) in
    let same = stays Client d past turns stops in
    record {
      plays = no_turn_plays Client d past turns to (λ runs. stops (sym same ∙ runs)) stands.plays;
      memory = stands.memory;
      begun = begun_more d past to;
      client = stands.client ∙ sym same;
      server = stands.server ∙ sym (server_apart d past turns to);
      client_kind = stands.client_kind;
      server_kind = stands.server_kind;
    }

pub client_stops : (d : Delivery) (past : List Delivery) (start : Bool) (error : DelegateError) (turns new : List Turn)
    (standing : Standing) → d.to ≡ Client →
    start ≡ not standing.begun → standing.played.client ≡ Running → LacksSo Client IsClientRefusal start d.bytes error turns new →
    Stands past turns standing → StopsAt d past new
client_stops d past start error turns new standing to started running h stands = elim h.turns [
  | inl none ↦ none_stops d past turns new none stands.plays stands.memory
  | inr turn ↦ (
    inr (has_plays Client d past (IsClientRefusal kinds.InsufficientMemory) turns new to (sym stands.client ∙ running)
        (subst (λ (s : Bool). TurnsSo Client s d.bytes (IsClientRefusal kinds.InsufficientMemory) turns new)
        (started ∙ ap not stands.begun) turn) stands.plays),
    newest_had Client start d.bytes (IsClientRefusal kinds.InsufficientMemory) turns new turn.1 stands.memory,
  )
]

-- the request of a delivery to the client that made no turn
pub left_taken : (d : Delivery) (past : List Delivery) (start : Bool) (turns new : List Turn) (standing : Standing) (request : TsRequest) →
    d.to ≡ Client →
    start ≡ not standing.begun → standing.played.client ≡ Running → Stands past turns standing →
    IsLeft start d.bytes turns new request → IsTaken d past new request
left_taken d past start turns new standing request to started running stands left =
    let read : RequestIs (is_start Client past) d.bytes (Ok request) =
    subst (λ (s : Bool). RequestIs s d.bytes (Ok request)) (started ∙ ap not stands.begun) left.0 in
    subst (λ (l : List Turn). IsTaken d past l request) (sym left.1)
    (record {
      plays = stands.plays;
      memory = stands.memory;
      to = to;
      runs = still_runs Client d past turns to (sym stands.client ∙ running) read.1;
      given = read.0;
    })

-- ---- a delivery to the server

server_turned : (d : Delivery) (past : List Delivery) (P : Outcome → Type 0) (ending : Ending) (turns new : List Turn)
    (standing : Standing) → d.to ≡ Server →
    standing.played.server ≡ Running → IsNoWant ending → ((out : Outcome) → P out → ending_by (refusal_in out) None ≡ ending) →
    TurnsSo Server false d.bytes P turns new → Stands past turns standing →
    Stands (d ∷ past) new (record standing { played = record standing.played { server = ending } })
server_turned d past P ending turns [] standing to running want by h stands = absurd h.1
server_turned d past P ending turns (t ∷ before) standing to running want by h stands =
    let runs = sym stands.server ∙ running in
    let all = still_runs Server d past turns to runs h.0 in
    record {
      plays = turn_plays Server d past t before turns to h.1.0 h.1.1 runs h.0 h.1.2 stands.plays;
      memory = (had_memory t.outcome ending (by t.outcome h.1.3) want, rw h.1.0 stands.memory);
      begun = stands.begun ∙ begun_apart d past to;
      client = subst (λ (l : List Turn). standing.played.client ≡ ending_of Client (d ∷ past) (t ∷ l)) (sym h.1.0)
          (stands.client ∙ sym (client_apart d past turns to) ∙ sym (client_beside (d ∷ past) t turns h.1.1));
      server = subst (λ (l : List Turn). ending ≡ ending_of Server (d ∷ past) (t ∷ l)) (sym h.1.0)
          (sym (server_after (d ∷ past) t turns ending h.1.1 all (by t.outcome h.1.3)));
      client_kind = stands.client_kind;
      server_kind = want;
    }

pub server_stands : (d : Delivery) (past : List Delivery) (ending : Ending) (turns new : List Turn) (standing : Standing) → d.to ≡ Server →
    standing.played.server ≡ Running → EndsSo Server IsServerRefusal false d.bytes ending turns new →
    Stands past turns standing → Stands (d ∷ past) new (record standing { played = record standing.played { server = ending } })
server_stands d past Running turns new standing to running h stands =
    server_turned d past GoesOn Running turns new standing to running tt went_ending h stands
server_stands d past (Refused kind) turns new standing to running h stands =
    server_turned d past (IsServerRefusal kind) (Refused kind) turns new standing to running h.0 (server_refused_ending kind) h.1 stands
server_stands d past (Unread kind) turns new standing to running h stands =
    let ending = is_unread Server d past turns kind to (sym stands.server ∙ running) h.0 in
    subst (λ (l : List Turn). Stands (d ∷ past) l (record standing { played = record standing.played { server = Unread kind } })) (sym h.1)
    (record {
      plays = no_turn_plays Server d past turns to (unread_stops _ kind ending) stands.plays;
      memory = stands.memory;
      begun = stands.begun ∙ begun_apart d past to;
      client = stands.client ∙ sym (client_apart d past turns to);
      server = sym ending;
      client_kind = stands.client_kind;
      server_kind = tt;
    })

-- a server that has finished still runs
pub server_finishes : (d : Delivery) (past : List Delivery) (identity : Option AuthIdentity) (turns new : List Turn)
    (standing : Standing) → d.to ≡ Server →
    standing.played.server ≡ Running → TurnsSo Server false d.bytes IsFinished turns new → Stands past turns standing →
    Stands (d ∷ past) new (record standing { played = record standing.played { identity = identity } })
server_finishes d past identity turns new standing to running h stands =
    let s = server_turned d past IsFinished Running turns new standing to running tt finished_ending h stands in
    record {
      plays = s.plays;
      memory = s.memory;
      begun = s.begun;
      client = s.client;
      server = running ∙ s.server;
      client_kind = s.client_kind;
      server_kind = stands.server_kind;
    }

pub server_passed : (d : Delivery) (past : List Delivery) (turns : List Turn) (standing : Standing) → d.to ≡ Server →
    standing.played.server ≢ Running →
    Stands past turns standing → Stands (d ∷ past) turns standing
server_passed d past turns standing to stopped stands =
    let stops : ending_of Server past turns ≢ Running = λ runs. stopped (stands.server ∙ runs) in
    let same = stays Server d past turns stops in
    record {
      plays = no_turn_plays Server d past turns to (λ runs. stops (sym same ∙ runs)) stands.plays;
      memory = stands.memory;
      begun = stands.begun ∙ begun_apart d past to;
      client = stands.client ∙ sym (client_apart d past turns to);
      server = stands.server ∙ sym same;
      client_kind = stands.client_kind;
      server_kind = stands.server_kind;
    }

pub server_stops : (d : Delivery) (past : List Delivery) (error : DelegateError) (turns new : List Turn) (standing : Standing) →
    d.to ≡ Server →
    standing.played.server ≡ Running → LacksSo Server IsServerRefusal false d.bytes error turns new → Stands past turns standing →
    StopsAt d past new
server_stops d past error turns new standing to running h stands = elim h.turns [
  | inl none ↦ none_stops d past turns new none stands.plays stands.memory
  | inr turn ↦ (
    inr (has_plays Server d past (IsServerRefusal kinds.InsufficientMemory) turns new to (sym stands.server ∙ running) turn stands.plays),
    newest_had Server false d.bytes (IsServerRefusal kinds.InsufficientMemory) turns new turn.1 stands.memory,
  )
]

-- ---- from the first delivery to the last

pub first_stands : (turns : List Turn) → turns ≡ [] →
    Stands [] turns (record { begun = false; played = record { client = Running; server = Running; identity = None } })
first_stands turns empty =
    subst (λ (l : List Turn). Stands [] l (record {
      begun = false;
      played = record { client = Running; server = Running; identity = None };
    })) (sym empty)
    (record { plays = begins; memory = tt; begun = refl; client = refl; server = refl; client_kind = tt; server_kind = tt })

pub front_of : (schedule : List Delivery) (n : ℕ) (d : Delivery) (turns : List Turn) → n < length schedule → d ≡ get_or schedule n d →
    StopsAt d (reverse (take n schedule)) turns → PlaysFront schedule turns
front_of schedule n d turns here is (inl plays, memory) = record { handed = n; within = omega arith; plays = plays; memory = memory }
front_of schedule n d turns here is (inr plays, memory) = record {
  handed = n + 1;
  within = omega arith;
  plays = subst (λ (l : List Delivery). Plays l turns) (sym (reverse_more schedule n d here is)) plays;
  memory = memory;
}

pub all_stands : (schedule : List Delivery) (n : ℕ) (turns : List Turn) (standing : Standing) → length schedule ≤ n →
    Stands (reverse (take n schedule)) turns standing → Stands (reverse schedule) turns standing
all_stands schedule n turns standing most stands = subst (λ (l : List Delivery). Stands l turns standing)
    (reverse_all schedule n most) stands
