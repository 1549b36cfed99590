-- One more turn of an end over a channel.
use Rattle.std.proofs.Common.{◌≡◌, ℕ, ◌+◌, Bool, true, false, List, [], ◌∷◌, length, Ok, refl, sym, ap, ◌∙◌, subst}
use Rattle.std.proofs.Common.{arith}
use Rattle.sspi_tsreq.specs.declared.request.TsRequest.{TsRequest}
use Rattle.sspi_credssp.specs.declared.turn.End.{End}
use Rattle.sspi_credssp.specs.declared.turn.End.TheVariants.{Client, Server}
use Rattle.sspi_credssp.specs.declared.turn.Outcome.{Outcome}
use Rattle.sspi_credssp.specs.declared.turn.Turn.{Turn}
use Rattle.sspi_credssp.specs.Turn.{message_of}
use Rattle.sspi_delegate.specs.Link.{newest_message}
use Rattle.sspi_delegate.specs.Log.{NewestIs}
use Rattle.sspi_delegate.specs.Recorded.{PushedSuch}
use Rattle.sspi_delegate.specs.Turns.{AllGoOn, GoesOn, client_turns, is_ended, onto_client, onto_server, server_turns}
use Rattle.sspi_live.specs.Answers.{GoesOnBehind, IsDelegated, IsTurned, SoFar}
use Rattle.sspi_live.specs.Channel.{Carries, Channel}
use Rattle.sspi_live.specs.Sides.{AreOf, BeginsItself, messages_in, one_or_none, read_for, received_by}
use Rattle.sspi_live.specs.Answers.{IsOwn}
use Rattle.sspi_live.specs.Steps.{ConnectStep, newest_is_last}
use Rattle.sspi_live.proofs.Carrying.{nothing_carried, read_on, written_on}

-- ---- whose turns they are

pub pushed_whose : (end : End) (d : TsRequest) (P : Outcome → Type 0) (old new : List Turn) → PushedSuch end d P old new →
    AreOf end old → AreOf end new
pushed_whose end d P old [] pushed whose = absurd pushed
pushed_whose end d P old (t ∷ past) pushed whose = (pushed.1, subst (λ (l : List Turn). AreOf end l) (sym pushed.0) whose)

pub none_of : (end : End) (turns : List Turn) → turns ≡ [] → AreOf end turns
none_of end turns none = subst (λ (l : List Turn). AreOf end l) (sym none) tt

pub none_begins : (turns : List Turn) → turns ≡ [] → BeginsItself turns
none_begins turns none = subst (λ (l : List Turn). BeginsItself l) (sym none) tt

pub pushed_count : (end : End) (d : TsRequest) (P : Outcome → Type 0) (old new : List Turn) → PushedSuch end d P old new →
    length new ≡ length old + 1
pushed_count end d P old [] pushed = absurd pushed
pushed_count end d P old (t ∷ past) pushed = omega (arith, ap length pushed.0)

pub pushed_newest : (end : End) (d : TsRequest) (P : Outcome → Type 0) (old new : List Turn) → PushedSuch end d P old new →
    NewestIs end P new
pushed_newest end d P old [] pushed = absurd pushed
pushed_newest end d P old (t ∷ past) pushed = (pushed.1, pushed.3)

begins_on : (t : Turn) (past : List Turn) → BeginsItself past → IsOwn Client past t.delivered → BeginsItself (t ∷ past)
begins_on t [] begins own = own
begins_on t (u ∷ past) begins own = begins

pub pushed_begins : (d : TsRequest) (P : Outcome → Type 0) (old new : List Turn) → PushedSuch Client d P old new → IsOwn Client old d →
    BeginsItself old → BeginsItself new
pushed_begins d P old [] pushed own begins = absurd pushed
pushed_begins d P old (t ∷ past) pushed own begins =
    begins_on t past (subst (λ (l : List Turn). BeginsItself l) (sym pushed.0) begins)
    (subst (λ (l : List Turn). IsOwn Client l t.delivered) (sym pushed.0)
    (subst (λ (it : TsRequest). IsOwn Client old it) (sym pushed.2) own))

onto_own_server : (e : End) (t : Turn) (past : List Turn) → e ≡ Server → onto_server e t past ≡ t ∷ past
onto_own_server Client t past is = absurd (cc (is))
onto_own_server Server t past is = refl

pub own_servers : (turns : List Turn) → AreOf Server turns → server_turns turns ≡ turns
own_servers [] whose = refl
own_servers (t ∷ past) whose =
    onto_own_server t.end t (server_turns past) whose.0 ∙ ap (λ (l : List Turn). t ∷ l) (own_servers past whose.1)

onto_own_client : (e : End) (t : Turn) (past : List Turn) → e ≡ Client → onto_client e t past ≡ t ∷ past
onto_own_client Client t past is = refl
onto_own_client Server t past is = absurd (cc (is))

pub own_clients : (turns : List Turn) → AreOf Client turns → client_turns turns ≡ turns
own_clients [] whose = refl
own_clients (t ∷ past) whose =
    onto_own_client t.end t (client_turns past) whose.0 ∙ ap (λ (l : List Turn). t ∷ l) (own_clients past whose.1)

-- ---- what the channel carried

pub no_turn : (end : End) (turns : List Turn) (x : Channel) → turns ≡ [] → SoFar end turns x x
no_turn end turns x none =
    subst (λ (l : List Turn). SoFar end l x x) (sym none) (record { going = tt; unended = λ is. refl; carried = nothing_carried x })

-- the request of the newest turn was read
pub turned : (end : End) (d : TsRequest) (P : Outcome → Type 0) (old new : List Turn) (first a b : Channel) → SoFar end old first a →
    Carries a b (read_for end old d) [] → PushedSuch end d P old new → IsTurned end new first b
turned end d P old [] first a b s c pushed = absurd pushed
turned end d P old (t ∷ past) first a b s c pushed =
    let same : old ≡ past = sym pushed.0 in
    let given : d ≡ t.delivered = sym pushed.2 in
    let before : SoFar end past first a = subst (λ (l : List Turn). SoFar end l first a) same s in
    let read : Carries a b (read_for end past t.delivered) [] =
    subst (λ (l : List Turn). Carries a b (read_for end l t.delivered) []) same
    (subst (λ (it : TsRequest). Carries a b (read_for end old it) []) given c) in
    record {
      going = before.going;
      unended = before.unended;
      carried = read_on first a b (received_by end past) (read_for end past t.delivered) (messages_in past) before.carried read;
    }

-- and its message was written
told_turn : (end : End) (t : Turn) (past : List Turn) (first b c : Channel) → IsTurned end (t ∷ past) first b →
    Carries b c [] (one_or_none (message_of t.outcome)) → Carries first c (received_by end (t ∷ past)) (messages_in (t ∷ past))
told_turn end t past first b c turn sent =
    written_on first b c (received_by end (t ∷ past)) (messages_in past) (one_or_none (message_of t.outcome)) turn.carried sent

open_on : (end : End) (t : Turn) (past : List Turn) → GoesOnBehind end past → (end ≡ Client → is_ended t.outcome ≡ false) →
    GoesOnBehind end (t ∷ past)
open_on end t past behind unended is = rw (unended is) (behind is)

pub so_far_on : (end : End) (d : TsRequest) (old new : List Turn) (first b c : Channel) → IsTurned end new first b →
    PushedSuch end d GoesOn old new → (end ≡ Client → newest_is_last new ≡ false) →
    Carries b c [] (one_or_none (newest_message new)) → SoFar end new first c
so_far_on end d old [] first b c turn pushed unended sent = absurd pushed
so_far_on end d old (t ∷ past) first b c turn pushed unended sent = record {
  going = (pushed.3, turn.going);
  unended = open_on end t past turn.unended unended;
  carried = told_turn end t past first b c turn sent;
}

pub delegated : (d : TsRequest) (old new : List Turn) (first b c : Channel) → IsTurned Client new first b →
    PushedSuch Client d GoesOn old new → newest_is_last new ≡ true → Carries b c [] (one_or_none (newest_message new)) →
    IsDelegated new first c
delegated d old [] first b c turn pushed last sent = absurd pushed
delegated d old (t ∷ past) first b c turn pushed last sent = record {
  newest = (pushed.1, last);
  going = (pushed.3, turn.going);
  unended = turn.unended;
  carried = told_turn Client t past first b c turn sent;
}

pub all_going : (end : End) (d : TsRequest) (old new : List Turn) (first b : Channel) → IsTurned end new first b →
    PushedSuch end d GoesOn old new → AllGoOn new
all_going end d old [] first b turn pushed = absurd pushed
all_going end d old (t ∷ past) first b turn pushed = (pushed.3, turn.going)

-- a client's turn whose message was written
pub connect_on : (d : TsRequest) (limit : ℕ) (old new : List Turn) (first b c : Channel) (last : Bool) → IsTurned Client new first b →
    PushedSuch Client d GoesOn old new → newest_is_last new ≡ last → Carries b c [] (one_or_none (newest_message new)) →
    ConnectStep limit first c (Ok last) new
connect_on d limit old new first b c true turn pushed is sent = delegated d old new first b c turn pushed is sent
connect_on d limit old new first b c false turn pushed is sent =
    so_far_on Client d old new first b c turn pushed (λ own. is) sent
