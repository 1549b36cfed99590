-- A schedule's turns: an end's state after one more delivery; at most its newest turn is refused.
use Rattle.std.proofs.Common.{◌≡◌, ◌≢◌, ℕ, ◌+◌, ◌<◌, ◌≤◌, List, [], ◌∷◌, ◌++◌, length, take, reverse, get_or, Option, None, Some}
use Rattle.std.proofs.Common.{true, sym, ◌∙◌, ap, subst, refl}
use Rattle.std.proofs.lemmas.List.{reverse-append, take_more, take_all}
use Rattle.sspi_types.specs.declared.error_kind.ErrorKind.{ErrorKind}
use Rattle.sspi_ber.specs.declared.wire_kind.WireKind.{WireKind}
use Rattle.sspi_credssp.specs.declared.turn.End.{End}
use Rattle.sspi_credssp.specs.declared.turn.End.TheVariants.{Client, Server}
use Rattle.sspi_credssp.specs.declared.turn.Outcome.{Outcome}
use Rattle.sspi_credssp.specs.declared.turn.Outcome.TheVariants as outcome
use Rattle.sspi_credssp.specs.declared.turn.Turn.{Turn}
use Rattle.sspi_delegate.specs.Turns.{onto_client, onto_server, client_turns, server_turns, OthersUnrefused, IsUnrefused, NoneRefused}
use Rattle.sspi_play.specs.declared.played.Delivery.{Delivery}
use Rattle.sspi_play.specs.declared.played.Ending.{Ending}
use Rattle.sspi_play.specs.declared.played.Ending.TheVariants.{Running, Unread}
use Rattle.sspi_play.specs.Plays.{is_for, is_start, unread_kind, unread_for, or_later, first_unread, refusal_in, last_refusal}
use Rattle.sspi_play.specs.Plays.{turns_by, ending_by, ending_of, Plays, begins, takes, passes}

-- one more element of a list, read from its end
pub reverse_more : {A : Type 0} (xs : List A) (n : ℕ) (x : A) → n < length xs → x ≡ get_or xs n x → reverse (take (n + 1) xs) ≡ x ∷
    reverse (take n xs)
reverse_more xs n x here is =
    ap reverse (take_more xs n x here ∙ ap (λ (y : _). take n xs ++ y ∷ []) (sym is)) ∙ reverse-append (take n xs) (x ∷ [])

pub reverse_all : {A : Type 0} (xs : List A) (n : ℕ) → length xs ≤ n → reverse (take n xs) ≡ reverse xs
reverse_all xs n most = ap reverse (take_all n xs most)

-- ---- an end's state

pub runs_by : (refusal : Option ErrorKind) (unread : Option WireKind) → ending_by refusal unread ≡ Running → (refusal ≡ None) ×
    (unread ≡ None)
runs_by (Some kind) unread is = absurd (cc (is))
runs_by None (Some kind) is = absurd (cc (is))
runs_by None None is = (refl, refl)

-- an end that no longer runs keeps its state
stops_by : (refusal : Option ErrorKind) (unread later : Option WireKind) → ending_by refusal unread ≢ Running →
    ending_by refusal (or_later unread later) ≡ ending_by refusal unread
stops_by (Some kind) unread later stops = refl
stops_by None (Some kind) later stops = refl
stops_by None None later stops = absurd (stops refl)

or_none : (unread : Option WireKind) → or_later unread None ≡ unread
or_none None = refl
or_none (Some kind) = refl

for_itself : (end : End) → is_for end end ≡ true
for_itself Client = refl
for_itself Server = refl

unread_own : (end : End) (d : Delivery) (past : List Delivery) → d.to ≡ end →
    unread_for end d past ≡ unread_kind (is_start end past) d.bytes
unread_own end d past to = rw (to, for_itself end) refl

-- a delivery to an end that runs leaves it running, unless it is not a request
pub still_runs : (end : End) (d : Delivery) (past : List Delivery) (turns : List Turn) → d.to ≡ end → ending_of end past turns ≡ Running →
    unread_kind (is_start end past) d.bytes ≡ None → ending_of end (d ∷ past) turns ≡ Running
still_runs end d past turns to runs read =
    let s = runs_by (last_refusal (turns_by end turns)) (first_unread end past) runs in
    rw (s.0, s.1, unread_own end d past to, read) refl

pub is_unread : (end : End) (d : Delivery) (past : List Delivery) (turns : List Turn) (kind : WireKind) → d.to ≡ end →
    ending_of end past turns ≡ Running →
    unread_kind (is_start end past) d.bytes ≡ Some kind → ending_of end (d ∷ past) turns ≡ Unread kind
is_unread end d past turns kind to runs read =
    let s = runs_by (last_refusal (turns_by end turns)) (first_unread end past) runs in
    rw (s.0, s.1, unread_own end d past to, read) refl

-- a delivery to an end that no longer runs changes nothing
pub stays : (end : End) (d : Delivery) (past : List Delivery) (turns : List Turn) → ending_of end past turns ≢ Running →
    ending_of end (d ∷ past) turns ≡ ending_of end past turns
stays end d past turns stops = stops_by (last_refusal (turns_by end turns)) (first_unread end past) (unread_for end d past) stops

-- a delivery to the client does not change the server's state
pub server_apart : (d : Delivery) (past : List Delivery) (turns : List Turn) → d.to ≡ Client →
    ending_of Server (d ∷ past) turns ≡ ending_of Server past turns
server_apart d past turns to =
    rw to (ap (λ (u : Option WireKind). ending_by (last_refusal (server_turns turns)) u) (or_none (first_unread Server past)))

pub client_apart : (d : Delivery) (past : List Delivery) (turns : List Turn) → d.to ≡ Server →
    ending_of Client (d ∷ past) turns ≡ ending_of Client past turns
client_apart d past turns to =
    rw to (ap (λ (u : Option WireKind). ending_by (last_refusal (client_turns turns)) u) (or_none (first_unread Client past)))

-- ---- a turn of an end, by the deliveries so far

pub client_after : (deliveries : List Delivery) (t : Turn) (turns : List Turn) (ending : Ending) → t.end ≡ Client →
    ending_of Client deliveries turns ≡ Running →
    ending_by (refusal_in t.outcome) None ≡ ending → ending_of Client deliveries (t ∷ turns) ≡ ending
client_after deliveries t turns ending end runs is =
    let s = runs_by (last_refusal (client_turns turns)) (first_unread Client deliveries) runs in
    rw (end, s.1) is

pub server_after : (deliveries : List Delivery) (t : Turn) (turns : List Turn) (ending : Ending) → t.end ≡ Server →
    ending_of Server deliveries turns ≡ Running →
    ending_by (refusal_in t.outcome) None ≡ ending → ending_of Server deliveries (t ∷ turns) ≡ ending
server_after deliveries t turns ending end runs is =
    let s = runs_by (last_refusal (server_turns turns)) (first_unread Server deliveries) runs in
    rw (end, s.1) is

pub server_beside : (deliveries : List Delivery) (t : Turn) (turns : List Turn) → t.end ≡ Client →
    ending_of Server deliveries (t ∷ turns) ≡ ending_of Server deliveries turns
server_beside deliveries t turns end = rw end refl

pub client_beside : (deliveries : List Delivery) (t : Turn) (turns : List Turn) → t.end ≡ Server →
    ending_of Client deliveries (t ∷ turns) ≡ ending_of Client deliveries turns
client_beside deliveries t turns end = rw end refl

-- ---- at most the newest turn of an end was refused

unrefused_by : (out : Outcome) → refusal_in out ≡ None → IsUnrefused out
unrefused_by (outcome.Reply reply) none = tt
unrefused_by (outcome.Final reply) none = tt
unrefused_by outcome.Finished none = tt
unrefused_by (outcome.Refused kind reply) none = absurd (cc (none))

pub none_refused : (turns : List Turn) → last_refusal turns ≡ None → OthersUnrefused turns → NoneRefused turns
none_refused [] none others = tt
none_refused (t ∷ past) none others = (unrefused_by t.outcome none, others)

others_onto_client : (end : End) (t : Turn) (past : List Turn) → (end ≡ Client → NoneRefused past) → OthersUnrefused past →
    OthersUnrefused (onto_client end t past)
others_onto_client Client t past none others = none refl
others_onto_client Server t past none others = others

others_onto_server : (end : End) (t : Turn) (past : List Turn) → (end ≡ Server → NoneRefused past) → OthersUnrefused past →
    OthersUnrefused (onto_server end t past)
others_onto_server Client t past none others = others
others_onto_server Server t past none others = none refl

runs_unrefused : (end : End) (deliveries : List Delivery) (turns : List Turn) → ending_of end deliveries turns ≡ Running →
    OthersUnrefused (turns_by end turns) →
    NoneRefused (turns_by end turns)
runs_unrefused end deliveries turns runs others =
    none_refused (turns_by end turns) (runs_by (last_refusal (turns_by end turns)) (first_unread end deliveries) runs).0 others

pub others_of : (end : End) (deliveries : List Delivery) (turns : List Turn) → Plays deliveries turns → OthersUnrefused (turns_by end turns)
others_of Client _ _ begins = tt
others_of Server _ _ begins = tt
others_of Client _ _ (takes d past t turns plays runs end given) =
    others_onto_client t.end t (client_turns turns)
    (λ is. runs_unrefused Client (d ∷ past) turns (subst (λ (e : End). ending_of e (d ∷ past) turns ≡ Running) (sym end ∙ is) runs)
    (others_of Client past turns plays)) (others_of Client past turns plays)
others_of Server _ _ (takes d past t turns plays runs end given) =
    others_onto_server t.end t (server_turns turns)
    (λ is. runs_unrefused Server (d ∷ past) turns (subst (λ (e : End). ending_of e (d ∷ past) turns ≡ Running) (sym end ∙ is) runs)
    (others_of Server past turns plays)) (others_of Server past turns plays)
others_of Client _ _ (passes d past turns plays stops) = others_of Client past turns plays
others_of Server _ _ (passes d past turns plays stops) = others_of Server past turns plays

-- an end that still runs has refused nothing
pub running_unrefused : (end : End) (deliveries : List Delivery) (turns : List Turn) → Plays deliveries turns →
    ending_of end deliveries turns ≡ Running →
    NoneRefused (turns_by end turns)
running_unrefused end deliveries turns plays runs = runs_unrefused end deliveries turns runs (others_of end deliveries turns plays)
