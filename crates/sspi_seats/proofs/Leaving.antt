-- What holds of a client and its server as a seat.
use Rattle.std.proofs.Common.{◌≡◌, ℕ, suc, ◌+◌, ◌⊎◌, inl, inr, ◌≤◌, List, [], ◌∷◌, ◌++◌, length}
use Rattle.std.proofs.Common.{reverse, Option, None, Some, Err, refl, sym, ap, ◌∙◌, subst, arith}
use Rattle.std.proofs.lemmas.List.{reverse-reverse, length-append, length-reverse}
use Rattle.std.specs.List.{slice_get}
use Rattle.sspi_mech.specs.Meaning.{Meaning}
use Rattle.sspi_mech.specs.Context.{IsContext}
use Rattle.sspi_tsreq.specs.declared.request.TsRequest.{TsRequest}
use Rattle.sspi_credssp.specs.declared.context.SspiContext.{SspiContext}
use Rattle.sspi_credssp.specs.declared.turn.Turn.{Turn}
use Rattle.sspi_credssp.specs.Ends.{ClientView, IsFreshClient, ServerView}
use Rattle.sspi_credssp.specs.Context.{ContextSetting}
use Rattle.sspi_credssp.specs.Proxy.{ProxyMeaning}
use Rattle.sspi_delegate.specs.declared.answer.DelegateError.TheVariants as errors
use Rattle.sspi_delegate.specs.Chain.{KdcCalls}
use Rattle.sspi_delegate.specs.Turns.{client_end, server_end}
use Rattle.sspi_delegate.specs.Turns.{OthersGoOn, AllGoOn}
use Rattle.sspi_delegate.specs.History.{ClientHistory}
use Rattle.sspi_delegate.proofs.Headline.{sealed_once, seals_after_proof}
use Rattle.sspi_delegate.proofs.Heeding.{client_past_heeds}
use Rattle.sspi_delegate.proofs.Histories.{client_stopped_history}
use Rattle.sspi_delegate.proofs.HistoryRuns.{client_past_ran}
use Rattle.sspi_delegate.proofs.Refused.{client_refused}
use Rattle.sspi_delegate.proofs.Chained.{client_chained}
use Rattle.sspi_desk.specs.Desk.{DeskView, session}
use Rattle.sspi_seats.specs.Guest.{AreClients, IsVisited, StandsBy}
use Rattle.sspi_seats.specs.Keeping.{OthersStay, AreKept, HasLeft}
use Rattle.sspi_seats.specs.Hearing.{IsSeatOf}
use Rattle.sspi_seats.specs.Messages.{AreServed}
use Rattle.sspi_seats.specs.Outcomes.{Shows}
use Rattle.sspi_seats.specs.Seat.{Place, ClientCame, OutcomeHasCause, ClientRuns, IsSeat}
use Rattle.sspi_seats.specs.Sessions.{AreVisited, IsKept}
use Rattle.sspi_seats.specs.Table.{AreSeats}
use Rattle.sspi_seats.specs.declared.guest.Guest.{Guest}
use Rattle.sspi_seats.specs.declared.seat.Seat.{Seat}
use Rattle.sspi_seats.specs.declared.sessions.Sessions.{Sessions}
use Rattle.sspi_seats.specs.declared.seat.SeatOutcome.{SeatOutcome}
use Rattle.sspi_seats.specs.declared.seat.SeatOutcome.TheVariants as seats
use Rattle.sspi_seats.proofs.Lists.{last_or_before, get_at, has_element, no_element}

-- there are as many calls as turns
pub served_count : (turns : List Turn) (calls : List (List ℕ)) (answers : List _) → AreServed turns calls answers →
    length calls ≡ length turns
served_count [] [] [] served = refl
served_count [] [] (answer ∷ answers) served = absurd served
served_count [] (bytes ∷ calls) answers served = absurd served
served_count (t ∷ turns) [] answers served = absurd served
served_count (t ∷ turns) (bytes ∷ calls) [] served = absurd served
served_count (t ∷ turns) (bytes ∷ calls) (answer ∷ answers) served = ap suc (served_count turns calls answers served.2)

others_of : (turns : List Turn) → AllGoOn turns → OthersGoOn turns
others_of [] go = tt
others_of (t ∷ turns) go = go.1

module _ {C D : Type 0} (c : Meaning ContextSetting C) (k : KdcCalls D) (first now : ClientView C) (kdc kdc2 : D) (turns : List Turn) where
  -- whatever the outcome
  came_history : (out : SeatOutcome) → ClientCame c k first kdc out turns now kdc2 → ClientHistory c k first kdc turns now kdc2
  came_history (seats.Ok n identity) came = came
  came_history (seats.Client error) came = client_stopped_history c k first now kdc kdc2 error turns came
  came_history (seats.Server error) came = came
  came_history (seats.Read end kind) came = came
  came_history (seats.Write end) came = came
  came_history seats.TurnsSpent came = came

  outcome_cause : {P : Type 0} (law : IsContext c) (p : ProxyMeaning P) (out : SeatOutcome) → IsFreshClient first → OthersGoOn turns →
      ClientCame c k first kdc out turns now kdc2 → OutcomeHasCause c k first kdc out turns now kdc2
  outcome_cause law p (seats.Ok n identity) fresh others came = tt
  outcome_cause law p (seats.Client error) fresh others came =
      client_refused c law p k first now kdc kdc2 turns error fresh others came
  outcome_cause law p (seats.Server error) fresh others came = tt
  outcome_cause law p (seats.Read end kind) fresh others came = tt
  outcome_cause law p (seats.Write end) fresh others came = tt
  outcome_cause law p seats.TurnsSpent fresh others came = tt

  -- for any `server` and its proxy
  runs_by : {P : Type 0} (law : IsContext c) (p : ProxyMeaning P) (server : ServerView C P) (out : SeatOutcome) → IsFreshClient first →
      AreClients turns → OthersGoOn turns → ClientCame c k first kdc out turns now kdc2 → ClientRuns c k first kdc out turns now kdc2
  runs_by law p server out fresh own others came =
      let history = came_history out came in
      let ran = client_past_ran c law k (λ d. ⊥) first now kdc kdc2 turns (Err errors.TurnsSpent) fresh others history in
      let heeds = client_past_heeds c law k (λ d. ⊥) first now kdc kdc2 turns (Err errors.TurnsSpent) fresh others history in
      record {
        client_ran = ran;
        client_heeds = heeds;
        credentials_are_sealed_at_most_once = sealed_once c (client_end now) (server_end server) turns (rw own.all ran.each)
            (rw own.all others)
            (rw own.none tt);
        the_client_seals_after_the_proof = seals_after_proof c (client_end now) now.settings.least turns ran.each heeds;
        the_client_has_the_context_of_its_chain = client_chained c k first law fresh now kdc kdc2 turns others history;
        a_refusal_has_its_cause = outcome_cause law p out fresh others came;
      }

module _ {N K P D : Type 0} (c : Meaning ContextSetting (SspiContext N K)) (p : ProxyMeaning P) (k : KdcCalls D)
    (came : Place (SspiContext N K) P D) where
  -- the same for a client that could go on
  ended_by : (limit : ℕ) (guest : Guest N K D) (next : Option TsRequest) → StandsBy c p k came next limit guest →
      Shows limit guest.outcome guest.transcript.turns (reverse guest.calls) (reverse guest.answers)
      × ClientCame c k came.client came.kdc guest.outcome guest.transcript.turns guest.client guest.kdc
      × AreClients guest.transcript.turns × OthersGoOn guest.transcript.turns × (length guest.transcript.turns ≤ limit)
  ended_by limit guest None ended = (ended.shown limit, ended.history, ended.own, ended.others, ended.count)
  ended_by limit guest (Some request) runs = rw runs.turned.spent (
    (
      runs.served,
      served_count guest.transcript.turns (reverse guest.calls) (reverse guest.answers) runs.served ∙ runs.turned.count,
      request,
      runs.next,
    ),
    runs.turned.history,
    runs.turned.own,
    others_of guest.transcript.turns runs.turned.go,
    omega (arith, runs.turned.count),
  )

  pub seat_of : (law : IsContext c) (limit : ℕ) (guest : Guest N K D) (server : ServerView (SspiContext N K) P) (seat : Seat N K P D) →
      IsVisited c p k came limit guest server → IsSeatOf guest server seat → IsSeat c p k came limit seat
  seat_of law limit guest server seat visited is =
      let all = ended_by limit guest guest.next visited.stands in
      let turns : reverse seat.turns ≡ guest.transcript.turns = ap reverse is.turns ∙ reverse-reverse guest.transcript.turns in
      record {
        turns_calls_and_answers_show_the_outcome = rw (is.outcome, turns, is.calls, is.answers) all.0;
        turns_are_the_clients_calls = rw (is.outcome, turns, is.client_is, is.kdc_is) all.1;
        the_server_answers_as_if_alone = rw (is.calls, is.answers, is.server_is) visited.alone;
        no_more_turns_than_may_be = rw is.turns (omega (arith, length-reverse guest.transcript.turns, all.4));
        the_client_runs = λ fresh. rw (is.outcome, turns, is.client_is, is.kdc_is)
            (runs_by c k came.client guest.client came.kdc guest.kdc guest.transcript.turns law p server guest.outcome fresh all.2 all.3
            all.1);
      }

  -- the session of a client that is kept
  pub kept_at : (limit : ℕ) (guest : Guest N K D) (at : Option (ServerView (SspiContext N K) P)) (server : ServerView (SspiContext N K) P) →
      at ≡ Some server → IsKept c p k came limit guest at → IsVisited c p k came limit guest server
  kept_at limit guest None server is kept = absurd kept
  kept_at limit guest (Some found) server is kept =
      let same : found ≡ server = cc (is) in
      subst (λ (s : ServerView (SspiContext N K) P). IsVisited c p k came limit guest s) same kept

module _ {N K P D : Type 0} (c : Meaning ContextSetting (SspiContext N K)) (p : ProxyMeaning P) (k : KdcCalls D)
    (cames : List (Place (SspiContext N K) P D)) (limit : ℕ) where
  -- after the last round
  pub visited_kept : (sessions : Sessions N K P D) → AreVisited c p k cames limit 0 sessions →
      AreKept c p k cames limit sessions.guests.items sessions.desk
  visited_kept sessions visited = record {
    each = λ i came guest place found. visited.late i came guest place found (omega (arith));
    numbered = visited.numbered;
    seated = visited.seated;
  }

  -- this many have left, each has the seat of its place, and the others have their sessions
  pub record HaveLeft (first : DeskView (SspiContext N K) P) (gone : ℕ) (seats : List (Seat N K P D))
      (desk : DeskView (SspiContext N K) P) : Type 0 where
    pub count : length seats ≡ gone
    pub each : (i : ℕ) (came : Place (SspiContext N K) P D) (seat : Seat N K P D) → slice_get cames i ≡ Some came →
        slice_get seats i ≡ Some seat → IsSeat c p k came limit seat
    pub rest : (i : ℕ) → gone ≤ i → session i desk ≡ session i first

  pub none_left : (first : DeskView (SspiContext N K) P) (seats : List (Seat N K P D)) → seats ≡ [] → HaveLeft first 0 seats first
  none_left first seats none = record {
    count = ap (λ (l : List (Seat N K P D)). length l) none;
    each = λ i came seat place found. absurd (no_element seat i (rw none at found));
    rest = λ i past. refl;
  }

  -- all have left
  pub all_left : (first : DeskView (SspiContext N K) P) (guests : List (Guest N K D)) (seats : List (Seat N K P D))
      (desk : DeskView (SspiContext N K) P) → AreKept c p k cames limit guests first → HaveLeft first (length guests) seats desk →
      AreSeats c p k cames limit seats
  all_left first guests seats desk kept left = record { seats_are = left.count ∙ kept.seated; each = left.each }

  -- the place of the client that leaves
  pub next_place : (first : DeskView (SspiContext N K) P) (gone rest guests : List (Guest N K D)) (guest : Guest N K D) →
      gone ++ guest ∷ rest ≡ guests → AreKept c p k cames limit guests first →
      (came : Place (SspiContext N K) P D) × (slice_get cames (length gone) ≡ Some came)
  next_place first gone rest guests guest parts kept =
      let many : length gone + length (guest ∷ rest) ≡ length guests =
      sym (length-append gone (guest ∷ rest)) ∙ ap (λ (l : List (Guest N K D)). length l) parts in
      has_element cames (length gone) (omega (arith, many, kept.seated))

  module _ (came : Place (SspiContext N K) P D) (first : DeskView (SspiContext N K) P) (gone : List (Guest N K D)) (guest : Guest N K D)
      (seats : List (Seat N K P D)) (desk : DeskView (SspiContext N K) P) (place : slice_get cames (length gone) ≡ Some came)
      (left : HaveLeft first (length gone) seats desk) where
    there : (rest guests : List (Guest N K D)) → gone ++ guest ∷ rest ≡ guests → slice_get guests (length gone) ≡ Some guest
    there rest guests parts = ap (λ (l : List (Guest N K D)). slice_get l (length gone)) (sym parts) ∙ get_at gone guest rest

    -- its session has the number of its place
    pub next_numbered : (rest guests : List (Guest N K D)) → gone ++ guest ∷ rest ≡ guests → AreKept c p k cames limit guests first →
        guest.number ≡ length gone
    next_numbered rest guests parts kept = kept.numbered (length gone) guest (there rest guests parts)

    -- the session of the client that leaves is kept
    pub next_kept : (rest guests : List (Guest N K D)) → gone ++ guest ∷ rest ≡ guests → AreKept c p k cames limit guests first →
        IsKept c p k came limit guest (session guest.number desk)
    next_kept rest guests parts kept =
        let own = kept.each (length gone) came guest place (there rest guests parts) in
        subst (λ (n : ℕ). IsKept c p k came limit guest (session n desk)) (sym (next_numbered rest guests parts kept))
        (subst (λ (o : Option (ServerView (SspiContext N K) P)). IsKept c p k came limit guest o)
        (sym (left.rest (length gone) (omega arith))) own)

    module _ (seats2 : List (Seat N K P D)) (one : HasLeft c p k came limit seats seats2) where
      seat_left : (i : ℕ) (at : Place (SspiContext N K) P D) (seat : Seat N K P D) → slice_get cames i ≡ Some at →
          (slice_get seats i ≡ Some seat) ⊎ ((i ≡ length seats) × (one.seat ≡ seat)) → IsSeat c p k at limit seat
      seat_left i at seat found (inl before) = left.each i at seat found before
      seat_left i at seat found (inr last) =
          let here : i ≡ length gone = last.0 ∙ left.count in
          let same : came ≡ at = cc (place, subst (λ (n : ℕ). slice_get cames n ≡ Some at) here found) in
          subst (λ (a : Place (SspiContext N K) P D). IsSeat c p k a limit seat) same (subst (IsSeat c p k came limit) last.1 one.is)

      -- one more has left
      pub more_left : (desk2 : DeskView (SspiContext N K) P) → guest.number ≡ length gone → OthersStay guest.number desk desk2 →
          HaveLeft first (length (gone ++ guest ∷ [])) seats2 desk2
      more_left desk2 number others =
          let more : length (gone ++ guest ∷ []) ≡ length gone + 1 = length-append gone (guest ∷ []) in
          record {
            count = omega (
              arith,
              ap (λ (l : List (Seat N K P D)). length l) one.added,
              length-append seats (one.seat ∷ []),
              left.count,
              more,
            );
            each = λ i at seat found there. seat_left i at seat found (last_or_before seats one.seat i seat (rw one.added at there));
            rest = λ i past. others.others i (λ same. absurd (omega (arith, same, number, more, past)))
                ∙ left.rest i (omega (arith, more, past));
          }
