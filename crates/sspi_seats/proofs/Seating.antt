-- All sessions of a table over a round.
use Rattle.std.proofs.Common.{◌≡◌, ◌≢◌, ℕ, suc, ◌+◌, ◌<◌, ◌≤◌, ◌⊎◌, inl, inr, List, [], ◌∷◌}
use Rattle.std.proofs.Common.{◌++◌, length, Option, None, Some, refl, sym, ap, ◌∙◌, subst}
use Rattle.std.proofs.Common.{arith, eqb}
use Rattle.std.specs.List.{slice_get, list_any}
use Rattle.std.specs.Prelude.{zero, Bool, true, false, ◌||◌, is_some}
use Rattle.std.proofs.lemmas.Bool.{eqb-true, eqb-false}
use Rattle.std.proofs.lemmas.List.{length-append}
use Rattle.std.proofs.lemmas.Option.{slice_get_within}
use Rattle.sspi_mech.specs.Meaning.{Meaning}
use Rattle.sspi_credssp.specs.declared.context.SspiContext.{SspiContext}
use Rattle.sspi_credssp.specs.Context.{ContextSetting}
use Rattle.sspi_credssp.specs.Proxy.{ProxyMeaning}
use Rattle.sspi_credssp.specs.Ends.{ServerView}
use Rattle.sspi_delegate.specs.Chain.{KdcCalls}
use Rattle.sspi_desk.specs.Desk.{DeskView, session, IsAdmitted}
use Rattle.sspi_seats.specs.Guest.{IsVisited}
use Rattle.sspi_seats.specs.Keeping.{IsNew, OthersStay}
use Rattle.sspi_seats.specs.Seat.{Place}
use Rattle.sspi_seats.specs.Sessions.{IsKept, IsEmpty, AreVisited, AreSeated}
use Rattle.sspi_seats.specs.declared.guest.Guest.{Guest}
use Rattle.sspi_seats.specs.declared.sessions.Sessions.{Sessions}
use Rattle.sspi_seats.proofs.Lists.{last_or_before, no_element}
use Rattle.sspi_seats.proofs.Turning.{new_visited, kept_later}

or_false : (a b : Bool) → a || b ≡ false → (a ≡ false) × (b ≡ false)
or_false false b is = (refl, is)
or_false true b is = absurd cc

is_none : {X : Type 0} (o : Option X) → is_some o ≡ false → o ≡ None
is_none None not = refl
is_none (Some x) not = absurd cc

-- no guest runs
pub none_runs : {N K D : Type 0} (guests : List (Guest N K D)) → list_any (λ guest. is_some guest.next) guests ≡ false →
    (i : ℕ) (guest : Guest N K D) →
    slice_get guests i ≡ Some guest → guest.next ≡ None
none_runs [] none i guest found = absurd cc
none_runs (g ∷ guests) none zero guest found =
    let split = or_false (is_some g.next) (list_any (λ guest. is_some guest.next) guests) none in
    let same : g ≡ guest = cc (found) in
    rw same at (is_none g.next split.0)
none_runs (g ∷ guests) none (suc i) guest found =
    let split = or_false (is_some g.next) (list_any (λ guest. is_some guest.next) guests) none in
    none_runs guests split.1 i guest found

module _ {N K P D : Type 0} (c : Meaning ContextSetting (SspiContext N K)) (p : ProxyMeaning P) (k : KdcCalls D) where
  -- ---- coming

  pub empty_seated : (limit : ℕ) (sessions : Sessions N K P D) → IsEmpty limit sessions → AreSeated c p k [] limit sessions
  empty_seated limit sessions is = record {
    visited = record {
      early = λ i came guest place found before. absurd (omega (arith, before));
      late = λ i came guest place found after. absurd (no_element came i place);
      numbered = λ i guest found. absurd (no_element guest i (rw is.guests at found));
      seated = ap (λ (l : List (Guest N K D)). length l) is.guests;
    };
    admitted = ap (λ (d : DeskView (SspiContext N K) P). d.admitted) is.desk_is;
    kept = ap (λ (d : DeskView (SspiContext N K) P). length d.kept) is.desk_is;
    limit_is = ap (λ (d : DeskView (SspiContext N K) P). d.limit) is.desk_is;
  }

  module _ (cames : List (Place (SspiContext N K) P D)) (came : Place (SspiContext N K) P D) (number : ℕ) (guest : Guest N K D)
      (limit : ℕ) (old new : Sessions N K P D) (seated : AreSeated c p k cames limit old) (is : IsNew number came.client came.kdc guest)
      (admitted : IsAdmitted came.server number old.desk new.desk) where
    -- the client of a place is one from before, or the one that came
    late_joined : (i : ℕ) (at : Place (SspiContext N K) P D) (g : Guest N K D) →
        (slice_get cames i ≡ Some at) ⊎ ((i ≡ length cames) × (came ≡ at)) →
        (slice_get old.guests.items i ≡ Some g) ⊎ ((i ≡ length old.guests.items) × (guest ≡ g)) → IsKept c p k at 0 g (session i new.desk)
    late_joined i at g (inl place) (inl before) =
        let within = slice_get_within old.guests.items i g before in
        let many : length old.guests.items ≡ length cames = seated.visited.seated in
        let here : number ≡ old.desk.admitted = admitted.numbered in
        let apart : i ≢ number = λ same. absurd (omega (arith, same, here, seated.admitted, many, within)) in
        subst (λ (o : Option (ServerView (SspiContext N K) P)). IsKept c p k at 0 g o) (sym (admitted.changes.others i apart))
        (seated.visited.late i at g place before (omega arith))
    late_joined i at g (inl place) (inr last) =
        absurd (omega (arith, slice_get_within cames i at place, last.0, seated.visited.seated))
    late_joined i at g (inr place) (inl before) =
        absurd (omega (arith, slice_get_within old.guests.items i g before, place.0, seated.visited.seated))
    late_joined i at g (inr place) (inr last) =
        let many : length old.guests.items ≡ length cames = seated.visited.seated in
        let here : number ≡ old.desk.admitted = admitted.numbered in
        let same : number ≡ i = omega (arith, here, seated.admitted, many, last.0) in
        let found : session i new.desk ≡ Some came.server =
        subst (λ (n : ℕ). session n new.desk ≡ Some came.server) same admitted.changes.here in
        subst (λ (a : Place (SspiContext N K) P D). IsKept c p k a 0 g (session i new.desk)) place.1
        (rw found (subst (λ (x : Guest N K D). IsVisited c p k came 0 x came.server) last.1 (new_visited c p k came number guest is)))

    all_numbered : (i : ℕ) (g : Guest N K D) →
        (slice_get old.guests.items i ≡ Some g) ⊎ ((i ≡ length old.guests.items) × (guest ≡ g)) → g.number ≡ i
    all_numbered i g (inl before) = seated.visited.numbered i g before
    all_numbered i g (inr last) =
        let many : length old.guests.items ≡ length cames = seated.visited.seated in
        let here : number ≡ old.desk.admitted = admitted.numbered in
        let own : g.number ≡ number = subst (λ (x : Guest N K D). x.number ≡ number) last.1 is.number_is in
        omega (arith, own, here, seated.admitted, many, last.0)

    -- one more has come
    pub joined : new.guests.items ≡ old.guests.items ++ guest ∷ [] → AreSeated c p k (cames ++ came ∷ []) limit new
    joined added =
        let more : length (cames ++ came ∷ []) ≡ length cames + 1 = length-append cames (came ∷ []) in
        record {
          visited = record {
            early = λ i at g place found before. absurd (omega (arith, before));
            late = λ i at g place found after. late_joined i at g (last_or_before cames came i at place)
                (last_or_before old.guests.items guest i g (rw added at found));
            numbered = λ i g found. all_numbered i g (last_or_before old.guests.items guest i g (rw added at found));
            seated = omega (
              arith,
              ap (λ (l : List (Guest N K D)). length l) added,
              length-append old.guests.items (guest ∷ []),
              seated.visited.seated,
              more,
            );
          };
          admitted = omega (arith, admitted.counts.admitted_is, seated.admitted, more);
          kept = omega (arith, admitted.counts.kept_is, seated.kept, more);
          limit_is = admitted.changes.limit ∙ seated.limit_is;
        }

  -- ---- a round

  module _ (cames : List (Place (SspiContext N K) P D)) (rounds at : ℕ) (old new : Sessions N K P D)
      (visited : AreVisited c p k cames rounds at old) (own : Place (SspiContext N K) P D) (guest : Guest N K D)
      (own_is : slice_get cames at ≡ Some own)
      (apart : (i : ℕ) → i ≢ at → slice_get new.guests.items i ≡ slice_get old.guests.items i)
      (here : slice_get new.guests.items at ≡ Some guest) (others : OthersStay at old.desk new.desk)
      (kept : IsKept c p k own (rounds + 1) guest (session at new.desk)) (number : guest.number ≡ at) where
    -- another seat is as it was
    other_seat : (n i : ℕ) (came : Place (SspiContext N K) P D) (g : Guest N K D) → i ≢ at → IsKept c p k came n g (session i old.desk) →
        IsKept c p k came n g (session i new.desk)
    other_seat n i came g other was =
        subst (λ (o : Option (ServerView (SspiContext N K) P)). IsKept c p k came n g o) (sym (others.others i other)) was

    early_seat : (i : ℕ) (came : Place (SspiContext N K) P D) (g : Guest N K D) → slice_get cames i ≡ Some came →
        slice_get new.guests.items i ≡ Some g → i < at + 1 → (this : Bool) → eqb i at ≡ this →
        IsKept c p k came (rounds + 1) g (session i new.desk)
    early_seat i came g place found before true equal =
        let same : i ≡ at = eqb-true i at equal in
        let whose : own ≡ came = cc (own_is, subst (λ (n : ℕ). slice_get cames n ≡ Some came) same place) in
        let is : guest ≡ g = cc (here, subst (λ (n : ℕ). slice_get new.guests.items n ≡ Some g) same found) in
        subst (λ (n : ℕ). IsKept c p k came (rounds + 1) g (session n new.desk)) (sym same)
        (subst (λ (x : Guest N K D). IsKept c p k came (rounds + 1) x (session at new.desk)) is
        (subst (λ (a : Place (SspiContext N K) P D). IsKept c p k a (rounds + 1) guest (session at new.desk)) whose kept))
    early_seat i came g place found before false equal =
        let other : i ≢ at = eqb-false i at equal in
        other_seat (rounds + 1) i came g other (visited.early i came g place (sym (apart i other) ∙ found) (omega (arith, other, before)))

    seat_numbered : (i : ℕ) (g : Guest N K D) → slice_get new.guests.items i ≡ Some g → (this : Bool) → eqb i at ≡ this → g.number ≡ i
    seat_numbered i g found true equal =
        let same : i ≡ at = eqb-true i at equal in
        let is : guest ≡ g = cc (here, subst (λ (n : ℕ). slice_get new.guests.items n ≡ Some g) same found) in
        subst (λ (x : Guest N K D). x.number ≡ at) is number ∙ sym same
    seat_numbered i g found false equal = visited.numbered i g (sym (apart i (eqb-false i at equal)) ∙ found)

    -- one more client has had its round
    pub seat_visited : length new.guests.items ≡ length old.guests.items → AreVisited c p k cames rounds (at + 1) new
    seat_visited many = record {
      early = λ i came g place found before. early_seat i came g place found before (eqb i at) refl;
      late = λ i came g place found after.
          let other : i ≢ at = λ same. absurd (omega (arith, same, after)) in
          other_seat rounds i came g other (visited.late i came g place (sym (apart i other) ∙ found) (omega (arith, after)));
      numbered = λ i g found. seat_numbered i g found (eqb i at) refl;
      seated = many ∙ visited.seated;
    }

  module _ (cames : List (Place (SspiContext N K) P D)) where
    -- there is no such seat
    pub no_seat : (rounds at : ℕ) (sessions : Sessions N K P D) → AreVisited c p k cames rounds at sessions →
        length sessions.guests.items ≤ at → AreVisited c p k cames rounds (at + 1) sessions
    no_seat rounds at sessions visited past = record {
      early = λ i came g place found before.
          let within = slice_get_within sessions.guests.items i g found in
          visited.early i came g place found (omega (arith, within, past));
      late = λ i came g place found after. visited.late i came g place found (omega (arith, after));
      numbered = visited.numbered;
      seated = visited.seated;
    }

    -- all have had their round
    pub round_over : (rounds at : ℕ) (sessions : Sessions N K P D) → AreVisited c p k cames rounds at sessions → length cames ≤ at →
        AreVisited c p k cames (rounds + 1) 0 sessions
    round_over rounds at sessions visited all = record {
      early = λ i came g place found before. absurd (omega (arith, before));
      late = λ i came g place found after.
          let within = slice_get_within sessions.guests.items i g found in
          visited.early i came g place found (omega (arith, within, visited.seated, all));
      numbered = visited.numbered;
      seated = visited.seated;
    }

    -- if none runs, further rounds change nothing
    pub rest_over : (rounds later : ℕ) (sessions : Sessions N K P D) → AreVisited c p k cames rounds 0 sessions → rounds ≤ later →
        list_any (λ guest. is_some guest.next) sessions.guests.items ≡ false → AreVisited c p k cames later 0 sessions
    rest_over rounds later sessions visited more none = record {
      early = λ i came g place found before. absurd (omega (arith, before));
      late = λ i came g place found after. kept_later c p k came rounds later g (session i sessions.desk) more
          (none_runs sessions.guests.items none i g found) (visited.late i came g place found after);
      numbered = visited.numbered;
      seated = visited.seated;
    }
