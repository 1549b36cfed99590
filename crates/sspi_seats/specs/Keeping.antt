-- What a guest keeps of a call, and what is kept of the guests.
use Rattle.std.specs.Prelude.{◌≡◌, ◌≢◌, ◌++◌, ◌∷◌, List, ℕ, Ok, Some, Err, Result, [], length}
use Rattle.std.specs.List.{slice_get}
use Rattle.sspi_tsreq.specs.Grammar.{first_request}
use Rattle.sspi_mech.specs.Meaning.{Meaning}
use Rattle.sspi_credssp.specs.Ends.{ClientView}
use Rattle.sspi_credssp.specs.declared.context.SspiContext.{SspiContext}
use Rattle.sspi_credssp.specs.Proxy.{ProxyMeaning}
use Rattle.sspi_credssp.specs.Context.{ContextSetting}
use Rattle.sspi_delegate.specs.Chain.{KdcCalls}
use Rattle.sspi_desk.specs.declared.answer.DeskError.{DeskError}
use Rattle.sspi_desk.specs.Desk.{DeskView, session}
use Rattle.sspi_desk.specs.declared.answer.Served.{Served}
use Rattle.sspi_seats.specs.declared.hearing.Heard.{Heard}
use Rattle.sspi_seats.specs.declared.hearing.Heard.TheVariants.{Next, Ends}
use Rattle.sspi_seats.specs.declared.guest.Guest.{Guest}
use Rattle.sspi_seats.specs.declared.seat.SeatOutcome.TheVariants as seats
use Rattle.sspi_seats.specs.Sessions.{IsKept}
use Rattle.sspi_seats.specs.Seat.{IsSeat, Place}
use Rattle.sspi_seats.specs.declared.seat.Seat.{Seat}

module _ {C P : Type 0} where
  -- every other session is as it was, and so is the number of those admitted
  pub record OthersStay (s : ℕ) (old new : DeskView C P) : Type 0 where
    pub others : (other : ℕ) → other ≢ s → session other new ≡ session other old
    pub admitted : new.admitted ≡ old.admitted

-- A call and its answer are kept. If the answer means the next request, the client takes that next;
-- if it means the end, the client has come to that outcome.
abbrev pub KeepsCall : {N K D E : Type 0} → List ℕ → Result Served DeskError → Result Heard E →
    Guest N K D → Guest N K D → Type 0
KeepsCall bytes answer (Ok (Next request)) old new =
    new ≡ record old {
      next = Some request;
      calls = old.calls ++ bytes ∷ [];
      answers = old.answers ++ answer ∷ [];
    }
KeepsCall bytes answer (Ok (Ends outcome)) old new =
    new ≡ record old {
      outcome = outcome;
      calls = old.calls ++ bytes ∷ [];
      answers = old.answers ++
          answer ∷ [];
    }
KeepsCall bytes answer (Err error) old new = ⊥

module _ {N K D : Type 0} where
  -- a client that has made no turn at its seat
  pub record IsNew (number : ℕ) (client : ClientView (SspiContext N K)) (kdc : D)
      (guest : Guest N K D) : Type 0 where
    pub number_is : guest.number ≡ number
    pub client_is : guest.client ≡ client
    pub kdc_is : guest.kdc ≡ kdc
    pub turns : guest.transcript.turns ≡ []
    pub calls : guest.calls ≡ []
    pub answers : guest.answers ≡ []
    pub next : guest.next ≡ Some first_request
    pub outcome : guest.outcome ≡ seats.TurnsSpent

module _ {N K P D : Type 0} (c : Meaning ContextSetting (SspiContext N K)) (p : ProxyMeaning P)
    (k : KdcCalls D)
    (came : Place (SspiContext N K) P D) where
  -- the seat of one more client
  pub record HasLeft (limit : ℕ) (old new : List (Seat N K P D)) : Type 0 where
    pub seat : Seat N K P D
    pub added : new ≡ old ++ seat ∷ []
    pub is : IsSeat c p k came limit seat

module _ {N K P D : Type 0} (c : Meaning ContextSetting (SspiContext N K)) (p : ProxyMeaning P)
    (k : KdcCalls D)
    (cames : List (Place (SspiContext N K) P D)) where
  -- the client at each place has the session with its number; each has had this many rounds
  pub record AreKept (rounds : ℕ) (guests : List (Guest N K D))
      (desk : DeskView (SspiContext N K) P) : Type 0 where
    pub each : (i : ℕ) (came : Place (SspiContext N K) P D) (guest : Guest N K D) →
        slice_get cames i ≡ Some came →
        slice_get guests i ≡ Some guest → IsKept c p k came rounds guest (session i desk)
    pub numbered : (i : ℕ) (guest : Guest N K D) → slice_get guests i ≡ Some guest →
        guest.number ≡ i
    pub seated : length guests ≡ length cames
