-- A table as its callers see it, and its seats.
use Rattle.std.specs.Prelude.{◌≡◌, ℕ, ◌<◌, List, [], ◌∷◌, ◌++◌, length, Some}
use Rattle.std.specs.List.{slice_get}
use Rattle.sspi_mech.specs.Meaning.{Meaning}
use Rattle.sspi_credssp.specs.declared.context.SspiContext.{SspiContext}
use Rattle.sspi_credssp.specs.Context.{ContextSetting}
use Rattle.sspi_credssp.specs.Proxy.{ProxyMeaning}
use Rattle.sspi_delegate.specs.Chain.{KdcCalls}
use Rattle.sspi_seats.specs.Seat.{Place, place, IsSeat}
use Rattle.sspi_seats.specs.declared.seat.Seat.{Seat}
use Rattle.sspi_seats.specs.declared.sessions.Joined.{Joined}
use Rattle.sspi_seats.specs.declared.table.JoinError.{JoinError}
use Rattle.sspi_seats.specs.declared.table.JoinError.TheVariants.{Full, InsufficientMemory}

pub record TableView (C P D : Type 0) : Type 0 where
  -- how many clients may join
  pub limit : ℕ
  -- the places of those that joined, in order
  pub places : List (Place C P D)

-- the place of one that joined
abbrev pub place_of : {N K P D : Type 0} → Joined N K P D → Place (SspiContext N K) P D
place_of joined = place joined.client joined.kdc joined.server

module _ {C P D : Type 0} where
  -- the table with one more place
  abbrev pub with_place : TableView C P D → Place C P D → TableView C P D
  with_place table came = record table { places = table.places ++ came ∷ [] }

  -- whether there was room for a client that did not join
  abbrev pub IsRefusedFor : JoinError → TableView C P D → Type 0
  IsRefusedFor Full table = length table.places ≡ table.limit
  IsRefusedFor InsufficientMemory table = length table.places < table.limit

-- `cames`: the places of a table, in order
module _ {N K P D : Type 0} (c : Meaning ContextSetting (SspiContext N K)) (p : ProxyMeaning P)
    (k : KdcCalls D)
    (cames : List (Place (SspiContext N K) P D)) where
  -- A seat for each place, in the same order; limit: how many turns each client may make.
  pub record AreSeats (limit : ℕ) (seats : List (Seat N K P D)) : Type 0 where
    pub seats_are : length seats ≡ length cames
    pub each : (i : ℕ) (came : Place (SspiContext N K) P D) (seat : Seat N K P D) →
        slice_get cames i ≡ Some came →
        slice_get seats i ≡ Some seat → IsSeat c p k came limit seat
