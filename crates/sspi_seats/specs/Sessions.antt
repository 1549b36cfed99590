-- All clients of a table between two rounds; the client at each place has the session with its
-- number.
use Rattle.std.specs.Prelude.{◌≡◌, ℕ, ◌+◌, ◌<◌, ◌≤◌, List, [], length, Option, None, Some}
use Rattle.std.specs.List.{slice_get}
use Rattle.sspi_mech.specs.Meaning.{Meaning}
use Rattle.sspi_credssp.specs.declared.context.SspiContext.{SspiContext}
use Rattle.sspi_credssp.specs.Context.{ContextSetting}
use Rattle.sspi_credssp.specs.Proxy.{ProxyMeaning}
use Rattle.sspi_credssp.specs.Ends.{ServerView}
use Rattle.sspi_delegate.specs.Chain.{KdcCalls}
use Rattle.sspi_desk.specs.Desk.{session}
use Rattle.sspi_seats.specs.Guest.{IsVisited}
use Rattle.sspi_seats.specs.Seat.{Place}
use Rattle.sspi_seats.specs.declared.guest.Guest.{Guest}
use Rattle.sspi_seats.specs.declared.sessions.Sessions.{Sessions}

module _ {N K P D : Type 0} where
  -- nobody has been admitted yet, to a desk that may keep this many sessions
  pub record IsEmpty (limit : ℕ) (sessions : Sessions N K P D) : Type 0 where
    pub guests : sessions.guests.items ≡ []
    pub desk_is : sessions.desk ≡ record { limit = limit; admitted = 0; kept = [] }

module _ {N K P D : Type 0} (c : Meaning ContextSetting (SspiContext N K)) (p : ProxyMeaning P)
    (k : KdcCalls D)
    (came : Place (SspiContext N K) P D) where
  -- the session exists, and its server and client are as they are after this many rounds
  abbrev pub IsKept : ℕ → Guest N K D → Option (ServerView (SspiContext N K) P) → Type 0
  IsKept rounds guest None = ⊥
  IsKept rounds guest (Some server) = IsVisited c p k came rounds guest server

-- `cames`: the places of a table, in order
module _ {N K P D : Type 0} (c : Meaning ContextSetting (SspiContext N K)) (p : ProxyMeaning P)
    (k : KdcCalls D)
    (cames : List (Place (SspiContext N K) P D)) where
  -- The client at each place has the session with its number. Each has had this many rounds; at the
  -- places below `first`, one more.
  pub record AreVisited (rounds first : ℕ) (sessions : Sessions N K P D) : Type 0 where
    pub early : (i : ℕ) (came : Place (SspiContext N K) P D) (guest : Guest N K D) →
        slice_get cames i ≡ Some came →
        slice_get sessions.guests.items i ≡ Some guest → i < first →
        IsKept c p k came (rounds + 1) guest (session i sessions.desk)
    pub late : (i : ℕ) (came : Place (SspiContext N K) P D) (guest : Guest N K D) →
        slice_get cames i ≡ Some came →
        slice_get sessions.guests.items i ≡ Some guest → first ≤ i →
        IsKept c p k came rounds guest (session i sessions.desk)
    pub numbered : (i : ℕ) (guest : Guest N K D) → slice_get sessions.guests.items i ≡ Some guest →
        guest.number ≡ i
    pub seated : length sessions.guests.items ≡ length cames

  -- These were admitted, in this order, and none has made a turn. The desk keeps no other session,
  -- and may keep `limit`: so it is full only if that many were admitted.
  pub record AreSeated (limit : ℕ) (sessions : Sessions N K P D) : Type 0 where
    pub visited : AreVisited 0 0 sessions
    pub admitted : sessions.desk.admitted ≡ length cames
    pub kept : length sessions.desk.kept ≡ length cames
    pub limit_is : sessions.desk.limit ≡ limit
