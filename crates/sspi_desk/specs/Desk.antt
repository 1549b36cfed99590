-- A desk as its callers see it, and what its calls do.
use Rattle.std.specs.Prelude.{◌≡◌, ◌≢◌, ◌<◌, ◌≤◌, ◌+◌, IsSome, ℕ, List, length, Option, None, Some}
use Rattle.std.specs.Prelude.{Result, Err, nat_eq}
use Rattle.std.specs.Map.{lookup}
use Rattle.sspi_mech.specs.Meaning.{Meaning}
use Rattle.sspi_credssp.specs.Context.{ContextSetting}
use Rattle.sspi_credssp.specs.Proxy.{ProxyMeaning}
use Rattle.sspi_credssp.specs.Ends.{ServerView}
use Rattle.sspi_desk.specs.declared.answer.DeskError.{DeskError}
use Rattle.sspi_desk.specs.declared.answer.DeskError.TheVariants.{NoSession}
use Rattle.sspi_desk.specs.declared.answer.Served.{Served}
use Rattle.sspi_desk.specs.declared.answer.Why.{Why}
use Rattle.sspi_desk.specs.declared.answer.Why.TheVariants.{Full, InsufficientMemory}
use Rattle.sspi_desk.specs.Call.{IsServed}

pub record DeskView (C P : Type 0) : Type 0 where
  -- how many sessions may be kept
  pub limit : ℕ
  -- how many have been admitted so far
  pub admitted : ℕ
  -- the sessions that are kept, each with its number, in no particular order
  pub kept : List (ℕ × ServerView C P)

-- of any desk: its numbers are below `admitted`, and no more are kept than the limit allows
pub record IsOrderly {X : Type 0} (limit admitted : ℕ) (kept : List (ℕ × X)) : Type 0 where
  pub below : (s : ℕ) → IsSome (lookup (nat_eq s) kept) → s < admitted
  pub within : length kept ≤ limit

module _ {C P : Type 0} where
  -- the server of the session with this number, if that is kept
  abbrev pub session : ℕ → DeskView C P → Option (ServerView C P)
  session s desk = lookup (nat_eq s) desk.kept

  -- The session with this number now has this server, or is not kept; the limit and every other
  -- session are as they were.
  pub record Changes (s : ℕ) (server : Option (ServerView C P)) (old new : DeskView C P) : Type 0
    where
      pub limit : new.limit ≡ old.limit
      pub here : session s new ≡ server
      pub others : (other : ℕ) → other ≢ s → session other new ≡ session other old

  -- how many were admitted, and how many are kept
  pub record Counts (desk : DeskView C P) (admitted kept : ℕ) : Type 0 where
    pub admitted_is : desk.admitted ≡ admitted
    pub kept_is : length desk.kept ≡ kept

  -- ---- admitting and closing

  -- A server is kept under the number of those admitted before, which no session has had; or it is
  -- handed back, and nothing changes.
  abbrev pub IsRefusedFor : Why → DeskView C P → Type 0
  IsRefusedFor Full desk = length desk.kept ≡ desk.limit
  IsRefusedFor InsufficientMemory desk = length desk.kept < desk.limit

  pub record IsAdmitted (server : ServerView C P) (number : ℕ) (old new : DeskView C P) : Type 0
    where
      pub room : length old.kept < old.limit
      pub numbered : number ≡ old.admitted
      pub unused : session number old ≡ None
      pub changes : Changes number (Some server) old new
      pub counts : Counts new (old.admitted + 1) (length old.kept + 1)

  -- the session was kept, and its server returned; or it was not, and nothing changed
  abbrev pub IsClosed : ℕ → Option (ServerView C P) → DeskView C P → DeskView C P → Type 0
  IsClosed s None old new = (session s old ≡ None) × (new ≡ old)
  IsClosed s (Some server) old new = (session s old ≡ Some server) × Changes s None old new ×
      (new.admitted ≡ old.admitted)
      × (length new.kept + 1 ≡ length old.kept)

  -- ---- serving

  module _ (c : Meaning ContextSetting C) (p : ProxyMeaning P) where
    -- the session's server answers as if it were alone, and nothing else changes
    pub record ServesOne (server : ServerView C P) (s : ℕ) (bytes : List ℕ)
        (answer : Result Served DeskError) (old new : DeskView C P) :
        Type 0 where
      pub after : ServerView C P
      pub answers : IsServed c p server bytes answer after
      pub changes : Changes s (Some after) old new
      pub counts : Counts new old.admitted (length old.kept)

    abbrev pub ServesAt : Option (ServerView C P) → ℕ → List ℕ → Result Served DeskError →
        DeskView C P → DeskView C P → Type 0
    ServesAt None s bytes answer old new = (answer ≡ Err NoSession) × (new ≡ old)
    ServesAt (Some server) s bytes answer old new = ServesOne server s bytes answer old new

    -- a call for the session with this number
    abbrev pub Serves : ℕ → List ℕ → Result Served DeskError → DeskView C P → DeskView C P → Type 0
    Serves s bytes answer old new = ServesAt (session s old) s bytes answer old new
