-- What a proxy exposes of itself, what a call of it does, and how often a server asks it.
use Rattle.std.specs.Prelude.{◌≡◌, ℕ, zero, suc, ◌+◌, ◌<◌, ◌≤◌, ◌==◌, ◌⊎◌, List, find, filter}
use Rattle.std.specs.Prelude.{Option, None, Some, IsSome, Result, Ok}
use Rattle.std.specs.Prelude.{Err, Bool, true, false, OnOk}
use Rattle.std.specs.List.{list_any}
use Rattle.sspi_types.specs.declared.security_status.SecurityStatus.{SecurityStatus}
use Rattle.sspi_types.specs.declared.security_status.SecurityStatus.TheVariants as statuses
use Rattle.sspi_types.specs.Counting.{counted_on}
use Rattle.sspi_names.specs.declared.identity.AuthIdentity.{AuthIdentity}
use Rattle.sspi_names.specs.Name.{Name, equals_ignoring_case}
use Rattle.sspi_credssp.specs.declared.mode.ServerMode.{ServerMode}
use Rattle.sspi_credssp.specs.declared.mode.ServerMode.TheVariants as modes
use Rattle.sspi_credssp.specs.declared.proxy.ProxyError.{ProxyError}
use Rattle.sspi_credssp.specs.declared.proxy.ProxyError.TheVariants.{NotFound, Failed}
use Rattle.sspi_credssp.specs.declared.proxy.ProxyError.TheVariants.{InsufficientMemory}
use Rattle.sspi_credssp.specs.Ends.{ServerView}

-- what a proxy exposes of itself; no call changes that
pub record ProxyTells : Type 0 where
  -- its entries, if it exposes them
  pub entries : Option (List AuthIdentity)
  -- all identities that a look-up of this name finds, if it exposes them
  pub answers : Name → Option (List AuthIdentity)
  -- the numbers of the calls that fail, from 0, if it exposes them
  pub failing : Option (List ℕ)

-- what a proxy P means
pub record ProxyMeaning (P : Type 0) : Type 0 where
  pub told : P → ProxyTells
  -- how many calls were made, and how many of them failed
  pub calls : P → ℕ
  pub faults : P → ℕ

-- the value of a count n calls later
abbrev pub counted_after : ℕ → ℕ → ℕ
counted_after zero count = count
counted_after (suc n) count = counted_on (counted_after n count)

-- the entry has this name, ignoring the case of ASCII letters
abbrev pub is_named : Name → AuthIdentity → Bool
is_named name entry = equals_ignoring_case entry.username name

-- all entries of that name, in their order
unfoldable pub candidates_of : List AuthIdentity → Name → List AuthIdentity
candidates_of entries name = filter (is_named name) entries

-- the first entry of that name, or none
unfoldable pub entry_of : List AuthIdentity → Name → Option AuthIdentity
entry_of entries name = find (is_named name) entries

-- if the entries are exposed: exactly the first of that name, and `NotFound` exactly if there is
-- none
abbrev pub IsEntry : Option (List AuthIdentity) → Name → Result AuthIdentity ProxyError → Type 0
IsEntry None name answer = Unit {0}
IsEntry (Some entries) name (Ok identity) = entry_of entries name ≡ Some identity
IsEntry (Some entries) name (Err NotFound) = entry_of entries name ≡ None
IsEntry (Some entries) name (Err Failed) = Unit {0}
IsEntry (Some entries) name (Err InsufficientMemory) = Unit {0}

-- if a list is exposed: exactly this one
abbrev pub IsTold : Option (List AuthIdentity) → List AuthIdentity → Type 0
IsTold None identities = Unit {0}
IsTold (Some told) identities = identities ≡ told

-- if the entries are exposed: exactly all of that name
abbrev pub AreCandidates : Option (List AuthIdentity) → Name → List AuthIdentity → Type 0
AreCandidates None name identities = Unit {0}
AreCandidates (Some entries) name identities = identities ≡ candidates_of entries name

-- a look-up of this name found these
pub record AreFound (tells : ProxyTells) (name : Name) (identities : List AuthIdentity) : Type 0
  where
    pub answered : IsTold (tells.answers name) identities
    pub candidates : AreCandidates tells.entries name identities

-- a look-up of a list finds a list, which may be empty
abbrev pub IsList : {X : Type 0} → Result X ProxyError → Type 0
IsList (Ok x) = Unit {0}
IsList (Err NotFound) = ⊥
IsList (Err Failed) = Unit {0}
IsList (Err InsufficientMemory) = Unit {0}

-- the count of faults never falls; a failure raises it, or finds it at its maximum
abbrev pub LookUpCause : {X : Type 0} → ℕ → ℕ → Result X ProxyError → Type 0
LookUpCause before now (Ok x) = before ≤ now
LookUpCause before now (Err NotFound) = before ≤ now
LookUpCause before now (Err Failed) = (before ≤ now) × (counted_on before ≤ now)
LookUpCause before now (Err InsufficientMemory) = before ≤ now

-- whether the call of that number is one of those that fail
abbrev pub fails_at : List ℕ → ℕ → Bool
fails_at numbers call = list_any (λ n. n == call) numbers

-- if the failing calls are exposed: only a call among them fails, and such a call gives no answer;
-- only a failure raises the count of faults
abbrev pub FailsAsTold : {X : Type 0} → Option (List ℕ) → ℕ → ℕ → ℕ → Result X ProxyError → Type 0
FailsAsTold None call before now answer = Unit {0}
FailsAsTold (Some numbers) call before now (Ok x) = (fails_at numbers call ≡ false) × (now ≡ before)
FailsAsTold (Some numbers) call before now (Err NotFound) = (fails_at numbers call ≡ false) ×
    (now ≡ before)
FailsAsTold (Some numbers) call before now (Err Failed) = fails_at numbers call ≡ true
FailsAsTold (Some numbers) call before now (Err InsufficientMemory) = now ≡ before

-- the call of that number is one of the exposed failing calls
abbrev pub TellsFailure : Option (List ℕ) → ℕ → Type 0
TellsFailure None call = ⊥
TellsFailure (Some numbers) call = fails_at numbers call ≡ true

module _ {P : Type 0} (p : ProxyMeaning P) where
  -- one call, and its answer
  pub record HasAnswered {X : Type 0} (before : P) (answer : Result X ProxyError) (now : P) : Type 0
    where
      pub told_same : p.told now ≡ p.told before
      pub counted : p.calls now ≡ counted_on (p.calls before)
      pub cause : LookUpCause (p.faults before) (p.faults now) answer
      pub fails : FailsAsTold (p.told before).failing (p.calls before) (p.faults before)
          (p.faults now) answer

  -- the call that comes n calls later is exposed as failing
  abbrev pub FailsAfter : ℕ → P → Type 0
  FailsAfter n proxy = TellsFailure (p.told proxy).failing (counted_after n (p.calls proxy))

  -- the same proxy, some calls later, at most `limit` of them
  pub record IsAsked (limit : ℕ) (before now : P) : Type 0 where
    pub told_same : p.told now ≡ p.told before
    pub asked : ℕ
    pub at_most : asked ≤ limit
    pub counted : p.calls now ≡ counted_after asked (p.calls before)
    pub unasked : limit ≡ 0 → now ≡ before
    pub faults_stay : p.faults before ≤ p.faults now
    -- if it exposes which calls fail, a fault was counted only if one of these calls is among them
    pub failed : IsSome (p.told before).failing → (p.faults now ≡ p.faults before) ⊎
        ((i : ℕ) × (i < asked) × FailsAfter i before)

  -- exactly n calls later, none of which is exposed as failing
  pub record HasAsked (n : ℕ) (before now : P) : Type 0 where
    pub counted : p.calls now ≡ counted_after n (p.calls before)
    pub unfailing : (i : ℕ) → i < n → FailsAfter i before → ⊥

-- ---- How often a server's turn asks its proxy.

-- how often making a server's context asks the proxy for its list; and how often a turn does, which
-- makes a context only if there is none
abbrev pub list_calls : ServerMode → ℕ
list_calls (modes.Negotiate config) = 1
list_calls (modes.Ntlm config) = 0

abbrev pub lists_in : {C : Type 0} → Option C → ServerMode → ℕ
lists_in None mode = list_calls mode
lists_in (Some m) mode = 0

-- the peer is looked up once the step has ended the authentication, and at no other status
abbrev pub look_ups_at : Option SecurityStatus → ℕ
look_ups_at (Some statuses.Ok) = 1
look_ups_at (Some statuses.CompleteNeeded) = 1
look_ups_at other = 0

-- all calls of a turn
abbrev pub calls_in : {C P : Type 0} → ServerView C P → Option SecurityStatus → ℕ
calls_in old status = lists_in old.context old.settings.mode + look_ups_at status

-- a call asks at most n times, and exactly n times if it is not refused
pub record Asks {P : Type 0} (p : ProxyMeaning P) {T E : Type 0} (n : ℕ) (result : Result T E)
    (before now : P) : Type 0 where
  pub at_most : IsAsked p n before now
  pub exactly : OnOk result (HasAsked p n before now)
