-- The version that an end pins for its peer: the first that it checks, unless that is too old. Both
-- ends check a version in the same way. A client checks that of each request but its first, which
-- it makes itself; a server checks one once it has a context.
use Rattle.std.specs.Prelude.{◌≡◌, ◌≢◌, Bool, true, false, ℕ, ◌==◌, Option, None, Some, not, nat_lt}
use Rattle.std.specs.Prelude.{if◌then◌else◌, [], Result}
use Rattle.std.specs.Prelude.{IsErrAnd, IsSome}
use Rattle.sspi_types.specs.declared.error.Error.{Error}
use Rattle.sspi_types.specs.declared.error_kind.ErrorKind.{ErrorKind}
use Rattle.sspi_types.specs.declared.error_kind.ErrorKind.TheVariants.{DowngradeDetected}
use Rattle.sspi_types.specs.declared.error_kind.ErrorKind.TheVariants.{InsufficientMemory}
use Rattle.sspi_types.specs.declared.error_kind.ErrorKind.TheVariants.{MessageAltered}
use Rattle.sspi_tsreq.specs.declared.request.TsRequest.{TsRequest}
use Rattle.sspi_mech.specs.Meaning.{Meaning}
use Rattle.sspi_credssp.specs.declared.client_state.Progress.{Progress}
use Rattle.sspi_credssp.specs.declared.server_state.ServerError.{ServerError}
use Rattle.sspi_credssp.specs.declared.server_state.ServerState.{ServerState}
use Rattle.sspi_credssp.specs.Acts.{no_acts, is_waiting_in}
use Rattle.sspi_credssp.specs.Context.{ContextSetting, NeverRefuses}
use Rattle.sspi_credssp.specs.Ends.{ClientView, ServerView}
use Rattle.sspi_credssp.specs.Requests.{is_code}

-- if the test holds, a turn stops with this kind; otherwise it goes on
abbrev pub StopsIf : Bool → ErrorKind → ErrorKind → Type 0 → Type 0
StopsIf true here kind Later = kind ≡ here
StopsIf false here kind Later = Later

-- a cause, or out of memory in its place
abbrev pub OrMemory : ErrorKind → Type 0 → Type 0
OrMemory kind Cause = kind ≢ InsufficientMemory → Cause

-- no version is pinned yet, and this one is below the least that the end accepts
abbrev pub is_old : ℕ → Option ℕ → ℕ → Bool
is_old least None version = nat_lt version least
is_old least (Some noted) version = false

-- a version differs from the one that is pinned
abbrev pub differs : Option ℕ → ℕ → Bool
differs None version = false
differs (Some noted) version = not (noted == version)

-- the version that is pinned after a check; one that is refused is not pinned
abbrev pub noted_with : ℕ → Option ℕ → ℕ → Option ℕ
noted_with least None version = if nat_lt version least then None else Some version
noted_with least (Some noted) version = Some noted

-- where the check of a version stops, or that it passes
abbrev pub VersionStops : ℕ → Option ℕ → ℕ → ErrorKind → Type 0 → Type 0
VersionStops least noted version kind Later =
    StopsIf (is_old least noted version) DowngradeDetected kind
    (StopsIf (differs noted version) MessageAltered kind Later)

-- the same for an end that checks a version only if it has a context
abbrev pub is_old_in : {C : Type 0} → Option C → ℕ → Option ℕ → ℕ → Bool
is_old_in None least noted version = false
is_old_in (Some m) least noted version = is_old least noted version

abbrev pub is_altered_in : {C : Type 0} → Option C → Option ℕ → ℕ → Bool
is_altered_in None noted version = false
is_altered_in (Some m) noted version = differs noted version

abbrev pub VersionStopsIn : {C : Type 0} → Option C → ℕ → Option ℕ → ℕ → ErrorKind → Type 0 → Type 0
VersionStopsIn context least noted version kind Later =
    StopsIf (is_old_in context least noted version) DowngradeDetected kind
    (StopsIf (is_altered_in context noted version) MessageAltered kind Later)

abbrev pub noted_in : {C : Type 0} → Option C → ℕ → Option ℕ → ℕ → Option ℕ
noted_in None least noted version = noted
noted_in (Some m) least noted version = noted_with least noted version

-- ---- When a version is refused as too old; a context may refuse so too, a plain mechanism never.

module _ {C : Type 0} (c : Meaning ContextSetting C) where
  -- the client comes to check a version, has pinned none, and would pin one below its least
  pub record ClientMeetsOld (client : ClientView C) (d : TsRequest) : Type 0 where
    pub idle : is_waiting_in c client.context ≡ false
    pub code : is_code d.error_code ≡ false
    pub old : is_old_in client.context client.settings.least client.noted d.version ≡ true

  -- exactly then it refuses with that kind, and only forgets its last call
  pub record ClientHeeds (client : ClientView C) (d : TsRequest) (result : Result Progress Error)
      (new : ClientView C) : Type 0 where
    pub refuses : ClientMeetsOld client d →
        IsErrAnd result (λ error. error.error_type ≡ DowngradeDetected) ×
        (new ≡ record client { acts = no_acts; output = [] })
    pub only : NeverRefuses c DowngradeDetected →
        IsErrAnd result (λ error. error.error_type ≡ DowngradeDetected) → ClientMeetsOld client d

  module _ {P : Type 0} where
    -- the server has a context, or has made one, has pinned no version, and would pin one below its
    -- least
    pub record ServerMeetsOld (server : ServerView C P) (d : TsRequest)
        (new : ServerView C P) : Type 0 where
      pub begun : IsSome new.context
      pub old : is_old server.settings.least server.noted d.version ≡ true

    -- exactly then it refuses with that kind, and has at most a new context
    pub record ServerHeeds (server : ServerView C P) (d : TsRequest)
        (result : Result ServerState ServerError)
        (new : ServerView C P) : Type 0 where
      pub refuses : ServerMeetsOld server d new →
          IsErrAnd result (λ refusal. refusal.error.error_type ≡ DowngradeDetected)
          × (new ≡ record server {
            proxy = new.proxy;
            context = new.context;
            handle = new.handle;
            acts = no_acts;
            output = [];
          })
      pub only : NeverRefuses c DowngradeDetected →
          IsErrAnd result (λ refusal. refusal.error.error_type ≡ DowngradeDetected) →
          ServerMeetsOld server d new
