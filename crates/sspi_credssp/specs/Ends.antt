-- Both ends as their callers see them.
use Rattle.std.specs.Prelude.{◌≡◌, ℕ, List, [], length, Option, None, Some, IsSome}
use Rattle.sspi_names.specs.declared.credentials.Credentials.{Credentials}
use Rattle.sspi_names.specs.declared.credentials.CredentialsBuffers.{CredentialsBuffers}
use Rattle.sspi_tsreq.specs.declared.mode.CredSspMode.{CredSspMode}
use Rattle.sspi_tsreq.specs.declared.request.TsRequest.{TsRequest}
use Rattle.sspi_credssp.specs.declared.acts.Acts.{Acts}
use Rattle.sspi_credssp.specs.declared.mode.ClientMode.{ClientMode}
use Rattle.sspi_credssp.specs.declared.mode.ServerMode.{ServerMode}
use Rattle.sspi_credssp.specs.declared.state.CredSspState.{CredSspState}
use Rattle.sspi_credssp.specs.declared.state.CredSspState.TheVariants.{NegoToken, PubKeyInfo}
use Rattle.sspi_credssp.specs.declared.state.CredSspState.TheVariants.{AuthInfo, Final}
use Rattle.sspi_credssp.specs.Acts.{no_acts}

-- ---- the client

-- the least version that an end accepts of its peer unless it is given another: below it the proof
-- is not a hash of the key
abbrev pub default_least : ℕ
default_least = 5

-- what a client was made with, which no call changes
pub record ClientSettings : Type 0 where
  pub public_key : List ℕ
  pub credentials : Credentials
  pub delegation : CredSspMode
  pub version : ℕ
  -- the least version of a server that it accepts
  pub least : ℕ
  pub mode : ClientMode
  -- the name of the service
  pub target : List ℕ
  pub nonce : List ℕ

-- the settings of a new client, which accepts no server below the default version
abbrev pub new_client : List ℕ → Credentials → CredSspMode → ℕ → ClientMode → List ℕ → List ℕ →
    ClientSettings
new_client public_key credentials delegation version mode target nonce = record {
  public_key = public_key;
  credentials = credentials;
  delegation = delegation;
  version = version;
  least = default_least;
  mode = mode;
  target = target;
  nonce = nonce;
}

pub record ClientView (C : Type 0) : Type 0 where
  pub settings : ClientSettings
  pub state : CredSspState
  pub context : Option C
  -- the acquired credentials
  pub handle : Option CredentialsBuffers
  -- the version that the server speaks
  pub noted : Option ℕ
  -- what the last call did
  pub acts : Acts
  pub output : List ℕ
  -- the request whose turn is suspended
  pub kept : Option TsRequest

-- without a context nothing has happened; past the authentication the server's version is pinned
abbrev pub IsOrderlyClient : {C : Type 0} → Option C → Option CredentialsBuffers → Option ℕ →
    CredSspState → Type 0
IsOrderlyClient None handle noted state = (handle ≡ None) × (noted ≡ None) × (state ≡ NegoToken)
IsOrderlyClient (Some m) handle noted NegoToken = Unit {0}
IsOrderlyClient (Some m) handle noted PubKeyInfo = ⊥
IsOrderlyClient (Some m) handle noted AuthInfo = IsSome noted
IsOrderlyClient (Some m) handle noted Final = IsSome noted

pub record IsClientState {C : Type 0} (context : Option C) (handle : Option CredentialsBuffers)
    (noted : Option ℕ) (state : CredSspState)
    (nonce : List ℕ) : Type 0 where
  pub orderly : IsOrderlyClient context handle noted state
  pub nonce_length : length nonce ≡ 32

-- nothing has been delivered to it yet
pub record IsFreshClient {C : Type 0} (client : ClientView C) : Type 0 where
  pub state : client.state ≡ NegoToken
  pub context : client.context ≡ None
  pub handle : client.handle ≡ None
  pub noted : client.noted ≡ None
  pub acts : client.acts ≡ no_acts
  pub output : client.output ≡ []
  pub kept : client.kept ≡ None

-- ---- the server

-- what a server was made with, which no call changes
pub record ServerSettings : Type 0 where
  pub public_key : List ℕ
  pub version : ℕ
  -- the least version of a client that it accepts
  pub least : ℕ
  pub mode : ServerMode

-- the settings of a new server, which accepts no client below the default version
abbrev pub new_server : List ℕ → ℕ → ServerMode → ServerSettings
new_server public_key version mode = record {
  public_key = public_key;
  version = version;
  least = default_least;
  mode = mode;
}

-- P is its proxy, where it looks up its peers
pub record ServerView (C P : Type 0) : Type 0 where
  pub settings : ServerSettings
  pub proxy : P
  pub state : CredSspState
  pub context : Option C
  -- the acquired credentials
  pub handle : Option CredentialsBuffers
  -- the version that the client speaks
  pub noted : Option ℕ
  -- what the last call did
  pub acts : Acts
  pub output : List ℕ

-- without a context nothing has happened
abbrev pub IsOrderlyServer : {C : Type 0} → Option C → Option CredentialsBuffers → Option ℕ →
    CredSspState → Type 0
IsOrderlyServer None handle noted state = (handle ≡ None) × (noted ≡ None) × (state ≡ NegoToken)
IsOrderlyServer (Some m) handle noted state = Unit {0}

-- nothing has been delivered to it yet
pub record IsFreshServer {C P : Type 0} (server : ServerView C P) : Type 0 where
  pub state : server.state ≡ NegoToken
  pub context : server.context ≡ None
  pub handle : server.handle ≡ None
  pub noted : server.noted ≡ None
  pub acts : server.acts ≡ no_acts
  pub output : server.output ≡ []
