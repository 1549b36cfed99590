-- The turns of an exchange, newest first, and what they show about each end; and the turns of
-- either end, one after another (MS-CSSP 3.1.5), which determine its state and pinned version.
use Rattle.std.specs.Prelude.{◌≡◌, ℕ, List, [], ◌∷◌, ◌+◌, ◌&&◌, ◌||◌, Bool, true, false, Option}
use Rattle.std.specs.Prelude.{None, IsSome, if◌then◌else◌, Some}
use Rattle.sspi_credssp.specs.declared.turn.End.{End}
use Rattle.sspi_credssp.specs.declared.turn.End.TheVariants.{Client, Server}
use Rattle.sspi_credssp.specs.declared.turn.Outcome.{Outcome}
use Rattle.sspi_credssp.specs.declared.turn.Outcome.TheVariants.{Reply, Final, Finished, Refused}
use Rattle.sspi_credssp.specs.declared.turn.Turn.{Turn}
use Rattle.sspi_credssp.specs.Acts.{sealings_by, unsealings_by, sealings_in, unsealings_in}
use Rattle.sspi_credssp.specs.Acts.{is_waiting_in}
use Rattle.sspi_types.specs.declared.security_status.SecurityStatus.{SecurityStatus}
use Rattle.sspi_types.specs.declared.security_status.SecurityStatus.TheVariants as statuses
use Rattle.sspi_names.specs.declared.identity.AuthIdentity.{AuthIdentity}
use Rattle.sspi_mech.specs.Meaning.{Meaning}
use Rattle.sspi_credssp.specs.declared.state.CredSspState.{CredSspState}
use Rattle.sspi_credssp.specs.declared.state.CredSspState.TheVariants.{NegoToken, AuthInfo, Final}
use Rattle.sspi_credssp.specs.declared.state.CredSspState.TheVariants.{PubKeyInfo}
use Rattle.sspi_credssp.specs.ClientTurn.{IsClientTurn}
use Rattle.sspi_credssp.specs.Context.{ContextSetting}
use Rattle.sspi_credssp.specs.Ends.{ClientSettings, ClientView, ServerSettings, ServerView}
use Rattle.sspi_credssp.specs.Noted.{noted_with}
use Rattle.sspi_credssp.specs.ServerTurn.{IsServerTurn, HoldsIdentity}
use Rattle.sspi_credssp.specs.Turn.{Frame, ClientFrame, ServerFrame}

-- a transcript: its turns, and how many more it has room for
pub record TranscriptView : Type 0 where
  pub turns : List Turn
  pub room : ℕ

abbrev pub other : End → End
other Client = Server
other Server = Client

-- the client begins, and the ends take turns
abbrev pub next_end : List Turn → End
next_end [] = Client
next_end (t ∷ past) = other t.end

-- the exchange goes on after this outcome
abbrev pub GoesOn : Outcome → Type 0
GoesOn (Reply reply) = Unit {0}
GoesOn (Final reply) = Unit {0}
GoesOn outcome = ⊥

abbrev pub AllGoOn : List Turn → Type 0
AllGoOn [] = Unit {0}
AllGoOn (t ∷ past) = GoesOn t.outcome × AllGoOn past

-- this outcome is not a refusal
abbrev pub IsUnrefused : Outcome → Type 0
IsUnrefused (Refused kind reply) = ⊥
IsUnrefused outcome = Unit {0}

abbrev pub NoneRefused : List Turn → Type 0
NoneRefused [] = Unit {0}
NoneRefused (t ∷ past) = IsUnrefused t.outcome × NoneRefused past

-- the ends take turns, and only the newest turn may have ended the exchange
abbrev pub Alternates : List Turn → Type 0
Alternates [] = Unit {0}
Alternates (t ∷ past) = (t.end ≡ next_end past) × AllGoOn past × Alternates past

-- ---- The turns of one end, the newest first.

abbrev pub onto_client : End → Turn → List Turn → List Turn
onto_client Client t past = t ∷ past
onto_client Server t past = past

abbrev pub onto_server : End → Turn → List Turn → List Turn
onto_server Client t past = past
onto_server Server t past = t ∷ past

abbrev pub client_turns : List Turn → List Turn
client_turns [] = []
client_turns (t ∷ past) = onto_client t.end t (client_turns past)

abbrev pub server_turns : List Turn → List Turn
server_turns [] = []
server_turns (t ∷ past) = onto_server t.end t (server_turns past)

-- how many texts the end's context sealed, and how many blobs it opened
abbrev pub made_in : List Turn → ℕ
made_in [] = 0
made_in (t ∷ past) = made_in past + sealings_by t.acts

abbrev pub opened_in : List Turn → ℕ
opened_in [] = 0
opened_in (t ∷ past) = opened_in past + unsealings_by t.acts

abbrev pub is_replied : Outcome → Bool
is_replied (Reply reply) = true
is_replied outcome = false

abbrev pub is_ended : Outcome → Bool
is_ended (Final reply) = true
is_ended outcome = false

abbrev pub is_finished : Outcome → Bool
is_finished Finished = true
is_finished outcome = false

-- one of the turns has sent its end's proof
abbrev pub any_proved : List Turn → Bool
any_proved [] = false
any_proved (t ∷ past) = (is_replied t.outcome && t.acts.proved) || any_proved past

abbrev pub any_ended : List Turn → Bool
any_ended [] = false
any_ended (t ∷ past) = is_ended t.outcome || any_ended past

abbrev pub any_finished : List Turn → Bool
any_finished [] = false
any_finished (t ∷ past) = is_finished t.outcome || any_finished past

-- each turn but the newest went on
abbrev pub OthersGoOn : List Turn → Type 0
OthersGoOn [] = Unit {0}
OthersGoOn (t ∷ past) = AllGoOn past

-- at most the newest turn was refused
abbrev pub OthersUnrefused : List Turn → Type 0
OthersUnrefused [] = Unit {0}
OthersUnrefused (t ∷ past) = NoneRefused past

-- what an end keeps through its turns, and its context
pub record Kept (S C : Type 0) : Type 0 where
  pub settings : S
  pub context : Option C

abbrev pub ClientEnd : Type 0 → Type 0
ClientEnd C = Kept ClientSettings C

abbrev pub client_end : {C : Type 0} → ClientView C → ClientEnd C
client_end client = record { settings = client.settings; context = client.context }

abbrev pub ServerEnd : Type 0 → Type 0
ServerEnd C = Kept ServerSettings C

abbrev pub server_end : {C P : Type 0} → ServerView C P → ServerEnd C
server_end server = record { settings = server.settings; context = server.context }

-- what an end is at the turn t after these turns, by what turns make of its state and its pinned
-- version
abbrev pub frame_at : {S C : Type 0} → (List Turn → CredSspState) → (List Turn → Option ℕ) → Bool →
    Kept S C → List Turn → Turn →
    Frame S C
frame_at state noted looks e past t = record {
  settings = e.settings;
  state = state past;
  made = made_in past;
  opened = opened_in past;
  looks = looks;
  noted = noted (t ∷ past);
  context = e.context;
}

-- each turn is one that may come after those before it
abbrev pub EachTurn : (List Turn → Turn → Type 0) → List Turn → Type 0
EachTurn MayCome [] = Unit {0}
EachTurn MayCome (t ∷ past) = MayCome past t × EachTurn MayCome past

-- An end that was `first` has made these turns: each is one over its context now, which sealed and
-- opened exactly what they say.
pub record Ran {S C : Type 0} (c : Meaning ContextSetting C) (Each Others : List Turn →
    Type 0) (first now : Kept S C)
    (past : List Turn) : Type 0 where
  pub same : now.settings ≡ first.settings
  pub made : sealings_in c now.context ≡ made_in past
  pub opened : unsealings_in c now.context ≡ opened_in past
  pub each : Each past
  -- only the newest turn may have been refused
  pub others : Others past

-- ---- the client

-- the state after these turns
abbrev pub client_state : List Turn → CredSspState
client_state past = if any_ended past then Final
    else (if any_proved past then AuthInfo else NegoToken)

-- the version that is pinned: that of the second request, since the first is the client's own,
-- unless it is below the least
abbrev pub client_noted : ℕ → List Turn → Option ℕ
client_noted least [] = None
client_noted least (t ∷ []) = None
client_noted least (t ∷ u ∷ []) = noted_with least None t.delivered.version
client_noted least (t ∷ u ∷ v ∷ past) = client_noted least (u ∷ v ∷ past)

-- a turn came before
abbrev pub has_turn : List Turn → Bool
has_turn [] = false
has_turn (t ∷ past) = true

-- what the client is at the turn t after these turns
abbrev pub client_frame_at : {C : Type 0} → ClientEnd C → List Turn → Turn → ClientFrame C
client_frame_at e past t = frame_at client_state (client_noted e.settings.least) (has_turn past) e
    past t

module _ {C : Type 0} (c : Meaning ContextSetting C) where
  abbrev pub EachClientTurn : ClientEnd C → List Turn → Type 0
  EachClientTurn e past = EachTurn (λ past t. IsClientTurn c (client_frame_at e past t) t) past

  abbrev pub ClientRan : ClientView C → ClientView C → List Turn → Type 0
  ClientRan first now past = Ran c (EachClientTurn (client_end now)) OthersGoOn (client_end first)
      (client_end now) past

  abbrev pub HasBegun : Option C → List Turn → Type 0
  HasBegun context [] = context ≡ None
  HasBegun context (t ∷ past) = IsSome context

  -- none of the turns was refused, and the client is where they left it
  pub record ClientFollows (first now : ClientView C) (past : List Turn) : Type 0 where
    pub ran : ClientRan first now past
    pub state : now.state ≡ client_state past
    pub noted : now.noted ≡ client_noted now.settings.least past
    pub begun : HasBegun now.context past
    -- no turn is suspended
    pub idle : is_waiting_in c now.context ≡ false
    pub going : AllGoOn past

-- ---- the server

abbrev pub is_over : Option SecurityStatus → Bool
is_over None = false
is_over (Some statuses.Ok) = true
is_over (Some statuses.CompleteNeeded) = true
is_over (Some other) = false

-- one of the turns has answered the last token
abbrev pub any_over : List Turn → Bool
any_over [] = false
any_over (t ∷ past) = (is_replied t.outcome && is_over t.acts.status) || any_over past

-- the state after these turns
abbrev pub server_state : List Turn → CredSspState
server_state past =
    if any_finished past then Final else (if any_proved past then AuthInfo
    else (if any_over past then PubKeyInfo else NegoToken))

-- the version that is pinned: that of the first request, unless it is below the least
abbrev pub server_noted : ℕ → List Turn → Option ℕ
server_noted least [] = None
server_noted least (t ∷ []) = noted_with least None t.delivered.version
server_noted least (t ∷ u ∷ past) = server_noted least (u ∷ past)

-- what the server is at the turn t after these turns
abbrev pub server_frame_at : {C : Type 0} → ServerEnd C → List Turn → Turn → ServerFrame C
server_frame_at e past t = frame_at server_state (server_noted e.settings.least) true e past t

module _ {C : Type 0} (c : Meaning ContextSetting C) where
  abbrev pub EachServerTurn : ServerEnd C → List Turn → Type 0
  EachServerTurn e past = EachTurn (λ past t. IsServerTurn c (server_frame_at e past t) t) past

  -- the identity is the one in the text that the context opened last, which is the newest turn's
  abbrev pub GivesNewest : ServerEnd C → List Turn → AuthIdentity → Type 0
  GivesNewest e [] identity = ⊥
  GivesNewest e (t ∷ past) identity = HoldsIdentity c e.context t.delivered.auth_info identity

  module _ {P : Type 0} where
    abbrev pub ServerRan : ServerView C P → ServerView C P → List Turn → Type 0
    ServerRan first now past = Ran c (EachServerTurn (server_end now)) OthersUnrefused
        (server_end first) (server_end now) past

    -- none of the turns was refused, and the server is where they left it
    pub record ServerFollows (first now : ServerView C P) (past : List Turn) : Type 0 where
      pub ran : ServerRan first now past
      pub state : now.state ≡ server_state past
      pub noted : now.noted ≡ server_noted now.settings.least past
      pub unrefused : NoneRefused past
