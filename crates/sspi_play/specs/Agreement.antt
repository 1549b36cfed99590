-- Agreement of a client and a server whose messages an attacker carries, if the mechanism is
-- faithful.
--
-- Whatever is delivered to whom: a client that sealed its credentials sealed them for a server that
-- had checked this client's proof over the same key; and what a server that finishes holds is what
-- this client sealed.
use Rattle.std.specs.Prelude.{◌≡◌, ◌<◌, ◌≤◌, ℕ, List, ◌∷◌, ◌++◌, length, Option, None, Some, Ok}
use Rattle.std.specs.Prelude.{true, nat_lt}
use Rattle.sspi_mech.specs.Meaning.{Meaning}
use Rattle.sspi_names.specs.declared.credentials.Credentials.TheVariants as credentials
use Rattle.sspi_names.specs.declared.identity.AuthIdentity.{AuthIdentity}
use Rattle.sspi_names.specs.Identity.{IsIdentity}
use Rattle.sspi_credssp.specs.declared.turn.End.TheVariants.{Client, Server}
use Rattle.sspi_credssp.specs.declared.turn.Turn.{Turn}
use Rattle.sspi_credssp.specs.Context.{ContextSetting}
use Rattle.sspi_credssp.specs.Exchange.{delegated_as, delegated_text, delegated_identity}
use Rattle.sspi_credssp.specs.Requests.{nonce_of}
use Rattle.sspi_delegate.specs.Log.{IsFinished}
use Rattle.sspi_delegate.specs.Turns.{ClientEnd, ServerEnd, client_noted, server_noted}
use Rattle.sspi_delegate.specs.Turns.{client_turns, server_turns}
use Rattle.sspi_play.specs.Faithful.{OpensWhatWasSealed, NoCollision}

-- one of these turns, newest first, with the turns after it and those before it
pub record TurnOf (turns : List Turn) : Type 0 where
  pub later : List Turn
  pub turn : Turn
  pub before : List Turn
  pub parts : turns ≡ later ++ (turn ∷ before)

-- ---- the premises

-- no hash (32 octets) is taken for the echo of a key, which a peer below version 5 proves with
pub data NoEcho {C : Type 0} (client : ClientEnd C) (server : ServerEnd C) : Type 0 where
  by_length : 32 < length client.settings.public_key → 32 < length server.settings.public_key →
      NoEcho client server
  by_least_versions : 5 ≤ client.settings.least → 5 ≤ server.settings.least → NoEcho client server

-- ---- what both agree on

-- the two ends proved in the same form: both pinned a version below 5, or both 5 or later
abbrev pub AreAlike : Option ℕ → Option ℕ → Type 0
AreAlike None other = ⊥
AreAlike (Some version) None = ⊥
AreAlike (Some version) (Some other) = nat_lt version 5 ≡ nat_lt other 5

-- the client proved in one of these turns
pub record HasProved (turns : List Turn) : Type 0 where
  pub at : TurnOf turns
  pub end : at.turn.end ≡ Client
  pub proved : at.turn.acts.proved ≡ true

-- the server checked the client's proof in one of these turns, and proved; the client had proved
-- before that
pub record ServerHasProved (turns : List Turn) : Type 0 where
  pub at : TurnOf turns
  pub end : at.turn.end ≡ Server
  pub checked : at.turn.acts.checked ≡ true
  pub proved : at.turn.acts.proved ≡ true
  pub client_proved : HasProved at.before

-- the client checked the server's proof in one of these turns, and sealed its credentials
pub record HasSealed (turns : List Turn) : Type 0 where
  pub at : TurnOf turns
  pub end : at.turn.end ≡ Client
  pub checked : at.turn.acts.checked ≡ true
  pub sealed : at.turn.acts.sealed ≡ true

module _ {C : Type 0} (client : ClientEnd C) (server : ServerEnd C) where
  -- for a client that sealed: `before` are the turns before the one in which it did
  pub record Agrees (turns before : List Turn) : Type 0 where
    pub exchanged : ServerHasProved before
    pub keys : client.settings.public_key ≡ server.settings.public_key
    pub versions : AreAlike
        (client_noted client.settings.least (client_turns turns))
        (server_noted server.settings.least (server_turns turns))
    -- from version 5 on, the server checked a proof that was made with this client's nonce
    pub nonce : (version : ℕ) → server_noted server.settings.least (server_turns turns) ≡ Some
        version → 5 ≤ version →
        nonce_of exchanged.at.turn.delivered.client_nonce ≡ client.settings.nonce

  -- for a server that finished with this identity: the client had sealed before that, and the
  -- identity is the one that it sealed
  pub record HoldsSealed (turns : List Turn) (identity : AuthIdentity) : Type 0 where
    pub at : TurnOf turns
    pub end : at.turn.end ≡ Server
    pub finished : IsFinished at.turn.outcome
    pub client_sealed : HasSealed at.before
    pub text : List ℕ
    pub delegated : delegated_text client.settings.credentials client.settings.delegation ≡ Ok text
    pub read : delegated_identity text ≡ Ok identity
    -- so the client has a name and a password; and the identity is its own, unless it keeps its
    -- credentials
    pub own : AuthIdentity
    pub credentials_are : client.settings.credentials ≡ credentials.AuthIdentity own
    pub identity_is : IsIdentity own → identity ≡ delegated_as client.settings.delegation own

  pub record Agreement (turns : List Turn) (identity : Option AuthIdentity) : Type 0 where
    pub a_client_that_sealed : NoCollision client server turns → NoEcho client server →
        (at : TurnOf turns) → at.turn.end ≡ Client →
        at.turn.acts.sealed ≡ true → Agrees turns at.before
    pub a_server_that_finished : (given : AuthIdentity) → identity ≡ Some given →
        HoldsSealed turns given

-- The theorem, about the ends as the play left them.
abbrev pub AgreesIfFaithful : {C : Type 0} → Meaning ContextSetting C → ClientEnd C → ServerEnd C →
    List Turn → Option AuthIdentity →
    Type 0
AgreesIfFaithful c client server turns identity = OpensWhatWasSealed c client server turns →
    Agreement client server turns identity
