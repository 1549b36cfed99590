-- Two ends that match, with plain NTLM or a negotiation, over a link that disturbs nothing, and
-- what their exchange comes to.
use Rattle.std.specs.Prelude.{◌≡◌, ℕ, ◌-◌, ◌^◌, ◌<◌, ◌≤◌, List, [], ◌∷◌, length, Option, Some}
use Rattle.std.specs.Prelude.{Result, Ok, Err, nat_lt}
use Rattle.sspi_names.specs.declared.credentials.Credentials.TheVariants as credentials
use Rattle.sspi_names.specs.declared.identity.AuthIdentity.{AuthIdentity}
use Rattle.sspi_names.specs.Identity.{IsIdentity, buffers_of}
use Rattle.sspi_names.specs.declared.network.NetworkRequest.{NetworkRequest}
use Rattle.sspi_mech.specs.declared.step.Reply.{Reply}
use Rattle.sspi_credssp.specs.declared.mode.ClientMode.{ClientMode}
use Rattle.sspi_credssp.specs.declared.mode.ClientMode.TheVariants as client_mode
use Rattle.sspi_credssp.specs.declared.mode.ServerMode.{ServerMode}
use Rattle.sspi_credssp.specs.declared.mode.ServerMode.TheVariants as server_mode
use Rattle.sspi_credssp.specs.Ends.{ClientView, ServerView}
use Rattle.sspi_credssp.specs.Proxy.{ProxyMeaning, entry_of}
use Rattle.sspi_delegate.specs.declared.answer.Delegation.{Delegation}
use Rattle.sspi_delegate.specs.declared.answer.DelegateError.{DelegateError}
use Rattle.sspi_delegate.specs.declared.answer.DelegateError.TheVariants as errors
use Rattle.sspi_delegate.specs.declared.carried.Carried.{Carried}
use Rattle.sspi_delegate.specs.declared.edit.Edit.{Edit}
use Rattle.sspi_delegate.specs.Headline.{Around, Parties}
use Rattle.sspi_delegate.specs.Headline.{IsFresh}
use Rattle.sspi_delegate.specs.Link.{Delivers}
use Rattle.sspi_completeness.specs.Negotiating.{AreNegotiating, messages_by}

-- NTLM alone, without a negotiation
abbrev pub IsNtlmServer : ServerMode → Type 0
IsNtlmServer (server_mode.Ntlm config) = Unit {0}
IsNtlmServer (server_mode.Negotiate config) = ⊥

-- the first entry with the identity's name, ignoring the case of ASCII letters, has its password
pub record HasEntry (entries : List AuthIdentity) (identity : AuthIdentity) : Type 0 where
  pub entry : AuthIdentity
  pub found : entry_of entries identity.username ≡ Some entry
  pub password : entry.password.value ≡ identity.password.value

-- the longest key of matching ends, in bytes
abbrev pub key_limit : ℕ
key_limit = 262144

-- user, domain and password have few code units
pub record IsShort (identity : AuthIdentity) : Type 0 where
  pub user_units : length (buffers_of identity).user ≤ 8192
  pub domain_units : length (buffers_of identity).domain ≤ 8192
  pub password_units : length (buffers_of identity).password.value ≤ 131072

-- both authenticate by plain NTLM alone, or both negotiate
abbrev pub MatchModes : Option (ℕ → NetworkRequest → Reply) → ℕ → List ℕ → AuthIdentity →
    ClientMode → ServerMode → Type 0
MatchModes told call target identity (client_mode.Ntlm config) (server_mode.Ntlm config2) =
    length config2.challenge ≡ 8
MatchModes told call target identity (client_mode.Negotiate config)
    (server_mode.Negotiate config2) =
    AreNegotiating told call config config2 target identity
MatchModes told call target identity (client_mode.Ntlm config) (server_mode.Negotiate config2) = ⊥
MatchModes told call target identity (client_mode.Negotiate config) (server_mode.Ntlm config2) = ⊥

-- how many messages the client makes then
abbrev pub messages_of : (told : Option (ℕ → NetworkRequest → Reply)) (call : ℕ) (target : List ℕ)
    (identity : AuthIdentity)
    (client : ClientMode) (server : ServerMode) →
    MatchModes told call target identity client server → ℕ
messages_of told call target identity (client_mode.Ntlm config) (server_mode.Ntlm config2) modes = 3
messages_of told call target identity (client_mode.Negotiate config) (server_mode.Negotiate config2)
    modes =
    messages_by modes.begins modes.picked.choice
messages_of told call target identity (client_mode.Ntlm config) (server_mode.Negotiate config2)
    modes = absurd modes
messages_of told call target identity (client_mode.Negotiate config) (server_mode.Ntlm config2)
    modes = absurd modes

-- Both come to one plain mechanism, with one key and one kind of proof, and each accepts the
-- other's version. The client has an identity whose password the server's proxy gives. `told` and
-- `call` are the replies that the client's KDC exposes, and the number of its next call. The last
-- fields hold of every client and server that is made.
pub record AreMatching {C D P : Type 0} (p : ProxyMeaning P)
    (told : Option (ℕ → NetworkRequest → Reply)) (call : ℕ)
    (client : ClientView C) (server : ServerView D P) : Type 0 where
  pub identity : AuthIdentity
  pub modes : MatchModes told call client.settings.target identity client.settings.mode
      server.settings.mode
  pub key_same : server.settings.public_key ≡ client.settings.public_key
  pub key_short : length client.settings.public_key ≤ key_limit
  pub versions : nat_lt client.settings.version 5 ≡ nat_lt server.settings.version 5
  pub client_takes : client.settings.least ≤ server.settings.version
  pub server_takes : server.settings.least ≤ client.settings.version
  pub credentials_are : client.settings.credentials ≡ credentials.AuthIdentity identity
  pub short : IsShort identity
  pub entries : List AuthIdentity
  pub tells : (p.told server.proxy).entries ≡ Some entries
  pub entry : HasEntry entries identity
  pub identity_is : IsIdentity identity
  pub client_version : client.settings.version < 2 ^ 32
  pub server_version : server.settings.version < 2 ^ 32
  pub nonce : length client.settings.nonce ≡ 32

-- how many messages the client of matching ends makes
abbrev pub messages_in : {C D P : Type 0} {p : ProxyMeaning P}
    {told : Option (ℕ → NetworkRequest → Reply)} {call : ℕ}
    {client : ClientView C} {server : ServerView D P} → AreMatching p told call client server → ℕ
messages_in {C = C} {D = D} {P = P} {p = p} {told = told} {call = call} {client = client}
    {server = server} matching =
    messages_of told call client.settings.target matching.identity client.settings.mode
    server.settings.mode matching.modes

-- a count of faults that did not rise, and that is not at its maximum
pub record IsCalm (before now : ℕ) : Type 0 where
  pub same : now ≡ before
  pub counted : before < 2 ^ 64 - 1

-- no look-up failed: the proxy exposes which calls fail, and there are none; or its count of faults
-- shows it
pub data NoneFailed (failing : Option (List ℕ)) (before now : ℕ) : Type 0 where
  none_told : failing ≡ Some [] → before < 2 ^ 64 - 1 → NoneFailed failing before now
  none_counted : IsCalm before now → NoneFailed failing before now

-- each entry of a log, but the oldest `count`, delivers what was sent: a prefix of it, and the
-- whole if the delivery has ended
abbrev pub AreWholePast : ℕ → List Carried → Type 0
AreWholePast count [] = Unit {0}
AreWholePast count (e ∷ log) = (count ≤ length log → Delivers (Some e.sent) e) ×
    AreWholePast count log

-- The link changed nothing: it exposes its edits, there are none, and its log shows none; or the
-- entries after the earlier ones show it, and no call failed.
pub data IsUndisturbed (edits : Option (List Edit)) (old new : List Carried) (before now : ℕ) : Type
    0 where
  unedited : edits ≡ Some [] → AreWholePast 0 old → IsUndisturbed edits old new before now
  shown : AreWholePast (length old) new → IsCalm before now → IsUndisturbed edits old new before now

-- fresh ends, a link that changes nothing, and a proxy whose look-ups do not fail
pub record NothingDisturbs {C P L D : Type 0} (around : Around P L D)
    (old new : Parties C P L D) : Type 0 where
  pub fresh : IsFresh old.client old.server
  pub link : IsUndisturbed (around.edits old.link) (around.log old.link) (around.log new.link)
      (around.link_faults old.link) (around.link_faults new.link)
  pub proxy : NoneFailed (around.proxy.told old.server.proxy).failing
      (around.proxy.faults old.server.proxy) (around.proxy.faults new.server.proxy)

-- this many messages of the client, and this identity; or there was no memory
abbrev pub ComesToOkIn : ℕ → AuthIdentity → Result Delegation DelegateError → Type 0
ComesToOkIn messages identity (Ok delegation) = (delegation.rounds ≡ messages) ×
    (delegation.credentials ≡ identity)
ComesToOkIn messages identity (Err errors.InsufficientMemory) = Unit {0}
ComesToOkIn messages identity (Err error) = ⊥

-- the client may not make that many messages; or there was no memory
abbrev pub IsCutShort : Result Delegation DelegateError → Type 0
IsCutShort (Ok delegation) = ⊥
IsCutShort (Err errors.TurnsSpent) = Unit {0}
IsCutShort (Err errors.InsufficientMemory) = Unit {0}
IsCutShort (Err error) = ⊥
