-- What a security context means: what the selected mechanism or the negotiation means; and how the
-- context of a turn begins.
use Rattle.std.specs.Prelude.{ℕ, ◌⊎◌, List, filter, take, Option, ◌≡◌, ◌≢◌, None, Some, Err}
use mathlib.Core.Logic.{inl, inr}
use Rattle.sspi_types.specs.declared.credential_use.CredentialUse.{CredentialUse}
use Rattle.sspi_types.specs.declared.error.Error.{Error}
use Rattle.sspi_types.specs.declared.error_kind.ErrorKind.{ErrorKind}
use Rattle.sspi_names.specs.declared.credentials.Credentials.{Credentials}
use Rattle.sspi_names.specs.declared.credentials.CredentialsBuffers.{CredentialsBuffers}
use Rattle.sspi_names.specs.declared.identity.AuthIdentity.{AuthIdentity as Identity}
use Rattle.sspi_mech.specs.declared.step.Answer.TheVariants.{Refused}
use Rattle.sspi_mech.specs.declared.step.Reply.{Reply}
use Rattle.sspi_mech.specs.Calls.{StepArgs, AcceptArgs, Call, ToAcquire}
use Rattle.sspi_mech.specs.Meaning.{Meaning}
use Rattle.sspi_mech.specs.NtlmIdentities.{has_password}
use Rattle.sspi_mech.specs.Settings.{Setting, OfNtlm}
use Rattle.sspi_mech.specs.Sum.{sum, taking, seen}
use Rattle.sspi_negotiate.specs.declared.protocol.NegotiatedProtocol.{NegotiatedProtocol}
use Rattle.sspi_negotiate.specs.Negotiate.{negotiate}
use Rattle.sspi_negotiate.specs.Values.{Negotiation}
use Rattle.sspi_credssp.specs.declared.context.SspiContext.{SspiContext}
use Rattle.sspi_credssp.specs.declared.context.SspiContext.TheVariants as hands
use Rattle.sspi_credssp.specs.declared.mode.ClientMode.{ClientMode}
use Rattle.sspi_credssp.specs.declared.mode.ClientMode.TheVariants as client
use Rattle.sspi_credssp.specs.declared.mode.ServerMode.{ServerMode}
use Rattle.sspi_credssp.specs.declared.mode.ServerMode.TheVariants as server
use Rattle.sspi_credssp.specs.Peers.{PeersSetting, OfClient, OfServer, knowing}

-- What a context is made of: the mode of the end that it is made for, and on a server the entries
-- of its proxy, if it exposes them.
pub data ContextSetting : Type 0 where
  ForClient : ClientMode → ContextSetting
  ForServer : ServerMode → Option (List Identity) → ContextSetting

-- what the selected mechanism or the negotiation is made of
abbrev pub made_of : ContextSetting → (Setting ⊎ Setting) ⊎ PeersSetting
made_of (ForClient (client.Ntlm config)) = inl (inl (OfNtlm config))
made_of (ForClient (client.Negotiate config)) = inr (OfClient config)
made_of (ForServer (server.Ntlm config) told) = inl (inl (OfNtlm config))
made_of (ForServer (server.Negotiate config) told) = inr (OfServer config told)

abbrev pub as_sum : {N K : Type 0} → SspiContext N K → (N ⊎ K) ⊎
    Negotiation (NegotiatedProtocol N K)
as_sum (hands.Negotiate m) = inr m
as_sum (hands.Ntlm m) = inl (inl m)
as_sum (hands.Kerberos m) = inl (inr m)

abbrev pub of_sum : {N K : Type 0} → (N ⊎ K) ⊎ Negotiation (NegotiatedProtocol N K) →
    SspiContext N K
of_sum (inl (inl m)) = hands.Ntlm m
of_sum (inl (inr m)) = hands.Kerberos m
of_sum (inr m) = hands.Negotiate m

-- NTLM gets the identities with a password, Kerberos the first identity, and a negotiation all.
-- `requests` is how often NTLM asks a KDC at most, and a negotiation may select NTLM instead of
-- Kerberos.
abbrev pub either : {N K : Type 0} → ℕ → Meaning Setting N → Meaning Setting K →
    Meaning ContextSetting (SspiContext N K)
either requests n k = seen made_of as_sum of_sum
    (sum (sum (taking (filter has_password) n) (taking (take 1) k))
    (knowing (negotiate requests n k)))

-- ---- How a turn's context begins: as the end's own, or as a new one with acquired credentials.

-- a fact of the context, which must exist
abbrev pub IfContext : {C : Type 0} → Option C → (C → Type 0) → Type 0
IfContext None P = ⊥
IfContext (Some m) P = P m

-- the same, but there may be none
abbrev pub OnContext : {C : Type 0} → Option C → (C → Type 0) → Type 0
OnContext None P = Unit {0}
OnContext (Some m) P = P m

-- an end that had no context before the turn, and has none after it, was refused while it made one
abbrev pub MadeOr : {C : Type 0} → Option C → Option C → Type 0 → Type 0 → Type 0
MadeOr (Some m) new Cause Later = Later
MadeOr None (Some m) Cause Later = Later
MadeOr None None Cause Later = Cause

module _ {S C : Type 0} (c : Meaning S C) where
  -- from the context and the acquired credentials that the end had; otherwise from the setting
  pub data Begun (context : Option C) (had : Option CredentialsBuffers) (setting : S)
      (purpose : CredentialUse) (asked : Option Credentials)
      (handle : Option CredentialsBuffers) (m : C) : Type 0 where
    goes_on : context ≡ Some m → handle ≡ had → Begun context had setting purpose asked handle m
    is_new : (m0 : C) → context ≡ None → c.made setting m0 → c.acquires m0 purpose asked handle m →
        Begun context had setting purpose asked handle m

  -- why there is no new context
  pub data BeginCause (setting : S) (purpose : CredentialUse) (asked : Option Credentials)
      (kind : ErrorKind) : Type 0 where
    unmade : c.unmade setting kind → BeginCause setting purpose asked kind
    unacquired : (m : C) → c.made setting m → c.refuses m (ToAcquire purpose asked) kind →
        BeginCause setting purpose asked kind

-- a context that never refuses with this kind
pub record NeverRefuses {S C : Type 0} (c : Meaning S C) (kind : ErrorKind) : Type 0 where
  pub makes : (s : S) → c.unmade s kind → ⊥
  pub calls : (m : C) (call : Call) → c.refuses m call kind → ⊥
  pub steps : (m m2 : C) (a : StepArgs) (error : Error) → c.steps m a (Refused error) m2 →
      error.error_type ≢ kind
  pub resumes : (m m2 : C) (reply : Reply) (error : Error) → c.resumes m reply (Refused error) m2 →
      error.error_type ≢ kind
  pub accepts : (m m2 : C) (a : AcceptArgs) (error : Error) → c.accepts m a (Err error) m2 →
      error.error_type ≢ kind
