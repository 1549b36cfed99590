-- What the host reported in a call in which an end gives something out (MS-CSSP 3.1.5).
use Rattle.std.specs.Prelude.{◌≡◌, ◌≢◌, ℕ, List, Option, Some, Result, Ok, true, nat_lt}
use Rattle.sspi_types.specs.declared.error.Error.{Error}
use Rattle.sspi_names.specs.declared.identity.AuthIdentity.{AuthIdentity}
use Rattle.sspi_mech.specs.Meaning.{Meaning}
use Rattle.sspi_tsreq.specs.declared.request.TsRequest.{TsRequest}
use Rattle.sspi_credssp.specs.Context.{ContextSetting, either}
use Rattle.sspi_credssp.specs.Ends.{ClientView, ServerView}
use Rattle.sspi_credssp.specs.Exchange.{delegated_identity, prescribed}
use Rattle.sspi_credssp.specs.Proxy.{ProxyMeaning}
use Rattle.sspi_credssp.specs.Requests.{nonce_of}
use Rattle.sspi_credssp.specs.Turn.{AtNoted, HasNonce}
use Rattle.sspi_credssp.specs.declared.context.SspiContext.{SspiContext}
use Rattle.sspi_credssp.specs.declared.public_key.EndpointType.TheVariants.{Client, Server}
use Rattle.sspi_credssp.specs.declared.state.CredSspState.TheVariants as state
use Rattle.sspi_outside.specs.Ends.{ClientCalled, ServerCalled}
use Rattle.sspi_outside.specs.Hosting.{handed, owed_of}
use Rattle.sspi_outside.specs.Outside.{OutsideState, outside_meaning}
use Rattle.sspi_outside.specs.declared.last.Last.{Last}
use Rattle.sspi_outside.specs.declared.last.Last.TheVariants.{Finished}
use Rattle.sspi_outside.specs.declared.last.Owed.TheVariants as owed

-- the context of an end whose mechanism the host keeps
abbrev pub Hosted : Type 0
Hosted = SspiContext OutsideState OutsideState

abbrev pub hosted : Meaning ContextSetting Hosted
hosted = either 0 outside_meaning outside_meaning

-- ---- one call of an end, on what was received and what the host reports: step and opened texts

abbrev pub ClientReports : ClientView Hosted → TsRequest → List ℕ → Option (List ℕ) →
    Option (List ℕ) → ClientView Hosted → Last → Type 0
ClientReports old d step proof credentials new last =
    (result : Result (Unit {0}) Error) ×
    ClientCalled hosted old (handed d step proof credentials) result new last

abbrev pub ServerReports : {P : Type 0} → ProxyMeaning P → ServerView Hosted P → TsRequest →
    List ℕ → Option (List ℕ) →
    Option (List ℕ) → ServerView Hosted P → Last → Type 0
ServerReports p old d step proof credentials new last =
    (result : Result (Unit {0}) Error) × ServerCalled hosted p old (handed d step proof credentials)
    result new last

-- ---- what it reported

-- the host opened exactly the proof that the server owes: at the pinned version, over the client's
-- nonce and the channel's key
abbrev pub OpenedServerProof : ClientView Hosted → Option ℕ → Option (List ℕ) → Type 0
OpenedServerProof client noted proof =
    AtNoted noted (λ version. proof ≡ Some
    (prescribed Server version client.settings.nonce client.settings.public_key))

-- the host opened exactly the proof that the client owes, over the received nonce; from version 5
-- on there is one
pub record OpenedClientProof {P : Type 0} (server : ServerView Hosted P) (d : TsRequest)
    (proof : Option (List ℕ)) (version : ℕ) :
    Type 0 where
  pub opened : proof ≡ Some (prescribed Client version (nonce_of d.client_nonce)
      server.settings.public_key)
  pub nonce : HasNonce (nat_lt version 5) d.client_nonce

-- the host opened a text that delegates this identity
abbrev pub OpenedIdentity : Option (List ℕ) → AuthIdentity → Type 0
OpenedIdentity credentials identity = (text : List ℕ) × (credentials ≡ Some text) ×
    (delegated_identity text ≡ Ok identity)

-- ---- the laws

-- A client's credentials are to be sealed only in a call in which the host reported exactly the
-- proof that the server owes.
abbrev pub CredentialsFollowTheProof : Type 0
CredentialsFollowTheProof = (old new : ClientView Hosted) (d : TsRequest) (step : List ℕ)
    (proof credentials : Option (List ℕ))
    (last : Last) → ClientReports old d step proof credentials new last →
    owed_of new.acts last ≡ owed.AuthInfo →
    OpenedServerProof old new.noted proof

-- A server proves its key only in a call in which the host reported exactly the proof that the
-- client owes.
abbrev pub ServerProofFollowsTheProof : {P : Type 0} → ProxyMeaning P → Type 0
ServerProofFollowsTheProof {P} p = (old new : ServerView Hosted P) (d : TsRequest) (step : List ℕ)
    (proof credentials : Option (List ℕ)) (last : Last) →
    ServerReports p old d step proof credentials new last →
    new.acts.proved ≡ true → AtNoted new.noted (OpenedClientProof old d proof)

-- Only such a call makes a server wait for the credentials.
abbrev pub CredentialsAreAwaitedOnceProved : {P : Type 0} → ProxyMeaning P → Type 0
CredentialsAreAwaitedOnceProved {P} p = (old new : ServerView Hosted P) (d : TsRequest)
    (step : List ℕ)
    (proof credentials : Option (List ℕ)) (last : Last) →
    ServerReports p old d step proof credentials new last →
    new.state ≡ state.AuthInfo → old.state ≢ state.AuthInfo → new.acts.proved ≡ true

-- A server that reports an identity was waiting for the credentials, and in that call the host
-- reported a text that delegates it.
pub record IdentityWasReported {P : Type 0} (old : ServerView Hosted P)
    (credentials : Option (List ℕ)) (identity : AuthIdentity) :
    Type 0 where
  pub awaited : old.state ≡ state.AuthInfo
  pub opened : OpenedIdentity credentials identity

abbrev pub IdentityIsReported : {P : Type 0} → ProxyMeaning P → Type 0
IdentityIsReported {P} p = (old new : ServerView Hosted P) (d : TsRequest) (step : List ℕ)
    (proof credentials : Option (List ℕ))
    (identity : AuthIdentity) → ServerReports p old d step proof credentials new
    (Finished identity) →
    IdentityWasReported old credentials identity
