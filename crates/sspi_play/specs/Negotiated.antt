-- Agreement on the mechanism that a negotiation chose, between a client and a server whose messages
-- an attacker carries. It rests on a mechanism that is faithful in what it signs (RFC 4178, section
-- 5), and supposes nothing about what is sealed or hashed.
--
-- A server that verified a MIC of the client has selected the mechanism that its own configuration
-- picks from the list that the client offered. A client that verified a MIC of the server keeps the
-- list that the server read. A client that proved its key, or sealed its credentials, has verified
-- a MIC. A server that proved its key, or opened credentials, has too, if the selected mechanism is
-- NTLM or not first in the list it read. These last two facts hold of ends that negotiate, except
-- for a guest, and rest on no premise.
use Rattle.std.specs.Prelude.{◌≡◌, ◌≢◌, ◌≤◌, ◌⊎◌, ℕ, List, [], ◌∷◌, map, option_map}
use Rattle.std.specs.Prelude.{Option, None, Some, IsSome, Result, Ok, Err, true, false}
use Rattle.sspi_types.specs.declared.error_kind.ErrorKind.{ErrorKind}
use Rattle.sspi_names.specs.declared.credentials.Credentials.TheVariants as credentials
use Rattle.sspi_names.specs.declared.credentials.CredentialsBuffers.{CredentialsBuffers}
use Rattle.sspi_names.specs.declared.identity.AuthIdentity.{AuthIdentity}
use Rattle.sspi_names.specs.Name.{Name, inner_of}
use Rattle.sspi_mech.specs.declared.step.Step.{Step}
use Rattle.sspi_mech.specs.Meaning.{Meaning}
use Rattle.sspi_mech.specs.Settings.{Setting}
use Rattle.sspi_tokens.specs.declared.neg_token_init.NegTokenInit.{NegTokenInit}
use Rattle.sspi_tokens.specs.Oids.{kind_of}
use Rattle.sspi_tokens.specs.Reading.{init_of}
use Rattle.sspi_tokens.specs.Spelling.{spelled_init}
use Rattle.sspi_negotiate.specs.declared.negotiate_config.NegotiateConfig.{NegotiateConfig}
use Rattle.sspi_negotiate.specs.declared.pick.Choice.{Choice}
use Rattle.sspi_negotiate.specs.declared.pick.Choice.TheVariants as choices
use Rattle.sspi_negotiate.specs.declared.pick.Picked.{Picked}
use Rattle.sspi_negotiate.specs.declared.protocol.Protocol.{Protocol}
use Rattle.sspi_negotiate.specs.declared.protocol.Protocol.TheVariants.{Kerberos, Ntlm}
use Rattle.sspi_negotiate.specs.declared.protocol_config.ProtocolConfig.TheVariants as configs
use Rattle.sspi_negotiate.specs.declared.state.Role.TheVariants as roles
use Rattle.sspi_negotiate.specs.Choices.{protocol_of as protocol_of_kind}
use Rattle.sspi_negotiate.specs.Client.{is_guest}
use Rattle.sspi_negotiate.specs.Hand.{Origin, Configured, InPlaceOfNtlm, hand, hand_of}
use Rattle.sspi_negotiate.specs.New.{first_in_hand, packages_in}
use Rattle.sspi_negotiate.specs.Pick.{pick}
use Rattle.sspi_negotiate.specs.Rows.{is_guest_text}
use Rattle.sspi_credssp.specs.declared.context.SspiContext.{SspiContext}
use Rattle.sspi_credssp.specs.declared.context.SspiContext.TheVariants as contexts
use Rattle.sspi_credssp.specs.declared.mode.ServerMode.{ServerMode}
use Rattle.sspi_credssp.specs.declared.mode.ServerMode.TheVariants as modes
use Rattle.sspi_credssp.specs.declared.turn.Turn.{Turn}
use Rattle.sspi_credssp.specs.Acts.{SameBut}
use Rattle.sspi_credssp.specs.Context.{either}
use Rattle.sspi_credssp.specs.Ends.{ClientView, ServerView}
use Rattle.sspi_credssp.specs.Proxy.{ProxyMeaning, AreFound}
use Rattle.sspi_credssp.specs.Requests.{token_of}
use Rattle.sspi_credssp.specs.ServerTurn.{Accepted, Unknown}
use Rattle.sspi_delegate.specs.Chain.{ServerStage, ServerChain, server_at}
use Rattle.sspi_delegate.specs.Turns.{ClientEnd, ServerEnd}
use Rattle.sspi_delegate.specs.Turns.{client_turns, server_turns, IsUnrefused}
use Rattle.sspi_play.specs.Agreement.{TurnOf}
use Rattle.sspi_play.specs.Faithful.{verifications_in, VerifiesWhatWasSigned}
use Rattle.sspi_play.specs.Kept.{kept_list}

-- ---- the list in the messages

-- the text is a NegTokenInit that offers this list
pub record IsOffer (text : List ℕ) (list : List (List ℕ)) : Type 0 where
  pub mech_token : Option (List ℕ)
  pub spelled : spelled_init (record { mech_types = Some list; mech_token = mech_token }) ≡ Some
      text

-- the text begins with a NegTokenInit that offers this list
pub record IsReadAs (text : List ℕ) (list : List (List ℕ)) : Type 0 where
  pub token : NegTokenInit
  pub read : init_of text ≡ Some token
  pub listed : token.mech_types ≡ Some list

-- the client offered this list in one of its turns
pub record HasOffered (turns : List Turn) (list : List (List ℕ)) : Type 0 where
  pub at : TurnOf turns
  pub offer : IsOffer at.turn.output list

-- the server was given an offer of this list in one of its turns
pub record HasRead (turns : List Turn) (list : List (List ℕ)) : Type 0 where
  pub at : TurnOf turns
  pub read : IsReadAs (token_of at.turn.delivered.nego_tokens) list

-- ---- the selected mechanism

abbrev pub protocol_of : Choice → Protocol
protocol_of choices.MsKerberos = Kerberos
protocol_of choices.Kerberos = Kerberos
protocol_of choices.Ntlm = Ntlm

-- the mechanism that this origin selects; a refusal selects none
abbrev pub protocol_from : Result Origin ErrorKind → Option Protocol
protocol_from (Ok (Configured (configs.Ntlm config))) = Some Ntlm
protocol_from (Ok (Configured (configs.Kerberos config))) = Some Kerberos
protocol_from (Ok (Configured (configs.KerberosServer config server))) = Some Kerberos
protocol_from (Ok (InPlaceOfNtlm url kdcs computer)) = Some Kerberos
protocol_from (Err kind) = None

-- what a server with this selected mechanism picks from a list, by its configuration
abbrev pub picks_with : NegotiateConfig → Option Protocol → List (List ℕ) → Option Protocol
picks_with config None list = None
picks_with config (Some first) list = option_map (λ (picked : Picked). protocol_of picked.choice)
    (pick list (packages_in config) first)

-- what a server made from this configuration picks from a list
abbrev pub picked_by : NegotiateConfig → List (List ℕ) → Option Protocol
picked_by config list = picks_with config (protocol_from (first_in_hand roles.Server config)) list

-- the mechanism that a negotiation has selected
abbrev pub in_hand : {N K : Type 0} → Option (SspiContext N K) → Option Protocol
in_hand None = None
in_hand (Some (contexts.Negotiate s)) = Some (hand_of s.mech)
in_hand (Some (contexts.Ntlm m)) = None
in_hand (Some (contexts.Kerberos m)) = None

-- the selected mechanism is what a server of this mode picks from the list
pub record IsPickOf {N K : Type 0} (context : Option (SspiContext N K)) (mode : ServerMode)
    (list : List (List ℕ)) : Type 0 where
  pub config : NegotiateConfig
  pub mode_is : mode ≡ modes.Negotiate config
  pub protocol : Protocol
  pub held : in_hand context ≡ Some protocol
  pub picked : picked_by config list ≡ Some protocol

-- ---- what an end has verified, whoever carries the messages and whatever its mechanism is

-- the mechanism that a list begins with, if it is a known one
abbrev pub first_of : List (List ℕ) → Option Protocol
first_of [] = None
first_of (oid ∷ oids) = protocol_of_kind (kind_of oid)

-- When a server with this selected mechanism needs MICs over the list: with NTLM, and with any
-- mechanism that is not first in the list; both Kerberos identifiers count as one. It needs them in
-- other cases too, such as user-to-user, about which nothing is said here.
abbrev pub NeedsMic : Protocol → List (List ℕ) → Type 0
NeedsMic protocol list = (protocol ≡ Ntlm) ⊎ (first_of list ≢ Some protocol)

-- `first` is the server as it was made
module _ {N K P : Type 0} (requests : ℕ) (n : Meaning Setting N) (k : Meaning Setting K)
    (p : ProxyMeaning P)
    (first : ServerView (SspiContext N K) P) where
  -- A step of the context at this stage named the peer as a guest, from whom a server needs no MIC.
  -- The context then took the identities that the proxy found by that name. Except for what it has
  -- sealed and opened, it is still as that left it.
  pub record TookGuestAt (stage : ServerStage (SspiContext N K)) (token : Option (List ℕ))
      (context : Option (SspiContext N K)) :
      Type 0 where
    pub handle : Option CredentialsBuffers
    pub step : Step
    pub before : SspiContext N K
    pub stepped : Accepted (either requests n k) p (server_at (either requests n k) p first stage)
        handle token Unknown (Ok step) before
    pub name : Name
    pub named : (either requests n k).names before ≡ Some name
    pub is_guest : is_guest_text (inner_of name) ≡ true
    pub identities : List AuthIdentity
    pub found : AreFound (p.told first.proxy) name identities
    pub some : identities ≢ []
    pub taken : SspiContext N K
    pub peer : (either requests n k).identifies before (map credentials.AuthIdentity identities)
        taken
    pub left : SameBut (either requests n k) (Some taken) context

  -- one of these turns took that step, at the stage to which the turns before it had led
  pub record TookGuest (turns : List Turn) (context : Option (SspiContext N K)) : Type 0 where
    pub at : TurnOf turns
    pub stage : ServerStage (SspiContext N K)
    pub came : ServerChain (either requests n k) p first at.before stage
    pub took : TookGuestAt stage at.turn.delivered.nego_tokens context

  -- a server that negotiates, and whose mechanism needs MICs, has verified one, unless its peer is
  -- a guest
  abbrev pub HasVerifiedOrGuest : List Turn → Option (SspiContext N K) → Type 0
  HasVerifiedOrGuest turns None = ⊥
  HasVerifiedOrGuest turns (Some (contexts.Negotiate s)) = NeedsMic (hand_of s.mech) s.list →
      (1 ≤ ((hand n k).counts s.mech).verifications) ⊎ TookGuest turns (Some (contexts.Negotiate s))
  HasVerifiedOrGuest turns (Some (contexts.Ntlm m)) = Unit {0}
  HasVerifiedOrGuest turns (Some (contexts.Kerberos m)) = Unit {0}

module _ {N K : Type 0} (requests : ℕ) (n : Meaning Setting N) (k : Meaning Setting K) where
  -- a client that negotiates has verified a MIC of its peer, unless its user is a guest, for whom
  -- NTLM may be chosen without one
  abbrev pub HasVerified : ClientView (SspiContext N K) → Type 0
  HasVerified client = IsSome (in_hand client.context) → is_guest client.handle ≡ false →
      1 ≤ verifications_in (either requests n k) client.context

module _ {N K P : Type 0} (requests : ℕ) (n : Meaning Setting N) (k : Meaning Setting K)
    (p : ProxyMeaning P) where
  -- A client that proved its key, or sealed its credentials, has verified a MIC; so has a server
  -- that answered with its own proof, or opened credentials. No turn after that of a proof takes a
  -- step, so the MIC was verified by then.
  pub record VerifiesFirst (client : ClientView (SspiContext N K))
      (first : ServerView (SspiContext N K) P)
      (server : ServerEnd (SspiContext N K)) (turns : List Turn) : Type 0 where
    pub a_client_that_proved : (at : TurnOf (client_turns turns)) → at.turn.acts.proved ≡ true →
        HasVerified requests n k client
    pub a_client_that_sealed : (at : TurnOf (client_turns turns)) → at.turn.acts.sealed ≡ true →
        HasVerified requests n k client
    pub a_server_that_proved : (at : TurnOf (server_turns turns)) → at.turn.acts.proved ≡ true →
        IsUnrefused at.turn.outcome →
        HasVerifiedOrGuest requests n k p first (server_turns turns) server.context
    pub a_server_that_opened : (at : TurnOf (server_turns turns)) → at.turn.acts.opened ≡ true →
        HasVerifiedOrGuest requests n k p first (server_turns turns) server.context

-- ---- what both agree on

module _ {N K : Type 0} (requests : ℕ) (n : Meaning Setting N) (k : Meaning Setting K) where
  -- The theorem, about the ends as the play left them; the server was made in this mode. What each
  -- end knows rests on its own verifications alone.
  pub record NegotiatesIfFaithful (client : ClientEnd (SspiContext N K))
      (server : ServerEnd (SspiContext N K)) (mode : ServerMode)
      (turns : List Turn) : Type 0 where
    pub a_server_that_verified : VerifiesWhatWasSigned (either requests n k) server.context
        client.context →
        1 ≤ verifications_in (either requests n k) server.context →
        IsPickOf server.context mode (kept_list client.context) ×
        HasOffered (client_turns turns) (kept_list client.context)
    pub a_client_that_verified : VerifiesWhatWasSigned (either requests n k) client.context
        server.context →
        1 ≤ verifications_in (either requests n k) client.context →
        HasRead (server_turns turns) (kept_list client.context)
