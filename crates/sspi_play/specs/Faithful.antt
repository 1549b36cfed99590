-- What agreement rests on: in this play the mechanism under both ends is faithful, in what it seals
-- and in what it signs; and no two texts have the same hash. Which text was opened is given by the
-- meaning of the context that opened it. So all this applies to mechanisms that encrypt and to
-- those that do not. Lists have the newest first.
use Rattle.std.specs.Prelude.{◌≡◌, ◌≤◌, ◌+◌, ℕ, List, [], ◌∷◌, ◌++◌, Option, None, Some, Result, Ok}
use Rattle.std.specs.Prelude.{Err, Bool, true, false}
use Rattle.sha2.specs.Sha256.{sha256}
use Rattle.sspi_types.specs.declared.error.Error.{Error}
use Rattle.sspi_mech.specs.Meaning.{Meaning}
use Rattle.sspi_credssp.specs.declared.context.SspiContext.{SspiContext}
use Rattle.sspi_credssp.specs.declared.public_key.EndpointType.{EndpointType}
use Rattle.sspi_credssp.specs.declared.public_key.EndpointType.TheVariants as whose
use Rattle.sspi_credssp.specs.declared.turn.Turn.{Turn}
use Rattle.sspi_credssp.specs.Acts.{OpensIn, count_of}
use Rattle.sspi_credssp.specs.Context.{ContextSetting}
use Rattle.sspi_credssp.specs.Exchange.{delegated_text, magic, prescribed}
use Rattle.sspi_credssp.specs.Requests.{nonce_of}
use Rattle.sspi_delegate.specs.Turns.{ClientEnd, ServerEnd, client_noted, server_noted}
use Rattle.sspi_delegate.specs.Turns.{client_turns, server_turns, opened_in}
use Rattle.sspi_play.specs.Kept.{kept_list}

-- ---- the texts that an end sealed

abbrev pub where_done : Bool → List (List ℕ) → List (List ℕ)
where_done true texts = texts
where_done false texts = []

-- the proof of an end, by the version that it pinned
abbrev pub proof_text : EndpointType → Option ℕ → List ℕ → List ℕ → List (List ℕ)
proof_text end None nonce key = []
proof_text end (Some version) nonce key = prescribed end version nonce key ∷ []

abbrev pub text_in : Result (List ℕ) Error → List (List ℕ)
text_in (Ok text) = text ∷ []
text_in (Err error) = []

module _ {C : Type 0} where
  -- a client seals its proof, and then its credentials; the turns before this one say which version
  -- it had pinned
  abbrev pub client_texts : ClientEnd C → List Turn → Turn → List (List ℕ)
  client_texts e past t =
      where_done t.acts.sealed
      (text_in (delegated_text e.settings.credentials e.settings.delegation))
      ++ where_done t.acts.proved
      (proof_text whose.Client (client_noted e.settings.least (t ∷ past)) e.settings.nonce
      e.settings.public_key)

  abbrev pub client_sealed : ClientEnd C → List Turn → List (List ℕ)
  client_sealed e [] = []
  client_sealed e (t ∷ past) = client_texts e past t ++ client_sealed e past

  -- a server seals its proof
  abbrev pub server_texts : ServerEnd C → List Turn → Turn → List (List ℕ)
  server_texts e past t =
      where_done t.acts.proved
      (proof_text whose.Server (server_noted e.settings.least (t ∷ past))
      (nonce_of t.delivered.client_nonce) e.settings.public_key)

  abbrev pub server_sealed : ServerEnd C → List Turn → List (List ℕ)
  server_sealed e [] = []
  server_sealed e (t ∷ past) = server_texts e past t ++ server_sealed e past

-- ---- the texts that an end opened, by its context

module _ {C : Type 0} (c : Meaning ContextSetting C) (context : Option C) where
  -- the text of this field, which has this number among the messages that the context opened; no
  -- text if it was not opened
  abbrev pub IsOpened : Bool → ℕ → Option (List ℕ) → List (List ℕ) → Type 0
  IsOpened true n field texts = (text : List ℕ) × OpensIn c context n field text ×
      (texts ≡ text ∷ [])
  IsOpened false n field texts = texts ≡ []

  -- a turn before which n messages were opened opens the peer's proof or, if it is a server's, the
  -- credentials
  pub record OpensMore (t : Turn) (n : ℕ) (before texts : List (List ℕ)) : Type 0 where
    pub proof : List (List ℕ)
    pub credentials : List (List ℕ)
    pub proof_is : IsOpened t.acts.checked n t.delivered.pub_key_auth proof
    pub credentials_are : IsOpened t.acts.opened (n + count_of t.acts.checked) t.delivered.auth_info
        credentials
    pub all : texts ≡ credentials ++ proof ++ before

  -- the texts that an end has opened in these turns; there is at most one such list
  abbrev pub HaveOpened : List Turn → List (List ℕ) → Type 0
  HaveOpened [] texts = texts ≡ []
  HaveOpened (t ∷ past) texts = (before : List (List ℕ)) × HaveOpened past before ×
      OpensMore t (opened_in past) before texts

-- ---- faithful in what is sealed

-- these texts are the first of those
abbrev pub AreFirstOf : List (List ℕ) → List (List ℕ) → Type 0
AreFirstOf texts all = (later : List (List ℕ)) × (all ≡ later ++ texts)

module _ {C : Type 0} (c : Meaning ContextSetting C) where
  -- what a context has opened in these turns is what was sealed first
  abbrev pub OpensFirstOf : Option C → List Turn → List (List ℕ) → Type 0
  OpensFirstOf context turns sealed = (texts : List (List ℕ)) → HaveOpened c context turns texts →
      AreFirstOf texts sealed

  module _ (client : ClientEnd C) (server : ServerEnd C) where
    -- after each turn, what an end has opened so far is what its peer sealed first
    abbrev pub OpensWhatWasSealed : List Turn → Type 0
    OpensWhatWasSealed [] = Unit {0}
    OpensWhatWasSealed (t ∷ past) =
        OpensFirstOf client.context (client_turns (t ∷ past))
        (server_sealed server (server_turns (t ∷ past)))
        × OpensFirstOf server.context (server_turns (t ∷ past))
        (client_sealed client (client_turns (t ∷ past)))
        × OpensWhatWasSealed past

-- ---- faithful in what is signed

-- how many MICs a context made and verified
module _ {C : Type 0} (c : Meaning ContextSetting C) where
  abbrev pub signings_in : Option C → ℕ
  signings_in None = 0
  signings_in (Some m) = (c.counts m).signings

  abbrev pub verifications_in : Option C → ℕ
  verifications_in None = 0
  verifications_in (Some m) = (c.counts m).verifications

-- if an end verified a MIC, its peer made one, and both keep the same list of mechanisms
pub record VerifiesWhatWasSigned {N K : Type 0} (c : Meaning ContextSetting (SspiContext N K))
    (own peer : Option (SspiContext N K)) :
    Type 0 where
  pub signed : 1 ≤ verifications_in c own → 1 ≤ signings_in c peer
  pub lists : 1 ≤ verifications_in c own → kept_list own ≡ kept_list peer

-- ---- what is hashed

module _ {C : Type 0} (client : ClientEnd C) (server : ServerEnd C) (turns : List Turn) where
  -- a text that is hashed in the run: an end's magic, a nonce and its own key, joined; a server's
  -- nonce is one that was delivered in a turn in which it proved its key
  pub data IsHashed : List ℕ → Type 0 where
    by_client : (end : EndpointType) →
        IsHashed (magic end ++ client.settings.nonce ++ client.settings.public_key)
    by_server : (end : EndpointType) (later before : List Turn) (t : Turn) →
        server_turns turns ≡ later ++ (t ∷ before) →
        t.acts.proved ≡ true →
        IsHashed (magic end ++ nonce_of t.delivered.client_nonce ++ server.settings.public_key)

  -- no two of these texts have the same hash
  abbrev pub NoCollision : Type 0
  NoCollision = (text other : List ℕ) → IsHashed text → IsHashed other →
      sha256 text ≡ sha256 other → text ≡ other
