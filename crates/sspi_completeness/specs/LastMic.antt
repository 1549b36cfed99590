-- What a server answers to the MIC that its negotiation waits for, and why it refuses one (RFC
-- 4178, section 5).
use Rattle.std.specs.Prelude.{◌≡◌, ◌≢◌, ℕ, List, [], Option, Some, None, map, option_and_then}
use Rattle.sspi_types.specs.declared.error_kind.ErrorKind.{ErrorKind}
use Rattle.sspi_types.specs.declared.error_kind.ErrorKind.TheVariants.{InsufficientMemory}
use Rattle.sspi_types.specs.declared.error_kind.ErrorKind.TheVariants.{InternalError, NoCredentials}
use Rattle.sspi_names.specs.Name.{Name}
use Rattle.sspi_names.specs.declared.credentials.Credentials.{Credentials}
use Rattle.sspi_names.specs.declared.credentials.Credentials.TheVariants as credentials
use Rattle.sspi_names.specs.declared.identity.AuthIdentity.{AuthIdentity}
use Rattle.sspi_mech.specs.declared.step.Answer.{Answer}
use Rattle.sspi_mech.specs.declared.step.Answer.TheVariants.{Done, Ask, Refused}
use Rattle.sspi_mech.specs.Calls.{ToName, ToIdentify, ToVerify}
use Rattle.sspi_mech.specs.Meaning.{Meaning}
use Rattle.sspi_tokens.specs.Reading.{targ_of}
use Rattle.sspi_tokens.specs.Spelling.{spelled_list}
use Rattle.sspi_negotiate.specs.Hand.{Origin}
use Rattle.sspi_negotiate.specs.Known.{named}

-- the MIC of the token with which these bytes begin
abbrev pub mic_in : List ℕ → Option (List ℕ)
mic_in input = option_and_then (λ token. token.mech_list_mic) (targ_of input)

-- the identities that a server knows by this name
abbrev pub found_by : Name → List AuthIdentity → List Credentials
found_by name known = map credentials.AuthIdentity (named name known)

-- c: the meaning of the selected mechanism; m: its state before the step; known: the identities
-- that the server knows; list: the list of mechanisms as it is kept
module _ {M : Type 0} (c : Meaning Origin M) (m : M) (known : List AuthIdentity)
    (list : List (List ℕ)) (mic : List ℕ) where
  -- the mechanism was given the identities of its peer's name, and found the MIC to be that of the
  -- list
  pub record VerifiesLast : Type 0 where
    pub name : Name
    pub text : List ℕ
    pub identified : M
    pub after : M
    pub named_so : c.names m ≡ Some name
    pub identifies : c.identifies m (found_by name known) identified
    pub spelled : spelled_list list ≡ Some text
    pub verified : c.verifies after (c.counts identified).verifications mic text

  -- why it is refused with this kind
  pub data RefusesLast (kind : ErrorKind) : Type 0 where
    -- the mechanism does not name its peer
    unnamed : c.refuses m ToName kind → RefusesLast kind
    -- the server knows nobody of that name
    unknown : (name : Name) → c.names m ≡ Some name → named name known ≡ [] → kind ≡ NoCredentials →
        RefusesLast kind
    -- the mechanism takes none of those that the server knows
    unidentified : (name : Name) → c.names m ≡ Some name →
        c.refuses m (ToIdentify (found_by name known)) kind → RefusesLast kind
    -- the list has no encoding within the limit
    too_long : spelled_list list ≡ None → kind ≡ InternalError → RefusesLast kind
    -- the mechanism does not verify the MIC
    bad : (name : Name) → (text : List ℕ) → (identified : M) → c.names m ≡ Some name →
        c.identifies m (found_by name known) identified → spelled_list list ≡ Some text →
        c.refuses identified (ToVerify mic text) kind → RefusesLast kind

  -- the step is made on a MIC that verified, or refused for one of these reasons; or there was no
  -- memory
  abbrev pub AnswersLast : Answer → Type 0
  AnswersLast (Done step) = VerifiesLast
  AnswersLast (Ask request) = ⊥
  AnswersLast (Refused error) = error.error_type ≢ InsufficientMemory → RefusesLast error.error_type
