-- What the ends seal for each other: the proofs over the server's public key that bind the
-- delegation to the TLS channel (MS-CSSP 3.1.5, pubKeyAuth), and the credentials; and what opening
-- them yields.
use Rattle.std.specs.Prelude.{ℕ, zero, suc, ◌+◌, ◌-◌, ◌*◌, ◌/◌, ◌%◌, ◌^◌, List, [], ◌∷◌, ◌++◌}
use Rattle.std.specs.Prelude.{length, codes, nat_lt, if◌then◌else◌, Option}
use Rattle.std.specs.Prelude.{None, Some, Result, Ok, Err, ◌≢◌, ◌≡◌, Bool, true, false}
use Rattle.sha2.specs.Sha256.{sha256}
use Rattle.sspi_types.specs.declared.error.Error.{Error}
use Rattle.sspi_types.specs.declared.error_kind.ErrorKind.{ErrorKind}
use Rattle.sspi_types.specs.declared.error_kind.ErrorKind.TheVariants.{InvalidToken, MessageAltered}
use Rattle.sspi_names.specs.declared.credentials.Credentials.{Credentials}
use Rattle.sspi_names.specs.declared.credentials.CredentialsBuffers.{CredentialsBuffers}
use Rattle.sspi_names.specs.declared.credentials.CredentialsBuffers.TheVariants as buffered
use Rattle.sspi_names.specs.declared.identity.AuthIdentity.{AuthIdentity}
use Rattle.sspi_names.specs.Identity.{credentials_buffers_of, identity_of}
use Rattle.sspi_names.specs.Name.{bad_name, down_level}
use Rattle.sspi_tsreq.specs.declared.mode.CredSspMode.{CredSspMode}
use Rattle.sspi_tsreq.specs.declared.mode.CredSspMode.TheVariants.{WithCredentials, CredentialLess}
use Rattle.sspi_tsreq.specs.Creds.{creds_text, creds_of, malformed}
use Rattle.sspi_mech.specs.Answered.{IsRefusedAs}
use Rattle.sspi_mech.specs.Calls.{ToUnseal}
use Rattle.sspi_mech.specs.Meaning.{Meaning}
use Rattle.sspi_credssp.specs.declared.public_key.EndpointType.{EndpointType}
use Rattle.sspi_credssp.specs.declared.public_key.EndpointType.TheVariants.{Client, Server}
use Rattle.sspi_credssp.specs.Noted.{StopsIf}

-- ---- the proofs

-- the number that the bytes encode, lowest byte first
abbrev pub little_endian : List ℕ → ℕ
little_endian [] = 0
little_endian (b ∷ bs) = b + 256 * little_endian bs

-- the n bytes that encode a number modulo 256^n, where n is the first argument
abbrev pub bytes_of : ℕ → ℕ → List ℕ
bytes_of zero number = []
bytes_of (suc n) number = (number % 256) ∷ bytes_of n (number / 256)

-- the n bytes of the next number, modulo 256^n
unfoldable pub incremented : List ℕ → List ℕ
incremented bytes = bytes_of (length bytes) (little_endian bytes + 1)

-- the n bytes of the previous number, modulo 256^n
unfoldable pub decremented : List ℕ → List ℕ
decremented bytes = bytes_of (length bytes) (little_endian bytes + (256 ^ length bytes - 1))

-- the text that begins what an end hashes from version 5 on, its final zero byte included
abbrev pub magic : EndpointType → List ℕ
magic Client = codes "CredSSP Client-To-Server Binding Hash" ++ 0 ∷ []
magic Server = codes "CredSSP Server-To-Client Binding Hash" ++ 0 ∷ []

-- what an end sends of the key below version 5: the client the key itself, the server the next
-- number
abbrev pub echo : EndpointType → List ℕ → List ℕ
echo Client key = key
echo Server key = incremented key

-- the text that an end seals as its proof, for the version that its peer speaks
unfoldable pub prescribed : EndpointType → ℕ → List ℕ → List ℕ → List ℕ
prescribed end version nonce key =
    if nat_lt version 5 then echo end key else sha256 (magic end ++ nonce ++ key)

-- ---- the credentials

-- the identity that is delegated if the client keeps its credentials: one without texts
abbrev pub no_identity : AuthIdentity
no_identity = record { username = down_level [] []; password = record { value = [] } }

abbrev pub delegated_as : CredSspMode → AuthIdentity → AuthIdentity
delegated_as WithCredentials own = own
delegated_as CredentialLess own = no_identity

-- the text of these credentials in this mode, or their refusal
unfoldable pub delegated_text : Credentials → CredSspMode → Result (List ℕ) Error
delegated_text credentials mode = creds_text (credentials_buffers_of credentials) mode

-- the identity of buffers; those of a text are never a keytab's
abbrev pub named_or_refused : Option AuthIdentity → Result AuthIdentity Error
named_or_refused (Some identity) = Ok identity
named_or_refused None = Err bad_name

abbrev pub identity_in : Result CredentialsBuffers Error → Result AuthIdentity Error
identity_in (Ok (buffered.AuthIdentity buffers)) = named_or_refused (identity_of buffers)
identity_in (Ok (buffered.Keytab identity)) = Err malformed
identity_in (Err error) = Err error

-- the identity that a text delegates, or its refusal
unfoldable pub delegated_identity : List ℕ → Result AuthIdentity Error
delegated_identity text = identity_in (creds_of text)

-- a fact of the text, which must exist
abbrev pub IfText : Result (List ℕ) Error → (List ℕ → Type 0) → Type 0
IfText (Ok text) P = P text
IfText (Err error) P = ⊥

-- ---- what an end opens of its peer, and what it answers

-- a field that is absent, or too short to hold a seal, is refused; otherwise the turn goes on
abbrev pub BlobStops : Option (List ℕ) → ErrorKind → (List ℕ → Type 0) → Type 0
BlobStops None kind Later = kind ≡ InvalidToken
BlobStops (Some blob) kind Later = StopsIf (nat_lt (length blob) 16) InvalidToken kind (Later blob)

module _ {S C : Type 0} (c : Meaning S C) where
  -- the last blob that the context opened holds this identity
  pub data OpensIdentity (m : C) (blob : List ℕ) (identity : AuthIdentity) : Type 0 where
    opens_identity : (text : List ℕ) → c.opens m ((c.counts m).unsealings - 1) blob text →
        delegated_identity text ≡ Ok identity →
        OpensIdentity m blob identity

  -- the last blob that the context opened holds a text other than the proof
  pub data OpensOther (m : C) (blob proof : List ℕ) : Type 0 where
    opens_other : (text : List ℕ) → c.opens m ((c.counts m).unsealings - 1) blob text →
        text ≢ proof → OpensOther m blob proof

  -- the peer's blob opened to a text other than its proof; or to the proof, and what the end then
  -- owes is not sealed
  pub data CheckedCause (m : C) (blob proof : List ℕ) (Unsealed : Type 0) (kind : ErrorKind) : Type
      0 where
    altered : OpensOther m blob proof → kind ≡ MessageAltered →
        CheckedCause m blob proof Unsealed kind
    unsealed : c.opens m ((c.counts m).unsealings - 1) blob proof → Unsealed →
        CheckedCause m blob proof Unsealed kind

  -- a blob that opened to a text other than the proof is reported as altered, even out of memory
  pub data OtherIsAltered (m : C) (blob proof : List ℕ) (kind : ErrorKind) : Type 0 where
    other_is_altered : (OpensOther m blob proof → kind ≡ MessageAltered) →
        OtherIsAltered m blob proof kind

  -- a blob that was not opened: out of memory only if the context would open it
  abbrev pub AlteredExactly : Bool → C → List ℕ → List ℕ → ErrorKind → Type 0
  AlteredExactly false m blob proof kind = IsRefusedAs (c.permits m (ToUnseal blob))
      (c.refuses m (ToUnseal blob)) kind
  AlteredExactly true m blob proof kind = OtherIsAltered m blob proof kind

  -- why an exchange of proofs was refused, depending on whether the blob was opened
  abbrev pub ProofCause : Bool → C → List ℕ → List ℕ → Type 0 → ErrorKind → Type 0
  ProofCause false m blob proof Unsealed kind = c.refuses m (ToUnseal blob) kind
  ProofCause true m blob proof Unsealed kind = CheckedCause m blob proof Unsealed kind
