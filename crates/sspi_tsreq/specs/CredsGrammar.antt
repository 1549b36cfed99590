-- What TSCredentials are, as concatenations of their pieces (MS-CSSP 2.2.1.2, 2.2.1.2.1):
--
--     TSCredentials   ::= SEQUENCE { [0] credType INTEGER, [1] credentials OCTET STRING }
--     TSPasswordCreds ::= SEQUENCE {
--         [0] domainName OCTET STRING, [1] userName OCTET STRING, [2] password OCTET STRING }
--
-- Bytes after the last piece that an element needs are left, and ignored.
use Rattle.std.specs.Prelude.{◌≡◌, ◌≢◌, ◌⊎◌, ℕ, List, [], ◌∷◌, ◌++◌, Ok, IsErr}
use Rattle.sspi_ber.specs.Forms.{IsElement, IsLength}
use Rattle.sspi_names.specs.Utf16.{decode_le}
use Rattle.sspi_names.specs.declared.identity.AuthIdentityBuffers.{AuthIdentityBuffers}
use Rattle.sspi_tsreq.specs.Creds.{Passwords}

-- a field with this tag, around an element with the tag inner and this content
pub record IsFieldOf (tag inner : ℕ) (text content : List ℕ) : Type 0 where
  pub field : List ℕ
  pub element : List ℕ
  pub left : List ℕ
  pub field_is : IsElement tag text field
  pub parts : field ≡ element ++ left
  pub element_is : IsElement inner element content

-- a field with an OCTET STRING
abbrev pub IsOctetsIn : ℕ → List ℕ → List ℕ → Type 0
IsOctetsIn tag = IsFieldOf tag 0x04

-- a field with an INTEGER, by its content bytes
abbrev pub IsIntegerIn : ℕ → List ℕ → List ℕ → Type 0
IsIntegerIn tag = IsFieldOf tag 0x02

-- The text begins with TSPasswordCreds of these three texts.
pub record IsPasswordCreds (text : List ℕ) (texts : Passwords) : Type 0 where
  pub sequence : List ℕ
  pub behind : List ℕ
  pub content : List ℕ
  pub domain : List ℕ
  pub user : List ℕ
  pub password : List ℕ
  pub left : List ℕ
  pub parts : text ≡ sequence ++ behind
  pub sequence_is : IsElement 0x30 sequence content
  pub fields : content ≡ domain ++ (user ++ (password ++ left))
  pub domain_is : IsOctetsIn 0xA0 domain texts.domain
  pub user_is : IsOctetsIn 0xA1 user texts.user
  pub password_is : IsOctetsIn 0xA2 password texts.password

-- The text begins with TSCredentials: the content bytes of credType, and the credentials.
pub record IsCreds (text cred_type credentials : List ℕ) : Type 0 where
  pub sequence : List ℕ
  pub behind : List ℕ
  pub content : List ℕ
  pub number : List ℕ
  pub octets : List ℕ
  pub left : List ℕ
  pub parts : text ≡ sequence ++ behind
  pub sequence_is : IsElement 0x30 sequence content
  pub fields : content ≡ number ++ (octets ++ left)
  pub type_is : IsIntegerIn 0xA0 number cred_type
  pub credentials_is : IsOctetsIn 0xA1 octets credentials

-- TSCredentials of this type, of which the first content byte alone counts: 1 is a password, 2 a
-- smart card
abbrev pub IsCredsOfType : ℕ → List ℕ → List ℕ → Type 0
IsCredsOfType number text credentials = (more : List ℕ) × IsCreds text (number ∷ more) credentials

-- a type without meaning: no content, or another first byte
abbrev pub IsOtherType : List ℕ → Type 0
IsOtherType [] = Unit {0}
IsOtherType (number ∷ more) = (number ≢ 1) × (number ≢ 2)

-- the texts are those of the buffers, as UTF-16 with the low byte first
pub record AreTextsOf (texts : Passwords) (buffers : AuthIdentityBuffers) : Type 0 where
  pub domain_text : decode_le texts.domain ≡ Ok buffers.domain
  pub user_text : decode_le texts.user ≡ Ok buffers.user
  pub password_text : decode_le texts.password ≡ Ok buffers.password.value

-- TSCredentials of a password, and TSPasswordCreds in them
abbrev pub HasPasswords : List ℕ → Type 0
HasPasswords text = (credentials : List ℕ) × (texts : Passwords) ×
    IsCredsOfType 1 text credentials × IsPasswordCreds credentials texts

-- one of the texts is not UTF-16
abbrev pub HasBadText : Passwords → Type 0
HasBadText texts = IsErr (decode_le texts.domain) ⊎
    (IsErr (decode_le texts.user) ⊎ IsErr (decode_le texts.password))

-- The text begins with TSCredentials of a password, which represent these buffers.
pub record StandsFor (text : List ℕ) (buffers : AuthIdentityBuffers) : Type 0 where
  pub credentials : List ℕ
  pub texts : Passwords
  pub creds_is : IsCredsOfType 1 text credentials
  pub passwords_is : IsPasswordCreds credentials texts
  pub texts_are : AreTextsOf texts buffers

-- The text does not begin with TSCredentials, of whatever type.
abbrev pub IsNoCreds : List ℕ → Type 0
IsNoCreds text = (cred_type credentials : List ℕ) → ¬ IsCreds text cred_type credentials

-- TSCredentials of a password, without TSPasswordCreds in them
abbrev pub LacksPasswords : List ℕ → Type 0
LacksPasswords text = (credentials : List ℕ) × IsCredsOfType 1 text credentials ×
    ((texts : Passwords) → ¬ IsPasswordCreds credentials texts)

-- The text begins with TSCredentials of a password that represent these buffers, and the rest
-- follows their SEQUENCE.
abbrev pub StandsBefore : List ℕ → AuthIdentityBuffers → List ℕ → Type 0
StandsBefore text buffers rest = (t : StandsFor text buffers) × (t.creds_is.1.behind ≡ rest)

-- the text begins with the header of a SEQUENCE
abbrev pub BeginsSequence : List ℕ → Type 0
BeginsSequence text = (len following : List ℕ) × (n : ℕ) × IsLength len n ×
    (text ≡ (0x30 ∷ len) ++ following)
