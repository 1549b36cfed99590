-- TSCredentials with a password (MS-CSSP 2.2.1.2, 2.2.1.2.1), in the pieces of BER:
--
--     TSCredentials   ::= SEQUENCE { [0] credType INTEGER, [1] credentials OCTET STRING }
--     TSPasswordCreds ::= SEQUENCE {
--         [0] domainName OCTET STRING, [1] userName OCTET STRING, [2] password OCTET STRING }
--
-- An element is a tag, a length of n, and n bytes. What is inside an element is read within these
-- n bytes alone; bytes after what is read there are ignored.
use Rattle.std.specs.Prelude.{◌++◌, ◌==◌, nat_le, ℕ, List, [], ◌∷◌, length, Result, Ok, Err, None}
use Rattle.std.specs.Prelude.{if◌then◌else◌}
use Rattle.sspi_types.specs.declared.error.Error.{Error}
use Rattle.sspi_types.specs.declared.error_kind.ErrorKind.TheVariants.{InvalidToken}
use Rattle.sspi_types.specs.declared.error_kind.ErrorKind.TheVariants.{UnsupportedFunction}
use Rattle.sspi_types.specs.declared.error_kind.ErrorKind.TheVariants.{UnsupportedPreAuth}
use Rattle.sspi_types.specs.declared.error_kind.ErrorKind.TheVariants.{InternalError}
use Rattle.sspi_types.specs.declared.reason.Reason.TheVariants.{TokenForm, CredType, SmartCard}
use Rattle.sspi_types.specs.declared.reason.Reason.TheVariants.{Keytab, TooLong}
use Rattle.sspi_ber.specs.Pieces.{Read, ◌>>=◌, element_at}
use Rattle.sspi_ber.specs.Forms.{max_content}
use Rattle.sspi_ber.specs.Short.{element, int_short}
use Rattle.sspi_names.specs.Utf16.{bytes_le, decode_le}
use Rattle.sspi_names.specs.Utf16.{utf16_refusal}
use Rattle.sspi_names.specs.declared.error.Utf16Error.{Utf16Error}
use Rattle.sspi_names.specs.declared.identity.AuthIdentityBuffers.{AuthIdentityBuffers}
use Rattle.sspi_names.specs.declared.credentials.CredentialsBuffers.{CredentialsBuffers}
use Rattle.sspi_names.specs.declared.credentials.CredentialsBuffers.TheVariants as credentials
use Rattle.sspi_tsreq.specs.declared.mode.CredSspMode.{CredSspMode}
use Rattle.sspi_tsreq.specs.declared.mode.CredSspMode.TheVariants.{WithCredentials, CredentialLess}

-- ---- the refusals

-- a structure is malformed
abbrev pub malformed : Error
malformed = record { error_type = InvalidToken; description = TokenForm; nstatus = None }

-- a credType without content, or with a number that has no meaning
abbrev pub unknown_type : Error
unknown_type = record { error_type = InvalidToken; description = CredType; nstatus = None }

abbrev pub smart_card : Error
smart_card = record { error_type = UnsupportedFunction; description = SmartCard; nstatus = None }

abbrev pub keytab_refused : Error
keytab_refused = record { error_type = UnsupportedPreAuth; description = Keytab; nstatus = None }

abbrev pub too_long : Error
too_long = record { error_type = InternalError; description = TooLong; nstatus = None }

-- ---- reading

-- the bytes of the OCTET STRING inside the field with this tag
unfoldable pub octets_in : ℕ → List ℕ → Read (List ℕ)
octets_in tag bytes = do
  field ← element_at tag bytes
  octets ← element_at 0x04 field.0
  Ok (octets.0, field.1)

-- the fields of TSCredentials: the content of credType, and the credentials
pub record Fields : Type 0 where
  pub cred_type : List ℕ
  pub credentials : List ℕ

unfoldable pub fields_at : List ℕ → Read Fields
fields_at body = do
  field ← element_at 0xA0 body
  number ← element_at 0x02 field.0
  octets ← octets_in 0xA1 field.1
  Ok (record { cred_type = number.0; credentials = octets.0 }, octets.1)

-- the fields of TSPasswordCreds
pub record Passwords : Type 0 where
  pub domain : List ℕ
  pub user : List ℕ
  pub password : List ℕ

unfoldable pub passwords_at : List ℕ → Read Passwords
passwords_at bytes = do
  body ← element_at 0x30 bytes
  domain ← octets_in 0xA0 body.0
  user ← octets_in 0xA1 domain.1
  password ← octets_in 0xA2 user.1
  Ok (record { domain = domain.0; user = user.0; password = password.0 }, body.1)

-- a refusal skips what follows
infixl 10 ◌and_then◌
abbrev pub ◌and_then◌ : {A B : Type 0} → Result A Error → (A → Result B Error) → Result B Error
(Ok x) and_then next = next x
(Err error) and_then next = Err error

-- the value that was read, or the refusal of a malformed structure
abbrev pub spelled_or_malformed : {A : Type 0} → Read A → Result A Error
spelled_or_malformed (Ok x) = Ok x.0
spelled_or_malformed (Err fault) = Err malformed

-- what the first content byte of credType says: 1 is a password, 2 a smart card
abbrev pub password_type : List ℕ → Result (Unit {0}) Error
password_type [] = Err unknown_type
password_type (number ∷ rest) = if number == 1 then Ok tt else if number == 2 then Err smart_card
    else Err unknown_type

-- the code units of a text
abbrev pub text_or_refused : Result (List ℕ) Utf16Error → Result (List ℕ) Error
text_or_refused (Ok units) = Ok units
text_or_refused (Err error) = Err (utf16_refusal error)

-- the buffers of the three texts
unfoldable pub texts_of : Passwords → Result CredentialsBuffers Error
texts_of fields =
    text_or_refused (decode_le fields.domain) and_then λ domain.
    text_or_refused (decode_le fields.user) and_then λ user.
    text_or_refused (decode_le fields.password) and_then λ password.
    Ok (credentials.AuthIdentity (record {
      user = user;
      domain = domain;
      password = record { value = password };
    }))

-- the buffers inside TSCredentials, or the first refusal
unfoldable pub creds_in : List ℕ → Result CredentialsBuffers Error
creds_in body =
    spelled_or_malformed (fields_at body) and_then λ fields.
    password_type fields.cred_type and_then λ known.
    spelled_or_malformed (passwords_at fields.credentials) and_then λ passwords.
    texts_of passwords

-- the buffers that a text of TSCredentials represents, or the first refusal
unfoldable pub creds_of : List ℕ → Result CredentialsBuffers Error
creds_of text = spelled_or_malformed (element_at 0x30 text) and_then creds_in

-- ---- writing

-- the buffers that are delegated: three empty texts if the client keeps its credentials
abbrev pub delegated : CredSspMode → AuthIdentityBuffers → AuthIdentityBuffers
delegated WithCredentials buffers = buffers
delegated CredentialLess buffers = record {
  user = [];
  domain = [];
  password = record { value = [] };
}

abbrev pub delegated_credentials : CredSspMode → CredentialsBuffers → CredentialsBuffers
delegated_credentials mode (credentials.AuthIdentity buffers) =
    credentials.AuthIdentity (delegated mode buffers)
delegated_credentials mode (credentials.Keytab identity) = credentials.Keytab identity

-- a field with an OCTET STRING
unfoldable pub wrapped_octets : ℕ → List ℕ → List ℕ
wrapped_octets tag content = element tag (element 0x04 content)

-- the content of TSPasswordCreds
unfoldable pub password_fields : List ℕ → List ℕ → List ℕ → List ℕ
password_fields domain user password = wrapped_octets 0xA0 domain ++
    (wrapped_octets 0xA1 user ++ wrapped_octets 0xA2 password)

-- the field with the type number of a password
unfoldable pub password_type_field : List ℕ
password_type_field = element 0xA0 (int_short 1)

-- the content of TSCredentials
unfoldable pub creds_body : List ℕ → List ℕ → List ℕ → List ℕ
creds_body domain user password = password_type_field ++
    wrapped_octets 0xA1 (element 0x30 (password_fields domain user password))

-- the SEQUENCE of a content, if it fits
abbrev pub spelled_if_fits : List ℕ → Result (List ℕ) Error
spelled_if_fits body = if nat_le (length body) max_content then Ok (element 0x30 body)
    else Err too_long

-- the shortest encoding of buffers
unfoldable pub buffers_text : AuthIdentityBuffers → Result (List ℕ) Error
buffers_text b = spelled_if_fits (creds_body (bytes_le b.domain) (bytes_le b.user)
    (bytes_le b.password.value))

-- the text of credentials; a keytab has none, whatever the mode
abbrev pub creds_text : CredentialsBuffers → CredSspMode → Result (List ℕ) Error
creds_text (credentials.AuthIdentity buffers) mode = buffers_text (delegated mode buffers)
creds_text (credentials.Keytab identity) mode = Err keytab_refused
