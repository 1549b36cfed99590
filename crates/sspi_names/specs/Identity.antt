-- An identity and credentials, and the buffers of each.
use Rattle.std.specs.Prelude.{◌≡◌, List, [], ℕ, Option, Some, None, Result, Ok, Err, option_map}
use Rattle.std.specs.Str.{IsUtf8}
use Rattle.sspi_types.specs.declared.error.Error.{Error}
use Rattle.sspi_types.specs.Errors.{memory_error}
use Rattle.sspi_names.specs.declared.credentials.Credentials.{Credentials}
use Rattle.sspi_names.specs.declared.credentials.Credentials.TheVariants as credentials
use Rattle.sspi_names.specs.declared.credentials.CredentialsBuffers.{CredentialsBuffers}
use Rattle.sspi_names.specs.declared.credentials.CredentialsBuffers.TheVariants as buffered
use Rattle.sspi_names.specs.declared.format.UserNameFormat.{UserNameFormat}
use Rattle.sspi_names.specs.declared.format.UserNameFormat.TheVariants.{UserPrincipalName}
use Rattle.sspi_names.specs.declared.format.UserNameFormat.TheVariants.{DownLevelLogonName}
use Rattle.sspi_names.specs.declared.identity.AuthIdentity.{AuthIdentity}
use Rattle.sspi_names.specs.declared.identity.AuthIdentityBuffers.{AuthIdentityBuffers}
use Rattle.sspi_names.specs.Name.{Name, IsName, inner_of, new_name, bad_name}
use Rattle.sspi_names.specs.Utf16.{units_of, text_of, IsUtf16}

-- a user principal name goes whole into the user; a down-level name keeps its parts separate
abbrev pub user_text : UserNameFormat → Name → List ℕ
user_text UserPrincipalName name = inner_of name
user_text DownLevelLogonName name = name.account

abbrev pub domain_text : UserNameFormat → Name → List ℕ
domain_text UserPrincipalName name = []
domain_text DownLevelLogonName name = name.domain

unfoldable pub buffers_of : AuthIdentity → AuthIdentityBuffers
buffers_of i = record {
  user = units_of (user_text i.username.format i.username);
  domain = units_of (domain_text i.username.format i.username);
  password = record { value = units_of i.password.value };
}

-- the identity in the buffers, or none if user and domain mix the forms of a name
unfoldable pub identity_of : AuthIdentityBuffers → Option AuthIdentity
identity_of b =
    option_map (λ name. record {
      username = name;
      password = record { value = text_of b.password.value };
    })
    (new_name (text_of b.user) (text_of b.domain))

-- exactly that identity; the name's refusal exactly when there is none; allocates only
-- if there is one
abbrev pub IsIdentified : Result AuthIdentity Error → Option AuthIdentity → Type 0
IsIdentified (Ok identity) found = found ≡ Some identity
IsIdentified (Err e) None = e ≡ bad_name
IsIdentified (Err e) (Some identity) = e ≡ memory_error

-- what is true of each identity that is made
pub record IsIdentity (i : AuthIdentity) : Type 0 where
  pub name : IsName i.username
  pub password_text : IsUtf8 i.password.value

-- what is true of all buffers that are made
pub record AreBuffers (b : AuthIdentityBuffers) : Type 0 where
  pub user_text : IsUtf16 b.user
  pub domain_text : IsUtf16 b.domain
  pub password_text : IsUtf16 b.password.value

-- ---- credentials

abbrev pub credentials_buffers_of : Credentials → CredentialsBuffers
credentials_buffers_of (credentials.AuthIdentity identity) =
    buffered.AuthIdentity (buffers_of identity)
credentials_buffers_of (credentials.Keytab identity) = buffered.Keytab identity

-- the part with a password
abbrev pub password_identity : Credentials → Option AuthIdentity
password_identity (credentials.AuthIdentity identity) = Some identity
password_identity (credentials.Keytab identity) = None

abbrev pub password_buffers : CredentialsBuffers → Option AuthIdentityBuffers
password_buffers (buffered.AuthIdentity buffers) = Some buffers
password_buffers (buffered.Keytab identity) = None

-- what is true of all buffers that are made of credentials with a password
abbrev pub AreCredentials : CredentialsBuffers → Type 0
AreCredentials (buffered.AuthIdentity buffers) = AreBuffers buffers
AreCredentials (buffered.Keytab identity) = Unit {0}
