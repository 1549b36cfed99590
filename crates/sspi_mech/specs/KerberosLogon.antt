-- Who a client of plain Kerberos is, and which KDC it asks.
use Rattle.std.specs.Prelude.{◌≡◌, ◌⊎◌, ℕ, List, length, take, codes, nat_lt, Option, None, Some}
use Rattle.std.specs.Prelude.{Result, Ok, Err, if◌then◌else◌}
use Rattle.std.specs.Str.{bytes_eq}
use Rattle.sspi_types.specs.declared.credential_use.CredentialUse.{CredentialUse}
use Rattle.sspi_types.specs.declared.credential_use.CredentialUse.TheVariants.{Inbound, Outbound}
use Rattle.sspi_types.specs.declared.credential_use.CredentialUse.TheVariants.{Both, Default}
use Rattle.sspi_types.specs.declared.error_kind.ErrorKind.{ErrorKind}
use Rattle.sspi_types.specs.declared.error_kind.ErrorKind.TheVariants.{UnknownCredentials}
use Rattle.sspi_types.specs.declared.error_kind.ErrorKind.TheVariants.{NoCredentials}
use Rattle.sspi_types.specs.declared.error_kind.ErrorKind.TheVariants.{NoAuthenticatingAuthority}
use Rattle.sspi_types.specs.declared.error_kind.ErrorKind.TheVariants.{InternalError}
use Rattle.sspi_names.specs.Identity.{credentials_buffers_of}
use Rattle.sspi_names.specs.Kdcs.{url_of}
use Rattle.sspi_names.specs.Name.{Name, inner_of, new_name, domain_of}
use Rattle.sspi_names.specs.Utf16.{text_of}
use Rattle.sspi_names.specs.declared.credentials.Credentials.{Credentials}
use Rattle.sspi_names.specs.declared.credentials.CredentialsBuffers.{CredentialsBuffers}
use Rattle.sspi_names.specs.declared.credentials.CredentialsBuffers.TheVariants as buffers
use Rattle.sspi_names.specs.declared.kdc_table.KdcEntry.{KdcEntry}
use Rattle.sspi_names.specs.declared.network.NetworkProtocol.{NetworkProtocol}
use Rattle.sspi_names.specs.declared.network.NetworkProtocol.TheVariants.{Tcp, Udp, Http, Https}
use Rattle.sspi_names.specs.declared.network.NetworkRequest.{NetworkRequest}
use Rattle.sspi_mech.specs.declared.kerberos.logon.Logon.{Logon}
use Rattle.sspi_mech.specs.declared.kerberos.realms.Realms.{Realms}

-- all credentials are taken, even a keytab; outbound use requires some
abbrev pub acquired : CredentialUse → Option Credentials →
    Result (Option CredentialsBuffers) ErrorKind
acquired use_of (Some credentials) = Ok (Some (credentials_buffers_of credentials))
acquired Inbound None = Ok None
acquired Outbound None = Err NoCredentials
acquired Both None = Ok None
acquired Default None = Ok None

abbrev pub name_or : Option Name → Result Name ErrorKind
name_or None = Err UnknownCredentials
name_or (Some name) = Ok name

-- the name in the credentials of a handle
abbrev pub name_in : Option CredentialsBuffers → Result Name ErrorKind
name_in None = Err NoCredentials
name_in (Some (buffers.AuthIdentity identity)) =
    name_or (new_name (text_of identity.user) (text_of identity.domain))
name_in (Some (buffers.Keytab identity)) = Ok identity.username

-- ---- the KDC

abbrev pub url_in : List KdcEntry → Option (List ℕ) → Option (List ℕ)
url_in kdcs None = None
url_in kdcs (Some realm) = url_of kdcs realm

-- the one URL of the configuration, or else that of the realm that is the name's domain
abbrev pub url_by : Option (List ℕ) → List KdcEntry → Name → Option (List ℕ)
url_by None kdcs name = url_in kdcs (domain_of name)
url_by (Some url) kdcs name = Some url

abbrev pub url_or : Option (List ℕ) → Result (List ℕ) ErrorKind
url_or None = Err NoAuthenticatingAuthority
url_or (Some url) = Ok url

abbrev pub kdc_of : Realms → Name → Result (List ℕ) ErrorKind
kdc_of realms name = url_or (url_by realms.kdc_url realms.kdcs name)

-- ---- the client with its KDC: the KDC is looked up before the name is measured

-- a name that a message can carry
abbrev pub short_name : Name → Option Name
short_name name = if nat_lt 65535 (length (inner_of name)) then None else Some name

abbrev pub logon_by : Option Name → List ℕ → Result Logon ErrorKind
logon_by None url = Err InternalError
logon_by (Some name) url = Ok (record { name = name; url = url })

abbrev pub logon_at : Name → Result (List ℕ) ErrorKind → Result Logon ErrorKind
logon_at name (Ok url) = logon_by (short_name name) url
logon_at name (Err kind) = Err kind

abbrev pub logon_as : Realms → Result Name ErrorKind → Result Logon ErrorKind
logon_as realms (Ok name) = logon_at name (kdc_of realms name)
logon_as realms (Err kind) = Err kind

abbrev pub logon_of : Realms → Option CredentialsBuffers → Result Logon ErrorKind
logon_of realms handle = logon_as realms (name_in handle)

-- what is found about a name only after it is copied from the credentials: it has no KDC, or is too
-- long
abbrev pub IsLate : ErrorKind → Type 0
IsLate kind = (kind ≡ NoAuthenticatingAuthority) ⊎ (kind ≡ InternalError)

abbrev pub MayWantLogon : Result Logon ErrorKind → Type 0
MayWantLogon (Ok logon) = Unit {0}
MayWantLogon (Err kind) = IsLate kind

-- ---- the request

abbrev pub protocol_of : List ℕ → NetworkProtocol
protocol_of url =
    if bytes_eq (codes "udp://") (take 6 url) then Udp
    else if bytes_eq (codes "http://") (take 7 url) then Http
    else if bytes_eq (codes "https://") (take 8 url) then Https
    else Tcp

abbrev pub request_at : List ℕ → List ℕ → NetworkRequest
request_at url payload = record { protocol = protocol_of url; url = url; payload = payload }
