-- What the ends are made from, as C passes it in.
use Rattle.std.specs.Prelude.{◌≡◌, ◌≢◌, ℕ, ◌==◌, nat_le, Bool, ◌&&◌, ◌||◌, List, length, replicate}
use Rattle.std.specs.Prelude.{Option, None, Some, Result, Ok, Err, if◌then◌else◌}
use Rattle.std.specs.Str.{is_utf8}
use Rattle.sspi_mech.specs.declared.config.NtlmConfig.{NtlmConfig}
use Rattle.sspi_names.specs.Name.{Name, parse_name}
use Rattle.sspi_names.specs.declared.credentials.Credentials.TheVariants as credentials
use Rattle.sspi_names.specs.declared.identity.AuthIdentity.{AuthIdentity}
use Rattle.sspi_credssp.specs.Ends.{ClientSettings, ServerSettings, new_client, new_server}
use Rattle.sspi_credssp.specs.declared.mode.ClientMode.TheVariants as client
use Rattle.sspi_credssp.specs.declared.mode.ServerMode.TheVariants as server
use Rattle.sspi_tsreq.specs.declared.mode.CredSspMode.{CredSspMode}
use Rattle.sspi_tsreq.specs.declared.mode.CredSspMode.TheVariants.{WithCredentials, CredentialLess}
use Rattle.newaksu_c.specs.declared.settings.ClientOptions.{ClientOptions}
use Rattle.newaksu_c.specs.declared.settings.ServerOptions.{ServerOptions}
use Rattle.newaksu_c.specs.Status.{invalid_parameter, insufficient_memory}

-- the code of UnknownCredentials, for a name that mixes the forms of a name
abbrev pub unknown_credentials : ℕ
unknown_credentials = 0x8009030d

-- this value or this refusal, or out of memory
abbrev pub OrMemory : {X : Type 0} → Result X ℕ → Result X ℕ → Type 0
OrMemory (Ok x) answer = answer ≡ Ok x
OrMemory (Err status) answer = status ≢ insufficient_memory → answer ≡ Err status

-- after a refusal, nothing follows
infixl 10 ◌then_with◌
abbrev pub ◌then_with◌ : {A B : Type 0} → Result A ℕ → (A → Result B ℕ) → Result B ℕ
(Ok x) then_with next = next x
(Err status) then_with next = Err status

abbrev pub text_of : List ℕ → Result (List ℕ) ℕ
text_of bytes = if is_utf8 bytes then Ok bytes else Err invalid_parameter

abbrev pub named : Option Name → Result Name ℕ
named None = Err unknown_credentials
named (Some name) = Ok name

abbrev pub name_of : List ℕ → Result Name ℕ
name_of bytes = if is_utf8 bytes then named (parse_name bytes) else Err invalid_parameter

abbrev pub identity_of : List ℕ → List ℕ → Result AuthIdentity ℕ
identity_of name password =
    name_of name then_with λ username.
    text_of password then_with λ text.
    Ok (record { username = username; password = record { value = text } })

-- the versions of CredSSP (MS-CSSP 2.2.1)
abbrev pub is_version : ℕ → Bool
is_version number = nat_le 2 number && nat_le number 6

-- the version that an end speaks, and the least that it accepts, where 0 accepts any
abbrev pub check_versions : ℕ → ℕ → Result (Unit {0}) ℕ
check_versions version least =
    if is_version version && (least == 0 || is_version least) then Ok tt else Err invalid_parameter

abbrev pub delegation_of : ℕ → Result CredSspMode ℕ
delegation_of number = if number == 0 then Ok WithCredentials else if number == 1
    then Ok CredentialLess else Err invalid_parameter

abbrev pub nonce_of : List ℕ → Result (List ℕ) ℕ
nonce_of bytes = if length bytes == 32 then Ok bytes else Err invalid_parameter

abbrev pub challenge_of : List ℕ → Result (List ℕ) ℕ
challenge_of bytes = if length bytes == 8 then Ok bytes else Err invalid_parameter

abbrev pub config_with : List ℕ → NtlmConfig
config_with challenge = record { client_computer_name = None; challenge = challenge }

-- the settings of a client, without SPNEGO
unfoldable pub client_settings : ClientOptions → List ℕ → List ℕ → List ℕ → List ℕ → List ℕ →
    Result ClientSettings ℕ
client_settings options key target nonce name password =
    check_versions options.version options.least_version then_with λ _.
    delegation_of options.delegation then_with λ delegation.
    nonce_of nonce then_with λ nonce_bytes.
    text_of target then_with λ service.
    identity_of name password then_with λ identity.
    Ok (record (new_client key (credentials.AuthIdentity identity) delegation options.version
    (client.Ntlm (config_with (replicate 8 0)))
    service nonce_bytes) { least = options.least_version })

-- the settings of a server, without SPNEGO
abbrev pub server_settings : ServerOptions → List ℕ → List ℕ → ServerSettings
server_settings options key challenge =
    record (new_server key options.version
    (server.Ntlm (config_with challenge))) { least = options.least_version }
