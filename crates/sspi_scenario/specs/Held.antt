-- What holds of the values of every scenario.
use Rattle.std.specs.Prelude.{◌≡◌, ℕ, ◌^◌, ◌<◌, List, length, Option, IfSome}
use Rattle.std.specs.Str.{IsUtf8}
use Rattle.sspi_names.specs.Name.{Name, IsName}
use Rattle.sspi_scenario.specs.declared.scenario.Scenario.{Scenario}

-- a name and a text in UTF-8, versions of 32 bits, and the lengths of nonce, challenge and ticket
pub record AreHeld (user : Name) (password : List ℕ) (client_version server_version : ℕ)
    (nonce challenge : List ℕ)
    (ticket : Option (List ℕ)) : Type 0 where
  pub name : IsName user
  pub password_text : IsUtf8 password
  pub client_bits : client_version < 2 ^ 32
  pub server_bits : server_version < 2 ^ 32
  pub nonce_length : length nonce ≡ 32
  pub challenge_length : length challenge ≡ 8
  pub ticket_length : IfSome ticket (λ bytes. length bytes ≡ 32)

abbrev pub HoldsValues : Scenario → Type 0
HoldsValues s = AreHeld s.user s.password s.client_version s.server_version s.nonce s.challenge
    s.ticket
