-- The scenario of a number, as made by a program that tries many.
use Rattle.std.specs.Prelude.{ℕ, ◌/◌, ◌%◌, ◌==◌, ◌||◌, Bool, List, [], ◌∷◌, ◌++◌, Some, codes}
use Rattle.std.specs.Prelude.{replicate, if◌then◌else◌}
use Rattle.std.specs.Fmt.{decimal}
use Rattle.sspi_delegate.specs.declared.edit.EditKind.TheVariants.{Drop}
use Rattle.sspi_names.specs.Name.{Name, down_level, inner_of}
use Rattle.sspi_scenario.specs.declared.scenario.Mode.{Mode}
use Rattle.sspi_scenario.specs.declared.scenario.Mode.TheVariants.{Ntlm, Negotiate}
use Rattle.sspi_scenario.specs.declared.scenario.Package.TheVariants.{Kerberos}
use Rattle.sspi_scenario.specs.declared.scenario.Scenario.{Scenario}
use Rattle.sspi_scenario.specs.Scenario.{defaults, own_identity}

-- the even ones have plain NTLM, the odd ones a negotiation
abbrev pub mode_at : ℕ → Mode
mode_at i = if i % 2 == 0 then Ntlm else Negotiate

-- two of every four have version 4 at both ends, which then accept nothing lower
abbrev pub is_old : ℕ → Bool
is_old i = (i / 2) % 2 == 1

abbrev pub version_at : ℕ → ℕ
version_at i = if is_old i then 4 else 6

abbrev pub least_at : ℕ → ℕ
least_at i = if is_old i then 4 else 5

-- `D12\u12` and `p12` for the number 12
abbrev pub user_at : ℕ → Name
user_at i = down_level (codes "u" ++ decimal i) (codes "D" ++ decimal i)

abbrev pub password_at : ℕ → List ℕ
password_at i = codes "p" ++ decimal i

-- the low byte of the number, forty times
abbrev pub key_at : ℕ → List ℕ
key_at i = replicate 40 (i % 256)

-- the scenario of two ends that have all this in common, with defaults for the rest
abbrev pub usual : Mode → ℕ → ℕ → Name → List ℕ → List ℕ → Scenario
usual mode version least user password key = record defaults.scenario {
  mode = mode;
  user = user;
  password = password;
  key = key;
  server_key = key;
  client_version = version;
  server_version = version;
  client_least = least;
  server_least = least;
  account = own_identity user password ∷ [];
}

-- the second message is not delivered
abbrev pub with_loss : Scenario → Scenario
with_loss s = record s { edit = s.edit ++ record { entry = 1; kind = Drop } ∷ [] }

-- both ends begin with Kerberos: the client knows a KDC, which knows the user, and the server has a
-- ticket
abbrev pub with_kerberos : Scenario → Scenario
with_kerberos s = record s {
  client_protocol = Kerberos;
  server_protocol = Kerberos;
  client_url = Some (codes "tcp://kdc");
  kdc_user = s.kdc_user ++ inner_of s.user ∷ [];
  ticket = Some (replicate 32 0);
}

-- the server knows the user with another password
abbrev pub with_other_password : Scenario → Scenario
with_other_password s = record s { account = own_identity s.user (codes "other") ∷ [] }

-- what hinders the ends, and the mechanism they begin with, by the number modulo eight
abbrev pub set_apart : ℕ → Scenario → Scenario
set_apart remainder s =
    if remainder == 3 || remainder == 7 then with_loss s
    else if remainder == 4 then record s { turns = 2 }
    else if remainder == 5 then with_kerberos s
    else if remainder == 6 then with_other_password s
    else s

abbrev pub usual_at : ℕ → Scenario
usual_at i = usual (mode_at i) (version_at i) (least_at i) (user_at i) (password_at i) (key_at i)

abbrev pub numbered : ℕ → Scenario
numbered i = set_apart (i % 8) (usual_at i)
