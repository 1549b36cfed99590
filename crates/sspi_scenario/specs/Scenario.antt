-- The scenario of a text.
use Rattle.std.specs.Prelude.{◌≡◌, ℕ, ◌&&◌, nat_le, Bool, List, [], ◌∷◌, length, replicate, codes}
use Rattle.std.specs.Prelude.{Option, Some, None, Result, Ok, Err}
use Rattle.std.specs.Prelude.{fold, if◌then◌else◌}
use Rattle.std.specs.Str.{is_utf8}
use Rattle.sspi_names.specs.Name.{Name, down_level}
use Rattle.sspi_names.specs.declared.identity.AuthIdentity.{AuthIdentity}
use Rattle.sspi_tsreq.specs.declared.mode.CredSspMode.TheVariants.{WithCredentials}
use Rattle.sspi_scenario.specs.declared.key.Key.{Key}
use Rattle.sspi_scenario.specs.declared.key.Key.TheVariants as key
use Rattle.sspi_scenario.specs.declared.purpose.Purpose.{Purpose}
use Rattle.sspi_scenario.specs.declared.scenario.Mode.TheVariants as mode
use Rattle.sspi_scenario.specs.declared.scenario.Package.TheVariants as packages
use Rattle.sspi_scenario.specs.declared.scenario.Scenario.{Scenario}
use Rattle.sspi_scenario.specs.declared.scenario.ScenarioError.{ScenarioError}
use Rattle.sspi_scenario.specs.declared.scenario.ScenarioError.TheVariants as error
use Rattle.sspi_scenario.specs.declared.values.Values.{Values}
use Rattle.sspi_scenario.specs.declared.words.Accounts.{Accounts}
use Rattle.sspi_scenario.specs.declared.words.Accounts.TheVariants as accounts
use Rattle.sspi_scenario.specs.Faults.{Line, Told, lines_from, first_fault, keys_of, told_in}
use Rattle.sspi_scenario.specs.Keys.{has, has_required}
use Rattle.sspi_scenario.specs.Lines.{lines_of}
use Rattle.sspi_scenario.specs.Purposes.{has_random}
use Rattle.sspi_scenario.specs.Reading.{text_limit}

-- within the length limit, and UTF-8
abbrev pub is_readable : List ℕ → Bool
is_readable text = nat_le (length text) text_limit && is_utf8 text

abbrev pub own_identity : Name → List ℕ → AuthIdentity
own_identity name secret = record { username = name; password = record { value = secret } }

-- the proxy's table: the accounts that lines give; if there are none, the user's own, or nothing
abbrev pub proxy_table : List AuthIdentity → Accounts → AuthIdentity → List AuthIdentity
proxy_table [] accounts.Own own = own ∷ []
proxy_table [] accounts.None own = []
proxy_table (told ∷ more) word own = told ∷ more

-- the values of a text without lines; every scenario replaces those of user, password and keys
abbrev pub defaults : Values
defaults = record {
  scenario = record {
    mode = mode.Ntlm;
    user = down_level [] [];
    password = [];
    key = [];
    server_key = [];
    client_version = 6;
    server_version = 6;
    nonce = replicate 32 0;
    challenge = replicate 8 0;
    computer = codes "CLIENT";
    target = codes "TERMSRV/host.example.com";
    delegation = WithCredentials;
    keytab = None;
    client_protocol = packages.Ntlm;
    server_protocol = packages.Ntlm;
    client_packages = None;
    server_packages = None;
    client_url = None;
    kdc = [];
    kdc_user = [];
    kdc_answer = [];
    ticket = None;
    account = [];
    proxy_fail = [];
    turns = 5;
    edit = [];
    deliver = [];
    client_least = 5;
    server_least = 5;
    admit = [];
  };
  accounts = accounts.Own;
}

-- the values that lines give, one after the other
unfoldable pub values_of : List Told → Values
values_of lines = fold (λ values told. told.change values) defaults lines

-- the scenario of the values of lines with these keys; the server's key is the client's if no line
-- gives it
abbrev pub finished : List Key → Values → Scenario
finished keys values = record values.scenario {
  server_key = if has keys key.ServerKey then values.scenario.server_key else values.scenario.key;
  account = proxy_table values.scenario.account values.accounts
      (own_identity values.scenario.user values.scenario.password);
}

-- the same, if all keys are there that a scenario for this purpose must have
abbrev pub completed_by : Purpose → List Key → Values → Option Scenario
completed_by purpose keys values = if has_required keys && has_random purpose keys
    then Some (finished keys values) else None

-- the scenario of lines without a faulty one, or none if a required key is missing
unfoldable pub completed : Purpose → List Told → Option Scenario
completed purpose lines = completed_by purpose (keys_of lines) (values_of lines)

-- the first faulty line decides; a missing key counts only if there is none
abbrev pub decided : Option ℕ → Option Scenario → Result Scenario ℕ
decided (Some number) scenario = Err number
decided None (Some scenario) = Ok scenario
decided None None = Err 0

unfoldable pub scenario_of_lines : Purpose → List Line → Result Scenario ℕ
scenario_of_lines purpose lines = decided (first_fault [] lines) (completed purpose (told_in lines))

-- the scenario of a text for this purpose, or the number of its first faulty line, from 1; 0 if no
-- line is to blame
unfoldable pub scenario_of : Purpose → List ℕ → Result Scenario ℕ
scenario_of purpose text =
    if is_readable text then scenario_of_lines purpose (lines_from purpose 1 (lines_of text))
    else Err 0

-- a text gives its scenario, or is refused at the line that `scenario_of` names; out of memory is
-- unconstrained
abbrev pub Parses : Purpose → List ℕ → Result Scenario ScenarioError → Type 0
Parses purpose text (Ok scenario) = scenario_of purpose text ≡ Ok scenario
Parses purpose text (Err (error.Line number)) = scenario_of purpose text ≡ Err number
Parses purpose text (Err error.InsufficientMemory) = Unit {0}
