-- The table of keys: each has one row, with its name, whether it may be repeated, and what its
-- values mean.
use Rattle.std.specs.Prelude.{ℕ, Bool, true, false, List, [], ◌∷◌, ◌++◌, Option, Some, codes}
use Rattle.std.specs.Option.{option_map}
use Rattle.sspi_names.specs.Name.{parse_name}
use Rattle.sspi_scenario.specs.declared.key.Key.{Key}
use Rattle.sspi_scenario.specs.declared.key.Key.TheVariants as key
use Rattle.sspi_scenario.specs.declared.scenario.Scenario.{Scenario}
use Rattle.sspi_scenario.specs.declared.values.Values.{Values}
use Rattle.sspi_scenario.specs.Accounts.{account_of}
use Rattle.sspi_scenario.specs.Deliveries.{delivery_of}
use Rattle.sspi_scenario.specs.Edits.{edit_of}
use Rattle.sspi_scenario.specs.Hex.{hex_of, hex_of_size}
use Rattle.sspi_scenario.specs.Kdcs.{kdc_of}
use Rattle.sspi_scenario.specs.Numbers.{number_of}
use Rattle.sspi_scenario.specs.Scripts.{scripted_of}
use Rattle.sspi_scenario.specs.Words.{mode_of, package_of, delegation_of, accounts_of}

-- value: how a value changes the values of the earlier lines, or none if it violates the key's
-- grammar
pub record Row : Type 0 where
  pub name : List ℕ
  pub repeats : Bool
  pub value : List ℕ → Option (Values → Values)

-- a key that may occur once, and one that may be repeated
abbrev pub once : List ℕ → (List ℕ → Option (Values → Values)) → Row
once name value = record { name = name; repeats = false; value = value }

abbrev pub again : List ℕ → (List ℕ → Option (Values → Values)) → Row
again name value = record { name = name; repeats = true; value = value }

-- what a grammar makes of a value, put in its place in the scenario
abbrev pub tells : {A : Type 0} → (List ℕ → Option A) → (A → Scenario → Scenario) → List ℕ →
    Option (Values → Values)
tells grammar place text = option_map (λ x values.
    record values { scenario = place x values.scenario }) (grammar text)

-- a value that is any text
abbrev pub text_of : List ℕ → Option (List ℕ)
text_of value = Some value

abbrev pub row : Key → Row
row key.Mode = once (codes "mode") (tells mode_of (λ x s. record s { mode = x }))
row key.User = once (codes "user") (tells parse_name (λ x s. record s { user = x }))
row key.Password = once (codes "password") (tells text_of (λ x s. record s { password = x }))
row key.Key = once (codes "key") (tells hex_of (λ x s. record s { key = x }))
row key.ServerKey = once (codes "server-key") (tells hex_of (λ x s. record s { server_key = x }))
row key.ClientVersion = once (codes "client-version")
    (tells number_of (λ x s. record s { client_version = x }))
row key.ServerVersion = once (codes "server-version")
    (tells number_of (λ x s. record s { server_version = x }))
row key.Nonce = once (codes "nonce") (tells (hex_of_size 32) (λ x s. record s { nonce = x }))
row key.Challenge = once (codes "challenge")
    (tells (hex_of_size 8) (λ x s. record s { challenge = x }))
row key.Computer = once (codes "computer") (tells text_of (λ x s. record s { computer = x }))
row key.Target = once (codes "target") (tells text_of (λ x s. record s { target = x }))
row key.Delegation = once (codes "delegation")
    (tells delegation_of (λ x s. record s { delegation = x }))
row key.Keytab = once (codes "keytab") (tells hex_of (λ x s. record s { keytab = Some x }))
row key.ClientProtocol = once (codes "client-protocol")
    (tells package_of (λ x s. record s { client_protocol = x }))
row key.ServerProtocol = once (codes "server-protocol")
    (tells package_of (λ x s. record s { server_protocol = x }))
row key.ClientPackages = once (codes "client-packages")
    (tells text_of (λ x s. record s { client_packages = Some x }))
row key.ServerPackages = once (codes "server-packages")
    (tells text_of (λ x s. record s { server_packages = Some x }))
row key.ClientUrl = once (codes "client-url")
    (tells text_of (λ x s. record s { client_url = Some x }))
row key.Kdc = again (codes "kdc") (tells kdc_of (λ x s. record s { kdc = s.kdc ++ x ∷ [] }))
row key.KdcUser = again (codes "kdc-user")
    (tells text_of (λ x s. record s { kdc_user = s.kdc_user ++ x ∷ [] }))
row key.KdcAnswer = again (codes "kdc-answer")
    (tells scripted_of (λ x s. record s { kdc_answer = s.kdc_answer ++ x ∷ [] }))
row key.Ticket = once (codes "ticket") (tells (hex_of_size 32)
    (λ x s. record s { ticket = Some x }))
row key.Account = again (codes "account")
    (tells account_of (λ x s. record s { account = s.account ++ x ∷ [] }))
row key.Accounts = once (codes "accounts")
    (λ text. option_map (λ x values. record values { accounts = x }) (accounts_of text))
row key.ProxyFail = again (codes "proxy-fail")
    (tells number_of (λ x s. record s { proxy_fail = s.proxy_fail ++ x ∷ [] }))
row key.Turns = once (codes "turns") (tells number_of (λ x s. record s { turns = x }))
row key.Edit = again (codes "edit") (tells edit_of (λ x s. record s { edit = s.edit ++ x ∷ [] }))
row key.Deliver = again (codes "deliver")
    (tells delivery_of (λ x s. record s { deliver = s.deliver ++ x ∷ [] }))
row key.ClientLeast = once (codes "client-least")
    (tells number_of (λ x s. record s { client_least = x }))
row key.ServerLeast = once (codes "server-least")
    (tells number_of (λ x s. record s { server_least = x }))
row key.Admit = again (codes "admit") (tells parse_name
    (λ x s. record s { admit = s.admit ++ x ∷ [] }))

-- all keys
abbrev pub all_keys : List Key
all_keys =
    key.Mode ∷ key.User ∷ key.Password ∷ key.Key ∷ key.ServerKey ∷ key.ClientVersion ∷
    key.ServerVersion ∷ key.Nonce ∷ key.Challenge ∷
    key.Computer ∷ key.Target ∷ key.Delegation ∷ key.Keytab ∷ key.ClientProtocol ∷
    key.ServerProtocol ∷ key.ClientPackages ∷
    key.ServerPackages ∷ key.ClientUrl ∷ key.Kdc ∷ key.KdcUser ∷ key.KdcAnswer ∷ key.Ticket ∷
    key.Account ∷ key.Accounts ∷ key.ProxyFail ∷ key.Turns ∷ key.Edit ∷ key.Deliver ∷
    key.ClientLeast ∷ key.ServerLeast ∷ key.Admit ∷ []
