-- What the exchange of a scenario comes to if nothing prevents it.
use Rattle.std.specs.Prelude.{◌≡◌, ℕ, ◌<◌, ◌≤◌, [], length, Option, None, Some, Result, IfOk}
use Rattle.std.specs.Prelude.{nat_lt}
use Rattle.sspi_names.specs.declared.identity.AuthIdentity.{AuthIdentity}
use Rattle.sspi_names.specs.declared.network.NetworkRequest.{NetworkRequest}
use Rattle.sspi_mech.specs.declared.step.Reply.{Reply}
use Rattle.sspi_mech.specs.PlainKdc.{told_by}
use Rattle.sspi_delegate.specs.declared.answer.Delegation.{Delegation}
use Rattle.sspi_delegate.specs.declared.answer.DelegateError.{DelegateError}
use Rattle.sspi_completeness.specs.Matching.{MatchModes, messages_of, HasEntry, IsShort, key_limit}
use Rattle.sspi_completeness.specs.Matching.{ComesToOkIn, IsCutShort}
use Rattle.sspi_credssp.specs.Exchange.{delegated_as}
use Rattle.sspi_scenario.specs.declared.scenario.Mode.TheVariants.{Ntlm}
use Rattle.sspi_scenario.specs.declared.scenario.Scenario.{Scenario}
use Rattle.sspi_scenario.specs.Scenario.{own_identity}
use Rattle.sspi_program.specs.Ends.{client_mode_in, server_mode_in}

abbrev pub user_identity : Scenario → AuthIdentity
user_identity scenario = own_identity scenario.user scenario.password

-- What the scenario's KDC replies, by the number of the call.
abbrev pub kdc_told : Scenario → Option (ℕ → NetworkRequest → Reply)
kdc_told scenario = Some (told_by scenario.kdc_user scenario.kdc_answer)

-- The ends that the scenario names match: both authenticate by plain NTLM alone, or both negotiate
-- and agree on a mechanism. Nothing is edited and no lookup fails. The client has the password that
-- the server's table knows, both ends have one key and kind of proof, and each takes the other's
-- version.
pub record IsMatching (scenario : Scenario) : Type 0 where
  pub mode : MatchModes (kdc_told scenario) 0 scenario.target (user_identity scenario)
      (client_mode_in scenario) (server_mode_in scenario)
  pub no_edit : scenario.edit ≡ []
  pub no_failure : scenario.proxy_fail ≡ []
  pub no_keytab : scenario.keytab ≡ None
  pub key_same : scenario.server_key ≡ scenario.key
  pub key_short : length scenario.key ≤ key_limit
  pub versions : nat_lt scenario.client_version 5 ≡ nat_lt scenario.server_version 5
  pub client_takes : scenario.client_least ≤ scenario.server_version
  pub server_takes : scenario.server_least ≤ scenario.client_version
  pub entry : HasEntry scenario.account (user_identity scenario)
  pub short : IsShort (user_identity scenario)

-- the number of messages that the client then makes
abbrev pub messages_in : (scenario : Scenario) → IsMatching scenario → ℕ
messages_in scenario matching =
    messages_of (kdc_told scenario) 0 scenario.target (user_identity scenario)
    (client_mode_in scenario) (server_mode_in scenario)
    matching.mode

-- By plain NTLM alone, Ok takes at least three messages of the client. A scenario whose ends match
-- comes to Ok if the client may make the messages that this takes. Otherwise it is cut short.
-- Either may run out of memory.
pub record IsOutcome (scenario : Scenario) (answer : Result Delegation DelegateError) : Type 0 where
  pub three : scenario.mode ≡ Ntlm → IfOk answer (λ delegation. 3 ≤ delegation.rounds)
  pub comes : (matching : IsMatching scenario) → messages_in scenario matching ≤ scenario.turns →
      ComesToOkIn (messages_in scenario matching)
      (delegated_as scenario.delegation (user_identity scenario)) answer
  pub short : (matching : IsMatching scenario) → scenario.turns < messages_in scenario matching →
      IsCutShort answer
