-- The two ends that are made from a scenario, and their KDC, before they meet.
use Rattle.std.specs.Prelude.{◌≡◌}
use Rattle.sspi_credssp.specs.Ends.{IsFreshClient, IsFreshServer}
use Rattle.sspi_scenario.specs.declared.scenario.Scenario.{Scenario}
use Rattle.sspi_program.specs.Ends.{IsServerOf, IsClientOf, kdc_in}
use Rattle.sspi_program.specs.declared.ends.Ends.{Ends}

-- both ends and the KDC are the scenario's, as they were made
pub record AreEndsOf (scenario : Scenario) (ends : Ends) : Type 0 where
  pub client_fresh : IsFreshClient ends.client.value
  pub client_named : IsClientOf scenario ends.client.value
  pub server_fresh : IsFreshServer ends.server.value
  pub server_named : IsServerOf scenario ends.server.value
  pub kdc : ends.kdc ≡ kdc_in scenario
