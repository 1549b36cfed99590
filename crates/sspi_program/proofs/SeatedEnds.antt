-- The ends that a scenario names are the same value, whenever they are made.
use Rattle.std.proofs.Common.{◌≡◌, ℕ, ◌+◌, List, length, Result, Ok, Err, ◌∙◌, refl, sym, ap, subst}
use Rattle.std.specs.Prelude.{IfErr, OnOk}
use Rattle.std.proofs.lemmas.List.{replicate_more}
use Rattle.sspi_mech.specs.PlainKdc.{PlainKdcState}
use Rattle.sspi_credssp.specs.Ends.{ClientView, IsFreshClient, ServerView, IsFreshServer}
use Rattle.sspi_credssp.specs.Table.{TableView}
use Rattle.sspi_scenario.specs.declared.scenario.Scenario.{Scenario}
use Rattle.sspi_seats.specs.Seat.{Place, place}
use Rattle.sspi_seats.specs.Table as seating
use Rattle.sspi_seats.specs.declared.table.JoinError.{JoinError}
use Rattle.sspi_seats.specs.declared.table.JoinError.TheVariants.{Full, InsufficientMemory}
use Rattle.sspi_program.specs.declared.ends.Ends.{Ends}
use Rattle.sspi_program.specs.Desk.{client_in, server_in, place_in, places_in}
use Rattle.sspi_program.specs.Ends.{PlainContext, IsClientOf, IsServerOf}
use Rattle.sspi_program.specs.Making.{AreEndsOf}

-- field by field
client_is : (scenario : Scenario) (a : ClientView PlainContext) → IsFreshClient a → IsClientOf scenario a → a ≡ client_in scenario
client_is scenario a fresh named =
    let made = client_in scenario in
    ap (λ x. record a { settings = x }) named
    ∙ ap (λ x. record a { settings = made.settings; state = x }) fresh.state
    ∙ ap (λ x. record a { settings = made.settings; state = made.state; context = x }) fresh.context
    ∙ ap (λ x. record a { settings = made.settings; state = made.state; context = made.context; handle = x }) fresh.handle
    ∙ ap (λ x. record a { settings = made.settings; state = made.state; context = made.context; handle = made.handle; noted = x })
    fresh.noted
    ∙ ap (λ x. record a {
      settings = made.settings;
      state = made.state;
      context = made.context;
      handle = made.handle;
      noted = made.noted;
      acts = x;
    }) fresh.acts
    ∙ ap (λ x. record a {
      settings = made.settings;
      state = made.state;
      context = made.context;
      handle = made.handle;
      noted = made.noted;
      acts = made.acts;
      output = x;
    }) fresh.output
    ∙ ap (λ x. record a {
      settings = made.settings;
      state = made.state;
      context = made.context;
      handle = made.handle;
      noted = made.noted;
      acts = made.acts;
      output = made.output;
      kept = x;
    }) fresh.kept

server_is : (scenario : Scenario) (a : ServerView PlainContext TableView) → IsFreshServer a → IsServerOf scenario a → a ≡ server_in scenario
server_is scenario a fresh named =
    let made = server_in scenario in
    ap (λ x. record a { settings = x }) named.settings
    ∙ ap (λ x. record a { settings = made.settings; proxy = x }) named.proxy
    ∙ ap (λ x. record a { settings = made.settings; proxy = made.proxy; state = x }) fresh.state
    ∙ ap (λ x. record a { settings = made.settings; proxy = made.proxy; state = made.state; context = x }) fresh.context
    ∙ ap (λ x. record a { settings = made.settings; proxy = made.proxy; state = made.state; context = made.context; handle = x })
    fresh.handle
    ∙ ap (λ x. record a {
      settings = made.settings;
      proxy = made.proxy;
      state = made.state;
      context = made.context;
      handle = made.handle;
      noted = x;
    }) fresh.noted
    ∙ ap (λ x. record a {
      settings = made.settings;
      proxy = made.proxy;
      state = made.state;
      context = made.context;
      handle = made.handle;
      noted = made.noted;
      acts = x;
    }) fresh.acts
    ∙ ap (λ x. record a {
      settings = made.settings;
      proxy = made.proxy;
      state = made.state;
      context = made.context;
      handle = made.handle;
      noted = made.noted;
      acts = made.acts;
      output = x;
    }) fresh.output

pub place_is : (scenario : Scenario) (ends : Ends) → AreEndsOf scenario ends →
    place_in scenario ≡ place ends.client.value ends.kdc ends.server.value
place_is scenario ends are = sym (rw (
  client_is scenario ends.client.value are.client_fresh are.client_named,
  are.kdc,
  server_is scenario ends.server.value are.server_fresh are.server_named,
) refl)

abbrev pub PlainTableView : Type 0
PlainTableView = seating.TableView PlainContext TableView PlainKdcState

-- the client of the scenario is at the place of the client that joined
pub seated_by : {A E : Type 0} (scenario : Scenario) (came : Place PlainContext TableView PlainKdcState) (old new : PlainTableView)
    (result : Result A E) → place_in scenario ≡ came → OnOk result (new ≡ seating.with_place old came) →
    OnOk result (new ≡ seating.with_place old (place_in scenario))
seated_by scenario came old new result same joined =
    subst (λ (a : Place PlainContext TableView PlainKdcState). OnOk result (new ≡ seating.with_place old a)) (sym same) joined

-- with one more client of the scenario
pub seated_more : (limit count : ℕ) (scenario : Scenario) (old new : PlainTableView) →
    old ≡ record { limit = limit; places = places_in count scenario } → new ≡ seating.with_place old (place_in scenario) →
    new ≡ record { limit = limit; places = places_in (count + 1) scenario }
seated_more limit count scenario old new were more =
    more ∙ ap (λ (t : PlainTableView). seating.with_place t (place_in scenario)) were
    ∙ ap (λ (l : List (Place PlainContext TableView PlainKdcState)). record { limit = limit; places = l })
    (replicate_more count (place_in scenario))

-- ---- who was not seated

full_by : (table : PlainTableView) (error : JoinError) → seating.IsRefusedFor error table → error ≡ Full →
    length table.places ≡ table.limit
full_by table Full refused is = refused
full_by table InsufficientMemory refused is = absurd cc

-- the table was full if the answer says so
pub full_before : {A : Type 0} (table : PlainTableView) (result : Result A JoinError) →
    IfErr result (λ error. seating.IsRefusedFor error table) →
    IfErr result (λ error. error ≡ Full → length table.places ≡ table.limit)
full_before table (Ok done) refused = tt
full_before table (Err error) refused = full_by table error refused
