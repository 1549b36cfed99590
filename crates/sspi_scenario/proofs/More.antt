-- How one more line changes the draft, and what the draft of some lines says of them.
use Rattle.std.proofs.Common.{◌≡◌, Bool, ◌&&◌, List, [], ◌∷◌, ◌++◌, Option, Some, None, refl, ap, sym, ◌∙◌}
use Rattle.std.specs.Prelude.{fold, if◌then◌else◌}
use Rattle.std.proofs.lemmas.List.Sums.{fold-append}
use Rattle.sspi_scenario.specs.declared.key.Key.{Key}
use Rattle.sspi_scenario.specs.declared.key.Key.TheVariants as key
use Rattle.sspi_scenario.specs.declared.scenario.Scenario.{Scenario}
use Rattle.sspi_scenario.specs.declared.purpose.Purpose.{Purpose}
use Rattle.sspi_scenario.specs.declared.purpose.Purpose.TheVariants as purposes
use Rattle.sspi_scenario.specs.declared.values.Values.{Values}
use Rattle.sspi_scenario.specs.Drafts.{draft_of, noted, draft_completed}
use Rattle.sspi_scenario.specs.Faults.{Told, keys_of}
use Rattle.sspi_scenario.specs.Keys.{is_same, excludes, is_excluded, has}
use Rattle.sspi_scenario.specs.Purposes.{has_random}
use Rattle.sspi_scenario.specs.Scenario.{defaults, values_of, completed, completed_by, proxy_table, own_identity}
use Rattle.sspi_scenario.proofs.Seen.{seen-any}

keys-more : (lines : List Told) (told : Told) → keys_of (lines ++ told ∷ []) ≡ keys_of lines ++ told.key ∷ []
keys-more [] told = refl
keys-more (first ∷ lines) told = ap (λ (keys : List Key). first.key ∷ keys) (keys-more lines told)

seen-more : (lines : List Told) (told : Told) → fold noted [] (keys_of (lines ++ told ∷ [])) ≡ noted
    (fold noted [] (keys_of lines)) told.key
seen-more lines told = ap (fold noted []) (keys-more lines told) ∙ fold-append noted [] (keys_of lines) (told.key ∷ [])

pub draft-more : (lines : List Told) (told : Told)
    → draft_of (lines ++ told ∷ []) ≡ record { values = told.change (draft_of lines).values; seen = noted (draft_of lines).seen told.key }
unfolding draft_of values_of
draft-more lines told = λ i. record {
  values = fold-append (λ (values : Values) (t : Told). t.change values) defaults lines (told ∷ []) i;
  seen = seen-more lines told i;
}

pub draft-excluded : (lines : List Told) (k : Key) → is_excluded (draft_of lines).seen k ≡ is_excluded (keys_of lines) k
unfolding draft_of
draft-excluded lines k = seen-any (λ e. excludes e k) (keys_of lines)

abbrev completed_at : Bool → Bool → Bool → Values → Option Scenario
completed_at required random told values = if required && random then Some (record values.scenario {
  server_key = if told then values.scenario.server_key else values.scenario.key;
  account = proxy_table values.scenario.account values.accounts (own_identity values.scenario.user values.scenario.password);
}) else None

random-same : (purpose : Purpose) (keys seen : List Key) → ((k : Key) → has keys k ≡ has seen k) →
    has_random purpose keys ≡ has_random purpose seen
random-same purposes.Exchange keys seen e = refl
random-same purposes.Play keys seen e = refl
random-same purposes.Early keys seen e = refl
random-same purposes.Sessions keys seen e = refl
random-same purposes.Serve keys seen e = e key.Challenge
random-same purposes.Connect keys seen e = e key.Nonce

completed-same : (purpose : Purpose) (keys seen : List Key) (values : Values) → ((k : Key) → has keys k ≡ has seen k) →
    completed_by purpose keys values ≡ completed_by purpose seen values
completed-same purpose keys seen values e = λ i.
    completed_at (e key.Mode i && e key.User i && e key.Password i && e key.Key i) (random-same purpose keys seen e i)
    (e key.ServerKey i) values

pub draft-ends : (purpose : Purpose) (lines : List Told) → completed purpose lines ≡ draft_completed purpose (draft_of lines)
unfolding completed draft_of
draft-ends purpose lines =
    completed-same purpose (keys_of lines) (fold noted [] (keys_of lines)) (values_of lines)
    (λ k. sym (seen-any (λ e. is_same e k) (keys_of lines)))
