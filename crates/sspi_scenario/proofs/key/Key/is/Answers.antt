use Rattle.std.proofs.Common.{rules, ◌≡◌, Bool, true, false, sym, refl, ◌∙◌}
use denote.Enum.Bare.{same_true, same_false}
use Rattle.sspi_scenario.specs.contracts.key.Key.{the_type}
use Rattle.sspi_scenario.specs.declared.key.Key.{Key}
use Rattle.sspi_scenario.specs.Keys.{is_same}
use Rattle.sspi_scenario.proofs.Seen.{same, apart}
use Rattle.sspi_scenario.proofs.key.Key.is.Goals as goal

by : (a b : Key) (r : Bool) → (r ≡ true → a ≡ b) → (r ≡ false → a ≡ b → ⊥) → r ≡ is_same a b
by a b true same_if apart_if = sym (same a b (same_if refl))
by a b false same_if apart_if = sym (apart a b (apart_if refl))

pub returns : goal.returns
returns c =
    by c.args.self c.args.other c.eq.result
    (λ e. same_true the_type (search rules) _ _ (sym c.eq.ensures ∙ e))
    (λ e. same_false the_type _ _ (sym c.eq.ensures ∙ e))
