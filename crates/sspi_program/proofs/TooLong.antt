-- A text past the limit is not a scenario.
use Rattle.std.proofs.Common.{◌≡◌, ℕ, ◌<◌, false, nat_le, List, length, Err, refl}
use Rattle.std.proofs.lemmas.Bool.{lt-leb}
use Rattle.sspi_scenario.specs.declared.purpose.Purpose.{Purpose}
use Rattle.sspi_scenario.specs.Scenario.{scenario_of}
use Rattle.sspi_scenario.specs.declared.reading.TheConstants.{TEXT_LIMIT}

over : (n : ℕ) → TEXT_LIMIT < n → nat_le n TEXT_LIMIT ≡ false
over n h = lt-leb n TEXT_LIMIT h

pub too_long : (purpose : Purpose) (text : List ℕ) → TEXT_LIMIT < length text → scenario_of purpose text ≡ Err 0
unfolding scenario_of
too_long purpose text h = rw (over (length text) h) refl
