-- A value that makes a change is one that its key accepts.
use Rattle.std.proofs.Common.{◌≡◌, Option, Some, None, true, refl, sym, ap}
use Rattle.std.specs.Prelude.{is_some}
use Rattle.std.specs.Option.{option_map}
use Rattle.std.proofs.lemmas.Bool.{true≢false}
use Rattle.sspi_scenario.specs.Reasons.{is_there}

pub there : {A B : Type 0} (f : A → B) (o : Option A) (b : B) → option_map f o ≡ Some b → true ≡ is_there o
there f (Some x) b e = refl
there f None b e = absurd (true≢false (sym (ap is_some e)))
