use Rattle.std.proofs.Common.{ap, sym, ◌∙◌}
use Rattle.sspi_names.specs.Name.{name_eq}
use Rattle.sspi_names.specs.Equality.{name_eq-equiv}
use Rattle.sspi_names.proofs.Folded.{equal_names}
use Rattle.sspi_names.proofs.laws.equality_is_of_the_parts.Goals as goal

pub returns : goal.returns
returns c = record { same = equal_names; equal = λ a b e. ap (name_eq a) (sym e) ∙ name_eq-equiv.refl a }
