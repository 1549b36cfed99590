use Rattle.sspi_names.specs.Equality.{ignoring_case-equiv}
use Rattle.sspi_names.proofs.Folded.{same_names, names_same, never_same}
use Rattle.sspi_names.proofs.laws.ignoring_case_is_an_equivalence.Goals as goal

pub returns : goal.returns
returns c = record { equivalence = ignoring_case-equiv; same = same_names; equal = names_same; forms = never_same }
