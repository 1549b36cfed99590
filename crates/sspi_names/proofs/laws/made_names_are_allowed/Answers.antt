use Rattle.sspi_names.proofs.Spelled.{parsed_name, made_name}
use Rattle.sspi_names.proofs.laws.made_names_are_allowed.Goals as goal

pub returns : goal.returns
returns c = record { parsed = parsed_name; joined = made_name }
