use Rattle.sspi_names.proofs.Spelled.{spelled, spelled_read}
use Rattle.sspi_names.proofs.laws.names_are_read_by_the_grammar.Goals as goal

pub returns : goal.returns
returns c = record { read = spelled; again = spelled_read }
