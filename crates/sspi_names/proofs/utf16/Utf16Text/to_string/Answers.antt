use Rattle.std.proofs.Common.{rules}
use Rattle.sspi_names.specs.Utf16.{text_of}
use Rattle.sspi_names.proofs.utf16.Utf16Text.to_string.Goals as goal

pub returns-clause-text : goal.returns-clause-text
unfolding text_of
returns-clause-text c = search rules
