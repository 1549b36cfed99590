use Rattle.sspi_explain.specs.Explained.{explained_line}
use Rattle.sspi_explain.proofs.laws.other_lines_stand.Goals as goal

pub returns-clause-no_hex : goal.returns-clause-no_hex
unfolding explained_line
returns-clause-no_hex c = λ line error e. rw e

pub returns-clause-empty : goal.returns-clause-empty
unfolding explained_line
returns-clause-empty c = λ line e. rw e
