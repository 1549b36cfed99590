use Rattle.sspi_tokens.specs.Grammar.{IsTarg}
use Rattle.sspi_tokens.specs.Reading.{targ_at}
use Rattle.sspi_tokens.proofs.GrammarMatch.{begins_of, of_begins, targ_match}
use Rattle.sspi_tokens.proofs.laws.targ_is_grammar.Goals as goal

pub returns : goal.returns
returns c = λ bytes token. (begins_of targ_at IsTarg targ_match bytes token, of_begins targ_at IsTarg targ_match bytes token)
