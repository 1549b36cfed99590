use Rattle.sspi_tokens.specs.Grammar.{IsInit}
use Rattle.sspi_tokens.specs.Reading.{init_at}
use Rattle.sspi_tokens.proofs.GrammarMatch.{begins_of, of_begins, init_match}
use Rattle.sspi_tokens.proofs.laws.init_is_grammar.Goals as goal

pub returns : goal.returns
returns c = λ bytes token. (begins_of init_at IsInit init_match bytes token, of_begins init_at IsInit init_match bytes token)
