use Rattle.std.proofs.Common.{Some, rules}
use Rattle.sspi_tokens.specs.Grammar.{result_of}
use Rattle.sspi_explain.specs.Token.{inner_field, neg_state_field}
use Rattle.sspi_explain.proofs.token.tell_neg_state.Goals as goal

pub returns : goal.returns
unfolding inner_field neg_state_field
returns c = (Some (result_of c.in_ok-content.content.now), search rules)
