use Rattle.std.proofs.Common.{rules}
use Rattle.sspi_negotiate.proofs.Tokens.{spelled_part}
use Rattle.sspi_tokens.specs.Spelling.{spelled_list}
use Rattle.sspi_negotiate.specs.Rows.{verifies_text}
use Rattle.sspi_negotiate.specs.Values.{values_of}
use Rattle.sspi_negotiate.proofs.negotiate.Negotiate.verify.Goals as goal

pub returns-clause-step : goal.returns-clause-step
returns-clause-step g c = spelled_part (spelled_list c.args.self.now.list)
    (λ o rest. verifies_text c.args.mic.now o (values_of c.args.self.now) rest) c.in_ok-text.text (search rules) (search rules)
