use Rattle.sspi_ber.proofs.Short.{small_wrapped_integer}
use Rattle.sspi_tsreq.proofs.writing.write_wrapped_integer.Goals as goal

pub returns-then-value-lt128-clause-wrote : goal.returns-then-value-lt128-clause-wrote
returns-then-value-lt128-clause-wrote g c =
    rw (small_wrapped_integer c.args.tag c.args.value c.if-value-lt128.true) c.write_all.ensures.wrote
