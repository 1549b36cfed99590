use Rattle.std.proofs.Common.{◌∙◌, sym, ap, arith}
use Rattle.sspi_credssp.specs.Exchange.{incremented, decremented}
use Rattle.sspi_credssp.proofs.LittleEndian.{AreBytes-each, decremented-incremented}
use Rattle.sspi_credssp.proofs.public_key.is_next.Goals as goal

pub returns-clause-same : goal.returns-clause-same
returns-clause-same c = λ same.
    sym c.integer_decrement_le.ensures.undone ∙ ap incremented (c.same_bytes.ensures.same same)

pub returns-clause-other : goal.returns-clause-other
returns-clause-other c = λ differs same.
    c.same_bytes.ensures.other differs (c.integer_decrement_le.ensures.taken ∙ ap decremented same
    ∙ decremented-incremented _ (AreBytes-each _ (λ k. omega (arith, c.type_inv.number k))))
