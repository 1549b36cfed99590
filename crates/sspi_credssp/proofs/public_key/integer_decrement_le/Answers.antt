use Rattle.std.proofs.Common.{refl, sym, ◌∙◌, ap, arith}
use Rattle.sspi_credssp.specs.Exchange.{incremented}
use Rattle.sspi_credssp.proofs.LittleEndian.{AreBytes-each, borrowed_stops, borrowed_ends, borrowed-decremented, incremented-decremented}
use Rattle.sspi_credssp.proofs.public_key.integer_decrement_le.Goals as goal

pub loop-byte-init : goal.loop-byte-init
loop-byte-init c = record { bytes = AreBytes-each _ (λ k. omega (arith, c.type_inv.buffer k)); walked = refl }

pub returns-then-byte-ne0-clause-taken : goal.returns-then-byte-ne0-clause-taken
returns-then-byte-ne0-clause-taken c =
    sym (borrowed_stops c.loop-byte.byte-index c.loop-byte.buffer (omega arith) c.if-byte-ne0.true)
    ∙ c.loop-byte.invariant.walked ∙ borrowed-decremented _ c.loop-byte.invariant.bytes

pub returns-then-byte-ne0-clause-undone : goal.returns-then-byte-ne0-clause-undone
returns-then-byte-ne0-clause-undone c =
    ap incremented (sym (borrowed_stops c.loop-byte.byte-index c.loop-byte.buffer (omega arith) c.if-byte-ne0.true)
    ∙ c.loop-byte.invariant.walked ∙ borrowed-decremented _ c.loop-byte.invariant.bytes)
    ∙ incremented-decremented _ c.loop-byte.invariant.bytes

pub returns-clause-taken : goal.returns-clause-taken
returns-clause-taken c =
    sym (borrowed_ends c.loop-byte.byte-index c.loop-byte.buffer (omega arith))
    ∙ c.loop-byte.invariant.walked ∙ borrowed-decremented _ c.loop-byte.invariant.bytes

pub returns-clause-undone : goal.returns-clause-undone
returns-clause-undone c =
    ap incremented (sym (borrowed_ends c.loop-byte.byte-index c.loop-byte.buffer (omega arith))
    ∙ c.loop-byte.invariant.walked ∙ borrowed-decremented _ c.loop-byte.invariant.bytes)
    ∙ incremented-decremented _ c.loop-byte.invariant.bytes
