use Rattle.std.proofs.Common.{refl, sym, ◌∙◌, arith}
use Rattle.sspi_credssp.proofs.LittleEndian.{AreBytes-each, carried_stops, carried_ends, carried-incremented}
use Rattle.sspi_credssp.proofs.public_key.integer_increment_le.Goals as goal

pub loop-byte-init : goal.loop-byte-init
loop-byte-init c = record { bytes = AreBytes-each _ (λ k. omega (arith, c.type_inv.buffer k)); walked = refl }

pub returns-then-byte : goal.returns-then-byte
returns-then-byte c =
    sym (carried_stops c.loop-byte.byte-index c.loop-byte.buffer (omega arith) c.if-byte.true)
    ∙ c.loop-byte.invariant.walked ∙ carried-incremented _ c.loop-byte.invariant.bytes

pub returns : goal.returns
returns c =
    sym (carried_ends c.loop-byte.byte-index c.loop-byte.buffer (omega arith))
    ∙ c.loop-byte.invariant.walked ∙ carried-incremented _ c.loop-byte.invariant.bytes
