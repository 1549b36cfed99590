use Rattle.std.proofs.Common.{◌≡◌, ◌++◌, take, drop}
use Rattle.sspi_credssp.proofs.LittleEndian.{AreBytes, borrowed}
use Rattle.sspi_credssp.proofs.public_key.integer_decrement_le.Given as goal

abbrev pub invariant-loop-byte : goal.invariant-loop-byte
invariant-loop-byte l = record {
  bytes : AreBytes l.fn.buffer;
  walked : take l.byte-index l.buffer ++ borrowed (drop l.byte-index l.buffer) ≡ borrowed l.fn.buffer;
}
