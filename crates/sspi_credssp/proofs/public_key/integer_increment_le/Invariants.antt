use Rattle.std.proofs.Common.{◌≡◌, ◌++◌, take, drop}
use Rattle.sspi_credssp.proofs.LittleEndian.{AreBytes, carried}
use Rattle.sspi_credssp.proofs.public_key.integer_increment_le.Given as goal

abbrev pub invariant-loop-byte : goal.invariant-loop-byte
invariant-loop-byte l = record {
  bytes : AreBytes l.fn.buffer;
  walked : take l.byte-index l.buffer ++ carried (drop l.byte-index l.buffer) ≡ carried l.fn.buffer;
}
