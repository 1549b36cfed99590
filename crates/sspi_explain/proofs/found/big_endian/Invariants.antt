use Rattle.std.proofs.Common.{◌≡◌, ◌≤◌, ◌<◌, take}
use Rattle.sspi_ber.specs.Forms.{big_endian}
use Rattle.sspi_explain.proofs.found.big_endian.Given as goal

abbrev pub invariant-loop-octet : goal.invariant-loop-octet
invariant-loop-octet l = record {
  value : l.number ≡ big_endian (take l.octet-index l.octets);
  at_none : l.octet-index ≤ 0 → l.number ≤ 0;
  at_one : l.octet-index ≤ 1 → l.number < 256;
  at_two : l.octet-index ≤ 2 → l.number < 65536;
}
