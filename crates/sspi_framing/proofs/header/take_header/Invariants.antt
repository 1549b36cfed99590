use Rattle.std.proofs.Common.{◌≡◌, length, take, Err}
use Rattle.std.specs.Io.KnownBytes.{Consumes}
use Rattle.sspi_ber.specs.Pieces.{Ended, header_at}
use Rattle.sspi_framing.proofs.header.take_header.Given as goal

abbrev pub invariant-loop-size : goal.invariant-loop-size
invariant-loop-size g l = record {
  room : length l.octets ≡ 5;
  taken : Consumes (g.S.Source.left l.fn.source) (g.S.Source.left l.source) (take l.size l.octets);
  partial : header_at 0x30 (take l.size l.octets) ≡ Err Ended;
  cause : g.S.Source.faults l.source ≡ g.S.Source.faults l.fn.source;
}
