use Rattle.std.proofs.Common.{◌≡◌, ℕ, List, [], ◌++◌, length}
use Rattle.sspi_tsreq.specs.declared.request.TsRequest.{TsRequest}
use Rattle.sspi_tsreq.specs.Walks.{goes_on, IsInText, IsQuiet}
use Rattle.sspi_tsreq.specs.Quiet.{IsWithout}
use Rattle.sspi_tsreq.proofs.walk.Walk.advance.Given as goal

abbrev pub invariant-loop-byte : goal.invariant-loop-byte
invariant-loop-byte l = record {
  goes : (base : TsRequest) (more : List ℕ) → goes_on l.fn.self base (l.piece ++ more) ≡ goes_on l.self base (l.rest ++ more);
  text : IsInText l.self.place → l.rest ≡ [];
  quiet : IsQuiet l.fn.self → IsWithout 0x04 l.piece → IsQuiet l.self × IsWithout 0x04 l.rest;
}

abbrev pub decreases-loop-byte : goal.decreases-loop-byte
decreases-loop-byte l = length l.rest
