use Rattle.std.proofs.Common.{◌≤◌, ◌-◌, ℕ, List, ◌++◌, length, take}
use Rattle.sspi_tsreq.specs.declared.request.TsRequest.{TsRequest}
use Rattle.sspi_tsreq.specs.Feeding.{StandsAt}
use Rattle.sspi_tsreq.specs.Walks.{IsPast}
use Rattle.sspi_tsreq.proofs.outer.read_outer.Given as goal

abbrev pub invariant-loop-taken : goal.invariant-loop-taken
invariant-loop-taken l = record {
  stands : (nonce bytes : List ℕ) (r : TsRequest) → StandsAt nonce l.fn.stage r bytes →
      StandsAt nonce l.stage r (bytes ++ take l.taken l.piece);
  within : l.taken ≤ length l.piece;
  past : IsPast l.fn.stage → IsPast l.stage;
}

abbrev pub decreases-loop-taken : goal.decreases-loop-taken
decreases-loop-taken l = length l.piece - l.taken
