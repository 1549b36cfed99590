use Rattle.std.proofs.Common.{take, reverse}
use Rattle.sspi_audit.specs.Run.{EachRunTurn}
use Rattle.sspi_audit.specs.Standings.{Stands}
use Rattle.sspi_audit.proofs.Sealing.{SealsBefore}
use Rattle.sspi_audit.proofs.run.audit_run.Given as goal

abbrev pub invariant-loop-place : goal.invariant-loop-place
invariant-loop-place l = record {
  stands : Stands (reverse (take l.place l.turns)) l.standing;
  each : EachRunTurn l.log (reverse (take l.place l.turns));
  sealing : SealsBefore l.turns l.place l.sealing;
}
