use Rattle.std.proofs.Common.{◌≤◌, length, take, vec_capacity}
use Rattle.sspi_credssp.specs.Context.{either}
use Rattle.sspi_desk.specs.All.{ServesAll}
use Rattle.sspi_desk.proofs.all.serve_all.Given as goal

-- what the calls so far did to the desk, with room for an answer to each
abbrev pub invariant-loop-call : goal.invariant-loop-call
invariant-loop-call g l = record {
  room : length l.calls ≤ vec_capacity l.answers;
  served : ServesAll (either g.N.Mechanism.REQUESTS g.N.Mechanism.meaning g.K.Mechanism.meaning) g.C.CredentialsProxy.meaning
      (take l.call-index l.calls) l.answers.items l.fn.desk l.desk;
}
