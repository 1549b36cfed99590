use Rattle.std.proofs.Common.{arith, refl}
use Rattle.sspi_gate.proofs.Turns.{client_ended, client_passed, client_stopped, no_turn, server_ended}
use Rattle.sspi_gate.proofs.Turns.{server_passed, server_refused, server_stopped, spent}
use Rattle.sspi_gate.proofs.relaying.relay.Goals as goal

pub loop-init : goal.loop-init
loop-init g c = record { passed = refl; so_far = no_turn _ _ }

pub returns-in-Ended : goal.returns-in-Ended
returns-in-Ended g c =
    client_ended c.args.limit c.loop.counter c.loop.passed _ _ _ _ _ _ _ c.loop.invariant.so_far c.in-Ended.ensures c.loop-test.true
    c.loop.invariant.passed

pub returns-in-Stopped : goal.returns-in-Stopped
returns-in-Stopped g c =
    client_stopped c.args.limit c.loop.counter c.loop.passed _ _ _ _ _ _ _ c.in-Stopped.why c.loop.invariant.so_far c.in-Stopped.ensures
    c.loop-test.true c.loop.invariant.passed

pub returns-in-Ended-pass_next : goal.returns-in-Ended-pass_next
returns-in-Ended-pass_next g c =
    server_ended c.args.limit c.loop.counter _ _ _ _ _ _ _ _
    (client_passed c.loop.counter _ _ _ _ _ _ _ c.in-Passed.seen c.loop.invariant.so_far c.in-Passed.ensures)
    c.in-Ended-pass_next.ensures c.loop-test.true (omega (arith, c.loop.invariant.passed))

pub returns-in-Stopped-pass_next : goal.returns-in-Stopped-pass_next
returns-in-Stopped-pass_next g c =
    server_stopped c.args.limit c.loop.counter _ _ _ _ _ _ _ _ c.in-Stopped-pass_next.why
    (client_passed c.loop.counter _ _ _ _ _ _ _ c.in-Passed.seen c.loop.invariant.so_far c.in-Passed.ensures)
    c.in-Stopped-pass_next.ensures c.loop-test.true (omega (arith, c.loop.invariant.passed))

pub returns-in-Some : goal.returns-in-Some
returns-in-Some g c =
    server_refused c.args.limit c.loop.counter _ _ _ _ _ _ _ _ c.in-Passed-pass_next.seen c.in-Some.code
    (client_passed c.loop.counter _ _ _ _ _ _ _ c.in-Passed.seen c.loop.invariant.so_far c.in-Passed.ensures)
    c.in-Passed-pass_next.ensures c.in-Some.is c.loop-test.true (omega (arith, c.loop.invariant.passed))

pub loop-preserved : goal.loop-preserved
loop-preserved g c = record {
  passed = omega (arith, c.loop.invariant.passed);
  so_far = server_passed c.loop.counter _ _ _ _ _ _ _ c.in-Passed-pass_next.seen
      (client_passed c.loop.counter _ _ _ _ _ _ _ c.in-Passed.seen c.loop.invariant.so_far c.in-Passed.ensures)
      c.in-Passed-pass_next.ensures c.in-None.is;
}

pub returns : goal.returns
returns g c =
    spent c.args.limit c.loop.counter c.loop.passed _ _ _ _ _ _ c.loop.invariant.so_far (omega arith) c.loop.invariant.passed
