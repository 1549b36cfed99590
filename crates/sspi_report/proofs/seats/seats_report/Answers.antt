use Rattle.std.proofs.Common.{◌≡◌, ◌≤◌, ℕ, length, string_bytes, ap, ◌∙◌, arith}
use Rattle.std.specs.Global.{Vec}
use Rattle.std.proofs.lemmas.List.{take_all}
use Rattle.sspi_report.specs.Seats.{lines_from}
use Rattle.sspi_report.proofs.SeatLines.{lines_taken}
use Rattle.sspi_report.proofs.seats.seats_report.Goals as goal

pub loop-session-preserved : goal.loop-session-preserved
loop-session-preserved g c =
    lines_taken c.args.seats.now c.loop-session.session c.index-seats-session.result _ _ c.loop-session-test.true c.index-seats-session.is
    c.loop-session.invariant c.in_ok-push_seat.ensures

pub returns : goal.returns
returns g c =
    let bytes : c.into_bytes.result.items ≡ string_bytes c.loop-session.text = ap (λ (v : Vec ℕ). v.items) c.into_bytes.ensures.value in
    let all : length c.args.seats.now ≤ c.loop-session.session = omega (arith, c.loop-session-test.false) in
    bytes ∙ c.loop-session.invariant ∙ ap (lines_from 0) (take_all c.loop-session.session c.args.seats.now all)
