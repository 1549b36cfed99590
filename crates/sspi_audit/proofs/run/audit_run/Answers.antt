use Rattle.std.proofs.Common.{List, length, take, reverse, Option, sym, subst, refl, arith}
use Rattle.std.proofs.lemmas.Option.{slice_get_read, slice_get_past}
use Rattle.sspi_credssp.specs.declared.turn.Turn.{Turn}
use Rattle.sspi_audit.specs.Run.{RunTurn, EachRunTurn, LogEnds}
use Rattle.sspi_audit.specs.RunVerdicts.{IsFaultyInRun}
use Rattle.sspi_audit.specs.Standings.{Stands}
use Rattle.sspi_audit.proofs.Fronts.{next_past, all_past, front_length}
use Rattle.sspi_audit.proofs.InRuns.{each_at, each_is_shown}
use Rattle.sspi_audit.proofs.Sealing.{seals_next, seals_in_all}
use Rattle.sspi_audit.proofs.run.audit_run.Goals as goal

pub loop-place-init : goal.loop-place-init
loop-place-init c = record {
  stands = c.new-standing.ensures;
  each = tt;
  sealing = λ i u none at. absurd (omega (arith, none));
}

pub returns-then-not-branch-clause-judges : goal.returns-then-not-branch-clause-judges
returns-then-not-branch-clause-judges c =
    let at = c.loop-place.invariant in
    let there = slice_get_read c.args.turns.now _ c.loop-place.place c.index-turns-place.result refl c.loop-place-test.true
    c.index-turns-place.is in
    let judged = c.in_ok-judges_run.ensures.judges _ at.stands
    (front_length c.args.turns.now c.loop-place.place c.loop-place-test.true) in
    let not : RunTurn c.args.log.now (reverse (take c.loop-place.place c.args.turns.now)) c.index-turns-place.result → ⊥ =
    λ shown. let is = judged.1 shown in absurd (cc (is, c.if-not-branch.true)) in (
      record {
        before = at.each;
        at = subst (λ (t : Option Turn). IsFaultyInRun c.args.turns.now c.args.log.now c.loop-place.place t) (sym there) not;
      },
      λ run. not (each_at c.args.log.now c.args.turns.now c.loop-place.place c.index-turns-place.result there run.each),
    )

pub loop-place-preserved : goal.loop-place-preserved
loop-place-preserved c =
    let at = c.loop-place.invariant in
    let there = slice_get_read c.args.turns.now _ c.loop-place.place c.index-turns-place.result refl c.loop-place-test.true
    c.index-turns-place.is in
    let judged = c.in_ok-judges_run.ensures.judges _ at.stands
    (front_length c.args.turns.now c.loop-place.place c.loop-place-test.true) in
    let shown : RunTurn c.args.log.now (reverse (take c.loop-place.place c.args.turns.now)) c.index-turns-place.result =
    judged.0 c.if-not-branch.false in
    let more = sym (next_past c.args.turns.now c.loop-place.place c.index-turns-place.result there) in
    record {
      stands = subst (λ (l : List Turn). Stands l c.pass.new.self) more (c.pass.ensures _ at.stands);
      each = subst (λ (l : List Turn). EachRunTurn c.args.log.now l) more (shown, at.each);
      sealing = rw c.sealing_after-sealing.ensures
          (seals_next c.args.log.now c.args.turns.now c.loop-place.place c.index-turns-place.result _ there
          (each_is_shown c.args.log.now _ at.each) shown.shown at.sealing);
    }

pub returns-then-log_ends-clause-judges : goal.returns-then-log_ends-clause-judges
returns-then-log_ends-clause-judges c =
    let at = c.loop-place.invariant in (
      record {
        each = subst (λ (l : List Turn). EachRunTurn c.args.log.now l)
            (all_past c.args.turns.now c.loop-place.place c.loop-place-test.false) at.each;
        ends = c.log_ends.ensures.0 c.if-log_ends.true;
      },
      seals_in_all c.args.turns.now c.loop-place.place c.loop-place.sealing c.loop-place-test.false at.sealing,
    )

pub returns-else-log_ends-clause-judges : goal.returns-else-log_ends-clause-judges
returns-else-log_ends-clause-judges c =
    let at = c.loop-place.invariant in
    let not : LogEnds (reverse c.args.turns.now) c.args.log.now → ⊥ =
    λ ends. let is = c.log_ends.ensures.1 ends in absurd (cc (is, c.if-log_ends.false)) in
    let all = all_past c.args.turns.now c.loop-place.place c.loop-place-test.false in
    let whole = all_past c.args.turns.now (length c.args.turns.now) (omega arith) in (
      record {
        before = subst (λ (l : List Turn). EachRunTurn c.args.log.now l) (sym whole)
            (subst (λ (l : List Turn). EachRunTurn c.args.log.now l) all
            at.each);
        at = subst (λ (t : Option Turn). IsFaultyInRun c.args.turns.now c.args.log.now (length c.args.turns.now) t)
            (sym (slice_get_past c.args.turns.now (length c.args.turns.now) (omega arith))) (refl, not);
      },
      λ run. not run.ends,
    )
