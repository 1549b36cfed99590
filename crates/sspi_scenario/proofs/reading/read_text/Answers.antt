use Rattle.std.proofs.Common.{◌∙◌, ℕ, arith, length-append, length-drop}
use Rattle.std.proofs.lemmas.List.{length-take}
use Rattle.sspi_scenario.proofs.SourceTexts.{takes_on, takes_kept, consumes_front, front_is_short, consumes_nothing, reads_to_end}
use Rattle.sspi_scenario.proofs.SourceTexts.{reads_too_long}
use Rattle.sspi_scenario.proofs.reading.read_text.Goals as goal

pub returns-in_default-clause-taken : goal.returns-in_default-clause-taken
returns-in_default-clause-taken g c =
    takes_kept _ _ _ _ _ c.loop-room.invariant.read c.in_default.ensures.bytes c.loop-room.invariant.short

pub returns-in_default-extend_from_slice-clause-taken :
    goal.returns-in_default-extend_from_slice-clause-taken
returns-in_default-extend_from_slice-clause-taken g c =
    takes_on _ _ _ _ _ _ c.loop-room.invariant.read c.in-Ok.ensures.bytes.0 (omega (arith, length-take {A = ℕ}))

pub loop-room-preserved : goal.loop-room-preserved
loop-room-preserved g c = record {
  read =
      rw c.in-Ok-extend_from_slice.ensures.items
      (consumes_front _ _ _ _ _ _ _ c.loop-room.invariant.read c.in-Ok.ensures.bytes.0 c.in-Ok.ensures.bound);
  short =
      rw c.in-Ok-extend_from_slice.ensures.items
      (front_is_short _ _ _ _ _ c.in-Ok.ensures.bound (omega (arith, length-take {A = ℕ})));
  room = omega (arith, length-append {A = ℕ}, length-take {A = ℕ}, length-drop {A = ℕ});
  faults = c.in-Ok.ensures.cause ∙ c.loop-room.invariant.faults;
}

pub returns-then-count-eq0-clause-taken : goal.returns-then-count-eq0-clause-taken
returns-then-count-eq0-clause-taken g c =
    takes_on _ _ _ _ _ _ c.loop-room.invariant.read c.in-Ok.ensures.bytes.0 (omega (arith, length-take {A = ℕ}))

pub returns-then-count-eq0-clause-text : goal.returns-then-count-eq0-clause-text
returns-then-count-eq0-clause-text g c =
    reads_to_end _ _ _ _ _ _ _ c.loop-room.invariant.read c.in-Ok.ensures.bytes.0 c.if-count-eq0.true
    (c.in-Ok.ensures.bytes.1 c.if-count-eq0.true (omega (arith, length-take {A = ℕ})))
    (omega arith)

pub returns-then-count-eq0-clause-so_far : goal.returns-then-count-eq0-clause-so_far
returns-then-count-eq0-clause-so_far g c = (
  consumes_nothing _ _ _ _ _ _ c.loop-room.invariant.read c.in-Ok.ensures.bytes.0 c.if-count-eq0.true,
  c.in-Ok.ensures.bytes.1 c.if-count-eq0.true (omega (arith, length-take {A = ℕ})),
)

pub returns-clause-so_far : goal.returns-clause-so_far
returns-clause-so_far g c =
    record { taken = _; consumed = c.loop-room.invariant.read; counted = omega (arith, c.loop-room.invariant.short) }

pub returns-clause-taken : goal.returns-clause-taken
returns-clause-taken g c = record { taken = _; consumed = c.loop-room.invariant.read; short = c.loop-room.invariant.short }

pub returns-clause-text : goal.returns-clause-text
returns-clause-text g c = reads_too_long _ _ _ _ c.loop-room.invariant.read (omega arith)
