use Rattle.std.proofs.Common.{List, sym, ap, ◌∙◌}
use Rattle.std.proofs.lemmas.Result.{err_from_is_err_and}
use Rattle.sspi_scenario.specs.Keys.{is_excluded}
use Rattle.sspi_scenario.specs.Purposes.{key_for}
use Rattle.sspi_scenario.specs.declared.key.Key.{Key}
use Rattle.sspi_scenario.proofs.LineSteps.{skipped, unknown, barred, taken, lacking, refused}
use Rattle.sspi_scenario.proofs.draft.Draft.take_line.Goals as goal

pub returns-then-is_skipped : goal.returns-then-is_skipped
returns-then-is_skipped c = skipped c.args.purpose c.args.self.now c.args.line.now (sym c.is_skipped.ensures ∙ c.if-is_skipped.true)

pub returns-in_default : goal.returns-in_default
returns-in_default c =
    unknown c.args.purpose c.args.self.now c.args.line.now (sym c.is_skipped.ensures ∙ c.if-is_skipped.false)
    (ap (key_for c.args.purpose) (sym c.sides.ensures.before) ∙ (sym c.key_named.ensures ∙ c.in_default.is))

pub returns-then-is_excluded : goal.returns-then-is_excluded
returns-then-is_excluded c =
    let same = ap (λ (keys : List Key). is_excluded keys c.in-Some.key) (sym c.as_slice.ensures) in
    barred c.args.purpose c.args.self.now c.args.line.now c.in-Some.key (sym c.is_skipped.ensures ∙ c.if-is_skipped.false)
    (ap (key_for c.args.purpose) (sym c.sides.ensures.before) ∙ (sym c.key_named.ensures ∙ c.in-Some.is))
    (same ∙ (sym c.is_excluded.ensures ∙ c.if-is_excluded.true))

pub returns-in_err-put : goal.returns-in_err-put
returns-in_err-put c =
    let same = ap (λ (keys : List Key). is_excluded keys c.in-Some.key) (sym c.as_slice.ensures) in
    let p = err_from_is_err_and c.from_residual.result c.from_residual.ensures.1 in
    rw (p.1, p.2)
    (refused c.args.purpose c.args.self.now c.args.line.now c.in-Some.key (sym c.is_skipped.ensures ∙ c.if-is_skipped.false)
    (ap (key_for c.args.purpose) (sym c.sides.ensures.before) ∙ (sym c.key_named.ensures ∙ c.in-Some.is))
    (record { values = c.put.new.self; seen = c.args.self.now.seen }) c.put.new.self c.in_err-put.field-0.0
    (same ∙ (sym c.is_excluded.ensures ∙ c.if-is_excluded.false))
    (rw c.sides.ensures.after at c.in_err-put.ensures))

pub returns-in_err-note : goal.returns-in_err-note
returns-in_err-note c =
    let same = ap (λ (keys : List Key). is_excluded keys c.in-Some.key) (sym c.as_slice.ensures) in
    let p = err_from_is_err_and c.from_residual-in_err-note.result c.from_residual-in_err-note.ensures.1 in
    rw (p.1, p.2)
    (lacking c.args.purpose c.args.self.now c.args.line.now c.in-Some.key (sym c.is_skipped.ensures ∙ c.if-is_skipped.false)
    (ap (key_for c.args.purpose) (sym c.sides.ensures.before) ∙ (sym c.key_named.ensures ∙ c.in-Some.is))
    (same ∙ (sym c.is_excluded.ensures ∙ c.if-is_excluded.false)))

pub returns : goal.returns
returns c =
    let same = ap (λ (keys : List Key). is_excluded keys c.in-Some.key) (sym c.as_slice.ensures) in
    rw c.in_ok-note.ensures
    (taken c.args.purpose c.args.self.now c.args.line.now c.in-Some.key (sym c.is_skipped.ensures ∙ c.if-is_skipped.false)
    (ap (key_for c.args.purpose) (sym c.sides.ensures.before) ∙ (sym c.key_named.ensures ∙ c.in-Some.is))
    c.put.new.self (same ∙ (sym c.is_excluded.ensures ∙ c.if-is_excluded.false))
    (rw c.sides.ensures.after at c.in_ok-put.ensures))
