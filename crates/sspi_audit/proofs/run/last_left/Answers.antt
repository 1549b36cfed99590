use Rattle.std.proofs.Common.{◌↔◌, IsTrue, refl, rules, subst, sym}
use Rattle.std.proofs.lemmas.Option.{slice_get_read}
use Rattle.sspi_credssp.specs.declared.turn.Turn.{Turn}
use Rattle.sspi_audit.specs.Run.{IsLeftBehind}
use Rattle.sspi_audit.proofs.Fronts.{last_is}
use Rattle.sspi_audit.proofs.run.last_left.Goals as goal

pub returns-in-Some-get : goal.returns-in-Some-get
returns-in-Some-get c =
    let there = slice_get_read c.args.turns.now _ c.in-Some.place c.index-turns-place.result refl (search rules) c.index-turns-place.is in
    let entry = slice_get_read c.args.log.now _ c.in-Some.place c.in-Some-get.entry.now refl (search rules)
    c.in-Some-get.ensures.lookup.1 in
    rw (last_is c.args.turns.now c.args.log.now c.in-Some.place c.index-turns-place.result c.in-Some-get.entry.now (search rules) there entry)
    (subst (λ (t : Turn). IsTrue c.is_left_behind.result ↔ IsLeftBehind t.outcome c.in-Some-get.entry.now)
    (sym c.index-turns-place.is) c.is_left_behind.ensures)
