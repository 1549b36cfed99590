use Rattle.std.proofs.Common.{◌≡◌, ℕ, List, sym, ap, ◌∙◌, map, subst}
use Rattle.std.specs.List.{flat_map}
use Rattle.std.specs.Str.{chars}
use Rattle.std.specs.Char.Escape.{encode_utf16}
use Rattle.std.proofs.lemmas.Iterator.{YieldsList-from_chars}
use Rattle.std.proofs.lemmas.Iterator.Consumers.{YieldsList-end}
use Rattle.std.proofs.lemmas.List.{map-id}
use Rattle.sspi_names.specs.Utf16.{units_of, IsUtf16}
use Rattle.sspi_names.proofs.CodeUnits.{units_of-IsUtf16}
use Rattle.sspi_names.proofs.utf16.Utf16Text.from_str.Goals as goal

spelled : (units yielded cs : List ℕ) → units ≡ flat_map encode_utf16 yielded → map (λ c. c) yielded ≡ cs → units ≡ flat_map encode_utf16 cs
spelled units yielded cs e all = e ∙ ap (flat_map encode_utf16) (sym (map-id yielded) ∙ all)

pub returns : goal.returns
unfolding units_of
returns c =
    let t = YieldsList-end (YieldsList-from_chars c.args.s.now c.utf8.s cc) c.loop-c.yielded _ c.loop-c.yielded_by _ _
    c.in-None.is c.next.ensures.steps in
    spelled _ c.loop-c.yielded (chars c.args.s.now) c.loop-c.invariant t.0

pub invariant_of-result : goal.invariant_of-result
unfolding units_of
invariant_of-result c =
    let t = YieldsList-end (YieldsList-from_chars c.args.s.now c.utf8.s cc) c.loop-c.yielded _ c.loop-c.yielded_by _ _
    c.in-None.is c.next.ensures.steps in
    subst IsUtf16 (sym (spelled _ c.loop-c.yielded (chars c.args.s.now) c.loop-c.invariant t.0)) (units_of-IsUtf16 c.args.s.now c.utf8.s)
