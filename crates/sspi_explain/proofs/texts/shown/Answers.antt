use Rattle.std.proofs.Common.{ℕ, arith, length-take}
use Rattle.sspi_explain.proofs.texts.shown.Goals as goal

pub slice_bounds-encode-end : goal.slice_bounds-encode-end
slice_bounds-encode-end c = omega (arith, length-take {A = ℕ})
