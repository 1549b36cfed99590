use Rattle.std.proofs.Common.{◌≡◌, ◌∙◌, ℕ, subst, arith}
use Rattle.std.proofs.lemmas.Result.{err_from_is_err_and}
use Rattle.sspi_ber.proofs.Numbers.{ReadSoFar, so_far_step, so_far_stopped, so_far_done, bound_step, fits_u64}
use Rattle.sspi_ber.proofs.Rest.{rest_then}
use Rattle.sspi_ber.proofs.reading.read_number.Goals as goal

pub returns-in_err-byte-clause-read : goal.returns-in_err-byte-clause-read
returns-in_err-byte-clause-read g c =
    let p = err_from_is_err_and c.from_residual.result c.from_residual.ensures.1 in
    rw (p.1, p.2) (so_far_stopped _ _ _ c.loop.value c.loop.counter c.args.size _ c.loop-test.true c.loop.invariant.so_far
    c.in_err-byte.ensures.read)

pub overflow_mul-value : goal.overflow_mul-value
overflow_mul-value g c =
    let grown = fits_u64 _ _ (bound_step c.loop.value c.loop.counter 0 c.loop.invariant.bound (omega arith)) (omega arith) in omega arith

pub overflow_add-value : goal.overflow_add-value
overflow_add-value g c =
    let grown = fits_u64 _ _ (bound_step c.loop.value c.loop.counter c.from.result c.loop.invariant.bound (omega arith))
    (omega arith) in omega arith

pub loop-preserved : goal.loop-preserved
loop-preserved g c = record {
  bound = bound_step c.loop.value c.loop.counter c.from.result c.loop.invariant.bound (omega arith);
  so_far = rw c.from.ensures (so_far_step _ _ _ c.loop.value c.loop.counter _ c.loop.invariant.so_far c.in_ok-byte.ensures.read);
  rest = rest_then c.loop.invariant.rest c.in_ok-byte.ensures.rest;
  cause = c.in_ok-byte.ensures.cause ∙ c.loop.invariant.cause;
}

pub returns-clause-read : goal.returns-clause-read
returns-clause-read g c =
    let last : c.loop.counter ≡ c.args.size = omega arith in
    so_far_done _ _ c.loop.value c.args.size
    (subst (λ (i : ℕ). ReadSoFar (g.S.Source.left c.args.source.now) (g.S.Source.left c.loop.source) c.loop.value i) last
    c.loop.invariant.so_far)

pub returns-in_err-byte-clause-rest : goal.returns-in_err-byte-clause-rest
returns-in_err-byte-clause-rest g c = rest_then c.loop.invariant.rest c.read_byte.ensures.rest
