use Rattle.std.proofs.Common.{List, ℕ, ◌++◌, ap, ◌∙◌, subst}
use Rattle.sspi_tsreq.specs.Walks.{goes_on}
use Rattle.sspi_tsreq.specs.Quiet.{IsWithout}
use Rattle.sspi_tsreq.proofs.walk.Walk.advance.Goals as goal

pub loop-byte-preserved : goal.loop-byte-preserved
loop-byte-preserved c =
    let so-far = c.loop-byte.invariant in
    let parts = c.in-Some.ensures in
    record {
      goes = λ base more.
          so-far.goes base more ∙ ap (λ (l : List ℕ). goes_on c.loop-byte.self base (l ++ more)) parts ∙ c.step-rest.ensures.goes base more;
      text = c.step-rest.ensures.text;
      quiet = λ quiet without.
          let q = so-far.quiet quiet without in
          let behind = subst (λ (l : List ℕ). IsWithout 0x04 l) parts q.1 in
          c.step-rest.ensures.quiet q.0 behind.0 behind.1;
    }
