-- An object asks a KDC at most as often as its mechanism promises.
use Rattle.std.proofs.Common.{ℕ, ◌+◌, ◌<◌, ◌≤◌, arith}
use Rattle.sspi_mech.specs.declared.step.Answer.{Answer}
use Rattle.sspi_mech.specs.declared.step.Answer.TheVariants.{Done, Ask, Refused}
use Rattle.sspi_mech.specs.declared.step.Reply.{Reply}
use Rattle.sspi_mech.specs.Calls.{StepArgs}
use Rattle.sspi_mech.specs.Laws.{IsMechanism}
use Rattle.sspi_mech.specs.Life.{HasLived, made, acquired, stepped, resumed, accepted, identified, counted, questions_in}
use Rattle.sspi_mech.specs.Meaning.{Meaning}

no_more : (n i j r : ℕ) → n + i ≤ r → j ≤ i → n + j ≤ r
no_more n i j r h fewer = omega (arith, h, fewer)

one_more : (n i j r : ℕ) → n + i ≤ r → j < i → n + 1 + j ≤ r
one_more n i j r h fewer = omega (arith, h, fewer)

module _ {S M : Type 0} (r : ℕ) (it : Meaning S M) (laws : IsMechanism r it) where
  after_step : (m m2 : M) (n : ℕ) (a : StepArgs) (answer : Answer) → n + it.left m ≤ r → it.steps m a answer m2 →
      n + questions_in answer + it.left m2 ≤ r
  after_step m m2 n a (Done s) h step = no_more (n + 0) (it.left m) (it.left m2) r (omega (arith, h)) (laws.step_left m m2 a (Done s) step)
  after_step m m2 n a (Ask q) h step = one_more n (it.left m) (it.left m2) r h (laws.step_asks m m2 a q step)
  after_step m m2 n a (Refused e) h step = no_more (n + 0) (it.left m) (it.left m2) r (omega (arith, h))
      (laws.step_left m m2 a (Refused e) step)

  after_resume : (m m2 : M) (n : ℕ) (b : Reply) (answer : Answer) → n + it.left m ≤ r → it.resumes m b answer m2 →
      n + questions_in answer + it.left m2 ≤ r
  after_resume m m2 n b (Done s) h step = no_more (n + 0) (it.left m) (it.left m2) r (omega (arith, h))
      (laws.resume_left m m2 b (Done s) step)
  after_resume m m2 n b (Ask q) h step = one_more n (it.left m) (it.left m2) r h (laws.resume_asks m m2 b q step)
  after_resume m m2 n b (Refused e) h step = no_more (n + 0) (it.left m) (it.left m2) r (omega (arith, h))
      (laws.resume_left m m2 b (Refused e) step)

  pub asks_at_most : (m : M) (n : ℕ) → HasLived it m n → n + it.left m ≤ r
  asks_at_most _ _ (made s m h) = let few : it.left m ≤ r = laws.made_left s m h in omega (arith, few)
  asks_at_most _ _ (acquired m0 m n u d b life h) =
      no_more n (it.left m0) (it.left m) r (asks_at_most m0 n life) (laws.acquire_left m0 m u d b h)
  asks_at_most _ _ (stepped m0 m n0 a answer life h) = after_step m0 m n0 a answer (asks_at_most m0 n0 life) h
  asks_at_most _ _ (resumed m0 m n0 b answer life h) = after_resume m0 m n0 b answer (asks_at_most m0 n0 life) h
  asks_at_most _ _ (accepted m0 m n a answer life h) =
      no_more n (it.left m0) (it.left m) r (asks_at_most m0 n life) (laws.accept_left m0 m a answer h)
  asks_at_most _ _ (identified m0 m n ids life h) =
      no_more n (it.left m0) (it.left m) r (asks_at_most m0 n life) (laws.identify_left m0 m ids h)
  asks_at_most _ _ (counted m0 n counts life) = rw (laws.left_counted m0 counts) (asks_at_most m0 n life)
