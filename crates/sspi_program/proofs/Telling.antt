-- What is written if nothing is kept.
use Rattle.std.proofs.Common.{◌≡◌, ℕ, List, Option, sym, ap, subst}
use Rattle.sspi_program.specs.declared.record.Conducted.{Conducted}
use Rattle.sspi_program.specs.declared.said.Said.{Said}
use Rattle.sspi_program.specs.Kept.{nothing}
use Rattle.sspi_program.specs.Run.{Written}
use Rattle.sspi_program.specs.Said.{said_status, said_text}

pub told_as : (said is_said : Said) (made : Conducted) (status : ℕ) (w w2 : Option (List ℕ)) (f f2 : ℕ) → said ≡ is_said →
    made ≡ nothing status → Written (said_status is_said) (said_text is_said) w w2 f f2 status →
    Written (said_status said) (said_text said) w w2 f f2 made.status
told_as said is_said made status w w2 f f2 is made_is wrote =
    subst (λ (s : Said). Written (said_status s) (said_text s) w w2 f f2 made.status) (sym is)
    (subst (λ (n : ℕ). Written (said_status is_said) (said_text is_said) w w2 f f2 n)
    (sym (ap (λ (c : Conducted). c.status) made_is)) wrote)
