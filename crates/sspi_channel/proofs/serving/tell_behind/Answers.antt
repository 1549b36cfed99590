use Rattle.std.proofs.Common.{refl}
use Rattle.sspi_channel.proofs.serving.tell_behind.Goals as goal

pub returns-in-Ok : goal.returns-in-Ok
returns-in-Ok g c = λ left read_faults.
    rw c.in-Ok.is (
      c.tell_if_asked.result,
      rw (c.told_by-told.ensures, c.as_slice.ensures) at c.tell_if_asked.ensures,
      refl,
      refl,
      c.served_with.ensures,
    )

pub returns-in-Err : goal.returns-in-Err
returns-in-Err g c = λ left read_faults. rw c.in-Err.is (refl, refl)
