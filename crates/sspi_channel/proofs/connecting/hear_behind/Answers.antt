use Rattle.std.proofs.Common.{refl}
use Rattle.sspi_channel.proofs.connecting.hear_behind.Goals as goal

pub returns-in-Ok : goal.returns-in-Ok
returns-in-Ok g c = λ written write_faults.
    rw c.in-Ok.is (
      c.hear_if_asked.result,
      rw (c.is_asked-asked.ensures, c.as_slice.ensures) at c.hear_if_asked.ensures,
      refl,
      refl,
      c.connected_with.ensures,
    )

pub returns-in-Err : goal.returns-in-Err
returns-in-Err g c = λ written write_faults. rw c.in-Err.is (refl, refl)
