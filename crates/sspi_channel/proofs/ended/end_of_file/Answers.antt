use Rattle.std.proofs.Common.{refl}
use Rattle.sspi_channel.specs.Ended.{by_text, unread}
use Rattle.sspi_channel.proofs.ended.end_of_file.Goals as goal

pub returns-in-Ok-clause-ends : goal.returns-in-Ok-clause-ends
returns-in-Ok-clause-ends g c =
    by_text c.in-Ok.text (rw c.in-Ok.is at c.read_text.ensures.text) (rw c.in-Ok.is at c.read_text.ensures.cause)
    (rw c.deref.ensures.value at c.end_scenario.ensures)

pub returns-in-Err-clause-ends : goal.returns-in-Err-clause-ends
returns-in-Err-clause-ends g c =
    unread c.in-Err.error (rw c.in-Err.is at c.read_text.ensures.text) (rw c.in-Err.is at c.read_text.ensures.cause) refl
    (rw c.file_error.ensures at c.end_without.ensures.says) (rw c.file_error.ensures at c.end_without.ensures.status)
