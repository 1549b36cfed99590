use Rattle.std.proofs.Common.{ℕ, Global, Vec, refl, rules}
use Rattle.std.proofs.KnownBytes.{Keeps-refl}
use Rattle.sspi_gate.proofs.Judged.{not_kept, not_passed, not_whole}
use Rattle.sspi_gate.proofs.passing.pass_next.Goals as goal

pub returns : goal.returns
returns g c =
    let taken = rw c.in-Ok-Some.field-0-is at c.in-Ok-Some.ensures in
    not_passed c.args.end c.args.first _ _ c.in-Ok-Some.bytes.items _ c.in-Err-judge.why taken.takes.0 taken.takes.1 taken.cause
    (Keeps-refl (g.W.Sink.written c.args.sink.now)) refl c.deref.ensures.value c.in-Err-judge.ensures

pub returns-in-Err : goal.returns-in-Err
returns-in-Err g c =
    not_whole (λ (bytes : Vec ℕ Global). bytes.items) c.args.end c.args.first _ _ c.in-Err.kind c.in-Err.ensures.takes
    c.in-Err.ensures.cause
    (Keeps-refl (g.W.Sink.written c.args.sink.now)) refl (search rules) (search rules)

pub returns-in-Err-InsufficientMemory : goal.returns-in-Err-InsufficientMemory
returns-in-Err-InsufficientMemory g c =
    let lacking = rw c.in-Err-InsufficientMemory.field-0-is at c.in-Err-InsufficientMemory.ensures in
    not_kept c.args.end c.args.first _ _ lacking.takes lacking.cause (Keeps-refl (g.W.Sink.written c.args.sink.now)) refl
