use Rattle.std.proofs.Common.{refl}
use Rattle.sspi_framing.proofs.Whole.{is_text}
use Rattle.sspi_gate.proofs.Judged.{lacks_memory}
use Rattle.sspi_gate.proofs.passing.judge.Goals as goal

pub returns-then-not-may_send : goal.returns-then-not-may_send
returns-then-not-may_send c =
    let read = c.in-Ok.ensures.answer.0 in
    (refl, (c.in-Ok.request, is_text c.args.bytes.now c.in-Ok.request read.0 c.requires read.1, c.if-not-may_send.ensures))

pub returns : goal.returns
returns c =
    let read = c.in-Ok.ensures.answer.0 in (
      c.in-Ok.request,
      is_text c.args.bytes.now c.in-Ok.request read.0 c.requires read.1,
      record { version = refl; refusal = c.refusing_code.ensures },
      c.if-not-may_send.ensures,
    )

pub returns-in-Err-InsufficientMemory : goal.returns-in-Err-InsufficientMemory
returns-in-Err-InsufficientMemory c =
    let e = c.in-Err-InsufficientMemory in lacks_memory c.args.bytes.now e.field-0 e.field-0-is c.requires e.ensures.answer
