use Rattle.std.proofs.Common.{Err, subst}
use Rattle.sspi_ber.specs.declared.wire_kind.WireKind.{WireKind}
use Rattle.sspi_tsreq.specs.Answer.{IsAnswer}
use Rattle.sspi_tsreq.proofs.AtOnce.{unfed_past, unkept_marked}
use Rattle.sspi_tsreq.proofs.reader.TsReader.feed_first.Goals as goal

pub returns-in-Err-InsufficientMemory-clause-free : goal.returns-in-Err-InsufficientMemory-clause-free
returns-in-Err-InsufficientMemory-clause-free c = λ bytes s without.
    let at = c.in-Err-InsufficientMemory in
    absurd (unkept_marked bytes c.args.piece.now
    (subst (λ (kind : WireKind). IsAnswer c.args.piece.now (Err kind)) at.field-0-is at.ensures.answer) without)

pub returns-in-Err-InsufficientMemory-clause-past : goal.returns-in-Err-InsufficientMemory-clause-past
returns-in-Err-InsufficientMemory-clause-past c = λ bytes s past. absurd (unfed_past c.args.self.now bytes c.requires s past)
