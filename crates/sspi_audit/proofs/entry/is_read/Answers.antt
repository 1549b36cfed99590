use Rattle.std.proofs.Common.{sym, ◌∙◌}
use Rattle.sspi_tsreq.specs.SameRequest.{request_decided}
use Rattle.sspi_ber.specs.declared.wire_kind.WireKind.TheVariants.{UnexpectedEof, InvalidData}
use Rattle.sspi_audit.proofs.Entries.{read_is, unread}
use Rattle.sspi_audit.proofs.entry.is_read.Goals as goal

pub returns-in-Ok-clause-read : goal.returns-in-Ok-clause-read
returns-in-Ok-clause-read c =
    let is = read_is c.args.octets.now c.in-Ok.read c.args.request.now c.in-Ok.ensures.answer c.in-Ok.ensures.only in
    let decided = request_decided c.in-Ok.read c.args.request.now in
    ((λ same. is.0 (decided.0 (sym c.eq.ensures ∙ same))), (λ read. c.eq.ensures ∙ decided.1 (is.1 read)))

pub returns-in-Err-UnexpectedEof-clause-read : goal.returns-in-Err-UnexpectedEof-clause-read
returns-in-Err-UnexpectedEof-clause-read c =
    let e = c.in-Err-UnexpectedEof in
    ((λ no. absurd (cc (no))), (λ read. absurd (unread _ _ e.field-0 UnexpectedEof e.field-0-is e.ensures.only read)))

pub returns-in-Err-InvalidData-clause-read : goal.returns-in-Err-InvalidData-clause-read
returns-in-Err-InvalidData-clause-read c =
    let e = c.in-Err-InvalidData in
    ((λ no. absurd (cc (no))), (λ read. absurd (unread _ _ e.field-0 InvalidData e.field-0-is e.ensures.only read)))
