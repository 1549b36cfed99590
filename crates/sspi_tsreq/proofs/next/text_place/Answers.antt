use Rattle.std.proofs.Common.{ℕ, ap, ◌∙◌, arith}
use Rattle.sspi_tsreq.specs.declared.request.TsRequest.{TsRequest}
use Rattle.sspi_tsreq.specs.Places.{text_left}
use Rattle.sspi_tsreq.specs.Walks.{with_text, from_field}
use Rattle.sspi_tsreq.proofs.Walks.{put_again, text_over}
use Rattle.sspi_tsreq.proofs.next.text_place.Goals as goal

pub returns-then-more-gt0 : goal.returns-then-more-gt0
returns-then-more-gt0 c = λ nonce rest octets r.
    ap (λ (n : ℕ). text_left c.args.text n (with_text c.args.text r octets) rest) (omega (arith, c.if-more-gt0.true))

pub returns-else-more-gt0 : goal.returns-else-more-gt0
returns-else-more-gt0 c = λ nonce rest octets r.
    text_over c.args.text c.args.more r octets rest c.if-more-gt0.false
    ∙ c.after_text.ensures (with_text c.args.text r octets) octets rest
    ∙ ap (λ (q : TsRequest). from_field c.after_text.result q rest) (put_again c.args.text r octets)
