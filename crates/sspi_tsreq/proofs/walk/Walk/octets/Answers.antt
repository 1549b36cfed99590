use Rattle.std.proofs.Common.{ℕ, ◌-◌, List, ◌++◌, length, take, drop, ap, ◌∙◌, sym}
use Rattle.std.proofs.Math.Seq.{drop-length}
use Rattle.sspi_tsreq.specs.declared.request.TsRequest.{TsRequest}
use Rattle.sspi_tsreq.specs.Places.{answered, text_from}
use Rattle.sspi_tsreq.specs.Walks.{with_text, filled, from_field}
use Rattle.sspi_tsreq.proofs.Walks.{octets_there, octets_begun}
use Rattle.sspi_tsreq.proofs.walk.Walk.octets.Goals as goal

pub returns-then-len-rest-clause-goes : goal.returns-then-len-rest-clause-goes
returns-then-len-rest-clause-goes c = λ base more.
    let r = filled base c.args.self.now in
    let here = take c.args.len c.args.rest.now in
    let back = drop c.args.len c.args.rest.now in
    ap answered
    (octets_there c.args.text r c.args.len c.args.rest.now more c.if-len-rest.true
    ∙ c.after_text.ensures r here (back ++ more)
    ∙ ap (λ (x : TsRequest). from_field c.after_text.result x (back ++ more))
    (ap (λ (o : List ℕ). with_text c.args.text r o) (sym c.split_at.ensures.front) ∙ sym (c.put.ensures.fields base))
    ∙ ap (λ (l : List ℕ). from_field c.after_text.result (filled base c.put.new.self) (l ++ more)) (sym c.split_at.ensures.back))

pub returns-else-len-rest-clause-goes : goal.returns-else-len-rest-clause-goes
returns-else-len-rest-clause-goes c = λ base more.
    let r = filled base c.args.self.now in
    let left = c.args.len - length c.args.rest.now - 1 in
    ap answered
    (octets_begun c.args.text r c.args.len c.args.rest.now more c.if-len-rest.false
    ∙ ap (λ (x : TsRequest). text_from c.args.text left x more) (sym (c.put-else-len-rest.ensures.fields base))
    ∙ ap (λ (l : List ℕ). text_from c.args.text left (filled base c.put-else-len-rest.new.self) (l ++ more))
    (sym (c.split_at-else-len-rest.ensures.back ∙ drop-length c.args.rest.now)))
