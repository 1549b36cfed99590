use Rattle.std.proofs.Common.{ap, ◌∙◌, sym, List, ℕ, ◌+◌}
use Rattle.sspi_tsreq.specs.Places.{answered, nonce_from, nonce_then}
use Rattle.sspi_tsreq.specs.Walks.{filled}
use Rattle.sspi_tsreq.proofs.Walks.{nonce_more, nonce_end}
use Rattle.sspi_tsreq.proofs.walk.Walk.nonce_byte.Goals as goal

pub returns-then-have-eq31-clause-goes : goal.returns-then-have-eq31-clause-goes
returns-then-have-eq31-clause-goes c = λ base more.
    let r = filled base c.args.self.now in
    ap answered (nonce_end r c.args.self.now.nonce c.args.have c.args.byte more c.put_byte.ensures.size c.if-have-eq31.true
    ∙ ap (λ (nonce : List ℕ). nonce_then r (nonce, more)) (sym c.put_byte.ensures.put))

pub returns-else-have-eq31-clause-goes : goal.returns-else-have-eq31-clause-goes
returns-else-have-eq31-clause-goes c = λ base more.
    let r = filled base c.args.self.now in
    ap answered (nonce_more r c.args.self.now.nonce c.args.have c.args.byte more c.put_byte.ensures.size c.if-have-ge32.false
    c.if-have-eq31.false
    ∙ ap (λ (nonce : List ℕ). nonce_from nonce (c.args.have + 1) r more) (sym c.put_byte.ensures.put))
