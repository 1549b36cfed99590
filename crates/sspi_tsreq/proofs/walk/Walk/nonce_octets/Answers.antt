use Rattle.std.proofs.Common.{ℕ, List, ap, ◌∙◌, subst, sym}
use Rattle.sspi_tsreq.specs.Places.{answered}
use Rattle.sspi_tsreq.specs.Walks.{filled}
use Rattle.sspi_tsreq.specs.Quiet.{IsWithout}
use Rattle.sspi_tsreq.proofs.Feeding.{without_back}
use Rattle.sspi_tsreq.proofs.Walks.{nonce_there}
use Rattle.sspi_tsreq.proofs.walk.Walk.nonce_octets.Goals as goal

pub returns-clause-goes : goal.returns-clause-goes
returns-clause-goes c = λ base more.
    ap answered
    (nonce_there (filled base c.args.self.now) c.copy_from_slice.new.self c.args.len c.args.rest.now more
    c.if-len-ne32.false c.if-rest-lt32.false (c.copy_from_slice.ensures.after ∙ c.split_at.ensures.front))

pub returns-clause-without : goal.returns-clause-without
returns-clause-without c = λ without.
    subst (λ (l : List ℕ). IsWithout 0x04 l) (sym c.split_at.ensures.back) (without_back 0x04 32 c.args.rest.now without)
