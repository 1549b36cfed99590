use Rattle.std.proofs.Common.{List, ℕ, ◌+◌, ap, ◌∙◌, refl, sym}
use Rattle.sspi_tsreq.specs.declared.place.Place.TheVariants.{InNonce, Whole}
use Rattle.sspi_tsreq.specs.Places.{answered, nonce_from, nonce_then}
use Rattle.sspi_tsreq.proofs.Bytewise.{byte_went}
use Rattle.sspi_tsreq.proofs.Walks.{nonce_more, nonce_end}
use Rattle.sspi_tsreq.proofs.reader.TsReader.nonce_byte.Goals as goal

pub returns-then-have-eq31 : goal.returns-then-have-eq31
returns-then-have-eq31 c =
    let before = c.args.self.now in
    byte_went before.nonce c.args.left c.args.byte (InNonce c.args.have) Whole before.request _ refl
    (λ more. ap answered
    (nonce_end before.request before.nonce c.args.have c.args.byte more c.put_byte.ensures.size c.if-have-eq31.true
    ∙ ap (λ (nonce : List ℕ). nonce_then before.request (nonce, more)) (sym c.put_byte.ensures.put)))
    (λ closed other opened. opened)

pub returns-else-have-eq31 : goal.returns-else-have-eq31
returns-else-have-eq31 c =
    let before = c.args.self.now in
    byte_went before.nonce c.args.left c.args.byte (InNonce c.args.have) (InNonce (c.args.have + 1)) before.request _ refl
    (λ more. ap answered
    (nonce_more before.request before.nonce c.args.have c.args.byte more c.put_byte.ensures.size c.requires c.if-have-eq31.false
    ∙ ap (λ (nonce : List ℕ). nonce_from nonce (c.args.have + 1) before.request more) (sym c.put_byte.ensures.put)))
    (λ closed other opened. opened)
