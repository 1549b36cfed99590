use Rattle.std.proofs.Common.{◌∷◌, ap, ◌∙◌, subst, sym}
use Rattle.sspi_tsreq.specs.declared.place.Element.TheVariants.{Optional}
use Rattle.sspi_tsreq.specs.declared.place.Field.TheVariants.{Nego}
use Rattle.sspi_tsreq.specs.declared.place.Next.{Next}
use Rattle.sspi_tsreq.specs.declared.place.Place.TheVariants.{AtTag}
use Rattle.sspi_tsreq.specs.declared.reader.TsReader.{TsReader}
use Rattle.sspi_tsreq.specs.Places.{answered, rest_at}
use Rattle.sspi_tsreq.specs.Reading.{after_version}
use Rattle.sspi_tsreq.specs.Walks.{LeadsTo}
use Rattle.sspi_tsreq.proofs.Bytewise.{byte_went}
use Rattle.sspi_tsreq.proofs.reader.TsReader.step_byte.Goals as goal

pub returns-in-Version-clause-ok : goal.returns-in-Version-clause-ok
returns-in-Version-clause-ok c =
    let before = c.args.self.now in
    byte_went before.nonce c.args.left c.args.byte c.args.place (AtTag (Optional Nego)) before.request _
    (ap (λ (s : TsReader). s.stage) c.begin.ensures)
    (λ more.
    ap answered (subst (λ (n : Next). LeadsTo (rest_at before.nonce c.args.place before.request (c.args.byte ∷ more)) before.nonce
    before.request more n) c.in-Version.is (c.next_place.ensures.goes before.nonce more before.request))
    ∙ ap (λ (s : TsReader). answered (after_version s.request more)) (sym c.begin.ensures))
    (λ closed other opened. opened)
