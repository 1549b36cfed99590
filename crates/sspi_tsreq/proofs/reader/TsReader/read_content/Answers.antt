use Rattle.std.proofs.Common.{ap, refl}
use Rattle.sspi_tsreq.specs.declared.reader.TsReader.{TsReader}
use Rattle.sspi_tsreq.proofs.Bytewise.{text_went}
use Rattle.sspi_tsreq.proofs.reader.TsReader.read_content.Goals as goal

pub returns-clause-ok : goal.returns-clause-ok
returns-clause-ok c =
    text_went c.args.self.now.nonce c.args.left c.in-InText.more c.args.body.now c.args.place c.in-InText.text c.args.self.now.request _
    c.if-body-more.true c.in-InText.is refl
    (ap (λ (s : TsReader). s.request) c.in_ok-lengthen_field.ensures.ok)
