use Rattle.std.proofs.Common.{ap, refl}
use Rattle.sspi_tsreq.specs.declared.reader.TsReader.{TsReader}
use Rattle.sspi_tsreq.proofs.Bytewise.{octet_went}
use Rattle.sspi_tsreq.proofs.reader.TsReader.read_byte.Goals as goal

pub returns-in_ok-push_byte-in-InText-clause-ok : goal.returns-in_ok-push_byte-in-InText-clause-ok
returns-in_ok-push_byte-in-InText-clause-ok c =
    octet_went c.args.self.now.nonce c.args.left c.in-InText.more c.args.byte c.args.place c.text_place.result c.in-InText.text
    c.args.self.now.request _ c.text_place.ensures c.in-InText.is refl
    (ap (λ (s : TsReader). s.request) c.in_ok-push_byte-in-InText.ensures.ok)
