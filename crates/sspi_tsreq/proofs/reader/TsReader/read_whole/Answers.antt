use Rattle.sspi_tsreq.proofs.AtOnce.{kept_stands}
use Rattle.sspi_tsreq.proofs.reader.TsReader.read_whole.Goals as goal

pub returns-clause-ok : goal.returns-clause-ok
returns-clause-ok c = kept_stands c.args.self.now c.args.piece.now _ c.in_ok-self.ensures.answer
