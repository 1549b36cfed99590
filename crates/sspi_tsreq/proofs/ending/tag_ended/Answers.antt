use Rattle.sspi_tsreq.proofs.ending.tag_ended.Goals as goal

pub returns-in-Required-clause-ends : goal.returns-in-Required-clause-ends
returns-in-Required-clause-ends c = rw c.in-Required.is (c.missing.ensures.ends c.args.request)
