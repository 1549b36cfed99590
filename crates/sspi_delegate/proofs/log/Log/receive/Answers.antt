use Rattle.std.proofs.Common.{rules, arith}
use Rattle.sspi_delegate.proofs.Newest.{gives_newest, newest_there, received_newest}
use Rattle.sspi_delegate.proofs.log.Log.receive.Goals as goal

pub returns-clause-gives : goal.returns-clause-gives
returns-clause-gives g c =
    gives_newest c.args.self.now.entries c.self.inside.entries.items c.in-Some.last c.index_mut.result.now c.receive.new.entry
    c.receive.new.into c.receive.result
    (search rules) (omega arith) c.index_mut.ensures.value c.receive.ensures.ok c.receive.ensures.err

pub returns-clause-none : goal.returns-clause-none
returns-clause-none g c empty = newest_there c.args.self.now.entries c.self.inside.entries.items c.in-Some.last (search rules)
    (omega arith) empty

pub returns-clause-receives : goal.returns-clause-receives
returns-clause-receives g c =
    received_newest _ _ _ c.args.self.now.entries c.self.inside.entries.items c.in-Some.last c.index_mut.result.now c.receive.new.into
    c.receive.result (search rules) (omega arith) c.index_mut.ensures.value c.receive.ensures.receives
