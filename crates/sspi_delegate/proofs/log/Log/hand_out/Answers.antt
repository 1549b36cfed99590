use Rattle.std.proofs.Common.{rules, arith}
use Rattle.sspi_delegate.proofs.Newest.{gives_newest, newest_there, newest_delivers}
use Rattle.sspi_delegate.proofs.log.Log.hand_out.Goals as goal

pub returns-clause-gives : goal.returns-clause-gives
returns-clause-gives c =
    gives_newest c.args.self.now.entries c.self.inside.entries.items c.in-Some.last c.index_mut.result.now c.hand_out.new.entry
    c.hand_out.new.into c.hand_out.result
    (search rules) (omega arith) c.index_mut.ensures.value c.hand_out.ensures.ok c.hand_out.ensures.err

pub returns-clause-delivers : goal.returns-clause-delivers
returns-clause-delivers c =
    newest_delivers c.args.text.now c.self.inside.entries.items c.in-Some.last c.hand_out.new.entry
    (omega arith) c.hand_out.ensures.delivers

pub returns-clause-none : goal.returns-clause-none
returns-clause-none c empty = newest_there c.args.self.now.entries c.self.inside.entries.items c.in-Some.last (search rules)
    (omega arith) empty
