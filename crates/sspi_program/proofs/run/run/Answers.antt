use Rattle.std.proofs.Common.{None}
use Rattle.sspi_program.proofs.Ending.{status_refused, status_ends}
use Rattle.sspi_program.proofs.Running.{keeps_only, status_most, status_whole, status_line, status_read, status_calm, status_words}
use Rattle.sspi_program.proofs.Running.{status_none, write_rose, status_reported, owes}
use Rattle.sspi_program.specs.Run.{outside}
use Rattle.sspi_program.proofs.run.run.Goals as goal

pub returns-clause-runs : goal.returns-clause-runs
returns-clause-runs g c =
    let said = c.conduct-said.result in
    let comes = c.conduct-said.ensures.comes in
    let written = c.tell.ensures.written in
    let kept = c.tell.ensures.kept in
    record {
      statuses = record {
        most = status_most _ _ _ _ _ _ _ _ said _ comes written;
        whole = status_whole _ _ 0 0 _ _ _ _ _ said _ c.conduct-said.ensures.judged written;
        two = status_line _ _ _ said _ comes written;
        refused = status_refused _ _ _ _ _ _ _ _ said _ comes written;
        read = status_calm None None _ _ _ _ _ _ said _ c.conduct-said.ensures.calm written;
        three = status_read _ _ _ _ _ _ _ _ said _ comes written;
        four = write_rose _ _ _ _ _ _ _ _ said _ comes written;
        clean = c.tell.ensures.clean;
        six = status_words _ _ _ _ _ _ _ _ said _ comes written;
        no_command = status_none _ _ _ _ _ _ _ _ said _ comes written;
      };
      kept = keeps_only _ _ _ _ said _ _ kept comes;
      reported = status_reported (outside (g.S.Source.left c.args.source.now) (g.S.Source.faults c.args.source.now)
          (g.W.Sink.written c.args.sink.now) (g.W.Sink.faults c.args.sink.now))
          (outside (g.S.Source.left c.conduct-said.new.source) (g.S.Source.faults c.conduct-said.new.source)
          (g.W.Sink.written c.tell.new.sink) (g.W.Sink.faults c.tell.new.sink)) _ said _ _ kept comes written;
      ends = status_ends _ _ _ _ _ _ _ _ _ said comes written;
      owed = owes _ _ _ said _ kept comes written;
    }
