use Rattle.sspi_tsreq.specs.declared.place.Stage.TheVariants.{OuterTag, OuterLength, Content, Refused}
use Rattle.sspi_tsreq.proofs.Feeding.{early_answer, early_only, last_answer, last_only}
use Rattle.sspi_tsreq.proofs.reader.TsReader.conclude.Goals as goal

pub returns-then-left-gt0-clause-answer : goal.returns-then-left-gt0-clause-answer
returns-then-left-gt0-clause-answer c = λ bytes s. early_answer c.args.self
    (Content c.in-Content.left c.in-Content.place) bytes c.in-Content.is c.if-left-gt0.true s

pub returns-then-left-gt0-clause-only : goal.returns-then-left-gt0-clause-only
returns-then-left-gt0-clause-only c = λ bytes s. early_only c.args.self
    (Content c.in-Content.left c.in-Content.place) bytes _ c.in-Content.is c.if-left-gt0.true s

pub returns-else-left-gt0-clause-answer : goal.returns-else-left-gt0-clause-answer
returns-else-left-gt0-clause-answer c = λ bytes s.
    last_answer c.args.self c.in-Content.left c.in-Content.place bytes c.ended.result c.in-Content.is c.if-left-gt0.false
    (c.ended.ensures.ends c.args.self.nonce) s

pub returns-else-left-gt0-clause-only : goal.returns-else-left-gt0-clause-only
returns-else-left-gt0-clause-only c = λ bytes s.
    last_only c.args.self c.in-Content.left c.in-Content.place bytes c.ended.result c.in-Content.is c.if-left-gt0.false
    (c.ended.ensures.ends c.args.self.nonce) s

pub returns-in-OuterTag-clause-answer : goal.returns-in-OuterTag-clause-answer
returns-in-OuterTag-clause-answer c = λ bytes s. early_answer c.args.self OuterTag bytes c.in-OuterTag.is tt s

pub returns-in-OuterTag-clause-only : goal.returns-in-OuterTag-clause-only
returns-in-OuterTag-clause-only c = λ bytes s. early_only c.args.self OuterTag bytes _ c.in-OuterTag.is tt s

pub returns-in-OuterLength-clause-answer : goal.returns-in-OuterLength-clause-answer
returns-in-OuterLength-clause-answer c = λ bytes s. early_answer c.args.self
    (OuterLength c.in-OuterLength.field-0) bytes c.in-OuterLength.is tt s

pub returns-in-OuterLength-clause-only : goal.returns-in-OuterLength-clause-only
returns-in-OuterLength-clause-only c = λ bytes s. early_only c.args.self
    (OuterLength c.in-OuterLength.field-0) bytes _ c.in-OuterLength.is tt s

pub returns-in-Refused-clause-answer : goal.returns-in-Refused-clause-answer
returns-in-Refused-clause-answer c = λ bytes s. early_answer c.args.self Refused bytes c.in-Refused.is tt s

pub returns-in-Refused-clause-only : goal.returns-in-Refused-clause-only
returns-in-Refused-clause-only c = λ bytes s. early_only c.args.self Refused bytes _ c.in-Refused.is tt s
