use Rattle.std.proofs.Common.{refl, arith}
use Rattle.sspi_credssp.specs.Context.{either}
use Rattle.sspi_delegate.specs.Chain.{kdc_calls}
use Rattle.sspi_delegate.proofs.Asking.{kdc_replied}
use Rattle.sspi_delegate.proofs.Refusing.{called_takes, resumed_takes}
use Rattle.sspi_delegate.proofs.ends.finish_turn.Goals as goal

pub returns-in-Err-clause-turn : goal.returns-in-Err-clause-turn
returns-in-Err-clause-turn g c =
    called_takes (either g.N.Mechanism.REQUESTS g.N.Mechanism.meaning g.K.Mechanism.meaning)
    (kdc_calls g.D.Kdc.told g.D.Kdc.asked g.D.Kdc.faults) c.args.client.now c.process.new.self c.args.kdc.now c.args.request _ refl
    c.in-Err.ensures

pub loop-progress-init : goal.loop-progress-init
loop-progress-init g c = record {
  takes = called_takes (either g.N.Mechanism.REQUESTS g.N.Mechanism.meaning g.K.Mechanism.meaning)
      (kdc_calls g.D.Kdc.told g.D.Kdc.asked g.D.Kdc.faults) c.args.client.now c.process.new.self c.args.kdc.now c.args.request _ refl
      c.in-Ok.ensures;
  kdc = record { told_same = refl; counted = omega arith };
}

pub returns-in-Err-resume-clause-turn : goal.returns-in-Err-resume-clause-turn
returns-in-Err-resume-clause-turn g c =
    let takes = rw c.in-Suspended.is at c.loop-progress.invariant.takes in
    resumed_takes (either g.N.Mechanism.REQUESTS g.N.Mechanism.meaning g.K.Mechanism.meaning)
    (kdc_calls g.D.Kdc.told g.D.Kdc.asked g.D.Kdc.faults) c.args.client.now c.loop-progress.client c.resume.new.self c.args.kdc.now
    c.loop-progress.kdc c.ask.new.kdc c.args.request c.in-Suspended.question _ _ takes
    (c.loop-progress.kdc, takes.replied, c.in-Some.ensures.replied) c.in-Err-resume.ensures

pub returns-in-Err-resume-clause-kdc : goal.returns-in-Err-resume-clause-kdc
returns-in-Err-resume-clause-kdc g c = kdc_replied g.D.Kdc.told g.D.Kdc.asked g.D.Kdc.faults c.args.kdc.now c.loop-progress.kdc
    c.ask.new.kdc
    _ _ c.loop-progress.invariant.kdc c.in-Some.ensures.replied

pub loop-progress-preserved : goal.loop-progress-preserved
loop-progress-preserved g c =
    let takes = rw c.in-Suspended.is at c.loop-progress.invariant.takes in
    record {
      takes = resumed_takes (either g.N.Mechanism.REQUESTS g.N.Mechanism.meaning g.K.Mechanism.meaning)
          (kdc_calls g.D.Kdc.told g.D.Kdc.asked g.D.Kdc.faults) c.args.client.now c.loop-progress.client c.resume.new.self
          c.args.kdc.now c.loop-progress.kdc c.ask.new.kdc c.args.request c.in-Suspended.question _ _ takes
          (c.loop-progress.kdc, takes.replied, c.in-Some.ensures.replied) c.in-Ok-resume.ensures;
      kdc = kdc_replied g.D.Kdc.told g.D.Kdc.asked g.D.Kdc.faults c.args.kdc.now c.loop-progress.kdc c.ask.new.kdc _ _
          c.loop-progress.invariant.kdc c.in-Some.ensures.replied;
    }

pub returns-in-Completed-clause-turn : goal.returns-in-Completed-clause-turn
returns-in-Completed-clause-turn g c = rw c.in-Completed.is at c.loop-progress.invariant.takes

pub returns-in_default-clause-turn : goal.returns-in_default-clause-turn
returns-in_default-clause-turn g c = record {
  question = c.in-Suspended.question;
  asked_by = c.loop-progress.kdc;
  takes = rw c.in-Suspended.is at c.loop-progress.invariant.takes;
  lost = c.ask.ensures.lost c.in_default.is;
}
