use Rattle.sspi_program.proofs.Telling.{told_as}
use Rattle.sspi_program.proofs.run.tell.Goals as goal

pub returns-in-NoScenario-clause-written : goal.returns-in-NoScenario-clause-written
returns-in-NoScenario-clause-written g c =
    told_as _ _ _ _ _ _ _ _ c.in-NoScenario.is c.nothing.ensures c.tell_line.ensures.written

pub returns-in-ReadFault-clause-written : goal.returns-in-ReadFault-clause-written
returns-in-ReadFault-clause-written g c =
    told_as _ _ _ _ _ _ _ _ c.in-ReadFault.is c.nothing-in-ReadFault.ensures c.write_text-in-ReadFault.ensures.written

pub returns-in-OtherWords-clause-written : goal.returns-in-OtherWords-clause-written
returns-in-OtherWords-clause-written g c =
    told_as _ _ _ _ _ _ _ _ c.in-OtherWords.is c.nothing-in-OtherWords.ensures c.write_text-in-OtherWords.ensures.written

pub returns-in-NoText-clause-written : goal.returns-in-NoText-clause-written
returns-in-NoText-clause-written g c =
    told_as _ _ _ _ _ _ _ _ c.in-NoText.is c.nothing-in-NoText.ensures c.write_text.ensures.written
