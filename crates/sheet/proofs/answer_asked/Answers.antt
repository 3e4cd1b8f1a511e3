-- `sheet::answer_asked` meets its contract: nothing is offered. Assumes nothing.
use Rattle.records.proofs.Offered.{copy-nothing}
use Rattle.sheet.proofs.answer_asked.Goals as goal

pub returns-clause-answers : goal.returns-clause-answers
returns-clause-answers c = rw copy-nothing at c.answer_offered.ensures.answers
