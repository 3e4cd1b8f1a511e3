-- `sheet::answer_offered` meets its contract. Assumes nothing.
use Rattle.floats.specs.Vector.{places}
use Rattle.records.proofs.Offered.{copy-rule}
use Rattle.sheet.specs.Sheet.{answer_to}
use Rattle.sheet.proofs.Dispatch.{short, fronted, front_long}
use Rattle.sheet.proofs.answer_offered.Goals as goal

pub returns-in_default-clause-answers : goal.returns-in_default-clause-answers
returns-in_default-clause-answers c = short _ c.in_default.ensures.cases

pub returns-clause-answers : goal.returns-clause-answers
unfolding answer_to
returns-clause-answers c = fronted c.in-Some.ensures.cases c.solve.ensures.long (rw (c.of-asked.ensures, ← copy-rule (places c.args.n) c.args.book.now c.args.offered.now) at c.solve.ensures.answers)

pub returns-clause-long : goal.returns-clause-long
returns-clause-long c = front_long _ c.in-Some.ensures.cases c.solve.ensures.long
