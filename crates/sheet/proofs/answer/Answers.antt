-- `sheet::answer` meets its contract. Assumes nothing.
use mathlib.Core.Path.{sym}
use Rattle.floats.proofs.Outcomes.{bind-no}
use Rattle.sheet.specs.Sheet.{sheet_of}
use Rattle.sheet.proofs.Laws.{same_as, quits}
use Rattle.sheet.proofs.Dispatch.{opened}
use Rattle.sheet.proofs.answer.Goals as goal

pub returns-in_err-head : goal.returns-in_err-head
unfolding sheet_of
returns-in_err-head c = quits _ _ c.from_residual.ensures.1 (bind-no _ (sym c.in_err-head.ensures))

pub returns : goal.returns
unfolding sheet_of
returns c = same_as (opened _ _ c.in_ok-head.ensures) c.answer_opened.ensures
