-- `sheet::Asked::split` meets its contract. Assumes nothing.
use mathlib.Core.Path.{ap}
use Rattle.floats.proofs.Outcomes.{bind_yes, bind-no}
use Rattle.outcome.specs.Refused.{outcome_of}
use Rattle.sheet.specs.Asked.{split}
use Rattle.sheet.proofs.Laws.{same_as, quits}
use Rattle.sheet.proofs.Replies.{rice-alone}
use Rattle.sheet.proofs.Asked.split.Goals as goal

pub returns-in_err-s : goal.returns-in_err-s
unfolding split
returns-in_err-s c = quits _ _ c.from_residual.ensures.1 (bind-no _ (bind-no _ (ap outcome_of c.in_err-s.was)))

pub write_alone-requires : goal.write_alone-requires
write_alone-requires c = rw c.rice_block.ensures (rice-alone _ _ _)

pub returns : goal.returns
unfolding split
returns c = same_as (bind_yes _ (bind_yes _ (ap outcome_of c.in_ok-s.was))) (rw c.rice_block.ensures at c.write_alone.ensures)
