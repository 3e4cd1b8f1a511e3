-- `sheet::Asked::flash` meets its contract. Assumes nothing.
use native.Mathlib.Omega.{arith}
use Rattle.floats.proofs.Outcomes.{bind_yes, bind-no}
use Rattle.sheet.proofs.Laws.{same_as, quits_reason}
use Rattle.sheet.proofs.Replies.{flash-begun, flash_refused, flash_answered, flash_fits}
use Rattle.sheet.proofs.Asked.flash.Goals as goal

pub returns-in_err-f-clause-answers : goal.returns-in_err-f-clause-answers
returns-in_err-f-clause-answers g c h w = quits_reason g.E.Reason.said _ _ c.from_residual.ensures.1 (bind-no _ (flash_refused _ h _ w c.in_err-f.ensures))

pub returns-in_err-f-clause-counted : goal.returns-in_err-f-clause-counted
returns-in_err-f-clause-counted g c h w = flash-begun _ h _ w c.in_err-f.ensures

pub write_answer-requires : goal.write_answer-requires
write_answer-requires g c = rw c.flash_block-b.ensures (flash_fits _ _ _ _ _ _ c.in_ok-f.ensures)

pub returns-clause-answers : goal.returns-clause-answers
returns-clause-answers g c h w = same_as (bind_yes _ (flash_answered _ h _ w (omega arith) c.in_ok-f.ensures))
    (rw (c.flash_block-b.ensures, c.unwrap_or-trials.ensures, c.no_trials.ensures, c.value.ensures, c.value-2.ensures) at c.write_answer.ensures)

pub returns-clause-counted : goal.returns-clause-counted
returns-clause-counted g c h w = flash-begun _ h _ w c.in_ok-f.ensures
