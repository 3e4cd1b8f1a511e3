-- `sheet::Asked::stability` meets its contract. Assumes nothing.
use mathlib.Core.Path.{sym, ◌∙◌}
use Rattle.floats.proofs.Outcomes.{bind_yes, bind-no}
use Rattle.sheet.proofs.Laws.{same_as, quits_reason}
use Rattle.sheet.proofs.Replies.{stability-at, trials_found, stability_fits}
use Rattle.sheet.proofs.Asked.stability.Goals as goal

pub returns-in_err-found : goal.returns-in_err-found
returns-in_err-found g c h = quits_reason g.E.Reason.said _ _ c.from_residual.ensures.1 (bind-no _ (stability-at _ h ∙ bind-no _ (sym (trials_found _ _ _ _ c.in_err-found.ensures))))

pub write_answer-requires : goal.write_answer-requires
write_answer-requires g c = rw c.stability_block-b.ensures (stability_fits _ _ _ _ c.in_ok-found.ensures)

pub returns : goal.returns
returns g c h = same_as (bind_yes _ (stability-at _ h ∙ bind_yes _ (sym (trials_found _ _ _ _ c.in_ok-found.ensures)))) (rw c.stability_block-b.ensures at c.write_answer.ensures)
