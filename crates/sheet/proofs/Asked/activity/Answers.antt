-- `sheet::Asked::activity` meets its contract. Assumes nothing.
use Rattle.floats.proofs.Outcomes.{bind_yes, bind-no}
use Rattle.sheet.proofs.Laws.{same_as, refuses, quits_reason}
use Rattle.sheet.proofs.Replies.{excess_refused, excess_wild, excess_answered}
use Rattle.sheet.proofs.Asked.activity.Goals as goal

pub returns-in_err-e : goal.returns-in_err-e
returns-in_err-e g c h = quits_reason g.E.Reason.said _ _ c.from_residual.ensures.1 (bind-no _ (excess_refused _ h c.in_err-e.ensures.energies))

pub returns-then-not-is_finite : goal.returns-then-not-is_finite
returns-then-not-is_finite g c h = let e = c.in_ok-e.ensures in
    rw (g.met.E.Reason.of_refusal _ _ c.from.ensures) (refuses (bind-no _ (excess_wild _ h e.energies e.values e.slopes c.if-not-is_finite.ensures)))

pub returns : goal.returns
returns g c h = let e = c.in_ok-e.ensures in
    same_as (bind_yes _ (excess_answered _ h e.energies e.values e.slopes c.if-not-is_finite.ensures)) (rw (c.excess_block-b.ensures, c.value.ensures, c.validity-v.ensures) at c.write_alone.ensures)
