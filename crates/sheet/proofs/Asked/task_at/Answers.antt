-- `sheet::Asked::task_at` meets its contract. Assumes nothing.
use mathlib.Core.Path.{sym, ap, ◌∙◌}
use mathlib.Core.Logic.{inl, inr}
use Rattle.floats.proofs.Outcomes.{bind_yes, bind-no}
use Rattle.sheet.specs.Tasks.{saturated}
use Rattle.sheet.specs.Sheet.{replied}
use Rattle.sheet.proofs.Laws.{same_as, quits_refusal}
use Rattle.sheet.proofs.Shared.{pascal-no, pascal-ok}
use Rattle.sheet.proofs.Replies.{bubble-at, dew-at}
use Rattle.sheet.proofs.Dispatch.{at_1, at_2, at_3, at_6, at_rest, pressures-pure, pressures-rest}
use Rattle.sheet.proofs.Asked.task_at.Goals as goal

pub returns-in-Activity-clause-answers : goal.returns-in-Activity-clause-answers
returns-in-Activity-clause-answers g c h w = same_as (ap (replied _ _) (at_1 _ _ _ _ c.task_or_flash.ensures c.in-Activity.is)) (c.activity.ensures h)

pub returns-in-BubblePressure-clause-answers : goal.returns-in-BubblePressure-clause-answers
returns-in-BubblePressure-clause-answers g c h w = let d = c.task_or_flash.ensures in
    let k = c.in-BubblePressure.is in
    let b = sym (pressures-pure _ _ _ _ _ d (inl k)) ∙ w in
    same_as (ap (replied _ _) (at_2 _ _ _ _ d k ∙ bubble-at _ h b ∙ ap saturated (sym c.activity_bubble_pressure.ensures))) c.saturated.ensures

pub returns-in-DewPressure-clause-answers : goal.returns-in-DewPressure-clause-answers
returns-in-DewPressure-clause-answers g c h w = let d = c.task_or_flash.ensures in
    let k = c.in-DewPressure.is in
    let b = sym (pressures-pure _ _ _ _ _ d (inr k)) ∙ w in
    same_as (ap (replied _ _) (at_3 _ _ _ _ d k ∙ dew-at _ h b ∙ ap saturated (sym c.activity_dew_pressure-found.ensures))) c.saturated-in-DewPressure.ensures

pub returns-in-Stability-clause-answers : goal.returns-in-Stability-clause-answers
returns-in-Stability-clause-answers g c h w = same_as (ap (replied _ _) (at_6 _ _ _ _ c.task_or_flash.ensures c.in-Stability.is)) (c.stability.ensures h)

pub returns-in_err-p-in_default-clause-answers : goal.returns-in_err-p-in_default-clause-answers
returns-in_err-p-in_default-clause-answers g c h w = let n = c.in_default in
    let r = at_rest _ _ _ _ c.task_or_flash.ensures n.not-Activity n.not-BubblePressure n.not-DewPressure n.not-Stability in
    quits_refusal g.E.Reason.said g.met.E.Reason.of_refusal _ _ c.from_residual.ensures.1 (bind-no _ (r ∙ bind-no _ (pascal-no _ c.in_err-p-in_default.ensures)))

pub returns-in_ok-p-in_default-clause-answers : goal.returns-in_ok-p-in_default-clause-answers
returns-in_ok-p-in_default-clause-answers g c h w = let d = c.task_or_flash.ensures in
    let n = c.in_default in
    let o = pascal-ok _ c.in_ok-p-in_default.ensures in
    let r = at_rest _ _ _ _ d n.not-Activity n.not-BubblePressure n.not-DewPressure n.not-Stability in
    let f = pressures-rest _ _ _ _ _ d n.not-Activity n.not-BubblePressure n.not-DewPressure n.not-Stability in
    same_as (ap (replied _ _) (r ∙ bind_yes _ o)) (c.flash.ensures.answers h (sym (f ∙ bind_yes _ o) ∙ w))
