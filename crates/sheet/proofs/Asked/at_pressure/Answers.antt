-- `sheet::Asked::at_pressure` meets its contract. Assumes nothing.
use mathlib.Core.Path.{◌≡◌, sym, ap, ◌∙◌}
use Rattle.floats.specs.Vector.{places}
use Rattle.floats.proofs.Outcomes.{bind_yes, bind-no}
use Rattle.outcome.specs.Refused.{outcome_of}
use Rattle.records.specs.Offered.{with_pair}
use Rattle.thermo_models.specs.Activity.{activity_of}
use Rattle.thermo_models.specs.Mixture.{mixture_with}
use Rattle.thermo_models.proofs.Offered.{copy_mixture}
use Rattle.sheet.specs.Tasks.{saturated, task4, task5, task_under}
use Rattle.sheet.specs.Asked.{mixture_in}
use Rattle.sheet.specs.Sheet.{replied}
use Rattle.sheet.proofs.Laws.{same_as, quits}
use Rattle.sheet.proofs.Shared.{pascal-no, pascal-ok}
use Rattle.sheet.proofs.Dispatch.{under_4, under_5}
use Rattle.sheet.proofs.Asked.at_pressure.Goals as goal
use Rattle.sheet.proofs.Asked.at_pressure.Goals.{in-BubbleTemperature, in_default}

pub returns-in_err-p : goal.returns-in_err-p
returns-in_err-p c h = quits _ _ c.from_residual.ensures.1 (bind-no _ (bind-no _ (pascal-no _ c.in_err-p.ensures)))

pub returns : goal.returns
unfolding task4 task5 activity_of
returns c h = let s = c.args.self.source in
    let n = places s.n in
    let e : task_under (mixture_with s.book.now c.parameters.new.plane (with_pair n s.book.now s.offered.now) n) c.args.self.q.now c.in_ok-p.p.0 ≡ saturated (outcome_of c.match-task.found) =
    elim c.match-task.branch [
      | in-BubbleTemperature w ↦ rw w.found-is (under_4 _ _ _ _ h w.in-BubbleTemperature.is ∙ ap saturated (sym w.activity_bubble_temperature-found.ensures))
      | in_default w ↦ rw w.found-is (under_5 _ _ _ _ h w.in_default.not-BubbleTemperature ∙ ap saturated (sym w.activity_dew_temperature-found.ensures))
    ] in
    let m : task_under (mixture_in s) c.args.self.q.now c.in_ok-p.p.0 ≡ saturated (outcome_of c.match-task.found) = rw copy_mixture (rw c.parameters.ensures at e) in
    same_as (ap (replied _ _) (bind_yes _ (pascal-ok _ c.in_ok-p.ensures) ∙ m)) c.saturated.ensures
