-- `sheet::flash_ready` meets its contract: nothing is offered, and the pressure is one that what was made ready has passed. Assumes nothing.
use mathlib.Core.Path.{refl, sym, ap, ◌∙◌}
use native.Mathlib.Omega.{arith}
use Rattle.floats.proofs.Outcomes.{refused}
use Rattle.counted.specs.Counted.{Counted, count_word}
use Rattle.records.proofs.Offered.{copy-nothing}
use Rattle.replies.specs.Blocks.{Answer}
use Rattle.sheet.specs.Sheet.{replied, answer_to}
use Rattle.sheet.proofs.Laws.{same_as}
use Rattle.sheet.proofs.Flashes.{flash_task_at, task_seven}
use Rattle.sheet.proofs.Shared.{pascal-no, pascal-ok, flash_pressure, pressures_at}
use Rattle.sheet.proofs.Dispatch.{short, room_long, fronted, front_long}
use Rattle.sheet.proofs.flash_ready.Goals as goal

pub returns-in_default-clause-answers : goal.returns-in_default-clause-answers
returns-in_default-clause-answers c e h = short _ c.in_default.ensures.cases

pub returns-in_default-clause-counted : goal.returns-in_default-clause-counted
returns-in_default-clause-counted c l h = absurd (omega (arith, c.in_default.ensures.cases, l))

pub returns-in_err-p-clause-answers : goal.returns-in_err-p-clause-answers
returns-in_err-p-clause-answers c e h = absurd (refused (sym (pascal-no _ c.in_err-p.ensures) ∙ (flash_pressure _ c.args.q.now h).1))

pub returns-in_err-p-clause-counted : goal.returns-in_err-p-clause-counted
returns-in_err-p-clause-counted c l h = absurd (refused (sym (pascal-no _ c.in_err-p.ensures) ∙ (flash_pressure _ c.args.q.now h).1))

pub returns-in_err-p-clause-long : goal.returns-in_err-p-clause-long
returns-in_err-p-clause-long c = let f = c.in-Some.ensures.cases in front_long _ f (room_long f)

pub returns-clause-answers : goal.returns-clause-answers
unfolding answer_to
returns-clause-answers c e h =
    let p = pascal-ok _ c.in_ok-p.ensures in
    let a = rw (c.of-asked.ensures, copy-nothing) at c.flash.ensures.answers in
    fronted c.in-Some.ensures.cases c.flash.ensures.long
    (same_as (ap (replied _ _) (task_seven _ c.args.q.now (h.temperature _ refl) p e)) (a (h.tables _ refl) (pressures_at _ c.args.q.now h p)))

pub returns-clause-counted : goal.returns-clause-counted
returns-clause-counted c l h =
    let p = pascal-ok _ c.in_ok-p.ensures in
    let a = rw (c.of-asked.ensures, copy-nothing) at c.flash.ensures.counted in
    a (h.tables _ refl) (pressures_at _ c.args.q.now h p) ∙ ap (λ (d : Counted Answer). count_word d.begun) (sym (flash_task_at _ c.args.q.now (h.temperature _ refl) p))

pub returns-clause-long : goal.returns-clause-long
returns-clause-long c = front_long _ c.in-Some.ensures.cases c.flash.ensures.long
