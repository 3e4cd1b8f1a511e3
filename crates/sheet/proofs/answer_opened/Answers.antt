-- `sheet::answer_opened` meets its contract. Assumes nothing.
use mathlib.Core.Path.{sym, ◌∙◌}
use native.Mathlib.Omega.{arith}
use Rattle.floats.proofs.Outcomes.{bind_yes, bind-no}
use Rattle.sheet.specs.Sheet.{sheet_from}
use Rattle.sheet.proofs.Laws.{same_as, quits}
use Rattle.sheet.proofs.Dispatch.{short, room_long, fronted, unroomed}
use Rattle.sheet.proofs.answer_opened.Goals as goal

pub returns-in_default : goal.returns-in_default
unfolding sheet_from
returns-in_default c = short _ c.in_default.ensures.cases

pub returns-in_err-q : goal.returns-in_err-q
unfolding sheet_from
returns-in_err-q c = let f = c.in-Some.ensures.cases in
    let e = rw c.rule_of.ensures at c.in_err-q.ensures in fronted f (room_long f) (quits _ _ c.from_residual.ensures.1 (bind-no _ (sym e)))

pub returns : goal.returns
unfolding sheet_from
returns c = let f = c.in-Some.ensures.cases in
    let e = rw c.rule_of.ensures at c.in_ok-q.ensures in
    let a = c.answer_asked.ensures in
    fronted f (a.long ∙ room_long f) (same_as (bind_yes _ (sym e)) (unroomed (omega (arith, room_long f)) a.answers))
