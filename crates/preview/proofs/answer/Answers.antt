-- `preview::answer` meets its contract. Assumes nothing.
use mathlib.Core.Path.{sym, ◌∙◌}
use native.Mathlib.Omega.{arith}
use borrow.Author.Tests.{le-leb, lt-leb}
use Rattle.floats.specs.Outcome.{bind, need}
use Rattle.sheet.specs.Sheet.{roomy, sheet_from}
use Rattle.sheet.proofs.Laws.{same_as, refuses, quits}
use Rattle.sheet.proofs.Dispatch.{room_long, in_room, unroomed}
use Rattle.preview.specs.Preview.{preview_of}
use Rattle.preview.proofs.Laws.{copy-question, opened}
use Rattle.preview.proofs.answer.Goals as goal

pub returns-in_err-head : goal.returns-in_err-head
unfolding preview_of bind
returns-in_err-head c = quits _ _ c.from_residual.ensures.1 (rw (sym c.in_err-head.ensures))

pub returns-in_err-open_offered : goal.returns-in_err-open_offered
unfolding preview_of bind
returns-in_err-open_offered c = quits _ _ c.from_residual-in_err-open_offered.ensures.1 (rw (sym c.in_ok-head.ensures, ← c.rule_of-rule.ensures, sym c.in_err-open_offered.ensures))

pub returns-in_default : goal.returns-in_default
unfolding sheet_from roomy need
returns-in_default c = refuses (rw (opened _ _ _ _ c.in_ok-head.ensures c.rule_of-rule.ensures c.in_ok-open_offered.ensures, lt-leb _ _ c.in_default.ensures.cases))

pub returns-in_err-q : goal.returns-in_err-q
unfolding sheet_from roomy bind need
returns-in_err-q c = let u = c.rule_of-rule.ensures in
    let f = c.in-Some.ensures.cases in
    in_room f (room_long f) (quits _ _ c.from_residual-in_err-q.ensures.1
    (rw (opened _ _ _ _ c.in_ok-head.ensures u c.in_ok-open_offered.ensures, le-leb _ _ f.enough, copy-question, ← u, sym c.in_err-q.ensures)))

pub returns : goal.returns
unfolding sheet_from roomy bind need
returns c = let u = c.rule_of-rule.ensures in
    let f = c.in-Some.ensures.cases in
    let a = c.answer_offered.ensures in
    in_room f (a.long ∙ room_long f) (same_as
    (rw (opened _ _ _ _ c.in_ok-head.ensures u c.in_ok-open_offered.ensures, le-leb _ _ f.enough, copy-question, ← u, sym c.in_ok-q.ensures)) (unroomed (omega (arith, room_long f)) a.answers))
