-- `pool::answer` meets its contract. Assumes nothing.
use mathlib.Core.Path.{sym, ◌∙◌}
use native.Mathlib.Omega.{arith}
use borrow.Author.Tests.{le-leb, lt-leb, ne_eqb}
use Rattle.floats.specs.Outcome.{bind, need}
use Rattle.sheet.specs.Sheet.{roomy}
use Rattle.sheet.proofs.Laws.{same_as, refuses, quits}
use Rattle.sheet.proofs.Dispatch.{room_long, in_room, unroomed}
use Rattle.pool.specs.Pool.{fed_to, drums_to, pooled_from, pooled_of}
use Rattle.pool.proofs.Laws.{counted, count_fits}
use Rattle.pool.proofs.Calls.{asked, pooled}
use Rattle.pool.proofs.answer.Goals as goal

pub returns-in_err-n : goal.returns-in_err-n
unfolding pooled_of bind
returns-in_err-n c = quits _ _ c.from_residual.ensures.1 (rw (sym c.in_err-n.ensures))

pub returns-in_default : goal.returns-in_default
unfolding pooled_of pooled_from roomy bind need
returns-in_default c = refuses (rw (sym c.in_ok-n.ensures, lt-leb _ _ c.in_default.ensures.cases))

pub returns-in_err-read_task : goal.returns-in_err-read_task
unfolding pooled_of pooled_from roomy bind need
returns-in_err-read_task c = let f = c.in-Some.ensures.cases in in_room f (room_long f) (quits _ _ c.from_residual-in_err-read_task.ensures.1
    (rw (sym c.in_ok-n.ensures, le-leb _ _ c.in-Some.ensures.cases.enough, ← c.rule_of.ensures, sym c.in_err-read_task.ensures)))

pub returns-then-not-drums_right : goal.returns-then-not-drums_right
unfolding drums_to need
returns-then-not-drums_right c = let f = c.in-Some.ensures.cases in in_room f (room_long f) (refuses (rw (asked _ _ _ _ c.in_ok-n.ensures c.in-Some.ensures.cases.enough c.rule_of.ensures c.in_ok-read_task.ensures, sym c.if-not-drums_right.ensures)))

pub returns-then-not-total_right : goal.returns-then-not-total_right
unfolding drums_to need
returns-then-not-total_right c = let f = c.in-Some.ensures.cases in in_room f (room_long f) (refuses (rw (
  asked _ _ _ _ c.in_ok-n.ensures c.in-Some.ensures.cases.enough c.rule_of.ensures c.in_ok-read_task.ensures,
  ← c.of-m.ensures,
  sym c.if-not-drums_right.ensures,
  sym (c.if-not-total_right.ensures ∙ counted _ _ c.of-m.result.few c.pool_counts-counts.ensures),
)))

pub returns-then-word-ne0 : goal.returns-then-word-ne0
unfolding drums_to need
returns-then-word-ne0 c = let f = c.in-Some.ensures.cases in in_room f (room_long f) (refuses (rw (
  asked _ _ _ _ c.in_ok-n.ensures c.in-Some.ensures.cases.enough c.rule_of.ensures c.in_ok-read_task.ensures,
  ← c.of-m.ensures,
  sym c.if-not-drums_right.ensures,
  sym (c.if-not-total_right.ensures ∙ counted _ _ c.of-m.result.few c.pool_counts-counts.ensures),
  ← c.word.ensures,
  ne_eqb _ 0 c.if-word-ne0.true,
)))

pub pool_feed-requires : goal.pool_feed-requires
pool_feed-requires c = count_fits _ _ c.of-m.result.few c.pool_counts-counts.ensures (sym c.if-not-total_right.ensures)

pub returns-in_err-x : goal.returns-in_err-x
unfolding bind
returns-in_err-x c = let f = c.in-Some.ensures.cases in in_room f (room_long f) (quits _ _ c.from_residual-in_err-x.ensures.1 (rw (
  pooled _ _ _ _ c.in_ok-n.ensures c.in-Some.ensures.cases.enough c.rule_of.ensures c.in_ok-read_task.ensures c.of-m.ensures c.if-not-drums_right.ensures
      c.of-m.result.few c.pool_counts-counts.ensures c.if-not-total_right.ensures c.word.ensures c.if-word-ne0.false,
  sym c.in_err-x.ensures,
)))

pub returns-in_err-q : goal.returns-in_err-q
unfolding fed_to bind
returns-in_err-q c = let f = c.in-Some.ensures.cases in in_room f (room_long f) (quits _ _ c.from_residual-in_err-q.ensures.1 (rw (
  pooled _ _ _ _ c.in_ok-n.ensures c.in-Some.ensures.cases.enough c.rule_of.ensures c.in_ok-read_task.ensures c.of-m.ensures c.if-not-drums_right.ensures
      c.of-m.result.few c.pool_counts-counts.ensures c.if-not-total_right.ensures c.word.ensures c.if-word-ne0.false,
  sym c.in_ok-x.ensures,
  c.of-m.ensures,
  sym c.in_err-q.ensures,
)))

pub returns : goal.returns
unfolding fed_to bind
returns c = let f = c.in-Some.ensures.cases in
    let a = c.answer_asked.ensures in
    in_room f (a.long ∙ room_long f) (same_as (rw (
      pooled _ _ _ _ c.in_ok-n.ensures f.enough c.rule_of.ensures c.in_ok-read_task.ensures c.of-m.ensures c.if-not-drums_right.ensures
          c.of-m.result.few c.pool_counts-counts.ensures c.if-not-total_right.ensures c.word.ensures c.if-word-ne0.false,
      sym c.in_ok-x.ensures,
      c.of-m.ensures,
      sym c.in_ok-q.ensures,
    )) (unroomed (omega (arith, room_long f)) a.answers))
