use mathlib.Core.Path.{refl, sym}
use native.Mathlib.Omega.{arith}
use Rattle.floats.specs.Fold.{fold_to}
use Rattle.floats.proofs.Folds.{all_at}
use Rattle.sheet.proofs.Parts.{part_room}
use Rattle.queue.specs.Queue.{left_at, parts_to}
use Rattle.queue.proofs.Calls.{left-turn, queue_turn, flashes}
use Rattle.queue.proofs.Shift.put_questions.Goals as goal

pub loop-k-init : goal.loop-k-init
unfolding parts_to fold_to left_at
loop-k-init c = (refl, refl, refl)

pub put_question-left-requires : goal.put_question-left-requires
put_question-left-requires c =
    let l = c.loop-k in
    (part_room l.out c.args.out.now _ _ c.loop-k-test.true c.requires.0 l.invariant.2, rw c.block.ensures (all_at _ _ _ c.loop-k-test.true (flashes _ _ (sym c.requires.1))))

pub loop-k-preserved : goal.loop-k-preserved
loop-k-preserved c =
    let h = c.loop-k.invariant in
    let e = c.put_question-left.ensures in
    (queue_turn _ _ _ _ _ _ h.1 _ _ c.block.ensures e.part h.0, left-turn _ _ _ _ _ _ h.1 c.block.ensures e.left, omega arith)
