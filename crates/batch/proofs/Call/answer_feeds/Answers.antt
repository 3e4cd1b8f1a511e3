use mathlib.Core.Path.{refl}
use native.Mathlib.Omega.{arith}
use lib.ListN.{length-replicate}
use Rattle.floats.specs.Arithmetic.{0f}
use Rattle.floats.specs.Fold.{fold_to}
use Rattle.batch.specs.Feeds.{parts_to}
use Rattle.sheet.proofs.Parts.{part_room}
use Rattle.batch.proofs.Calls.{keeps-nothing, replied, refused, feeds_turn}
use Rattle.batch.proofs.Call.answer_feeds.Goals as goal
use Rattle.batch.proofs.Call.answer_feeds.Goals.{in-Err, in_default}

pub loop-k-preserved : goal.loop-k-preserved
loop-k-preserved c =
    let a = c.answer_feed.ensures in
    let u = c.rule_of-rule.ensures in
    let h = c.loop-k.invariant in
    let l = part_room c.loop-k.out c.args.out.now _ _ c.loop-k-test.true c.requires.1 h.2 in
    elim c.match-answer_feed.branch [
      | in-Err w ↦ (rw w.out-is (feeds_turn _ _ _ _ _ _ _ _ u c.floats_from-x.ensures (refused _ _ _ _ _ _ a.answers w.in-Err.is l (rw w.from.ensures at w.write_refusal.ensures)) h.0), a.keeps, omega arith)
      | in_default w ↦ (rw w.out-is (feeds_turn _ _ _ _ _ _ _ _ u c.floats_from-x.ensures (replied _ _ _ _ _ _ a.answers w.in_default.is) h.0), a.keeps, omega arith)
    ]
