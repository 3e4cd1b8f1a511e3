use Rattle.std.proofs.Common.{◌-◌, sym, refl, ◌∙◌, ap, arith, length, length-drop, drop-drop}
use Rattle.floats.proofs.Folds.{all_turn, all_fails}
use Rattle.book.proofs.Blocks.{row_read}
use Rattle.book.proofs.Laws.{row_ends, row_next}
use Rattle.book.specs.Places.{row_from}
use Rattle.book.proofs.Book.pairs_right.Goals as goal

pub split_at-requires : goal.split_at-requires
split_at-requires c = omega (arith, row_ends c.args.self.head.n c.loop-i.i c.args.self.few c.loop-i-test.true refl, c.args.self.size, ap length c.loop-i.invariant.1 ∙ length-drop (row_from c.args.self.head.n c.loop-i.i) _)

pub returns-then-not-row_right : goal.returns-then-not-row_right
returns-then-not-row_right c =
    let fits = (row_ends _ _ c.args.self.few c.loop-i-test.true refl).0 in
    sym (all_fails _ _ _ c.loop-i-test.true (sym (c.if-not-row_right.ensures ∙ row_read _ _ _ _ c.args.self.size fits c.loop-i.invariant.1 c.split_at.ensures.front)))

pub loop-i-preserved : goal.loop-i-preserved
loop-i-preserved c =
    let fits = (row_ends _ _ c.args.self.few c.loop-i-test.true refl).0 in
    let count = c.args.self.head.n - c.loop-i.i - 1 in (
      all_turn _ _ c.loop-i.invariant.0 (sym (c.if-not-row_right.ensures ∙ row_read _ _ _ _ c.args.self.size fits c.loop-i.invariant.1 c.split_at.ensures.front)),
      c.split_at.ensures.back ∙ rw (c.loop-i.invariant.1, row_next) (drop-drop count _ _),
    )
