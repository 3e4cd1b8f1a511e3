-- `book::shaped` meets its contract. Each return rewrites by the tests that led there. Assumes nothing.
use Rattle.std.proofs.Common.{refl}
use Rattle.book.proofs.Laws.{head_count, count_no, count_yes}
use Rattle.book.specs.Book.{head_in, model_in}
use Rattle.book.specs.Places.{words_in}
use Rattle.book.proofs.shaped.Goals as goal

pub returns-then-blocks-m : goal.returns-then-blocks-m
returns-then-blocks-m c =
    let n = head_count (words_in c.args.blocks.now 0) c.if-not-head_right.ensures c.word.ensures c.of-m.ensures in
    rw (← c.if-not-head_right.ensures, count_no c.if-blocks-m.true c.pair_count.ensures.0 n)

pub returns : goal.returns
unfolding head_in model_in
returns c =
    let n = head_count (words_in c.args.blocks.now 0) c.if-not-head_right.ensures c.word.ensures c.of-m.ensures in (
      rw (← c.if-not-head_right.ensures, count_yes c.if-blocks-m.false c.pair_count.ensures.0 n),
      refl,
      rw (n, c.word-2.ensures, c.model_in.ensures, c.word-3.ensures),
    )
