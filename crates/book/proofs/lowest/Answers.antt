-- `book::lowest` meets its contract. Assumes nothing.
use Rattle.std.proofs.Common.{sym, ◌∙◌, arith, refl}
use Rattle.floats.proofs.Folds.{all_turn, all_end}
use Rattle.floats.specs.Fold.{all_to}
use Rattle.book.proofs.Places.{lowest_at, lowest_none}
use Rattle.book.proofs.lowest.Goals as goal

pub loop-k-init : goal.loop-k-init
unfolding all_to
loop-k-init g c = λ q h. refl

pub returns-then-not-passes-clause-first : goal.returns-then-not-passes-clause-first
returns-then-not-passes-clause-first g c = λ q h.
    sym (lowest_at q c.loop-k.k c.args.n c.loop-k-test.true (c.loop-k.invariant q h) (sym (h c.loop-k.k c.passes.result c.loop-k-test.true c.passes.ensures) ∙ c.if-not-passes.true))

pub loop-k-preserved : goal.loop-k-preserved
loop-k-preserved g c = λ q h.
    all_turn q c.loop-k.k (c.loop-k.invariant q h) (sym (h c.loop-k.k c.passes.result c.loop-k-test.true c.passes.ensures) ∙ c.if-not-passes.false)

pub returns-clause-first : goal.returns-clause-first
returns-clause-first g c = λ q h.
    sym (lowest_none q c.args.n (sym (all_end q c.loop-k.k c.args.n (omega arith) (omega arith) (c.loop-k.invariant q h))))
