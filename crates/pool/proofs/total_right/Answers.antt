-- `pool::total_right` meets its contract: the fold over the counts. Assumes nothing.
use Prim.Native.Nat.{◌+◌, ◌^◌, min}
use mathlib.Core.Path.{refl, ◌∙◌}
use Rattle.std.proofs.Common.{rules}
use Rattle.floats.proofs.Chains.{fold_of_range}
use Rattle.blocks.specs.Bytes.{word_at}
use Rattle.pool.specs.Pool.{total_to}
use Rattle.pool.proofs.Laws.{kept-sum, kept-within}
use Rattle.pool.proofs.total_right.Goals as goal

pub returns : goal.returns
returns c = let f = word_at c.args.counts.now in let p = 2 ^ 53 + 1 in let n = c.args.m.n in
    let e = fold_of_range (λ i s. min (s + f i) p) 0 n refl c.fold-sum.ensures.ran (λ s i r q w. search rules) ∙ kept-sum f p n in
    (search rules) ∙ kept-within (2 ^ 53) (total_to f n) e
