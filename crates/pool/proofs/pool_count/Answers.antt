-- `pool::pool_count` meets its contract: the fold over the drums. Assumes nothing.
use Prim.Native.Nat.{ℕ, ◌+◌, ◌/◌, ◌^◌, min}
use mathlib.Core.Path.{refl, ◌∙◌}
use lib.ListN.{length}
use Rattle.std.proofs.Common.{rules}
use Rattle.floats.proofs.Chains.{fold_of_range}
use Rattle.pool.specs.Pool.{pool_count, count_in}
use Rattle.pool.proofs.Laws.{kept-sum}
use Rattle.pool.proofs.pool_count.Goals as goal

pub returns : goal.returns
unfolding pool_count
returns c = let f : ℕ → ℕ = λ d. count_in c.args.drums.now d c.args.i in let p = 2 ^ 53 + 1 in let n = length c.args.drums.now / 64 in
    fold_of_range (λ d s. min (s + f d) p) 0 n refl c.fold.ensures.ran (λ s d r q w. search rules) ∙ kept-sum f p n
