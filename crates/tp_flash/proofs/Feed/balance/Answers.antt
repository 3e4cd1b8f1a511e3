-- `tp_flash::Feed::balance` meets its contract. Assumes nothing.
use Rattle.std.proofs.Common.{rules}
use lib.Ieee.{Float}
use Rattle.floats.proofs.Chains.{fold_of_range}
use Rattle.floats.specs.Arithmetic.{◌⊕◌, ◌⊖◌, ◌⊗◌, 0f, 1f}
use Rattle.floats.specs.Small.{max_of, abs_of}
use Rattle.floats.specs.Vector.{at, places}
use Rattle.tp_flash.specs.Split.{balance_of}
use Rattle.tp_flash.proofs.Feed.balance.Goals as goal

pub returns : goal.returns
unfolding balance_of
returns c = fold_of_range (λ i (r : Float). max_of r (abs_of (c.args.beta ⊗ at c.args.y.now i ⊕ (1f ⊖ c.args.beta) ⊗ at c.args.x.now i ⊖ at c.args.self.z.now i)))
    0f (places c.args.self.at.n) c.places.ensures c.fold.ensures.ran (λ s i r f k. search rules)
