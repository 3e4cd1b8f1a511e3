use Rattle.std.proofs.Common.{rules}
use lib.Ieee.{Float}
use Rattle.floats.proofs.Chains.{fold_of_range}
use Rattle.floats.specs.Arithmetic.{◌⊕◌, 0f}
use Rattle.floats.specs.Vector.{at, places}
use Rattle.thermo_types.proofs.sum.Goals as goal

pub returns : goal.returns
returns c = fold_of_range (λ k (s : Float). s ⊕ at c.args.x.now k) 0f (places c.args.n) c.places.ensures c.fold.ensures.ran (λ s i r f k. search rules)
