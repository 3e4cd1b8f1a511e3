use Rattle.std.proofs.Common.{rules}
use Rattle.numerics.specs.Numerics.{exp_of}
use Rattle.numerics.proofs.exp_two.Goals as goal

pub returns : goal.returns
returns c = c.side_by_side.ensures exp_of (λ x n p. search rules) (λ x y p. search rules)
