use Rattle.std.proofs.Common.{rules}
use Rattle.numerics.specs.Numerics.{ln_of}
use Rattle.numerics.proofs.ln_two.Goals as goal

pub returns : goal.returns
returns c = c.side_by_side.ensures ln_of (λ x n p. search rules) (λ x y p. search rules)
