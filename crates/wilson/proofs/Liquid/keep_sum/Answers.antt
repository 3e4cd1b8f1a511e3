-- `wilson::Liquid::keep_sum` meets its contract. Assumes nothing.
use mathlib.Core.Path.{refl}
use Rattle.excess.proofs.Steps.{sum-turn}
use Rattle.wilson.proofs.Liquid.keep_sum.Goals as goal

pub returns : goal.returns
returns c = sum-turn _ _ _ _ _ refl refl c.scale.ensures c.add.ensures
