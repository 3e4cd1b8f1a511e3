-- `nrtl_tables::pair_right` meets its contract. Assumes nothing.
use Rattle.nrtl_tables.specs.Pair.{both_above}
use Rattle.nrtl_tables.proofs.pair_right.Goals as goal

pub returns : goal.returns
unfolding both_above
returns g c = let (h, l) = c.requires in rw (c.alpha_right.ensures, c.alpha_right-2.ensures, c.both.ensures.first h l, c.both.ensures.second h l)
