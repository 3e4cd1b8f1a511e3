use Rattle.floats.specs.Fold.{fold_to}
use Rattle.thermo_models.proofs.Pairs.{none_seen}
use Rattle.thermo_models.proofs.Present.see_all.Goals as goal

pub loop-i-init : goal.loop-i-init
unfolding fold_to
loop-i-init c = let h = c.default-s.ensures in none_seen h.0 h.1.0 h.1.1.0 h.1.1.1
