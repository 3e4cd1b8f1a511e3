-- `jet::started` meets its contract. Assumes nothing.
use Rattle.jet.specs.Lanes.{lane_of}
use Rattle.jet.proofs.started.Goals as goal

pub returns : goal.returns
unfolding lane_of
returns g c = rw (c.of.ensures, c.of-2.ensures, c.beside.ensures, c.beside-2.ensures, c.exponent.ensures, c.exponent-2.ensures)
