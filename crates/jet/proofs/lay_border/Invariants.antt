-- `jet::lay_border` meets its contract. Assumes nothing.
use Rattle.std.proofs.Common.{◌≡◌}
use Rattle.jet.specs.Lanes.{lane_in, laid_border}
use Rattle.jet.proofs.lay_border.Given as goal

abbrev pub invariant-loop-j : goal.invariant-loop-j
invariant-loop-j g l = l.lanes ≡ laid_border (lane_in (g.P.Pairs.beside_of l.pairs) (g.P.Pairs.exponent_of l.pairs) (g.S.Source.six l.source)) l.i l.q l.j l.initial.lanes
