-- `jet::lay` meets its contract. Assumes nothing.
use Rattle.std.proofs.Common.{◌≡◌}
use Rattle.jet.specs.Lanes.{lane_in, laid, triangle}
use Rattle.jet.proofs.lay.Given as goal

abbrev pub invariant-loop-i : goal.invariant-loop-i
invariant-loop-i g l = (l.q ≡ triangle l.i) × (l.lanes ≡ laid (lane_in (g.P.Pairs.beside_of l.pairs) (g.P.Pairs.exponent_of l.pairs) (g.S.Source.six l.source)) l.i l.initial.lanes)
