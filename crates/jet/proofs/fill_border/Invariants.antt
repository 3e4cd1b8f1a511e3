-- `jet::fill_border` meets its contract. Assumes nothing.
use Rattle.std.proofs.Common.{◌≡◌, ℕ, Float}
use Rattle.jet.specs.Planes.{plane_pairs}
use Rattle.jet.specs.Lanes.{Lies}
use Rattle.jet.proofs.fill_border.Given as goal

abbrev pub invariant-loop-j : goal.invariant-loop-j
invariant-loop-j g l = (f : ℕ → ℕ → ℕ → Float) → Lies (g.P.Pairs.made_of l.pairs) l.lanes f l.i l.q l.i → l.table ≡ plane_pairs f g.row.M l.i l.j l.initial.table
