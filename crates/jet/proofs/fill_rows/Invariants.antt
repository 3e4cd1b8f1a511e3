-- `jet::fill_rows` meets its contract. Assumes nothing.
use Rattle.std.proofs.Common.{◌≡◌, ℕ, Float}
use Rattle.jet.specs.Planes.{plane_rows}
use Rattle.jet.specs.Lanes.{AllLie, triangle}
use Rattle.jet.proofs.fill_rows.Given as goal

abbrev pub invariant-loop-i : goal.invariant-loop-i
invariant-loop-i g l = (l.q ≡ triangle l.i) × ((f : ℕ → ℕ → ℕ → Float) → AllLie (g.P.Pairs.made_of l.pairs) (g.P.Pairs.own_cells l.pairs) l.lanes f l.fn.m.n → l.table ≡ plane_rows f g.row.M l.i l.i l.initial.table)
