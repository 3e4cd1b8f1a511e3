-- `jet::fill_from` meets its contract. Assumes nothing.
use native.Mathlib.Omega.{arith}
use Rattle.jet.proofs.Lanes.{triangle_two, triangle_four, triangle_eight}
use Rattle.jet.proofs.fill_from.Goals as goal

pub fill_lanes-requires : goal.fill_lanes-requires
fill_lanes-requires g c = (c.count-m.ensures, triangle_two c.count-m.result.n (omega arith), omega arith)

pub fill_lanes-requires-then-m-le4 : goal.fill_lanes-requires-then-m-le4
fill_lanes-requires-then-m-le4 g c = (c.count-m.ensures, triangle_four c.count-m.result.n (omega arith), omega arith)

pub fill_lanes-requires-else-m-le4 : goal.fill_lanes-requires-else-m-le4
fill_lanes-requires-else-m-le4 g c = (c.count-m.ensures, triangle_eight c.count-m.result.n c.count-m.result.few, omega arith)
