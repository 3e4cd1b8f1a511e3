-- `jet::fill_border` meets its contract. Assumes nothing.
use mathlib.Core.Path.{◌∙◌, ap}
use Prim.Native.Nat.{◌+◌, ◌*◌}
use lib.ListN.{get_or}
use native.Mathlib.Omega.{arith}
use Rattle.jet.specs.Planes.{spread}
use Rattle.jet.specs.Lanes.{no_lane}
use Rattle.jet.proofs.Planes.{pairs_turn}
use Rattle.jet.proofs.Lanes.{made_first, made_second}
use Rattle.jet.proofs.fill_border.Goals as goal

pub loop-j-preserved : goal.loop-j-preserved
loop-j-preserved g c f h =
    let i = c.args.i in
    let j = c.loop-j.j in
    let m = g.P.Pairs.made_of c.args.pairs.now in
    let lane = get_or c.args.lanes.now (c.args.q + j) no_lane in
    let makes = h j (omega arith) in
    pairs_turn f g.row.M i j c.args.table.now
    (c.keep-in-loop-j.ensures
    ∙ made_first m f j i lane makes g.row.M c.keep.new.table c.made-a.result (j * 8 + i) c.first.ensures c.first-u.ensures c.exp_with-in-loop-j.ensures c.made-a.ensures
    ∙ ap (spread (f j i) (j * 8 + i) g.row.M)
    (c.keep.ensures ∙ made_second m f j i lane makes g.row.M c.loop-j.table c.made-b.result (i * 8 + j) c.second.ensures c.second-v.ensures c.exp_with.ensures c.made-b.ensures))
    (c.loop-j.invariant f h)
