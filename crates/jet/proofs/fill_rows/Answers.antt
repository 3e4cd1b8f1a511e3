-- `jet::fill_rows` meets its contract. Assumes nothing.
use mathlib.Core.Path.{refl, ◌∙◌, ap}
use Prim.Native.Nat.{◌+◌, ◌*◌}
use native.Mathlib.Omega.{arith}
use Rattle.floats.specs.Fold.{fold_to}
use Rattle.jet.specs.Lanes.{triangle}
use Rattle.jet.proofs.Planes.{spread_cong, square-next}
use Rattle.jet.proofs.Lanes.{triangle_next, triangle-below}
use Rattle.jet.proofs.fill_rows.Goals as goal

pub loop-i-init : goal.loop-i-init
unfolding fold_to triangle
loop-i-init g c = (refl, λ f h. refl)

pub fill_border-requires : goal.fill_border-requires
fill_border-requires g c =
    let (q, _) = c.loop-i.invariant in
    let (k, few) = c.requires in
    let below = triangle-below c.loop-i.i c.args.m.n (omega arith) in
    (omega (arith, few), (omega (arith, c.args.m.few), omega (arith, q, k, below)))

pub overflow_add-q : goal.overflow_add-q
overflow_add-q g c =
    let (q, _) = c.loop-i.invariant in
    let (k, few) = c.requires in
    let below = triangle-below c.loop-i.i c.args.m.n (omega arith) in
    omega (arith, q, k, below, few)

pub loop-i-preserved : goal.loop-i-preserved
loop-i-preserved g c =
    let (q, t) = c.loop-i.invariant in
    let i = c.loop-i.i in (
      omega (arith, q, triangle_next i),
      λ f h. square-next f g.row.M i c.args.table.now (omega (arith, c.args.m.few)) (t f h)
          (c.fill_border.ensures f (rw q (h.pairs i (omega arith))))
          (c.keep.ensures ∙ spread_cong (i * 8 + i) g.row.M c.fill_border.new.table (λ k s. c.own.ensures k s ∙ ap (λ d. d k) (h.diagonal i (omega arith)))),
    )
