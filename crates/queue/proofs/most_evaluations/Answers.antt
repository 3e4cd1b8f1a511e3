-- `queue::most_evaluations` meets its contract. Assumes nothing.
use native.Mathlib.Nat.{min-le_right}
use native.Mathlib.Omega.{arith}
use Prim.Native.Nat.{◌≤◌}
use Rattle.floats.specs.Vector.{places}
use Rattle.liquid_stability.proofs.Laws.{count_le}
use Rattle.tp_flash.specs.Counted.{most_evaluations}
use Rattle.queue.proofs.Calls.{most-fits}
use Rattle.queue.proofs.most_evaluations.Goals as goal

pub overflow_add-result : goal.overflow_add-result
overflow_add-result c = let l = count_le c.args.z.now (places c.args.n) in
    omega (arith, l, min-le_right c.args.n 8, c.present_count-present.ensures)

pub overflow_mul-result : goal.overflow_mul-result
overflow_mul-result c = let l = count_le c.args.z.now (places c.args.n) in
    let p : c.present_count-present.result ≤ 8 = omega (arith, l, min-le_right c.args.n 8, c.present_count-present.ensures) in
    omega (arith, most-fits p c.requires)

pub overflow_add-result-2 : goal.overflow_add-result-2
overflow_add-result-2 c = let l = count_le c.args.z.now (places c.args.n) in
    let p : c.present_count-present.result ≤ 8 = omega (arith, l, min-le_right c.args.n 8, c.present_count-present.ensures) in
    omega (arith, most-fits p c.requires)

pub returns : goal.returns
unfolding most_evaluations
returns c = rw c.present_count-present.ensures
