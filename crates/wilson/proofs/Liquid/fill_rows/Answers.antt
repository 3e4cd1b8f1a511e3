use Prim.Native.Nat.{◌+◌, ◌*◌, ◌-◌}
use mathlib.Core.Path.{◌≡◌}
use native.Mathlib.Omega.{arith}
use Rattle.wilson.proofs.Entries.{rows_start, rows_next, rows_done}
use Rattle.wilson.proofs.Liquid.fill_rows.Goals as goal

pub loop-h-init : goal.loop-h-init
loop-h-init c = rows_done _ 0 _ (omega arith) (rows_start _ (omega arith))

pub loop-h-preserved : goal.loop-h-preserved
loop-h-preserved c =
    let q = c.row_sums.ensures in
    let h = c.loop-h.h in
    let z : 2 * h + 0 ≡ 2 * h = omega arith in
    let first = q.jet 0 (omega arith) in
    let s = rw z at first in
    let r = q.jet 1 (omega arith) in
    rows_done _ (2 * h + 1 + 1) _ (omega arith) (rows_next _ (2 * h + 1) (omega arith) r (rows_next _ (2 * h) (omega arith) s c.loop-h.invariant))

pub returns-then-n-eq1 : goal.returns-then-n-eq1
returns-then-n-eq1 c k l =
    let n = c.args.self.m.n in
    let z : n - 1 + 0 ≡ n - 1 = omega arith in
    let first = c.row_sums-then-n-eq1.ensures.jet 0 (omega arith) in
    let s = rw z at first in
    let r = rows_next _ (n - 1) (omega arith) s (rows_done _ _ (n - 1) (omega arith) c.loop-h.invariant) in
    r.jet k (omega arith)

pub returns-else-n-eq1 : goal.returns-else-n-eq1
returns-else-n-eq1 c k l = c.loop-h.invariant.jet k (omega arith)
