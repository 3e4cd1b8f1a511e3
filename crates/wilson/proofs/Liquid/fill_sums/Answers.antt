use Prim.Native.Nat.{◌+◌, ◌*◌, ◌-◌}
use native.Mathlib.Omega.{arith}
use Rattle.excess.proofs.Steps.{sum_same, sums-turn, sums_done}
use Rattle.wilson.proofs.Entries.{ln_is, ln_one}
use Rattle.wilson.proofs.Liquid.fill_sums.Goals as goal

pub loop-h-preserved : goal.loop-h-preserved
loop-h-preserved c =
    let h = c.loop-h.h in
    let s = c.fill_rows.ensures (2 * h) (omega arith) in
    let r = c.fill_rows.ensures (2 * h + 1) (omega arith) in
    let l = c.ln_two-k.ensures in
    sums_done _ _ _ _ _ (omega arith)
    (sums-turn _ _ _ _ _ (sum_same _ _ _ _ r (ln_is c.ln_with-in-loop-h.ensures l.1 r) c.keep_sum-total-in-loop-h.ensures)
    (sums-turn _ _ _ _ _ (sum_same _ _ _ _ s (ln_is c.ln_with.ensures l.0 s) c.keep_sum-total.ensures) c.loop-h.invariant))

pub returns-then-n-eq1 : goal.returns-then-n-eq1
returns-then-n-eq1 c =
    let n = c.args.self.m.n in
    let s = c.fill_rows.ensures (n - 1) (omega arith) in
    sums_done _ _ _ _ _ (omega arith)
    (sums-turn _ _ _ _ _ (sum_same _ _ _ _ s (ln_one c.ln.ensures s) c.keep_sum-total-then-n-eq1.ensures) (sums_done _ _ _ _ _ (omega arith) c.loop-h.invariant))
