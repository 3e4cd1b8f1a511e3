use Prim.Native.Nat.{◌+◌, ◌*◌, ◌-◌, ◌/◌}
use native.Mathlib.Omega.{arith}
use Rattle.excess.proofs.Steps.{gammas_more, gammas_done}
use Rattle.wilson.proofs.Summed.fill_lns.Goals as goal
use Rattle.wilson.proofs.Summed.fill_lns.Goals.{then-n-ge2, else-n-ge2}

pub loop-h-preserved : goal.loop-h-preserved
loop-h-preserved c =
    let k = c.keep_lns.ensures in
    gammas_done _ _ _ (omega arith) (gammas_more _ _ 4 _ c.lns_from.ensures k.values k.slopes c.loop-h.invariant)

pub returns-then-n-eq1 : goal.returns-then-n-eq1
returns-then-n-eq1 c =
    let n = c.args.self.of.m.n in
    let h = c.loop-h.h in
    let k = c.keep_lns-then-n-eq1.ensures in
    elim c.if-n-ge2.branch [
      | then-n-ge2 w ↦
          let p = w.keep_lns-then-n-ge2.ensures in
          gammas_done _ (n - 1 + 1) n (omega arith) (gammas_more _ (n - 1) 1 _ c.lns_from-then-n-eq1.ensures k.values k.slopes
          (gammas_done _ (n / 4 * 4 + 2) (n - 1) (omega arith) (rw (w.ln_gamma-is, w.slopes-is)
          (gammas_more _ (n / 4 * 4) 2 _ w.lns_from-then-n-ge2.ensures p.values p.slopes (gammas_done _ (4 * h) (n / 4 * 4) (omega arith) c.loop-h.invariant)))))
      | else-n-ge2 w ↦
          gammas_done _ (n - 1 + 1) n (omega arith) (gammas_more _ (n - 1) 1 _ c.lns_from-then-n-eq1.ensures k.values k.slopes
          (gammas_done _ (4 * h) (n - 1) (omega arith) (rw (w.ln_gamma-is, w.slopes-is) c.loop-h.invariant)))
    ]

pub returns-else-n-eq1 : goal.returns-else-n-eq1
returns-else-n-eq1 c =
    let n = c.args.self.of.m.n in
    let h = c.loop-h.h in
    elim c.if-n-ge2.branch [
      | then-n-ge2 w ↦
          let p = w.keep_lns-then-n-ge2.ensures in
          gammas_done _ (n / 4 * 4 + 2) n (omega arith) (rw (w.ln_gamma-is, w.slopes-is)
          (gammas_more _ (n / 4 * 4) 2 _ w.lns_from-then-n-ge2.ensures p.values p.slopes (gammas_done _ (4 * h) (n / 4 * 4) (omega arith) c.loop-h.invariant)))
      | else-n-ge2 w ↦ gammas_done _ (4 * h) n (omega arith) (rw (w.ln_gamma-is, w.slopes-is) c.loop-h.invariant)
    ]
