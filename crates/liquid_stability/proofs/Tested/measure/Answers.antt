use native.Mathlib.Omega.{arith}
use Rattle.liquid_stability.specs.Stability.{distance_of, change_of, apart_of}
use Rattle.liquid_stability.proofs.Laws.{amount-at, present-turn, absent-turn}
use Rattle.liquid_stability.proofs.Tested.measure.Goals as goal
use Rattle.liquid_stability.proofs.Tested.measure.Goals.{then-self-i, else-self-i}

pub loop-i-preserved : goal.loop-i-preserved
unfolding distance_of change_of apart_of
loop-i-preserved c = let m = c.loop-i.invariant in elim c.if-self-i.branch [
  | then-self-i w ↦ let t = w.if-self-i.true in
      let e = amount-at _ _ _ (omega arith) c.requires c.loop-i.i (omega arith) t in (
        present-turn _ _ _ _ m.0 t (rw (w.measured-is, e)),
        present-turn _ _ _ _ m.1 t (rw (w.measured-is, w.max.ensures, w.abs.ensures)),
        present-turn _ _ _ _ m.2 t (rw (w.measured-is, w.max-then-self-i.ensures, w.abs-then-self-i.ensures)),
      )
  | else-self-i w ↦ let t = w.if-self-i.false in
      (absent-turn _ _ _ _ m.0 t (rw w.measured-is), absent-turn _ _ _ _ m.1 t (rw w.measured-is), absent-turn _ _ _ _ m.2 t (rw w.measured-is))
]
