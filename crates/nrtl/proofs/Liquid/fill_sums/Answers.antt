use mathlib.Core.Path.{refl}
use native.Mathlib.Omega.{arith}
use Rattle.floats.specs.Fold.{fold_to}
use Rattle.nrtl.proofs.Lanes.{lanes_turn, lanes_done}
use Rattle.nrtl.proofs.Liquid.fill_sums.Goals as goal

pub loop-i-init : goal.loop-i-init
unfolding fold_to
loop-i-init c = record { fours = omega arith; within = omega arith; s = refl; r = refl }

pub loop-i-preserved : goal.loop-i-preserved
loop-i-preserved c =
    let q = c.sums_from.ensures in
    let a = c.loop-i.invariant in
    record { fours = omega arith; within = omega arith; s = lanes_turn _ _ _ 4 _ q.s a.s; r = lanes_turn _ _ _ 4 _ q.r a.r }

pub returns-then-i-self : goal.returns-then-i-self
returns-then-i-self c =
    let q = c.sums_from-then-i-self.ensures in
    let a = c.loop-i.invariant in
    record { s = lanes_done _ _ _ _ _ (omega arith) (lanes_turn _ _ _ 2 _ q.s a.s); r = lanes_done _ _ _ _ _ (omega arith) (lanes_turn _ _ _ 2 _ q.r a.r) }
