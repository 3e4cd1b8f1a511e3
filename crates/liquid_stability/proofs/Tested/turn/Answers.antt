-- `liquid_stability::Tested::turn` meets its contract. The parts of a turn, put together. Assumes nothing.
use Rattle.liquid_stability.specs.Stability.{trial_with}
use Rattle.outcome.proofs.Exits.{met_reason}
use Rattle.liquid_stability.proofs.Laws.{turn-refused, turn-infinite, turn-unstable, turn-converged, turn-on}
use Rattle.liquid_stability.proofs.Tested.turn.Goals as goal
use Rattle.liquid_stability.proofs.Tested.turn.Goals.{then-is_unstable-via-then-is_unstable, then-is_unstable-via-else-is_unstable+then-measured}

pub returns-in_err-lg : goal.returns-in_err-lg
returns-in_err-lg g c = rw (met_reason g.E.Reason.said _ _ c.from_residual.ensures.1)
    (turn-refused _ _ _ c.args.self.m.few _ _ _ _ _ c.amounts-big.ensures c.total-s.ensures c.composition-w.ensures _ c.in_err-lg.ensures)

pub returns-then-not-is_finite : goal.returns-then-not-is_finite
returns-then-not-is_finite g c = let m = c.measure-measured.ensures in
    rw (g.met.E.Reason.of_refusal _ _ c.from.ensures)
    (turn-infinite _ _ _ c.args.self.m.few _ _ _ _ _ c.amounts-big.ensures c.total-s.ensures c.composition-w.ensures
    c.in_ok-lg.ensures m.0 m.1 m.2 c.if-not-is_finite.ensures)

pub returns-then-is_unstable : goal.returns-then-is_unstable
unfolding trial_with
returns-then-is_unstable g c = let m = c.measure-measured.ensures in elim c.then-is_unstable.branch [
  | then-is_unstable-via-then-is_unstable w ↦
      turn-unstable _ _ _ c.args.self.m.few _ _ _ _ _ c.amounts-big.ensures c.total-s.ensures c.composition-w.ensures
      c.in_ok-lg.ensures m.0 m.1 m.2 c.if-not-is_finite.ensures w.if-is_unstable.ensures
  | then-is_unstable-via-else-is_unstable+then-measured w ↦
      turn-converged _ _ _ c.args.self.m.few _ _ _ _ _ c.amounts-big.ensures c.total-s.ensures c.composition-w.ensures
      c.in_ok-lg.ensures m.0 m.1 m.2 c.if-not-is_finite.ensures w.if-is_unstable.ensures w.if-measured.true
]

pub returns : goal.returns
returns g c = let m = c.measure-measured.ensures in
    turn-on _ _ _ c.args.self.m.few _ _ _ _ _ c.amounts-big.ensures c.total-s.ensures c.composition-w.ensures
    c.in_ok-lg.ensures m.0 m.1 m.2 c.if-not-is_finite.ensures c.if-is_unstable.ensures c.if-measured.false c.next.ensures
