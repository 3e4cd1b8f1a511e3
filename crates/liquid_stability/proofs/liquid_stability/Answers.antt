-- `liquid_stability::liquid_stability` meets its contract. Assumes nothing.
use native.Mathlib.Omega.{arith}
use Rattle.outcome.proofs.Exits.{met_reason}
use Rattle.liquid_stability.proofs.Laws.{feed-refused, few-present, tested, others-is, others-fit}
use Rattle.liquid_stability.proofs.liquid_stability.Goals as goal

pub returns-in_err-lg : goal.returns-in_err-lg
returns-in_err-lg g c = rw (met_reason g.E.Reason.said _ _ c.from_residual.ensures.1) (feed-refused _ _ _ _ c.begin.ensures c.in_err-lg.ensures)

pub returns-then-count-lt2 : goal.returns-then-count-lt2
returns-then-count-lt2 g c = rw c.no_trials.ensures
    (few-present _ _ _ _ c.begin.ensures c.in_ok-lg.ensures c.present_count-count.ensures c.if-count-lt2.true)

pub int_to_float-others : goal.int_to_float-others
int_to_float-others g c = others-fit _ _ c.present_count-count.ensures (omega arith)

pub invariant_of-tested : goal.invariant_of-tested
invariant_of-tested g c = record { others_present = rw c.of-m.ensures (others-is _ _ c.present_count-count.ensures) }

pub returns : goal.returns
returns g c = tested _ _ _ _ c.begin.ensures c.in_ok-lg.ensures c.present_count-count.ensures c.if-count-lt2.false
    c.of-m.ensures c.tangent-d.ensures c.trials.ensures
