-- `distance::search` meets its contract. Assumes nothing.
use native.Mathlib.Omega.{arith}
use Rattle.distance.specs.Distance.{step_count}
use Rattle.distance.proofs.Steps.{search_out, search-found, search-same, search-refused}
use Rattle.distance.proofs.search.Goals as goal
use Rattle.distance.proofs.search.Goals.{in-Ok+else-other-outcome, in-Err}

pub returns-then-other-outcome : goal.returns-then-other-outcome
returns-then-other-outcome c =
    search-found _ _ _ step_count _ _ c.loop-j.invariant.2 c.loop-j-test.true c.pressure_at.ensures c.in-Ok.ensures.outcome c.if-other-outcome.true c.step_word.ensures

pub loop-j-preserved : goal.loop-j-preserved
loop-j-preserved c =
    let few = c.loop-j.invariant.0 in
    let run = c.loop-j.invariant.2 in
    elim c.match-outcome_at.branch [
      | in-Ok+else-other-outcome w ↦ rw w.refused-is (
        omega (arith, few),
        c.outcome_at.ensures.kept,
        search-same _ _ _ step_count _ _ run c.loop-j-test.true c.pressure_at.ensures w.in-Ok.ensures.outcome w.if-other-outcome.false,
      )
      | in-Err w ↦ rw w.refused-is (
        omega (arith, few),
        c.outcome_at.ensures.kept,
        search-refused _ _ _ step_count _ _ run c.loop-j-test.true c.pressure_at.ensures w.in-Err.ensures.outcome,
      )
    ]

pub returns : goal.returns
returns c = search_out _ _ _ step_count _ _ c.loop-j.invariant.2 c.loop-j-test.false
