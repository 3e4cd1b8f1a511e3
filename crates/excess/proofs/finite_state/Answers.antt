-- `excess::finite_state` meets its contract. Assumes nothing.
use mathlib.Core.Path.{refl, sym, ◌∙◌}
use Rattle.floats.proofs.Outcomes.{need_yes, need-no, need_both}
use Rattle.excess.specs.State.{finite_state}
use Rattle.excess.proofs.Passing.{gives, gives-no}
use Rattle.excess.proofs.finite_state.Goals as goal

pub returns-then-not-both_finite : goal.returns-then-not-both_finite
unfolding finite_state
returns-then-not-both_finite c =
    let e = rw c.of.ensures at c.both_finite.ensures in
    let k = c.clear.ensures in
    gives (need_both _ _ 25 _ ∙ need-no 25 _ (sym e ∙ c.if-not-both_finite.true)) (gives-no 25 refl k.cleared_values k.cleared_slopes)

pub returns : goal.returns
unfolding finite_state
returns c =
    let e = rw c.of.ensures at c.both_finite.ensures in
    gives (need_both _ _ 25 _ ∙ need_yes 25 _ (sym e ∙ c.if-not-both_finite.false)) c.state.ensures
