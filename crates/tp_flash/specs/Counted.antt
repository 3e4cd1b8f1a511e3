-- The flash with the evaluations of E that it begins, those of a refused one too: the steps of Split.antt and Tp.antt, counted. Assumes nothing.
use Rattle.std.specs.Prelude.{ℕ, zero, suc, ◌+◌, ◌*◌, Bool, not, ◌&&◌, List, eqb, Float}
use Rattle.std.specs.Float.Ieee.{le}
use Rattle.floats.specs.Arithmetic.{1f}
use Rattle.floats.specs.Vector.{at}
use Rattle.floats.specs.Outcome.{Out, ok, no, need}
use Rattle.counted.specs.Counted.{Counted, uncounted, evaluated, bind_counted, need_counted, choose_counted}
use Rattle.thermo_types.specs.Composition.{with_fractions}
use Rattle.thermo_types.specs.declared.ActivityOptions.{ActivityOptions}
use Rattle.thermo_models.specs.Model.{Activity, Activities, Liquids, pressure_in_domain}
use Rattle.rachford_rice.specs.Rachford.{negative}
use Rattle.saturation.specs.Saturation.{bubble_at}
use Rattle.saturation.specs.Counted.{dew_counted}
use Rattle.liquid_stability.specs.Stability.{Trials, present_count}
use Rattle.liquid_stability.specs.Counted.{stability_counted}
use Rattle.tp_flash.specs.Split.{Split, Turn, rice_limit, k_values, phase_of, balance_of, turn_at}
use Rattle.tp_flash.specs.declared.Saturated.{Saturated}
use Rattle.tp_flash.specs.Tp.{Flash, inside, near_edge, gamma_phi, at_boundary, liquid_phase, both_phases, as_vapor}

module _ (E : List Float → Out Activity) (ps : List Float) (n : ℕ) (p : Float) (z : List Float) where
  -- `split_turn`: the activity at the liquid, once Rachford-Rice and both phases are there
  unfoldable pub split_turn_counted : List Float → ℕ → Counted Turn
  split_turn_counted lg iteration =
      bind_counted (uncounted (negative (at z) (at (k_values z ps p lg n)) n rice_limit)) (λ rr.
      bind_counted (uncounted (phase_of z rr.liquid n)) (λ x.
      bind_counted (uncounted (phase_of z rr.vapor n)) (λ y.
      evaluated (turn_at E ps n p z rr.vapor_fraction x y iteration))))

  -- `split_from`
  unfoldable pub split_counted : Float → ℕ → ℕ → List Float → Counted Split
  split_counted tolerance zero done lg = uncounted (no 27)
  split_counted tolerance (suc left) done lg =
      bind_counted (split_turn_counted lg (suc done)) (λ turn.
      choose_counted (le turn.split.residual tolerance)
      (uncounted (ok turn.split))
      (split_counted tolerance left (suc done) turn.activity.ln_gamma))

-- `require_stable_liquid`
unfoldable pub stable_counted : (List Float → Out Activity) → ℕ → ActivityOptions → List Float → Counted Trials
stable_counted E n o x = bind_counted (stability_counted E n o x) (λ s. uncounted (need s.stable 29 (ok s)))

-- `dew_of`
unfoldable pub dew_of_counted : (List Float → Out Activity) → ℕ → ActivityOptions → List Float → List Float → Float → Counted Float
dew_of_counted E n o z ps bubble =
    choose_counted (eqb (present_count z n) 1)
    (uncounted (ok bubble))
    (bind_counted (dew_counted E ps n o z) (λ d. uncounted (ok d.pressure)))

module _ (E : List Float → Out Activity) (n : ℕ) (o : ActivityOptions) (z : List Float) where
  -- `as_liquid`, `as_both`, `boundary_of`, `from_split`
  unfoldable pub liquid_counted : Float → Float → ℕ → Counted Flash
  liquid_counted bubble dew notes =
      bind_counted (stable_counted E n o z) (λ s.
      uncounted (with_fractions (at z) n (ok (liquid_phase bubble dew notes z s))))

  unfoldable pub both_counted : Float → Float → Split → Counted Flash
  both_counted bubble dew s =
      bind_counted (stable_counted E n o s.liquid) (λ r.
      uncounted
      (with_fractions (at s.vapor) n
      (with_fractions (at s.liquid) n
      (ok (both_phases bubble dew s (balance_of s.vapor_fraction s.liquid s.vapor z n) r)))))

  unfoldable pub boundary_counted : Float → Float → Float → Counted Flash
  boundary_counted bubble dew β = choose_counted (le 1f β) (uncounted (as_vapor n z bubble dew at_boundary)) (liquid_counted bubble dew at_boundary)

  unfoldable pub from_split_counted : Float → Float → Split → Counted Flash
  from_split_counted bubble dew s =
      choose_counted (not (inside s.vapor_fraction) && near_edge s.vapor_fraction)
      (boundary_counted bubble dew s.vapor_fraction)
      (need_counted (inside s.vapor_fraction) 30
      (both_counted bubble dew s))

module _ (E : List Float → Out Activity) (n : ℕ) (o : ActivityOptions) (z : List Float) (p : Float) (ps : List Float) where
  -- `split_feed`: one at the feed, then the split's
  unfoldable pub split_feed_counted : Float → Float → Counted Flash
  split_feed_counted bubble dew =
      bind_counted (evaluated (E z)) (λ a.
      bind_counted (split_counted E ps n p z o.tolerance o.max_iterations 0 a.ln_gamma) (λ s.
      from_split_counted E n o z bubble dew s))

  -- `between_of`, `from_dew`, `phases_of`
  unfoldable pub between_counted : Float → Float → Counted Flash
  between_counted bubble dew =
      choose_counted (le bubble p)
      (liquid_counted E n o z bubble dew gamma_phi)
      (choose_counted (le p dew)
      (uncounted (as_vapor n z bubble dew gamma_phi))
      (split_feed_counted bubble dew))

  unfoldable pub from_dew_counted : Float → Counted Flash
  from_dew_counted bubble = bind_counted (dew_of_counted E n o z ps bubble) (λ dew. between_counted bubble dew)

  unfoldable pub phases_counted : Counted Flash
  phases_counted = bind_counted (evaluated (bubble_at E ps n z)) (λ b. from_dew_counted b.pressure)

-- `saturated_of`: bubble and dew both, which no pressure changes
unfoldable pub saturated_counted : (List Float → Out Activity) → ℕ → ActivityOptions → List Float → List Float → Counted Saturated
saturated_counted E n o z ps =
    bind_counted (evaluated (bubble_at E ps n z)) (λ b.
    bind_counted (dew_of_counted E n o z ps b.pressure) (λ dew.
    uncounted (ok (record { bubble = b.pressure; dew = dew }))))

-- `activity_tp_flash`
unfoldable pub flash_counted : Activities → Liquids → (Float → Bool) → ℕ → ActivityOptions → Float → List Float → Float → Counted Flash
flash_counted E L D n o t z p =
    need_counted (D t) 22
    (need_counted (pressure_in_domain p) 23
    (bind_counted (uncounted (L t)) (λ pure.
    phases_counted (E t) n o z p pure.pressure)))

-- (m + 2) M + 4, m the positive mole fractions of the feed: no flash begins more
unfoldable pub most_evaluations : ℕ → ActivityOptions → List Float → ℕ
most_evaluations n o z = (present_count z n + 2) * o.max_iterations + 4
