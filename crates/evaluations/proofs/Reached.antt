-- The bound is reached, by computation on the definitions. Assumes nothing.
use mathlib.Core.Path.{refl}
use lib.Ieee.{of_bits, add, sub, mul, div, neg, lt, le, eq, is_nan, of_int, to_signed, size}
use Rattle.floats.specs.Small.{is_finite, positive}
use Rattle.floats.specs.Fold.{fold_to, all_to}
use Rattle.floats.specs.Vector.{fill}
use Rattle.floats.specs.Outcome.{bind, need, choose}
use Rattle.counted.specs.Counted.{uncounted, evaluated, evaluated_after, one_passed, begun_before, go_on, bind_counted, need_counted, choose_counted}
use Rattle.numerics.specs.Numerics.{exp_of, ln_of}
use Rattle.thermo_types.specs.Composition.{sums_to_one, with_fractions, shares_of, normalize_of}
use Rattle.thermo_models.specs.Model.{pressure_in_domain}
use Rattle.rachford_rice.specs.Rachford.{turn_of, residual_of, slope_of, k_max, k_min, validate, liquid_part, vapor_part, solution_at, iterate, between}
use Rattle.rachford_rice.specs.Rachford.{negative}
use Rattle.saturation.specs.Saturation.{partial_of, partial_sum, bubble_from, gap_of, residual_with, dew_term, dew_pressure, dew_liquid, bubble_at, dew_turn}
use Rattle.saturation.specs.Saturation.{dew_point}
use Rattle.saturation.specs.Counted.{dew_turn_counted, dew_point_counted, dew_loop_counted, dew_counted}
use Rattle.saturation.specs.Saturation as dew
use Rattle.liquid_stability.specs.Stability.{present_count, tangent, start_from, others_in, total_of, trial_composition, distance_of, next_of, apart_of}
use Rattle.liquid_stability.specs.Stability.{unstable, trial_with, no_trial, no_trials, with_trial}
use Rattle.liquid_stability.specs.Stability as trials
use Rattle.liquid_stability.specs.Counted.{judge_counted, trial_counted, trials_counted, stability_counted}
use Rattle.tp_flash.specs.Split.{k_values, phase_of, split_gap, balance_of, turn_at}
use Rattle.tp_flash.specs.Tp.{inside}
use Rattle.tp_flash.specs.Counted.{split_turn_counted, split_counted, stable_counted, dew_of_counted, both_counted}
use Rattle.tp_flash.specs.Counted.{from_split_counted, split_feed_counted, between_counted, from_dew_counted, phases_counted, flash_counted, most_evaluations}
use Rattle.evaluations.specs.Reached.{BoundReached}

pub bound_reached : BoundReached
unfolding of_bits add sub mul div neg lt le eq is_nan of_int to_signed size is_finite positive fold_to all_to fill bind need choose uncounted evaluated
    evaluated_after one_passed begun_before go_on bind_counted need_counted choose_counted exp_of ln_of sums_to_one with_fractions shares_of normalize_of
    pressure_in_domain turn_of residual_of slope_of k_max k_min validate liquid_part vapor_part solution_at iterate between negative partial_of partial_sum
    bubble_from gap_of residual_with dew_term dew_pressure dew_liquid bubble_at dew_turn dew_point dew_turn_counted dew_point_counted dew_loop_counted
    dew_counted present_count tangent start_from others_in total_of trial_composition distance_of next_of apart_of unstable trial_with no_trial no_trials
    with_trial judge_counted trial_counted trials_counted stability_counted k_values phase_of split_gap balance_of turn_at inside split_turn_counted
    split_counted stable_counted dew_of_counted both_counted from_split_counted split_feed_counted between_counted from_dew_counted phases_counted
    flash_counted most_evaluations dew.change_of trials.change_of
bound_reached = record { accepted = (_, refl); twelve = refl; of_twelve = refl }
