-- The flash with an absent solvent before the kept ones and its shorter sheet, by computation on the definitions. Assumes nothing.
use mathlib.Core.Path.{refl}
use lib.Ieee.{of_bits, to_bits, add, sub, mul, div, neg, lt, le, eq, is_nan, of_int, to_signed, size}
use Rattle.floats.specs.Small.{is_finite, positive}
use Rattle.floats.specs.Fold.{fold_to, all_to}
use Rattle.floats.specs.Vector.{fill_from, fill}
use Rattle.floats.specs.Outcome.{bind, need, choose}
use Rattle.counted.specs.Counted.{uncounted, evaluated, one_passed, evaluated_after, begun_before, go_on, bind_counted, need_counted, choose_counted}
use Rattle.counted.specs.Counted.{told, count_word}
use Rattle.numerics.specs.Numerics.{exp_of, ln_of}
use Rattle.thermo_types.specs.Composition.{sums_to_one, with_fractions, shares_of, normalize_of}
use Rattle.thermo_types.specs.Quantities.{positive_of}
use Rattle.blocks.specs.Words.{word, block, check_sum, sum_by, check_right}
use Rattle.blocks.specs.Bytes.{bytes, row_to, block_bytes}
use Rattle.book.specs.Places.{row_from, pair_place}
use Rattle.book.specs.Book.{model_in, rule_in, rule_of}
use Rattle.records.specs.Records.{range_of, ancillary_of}
use Rattle.records.specs.Parameters.{term_in, pair_term, lower_from, parameter, parameter_row, parameter_rows, parameters_of}
use Rattle.liquid.specs.Vapor.{in_range, term, slope_term, curvature_term, sums_of, vapor_from, vapor_of, representable, vapor_pressure_of}
use Rattle.jet.specs.Jets.{const_j, add_j, sub_j, neg_j, mul_j, scale_j, div_j, exp_with}
use Rattle.nrtl_tables.specs.Pair.{basis_of, tau_j, alpha_j, exponent_j, tau_ij, g_ij, alpha_right, all_right}
use Rattle.excess.specs.State.{gibbs_of, enthalpy_of, heat_capacity_of, entropy_of, state_with, state_from, with_state}
use Rattle.nrtl.specs.Columns.{col_s, col_c, term_j, ln_from, gibbs_from}
use Rattle.nrtl.specs.State.{nrtl_of}
use Rattle.thermo_models.specs.Activity.{excess_by, excess_of, activity_in}
use Rattle.thermo_models.specs.Domain.{solvent_covers, temperature_in_domain, pure_liquids_of, pures_to}
use Rattle.thermo_models.specs.Model.{pressure_in_domain}
use Rattle.saturation.specs.Saturation.{partial_of, partial_sum, bubble_from, gap_of, residual_with, dew_term, dew_pressure, dew_liquid, bubble_at, dew_turn, dew_point}
use Rattle.saturation.specs.Counted.{dew_turn_counted, dew_point_counted, dew_loop_counted, dew_counted}
use Rattle.liquid_stability.specs.Stability.{present_count, tangent, start_from, others_in, total_of, trial_composition, distance_of, next_of, apart_of, unstable}
use Rattle.liquid_stability.specs.Stability.{trial_with, no_trial, no_trials, with_trial}
use Rattle.liquid_stability.specs.Counted.{judge_counted, trial_counted, trials_counted, stability_counted}
use Rattle.tp_flash.specs.Counted.{stable_counted, dew_of_counted, liquid_counted, between_counted, from_dew_counted, phases_counted, flash_counted}
use Rattle.question.specs.Asked.{kind_right, moles_of, tolerance_right, options_right, options_in, question_from, inputs_right, limits_right, task_in, rest_of, question_of}
use Rattle.replies.specs.Blocks.{state_words, model_words, answer_words, answer_bytes, trial_words, trial_bytes}
use Rattle.sheet.specs.Tasks.{task_at, task_of, task7_counted, task7}
use Rattle.sheet.specs.Sheet.{answer_to, roomy, sheet_from}
use Rattle.saturation.specs.Saturation as dew
use Rattle.liquid_stability.specs.Stability as trials
use Rattle.samples.specs.Sheets.{book2}
use Rattle.samples.specs.Absent.{book3, Absent}
use Rattle.samples.proofs.Books.{answered, opened}
use Rattle.samples.proofs.Shorter.{shorter}

pub absent : Absent
unfolding of_bits to_bits add sub mul div neg lt le eq is_nan of_int to_signed size word block check_sum sum_by check_right bytes row_to block_bytes is_finite fold_to all_to
    fill_from fill bind need choose exp_of ln_of sums_to_one with_fractions positive_of row_from pair_place model_in rule_in rule_of range_of term_in pair_term lower_from parameter parameter_row parameter_rows
    parameters_of in_range const_j add_j sub_j neg_j mul_j scale_j div_j exp_with basis_of tau_j alpha_j exponent_j tau_ij g_ij alpha_right all_right col_s col_c term_j ln_from
    gibbs_from gibbs_of enthalpy_of heat_capacity_of entropy_of state_with state_from with_state nrtl_of excess_by excess_of solvent_covers temperature_in_domain pure_liquids_of positive
    tolerance_right options_right options_in question_from inputs_right limits_right task_in kind_right moles_of rest_of question_of state_words model_words answer_words
    answer_bytes task_at task_of answer_to roomy sheet_from shares_of normalize_of ancillary_of term slope_term curvature_term sums_of vapor_from vapor_of representable
    vapor_pressure_of pures_to pressure_in_domain activity_in partial_of partial_sum bubble_from gap_of residual_with dew_term dew_pressure dew_liquid bubble_at dew_turn
    dew_point present_count tangent start_from others_in total_of trial_composition distance_of next_of apart_of unstable trial_with no_trial no_trials
    with_trial trial_words trial_bytes task7 task7_counted told dew.change_of trials.change_of uncounted evaluated one_passed evaluated_after begun_before go_on
    bind_counted need_counted choose_counted count_word dew_turn_counted dew_point_counted dew_loop_counted dew_counted judge_counted trial_counted
    trials_counted stability_counted stable_counted dew_of_counted liquid_counted between_counted from_dew_counted phases_counted flash_counted
absent = record {
  shorter = shorter;
  long = answered book3 _ opened.solvents3 refl;
  short = answered book2 _ opened.solvents2 refl;
}
