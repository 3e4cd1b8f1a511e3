-- The two sheets of specs/Refused.antt: their books, their questions and their flashes at P and at the first step, by computation on the definitions. Assumes nothing.
use Prim.Native.Nat.{ℕ}
use mathlib.Core.Path.{◌≡◌, refl}
use mathlib.Core.List.{List, [], ◌∷◌, ◌++◌}
use lib.Ieee.{of_bits, to_bits, add, sub, mul, div, neg, lt, le, eq, is_nan, of_int, to_signed, size}
use Rattle.floats.specs.Small.{is_finite, positive}
use Rattle.floats.specs.Fold.{fold_to, all_to}
use Rattle.floats.specs.Vector.{fill_from, fill}
use Rattle.floats.specs.Outcome.{bind, need, choose}
use Rattle.counted.specs.Counted.{uncounted, evaluated, one_passed, evaluated_after, begun_before, go_on, bind_counted, need_counted, choose_counted, told, count_word}
use Rattle.numerics.specs.Numerics.{exp_of, ln_of}
use Rattle.thermo_types.specs.Composition.{sums_to_one, with_fractions, shares_of, normalize_of}
use Rattle.thermo_types.specs.Quantities.{positive_of}
use Rattle.blocks.specs.Words.{word, block, check_sum, sum_by, check_right}
use Rattle.blocks.specs.Bytes.{bytes, row_to, block_bytes}
use Rattle.book.specs.Places.{row_from, pair_place}
use Rattle.book.specs.Book.{model_in, rule_in, rule_of}
use Rattle.records.specs.Records.{range_of, ancillary_of}
use Rattle.records.specs.Parameters.{term_in, pair_term, lower_from, parameter, parameter_row, parameter_rows, parameters_of}
use Rattle.liquid.specs.Vapor.{in_range, term, slope_term, curvature_term, sums_of, vapor_from, vapor_of, representable, vapor_pressure_of}
use Rattle.jet.specs.Jets.{const_j, add_j, sub_j, neg_j, mul_j, scale_j, div_j, exp_with}
use Rattle.nrtl_tables.specs.Pair.{basis_of, tau_j, alpha_j, exponent_j, tau_ij, g_ij, alpha_right, all_right}
use Rattle.excess.specs.State.{gibbs_of, enthalpy_of, heat_capacity_of, entropy_of, state_with, state_from, with_state}
use Rattle.nrtl.specs.Columns.{col_s, col_c, term_j, ln_from, gibbs_from}
use Rattle.nrtl.specs.State.{nrtl_of}
use Rattle.thermo_models.specs.Activity.{excess_by, excess_of, activity_in}
use Rattle.thermo_models.specs.Domain.{solvent_covers, temperature_in_domain, pure_liquids_of, pures_to}
use Rattle.thermo_models.specs.Model.{pressure_in_domain}
use Rattle.saturation.specs.Saturation.{partial_of, partial_sum, bubble_from, gap_of, residual_with, dew_term, dew_pressure, dew_liquid, bubble_at, dew_turn, dew_point}
use Rattle.saturation.specs.Counted.{dew_turn_counted, dew_point_counted, dew_loop_counted, dew_counted}
use Rattle.liquid_stability.specs.Stability.{present_count, tangent, start_from, others_in, total_of, trial_composition, distance_of, next_of, apart_of, unstable}
use Rattle.liquid_stability.specs.Stability.{trial_with, no_trial, no_trials, with_trial}
use Rattle.liquid_stability.specs.Counted.{judge_counted, trial_counted, trials_counted, stability_counted}
use Rattle.tp_flash.specs.Counted.{stable_counted, dew_of_counted, liquid_counted, between_counted, from_dew_counted, phases_counted, flash_counted}
use Rattle.question.specs.Asked.{kind_right, moles_of, tolerance_right, options_right, options_in, question_from, inputs_right, limits_right, task_in, rest_of, question_of}
use Rattle.sheet.specs.Tasks.{task_at, task_of, task7_counted, task7}
use Rattle.saturation.specs.Saturation as dew
use Rattle.liquid_stability.specs.Stability as trials
use Rattle.blocks.specs.Words.{Bytes, running_sum}
use Rattle.blocks.proofs.Small.{append-bytes, block-bytes}
use Rattle.book.specs.Book.{floats_finite, version_right, head_right, solvent_right, range_right, record_right, records_right, masses_right, cas_new, pair_right, row_right, parameters_finite, bounds_finite, pair_finite, alphas_equal}
use Rattle.book.specs.Book.{model_right, head_in, pairs_of, solvents_of, head_of, book_of}
use Rattle.book.specs.declared.Head.{Head}
use Rattle.book.specs.declared.Model.TheVariants.{Nrtl}
use Rattle.floats.specs.Outcome.{ok, no}
use Rattle.question.specs.declared.Question.{Question}
use Rattle.question.specs.Asked.{feed_of, ratios_of}
use Rattle.sheet.specs.Sheet.{question_to}
use Rattle.tp_flash.specs.Tp.{as_vapor}
use Rattle.striking.specs.Places.{cnt}
use Rattle.striking.specs.Questions.{kept_in, solvents}
use Rattle.striking.specs.Build.{kept_at, change, pair_row, shorter_book, move_up, shorter_question, shorter_of, shorter_ask}
use Rattle.distance.specs.Distance.{pressure_at, outcome_at}
use Rattle.distances.specs.Refused.{long_book, short_book, long_ask, short_ask}

-- ---- the books open
abbrev pub heads : ℕ → Head
heads n = record { n = n; version = 1; model = Nrtl }

pub record Open : Type 0 where
  pub long : book_of long_book ≡ ok (heads 3)
  pub short : book_of short_book ≡ ok (heads 2)

pub opened : Open
unfolding of_bits lt le eq size word block check_sum running_sum sum_by check_right bytes row_to block_bytes is_finite positive all_to need row_from floats_finite version_right head_right solvent_right range_right
    record_right records_right masses_right cas_new pair_right row_right parameters_finite bounds_finite pair_finite alphas_equal model_right model_in head_in pairs_of solvents_of head_of rule_in rule_of book_of
opened = record { long = refl; short = refl }

-- ---- the shorter sheet, as it is built
pub bytes-book : Bytes long_book
bytes-book =
    append-bytes _ _ (append-bytes _ _ (append-bytes _ _ (append-bytes _ _ (append-bytes _ _ (append-bytes _ _ (block-bytes _ _) (block-bytes _ _)) (block-bytes _ _)) (block-bytes _ _)) (block-bytes _ _)) (block-bytes _ _)) (block-bytes _ _)

pub bytes-ask : Bytes long_ask
bytes-ask = block-bytes _ _

pub record Built : Type 0 where
  pub few : solvents long_book ≡ 3
  pub book : shorter_of long_book long_ask ≡ short_book
  pub ask : shorter_ask long_book long_ask ≡ short_ask

pub built : Built
unfolding word block check_sum sum_by check_right bytes row_to block_bytes rule_in cnt kept_in kept_at change pair_row shorter_book move_up shorter_question row_from pair_place
built = record { few = refl; book = refl; ask = refl }

-- ---- both are read, vapor at P; at the first step the longer is refused, the shorter liquid
abbrev pub asked3 : Question
asked3 = question_from (word long_ask) (feed_of long_ask 3) (ratios_of long_ask 3)

abbrev pub asked2 : Question
asked2 = question_from (word short_ask) (feed_of short_ask 2) (ratios_of short_ask 2)

pub record Evaluated : Type 0 where
  pub read3 : question_to long_book 1 3 long_ask ≡ ok asked3
  pub read2 : question_to short_book 1 2 short_ask ≡ ok asked2
  pub task3 : asked3.task ≡ 7
  pub task2 : asked2.task ≡ 7
  pub word3 : word long_ask 1 ≡ 7
  pub word2 : word short_ask 1 ≡ 7
  pub at3 : outcome_at long_book 3 asked3 asked3.pressure ≡ ok 2
  pub at2 : outcome_at short_book 2 asked2 asked2.pressure ≡ ok 2
  pub step3 : outcome_at long_book 3 asked3 (pressure_at asked3.pressure 0) ≡ no 25
  pub step2 : outcome_at short_book 2 asked2 (pressure_at asked2.pressure 0) ≡ ok 1

pub found : Evaluated
unfolding of_bits to_bits add sub mul div neg lt le eq is_nan of_int to_signed size word block check_sum sum_by check_right bytes row_to block_bytes is_finite fold_to all_to
    fill_from fill bind need choose exp_of ln_of sums_to_one with_fractions positive_of row_from pair_place model_in rule_in rule_of range_of term_in pair_term lower_from parameter parameter_row parameter_rows
    parameters_of in_range const_j add_j sub_j neg_j mul_j scale_j div_j exp_with basis_of tau_j alpha_j exponent_j tau_ij g_ij alpha_right all_right col_s col_c term_j ln_from
    gibbs_from gibbs_of enthalpy_of heat_capacity_of entropy_of state_with state_from with_state nrtl_of excess_by excess_of solvent_covers temperature_in_domain pure_liquids_of positive
    tolerance_right options_right options_in question_from inputs_right limits_right task_in kind_right moles_of rest_of question_of
    task_at task_of shares_of normalize_of ancillary_of term slope_term curvature_term sums_of vapor_from vapor_of representable
    vapor_pressure_of pures_to pressure_in_domain activity_in partial_of partial_sum bubble_from gap_of residual_with dew_term dew_pressure dew_liquid bubble_at dew_turn
    dew_point present_count tangent start_from others_in total_of trial_composition distance_of next_of apart_of unstable trial_with no_trial no_trials
    with_trial task7_counted task7 dew.change_of trials.change_of uncounted evaluated one_passed evaluated_after
    begun_before go_on bind_counted need_counted choose_counted told count_word dew_turn_counted dew_point_counted dew_loop_counted dew_counted judge_counted trial_counted
    trials_counted stability_counted stable_counted dew_of_counted liquid_counted between_counted from_dew_counted phases_counted flash_counted outcome_at pressure_at as_vapor
found = record { read3 = refl; read2 = refl; task3 = refl; task2 = refl; word3 = refl; word2 = refl; at3 = refl; at2 = refl; step3 = refl; step2 = refl }
