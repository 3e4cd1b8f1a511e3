-- The one test of the samples of docs/FORMAT.md, by computation on the definitions. Assumes nothing.
use mathlib.Core.Path.{refl}
use lib.Ieee.{of_bits, to_bits, add, sub, mul, div, neg, lt, le, eq, is_nan, of_int, to_signed, size}
use Rattle.floats.specs.Small.{is_finite, positive}
use Rattle.floats.specs.Fold.{fold_to, all_to}
use Rattle.floats.specs.Vector.{fill_from, fill}
use Rattle.floats.specs.Outcome.{bind, need, choose}
use Rattle.numerics.specs.Numerics.{exp_of, ln_of}
use Rattle.thermo_types.specs.Composition.{sums_to_one, with_fractions, shares_of, normalize_of}
use Rattle.thermo_types.specs.Quantities.{positive_of}
use Rattle.blocks.specs.declared.Rule.TheVariants.{Plain, Running}
use Rattle.blocks.specs.Words.{word, block, check_sum, running_sum, sum_by, check_right}
use Rattle.blocks.specs.Bytes.{bytes, row_to, block_bytes}
use Rattle.book.specs.Places.{row_from, pair_place}
use Rattle.book.specs.Book.{model_in, rule_in, rule_of}
use Rattle.records.specs.Records.{range_of, regression_of}
use Rattle.records.specs.Parameters.{term_in, wilson_term, pair_term, lower_from, parameter, parameter_row, parameter_rows, parameters_of}
use Rattle.liquid.specs.Vapor.{in_range}
use Rattle.jet.specs.Jets.{const_j, add_j, sub_j, neg_j, mul_j, scale_j, div_j, exp_with, ln_with}
use Rattle.nrtl_tables.specs.Pair.{basis_of, tau_j, alpha_j, exponent_j, tau_ij, g_ij, alpha_right, all_right}
use Rattle.excess.specs.State.{gibbs_of, enthalpy_of, heat_capacity_of, entropy_of, state_with, state_from, with_state}
use Rattle.nrtl.specs.Columns.{col_s, col_c, term_j, ln_from, gibbs_from}
use Rattle.nrtl.specs.State.{nrtl_of}
use Rattle.wilson_tables.specs.Pair.{kelvin_j, ln_lambda_j, lambda_ij}
use Rattle.wilson.specs.Sums.{row_s, quotients, wilson_from, gibbs_of_ln}
use Rattle.wilson.specs.State.{wilson_of}
use Rattle.thermo_models.specs.Activity.{excess_by, excess_of}
use Rattle.thermo_models.specs.Domain.{solvent_covers, temperature_in_domain, pure_liquids_of}
use Rattle.thermo_models.specs.Validity.{unseen, noted, visited, row_seen, all_seen, status_of, validity_of}
use Rattle.rachford_rice.specs.Rachford.{turn_of, residual_of, slope_of, k_max, k_min, validate, liquid_part, vapor_part, solution_at, iterate, between, negative}
use Rattle.rachford_rice.specs.Rachford.{two_phase, one_phase, constrained}
use Rattle.saturation.specs.Saturation.{bubble_pressure}
use Rattle.question.specs.Asked.{kind_right, moles_of, tolerance_right, options_right, options_in, question_from, inputs_right, limits_right, task_in, rest_of, question_of}
use Rattle.replies.specs.Blocks.{state_words, model_words, answer_words, answer_bytes, refused_task, refusal_words, refusal_bytes}
use Rattle.replies.specs.Answers.{rice_block}
use Rattle.sheet.specs.Tasks.{task_at, task_of, excess_found, saturated, task1, task2, task8, task9, task_split}
use Rattle.sheet.specs.Sheet.{answer_to, roomy, sheet_from}
use Rattle.samples.specs.Sheets.{½, book1, book2, wide, book2-weighed, book1_of, wilson1, wilson2}
use Rattle.samples.specs.Samples.{Samples}
use Rattle.samples.proofs.Books.{answered, unopened, unsent, opened}

pub samples : Samples
unfolding of_bits to_bits add sub mul div neg lt le eq is_nan of_int to_signed size word block check_sum running_sum sum_by check_right bytes row_to block_bytes is_finite fold_to all_to
    fill_from fill bind need choose exp_of ln_of sums_to_one with_fractions shares_of normalize_of positive_of row_from pair_place model_in rule_in rule_of range_of term_in wilson_term pair_term lower_from parameter parameter_row parameter_rows
    parameters_of in_range const_j add_j sub_j neg_j mul_j scale_j div_j exp_with ln_with kelvin_j ln_lambda_j lambda_ij basis_of tau_j alpha_j exponent_j tau_ij g_ij alpha_right all_right col_s col_c term_j ln_from
    gibbs_from gibbs_of enthalpy_of heat_capacity_of entropy_of state_with state_from with_state nrtl_of row_s quotients wilson_from gibbs_of_ln wilson_of excess_by excess_of solvent_covers temperature_in_domain pure_liquids_of positive
    tolerance_right options_right options_in question_from inputs_right limits_right task_in kind_right moles_of rest_of question_of state_words model_words answer_words
    answer_bytes refused_task refusal_words refusal_bytes task_at task_of answer_to roomy sheet_from regression_of unseen noted visited row_seen all_seen status_of validity_of turn_of residual_of slope_of k_max k_min
    validate liquid_part vapor_part solution_at iterate between negative two_phase one_phase constrained bubble_pressure rice_block excess_found saturated task1 task2
    task8 task9 task_split
samples = record {
  a = refl;
  b = refl;
  c = refl;
  d = answered book2 _ opened.solvents2 refl;
  e = answered book2 _ opened.solvents2 refl;
  f = answered book2 _ opened.solvents2 refl;
  g = answered book2 _ opened.solvents2 refl;
  h = answered book2 _ opened.solvents2 refl;
  i = answered book1 _ opened.solvents1 refl;
  j = answered book2 _ opened.solvents2 refl;
  k = answered book2 _ opened.solvents2 refl;
  l = answered book2 _ opened.solvents2 refl;
  m = answered wide _ opened.wide refl;
  n = answered (book2-weighed ½ ½) _ opened.weighed refl;
  o = answered book2 _ opened.solvents2 refl;
  p = unopened (book2-weighed ½ 0) _ opened.weightless;
  q = answered (book1_of Running 3) _ opened.running refl;
  r = answered (book1_of Running 3) _ opened.running refl;
  s = unopened (book1_of Plain 4) _ opened.unknown;
  s-block = unsent (book1_of Plain 4) _ opened.unknown refl;
  t = answered (wilson1 2) _ opened.wilson_one refl;
  u = answered (wilson2 2) _ opened.wilson_two refl;
  v = unopened (wilson1 1) _ opened.unmodelled;
  v-block = unsent (wilson1 1) _ opened.unmodelled refl;
}
