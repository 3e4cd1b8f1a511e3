-- The samples of pooled calls, by computation on the definitions. Assumes nothing.
use Prim.Native.Nat.{ℕ}
use mathlib.Core.Path.{◌≡◌, refl}
use mathlib.Core.List.{List}
use Rattle.floats.specs.Outcome.{Out, ok}
use Rattle.book.specs.declared.Head.{Head}
use Rattle.book.specs.Book.{book_of}
use Rattle.replies.specs.Blocks.{answer_room}
use lib.Ieee.{of_bits, to_bits, add, sub, mul, div, neg, lt, le, eq, is_nan, of_int, size}
use Rattle.floats.specs.Small.{is_finite, positive}
use Rattle.floats.specs.Fold.{fold_to, all_to}
use Rattle.floats.specs.Vector.{fill_from, fill}
use Rattle.floats.specs.Outcome.{bind, need, choose}
use Rattle.thermo_types.specs.Composition.{sums_to_one, with_fractions, shares_of, normalize_of}
use Rattle.blocks.specs.Words.{word, block, check_sum, sum_by, check_right}
use Rattle.blocks.specs.Bytes.{bytes, row_to, block_bytes}
use Rattle.book.specs.Book.{rule_in, rule_of}
use Rattle.rachford_rice.specs.Rachford.{turn_of, residual_of, slope_of, k_max, k_min, validate, liquid_part, vapor_part, solution_at, iterate, between, negative}
use Rattle.rachford_rice.specs.Rachford.{two_phase, one_phase, constrained}
use Rattle.question.specs.Asked.{moles_of, tolerance_right, options_right, options_in, question_from, inputs_right, limits_right, task_in, rest_of}
use Rattle.replies.specs.Blocks.{state_words, model_words, answer_words, answer_bytes}
use Rattle.replies.specs.Answers.{rice_block}
use Rattle.sheet.specs.Tasks.{task_of, task8, task_split}
use Rattle.sheet.specs.Sheet.{answer_to, roomy}
use Rattle.samples.specs.Sheets.{book2}
use Rattle.samples.proofs.Books.{opened}
use Rattle.pool.specs.Pool.{pool_count, pool_total, drums_right, total_right, pool_feed, fed_to, drums_to, pooled_from, pooled_of}
use Rattle.pools.specs.Samples.{PoolSamples}

answered : (book question drums : List ℕ) {h : Head} {o : Out (List ℕ)} → book_of book ≡ ok h → pooled_from book h.n question drums answer_room ≡ o
    → pooled_of book question drums answer_room ≡ o
unfolding pooled_of bind
answered book question drums e h = rw e h

pub pool_samples : PoolSamples
unfolding of_bits to_bits add sub mul div neg lt le eq is_nan of_int size word block check_sum sum_by check_right bytes row_to block_bytes is_finite fold_to all_to
    fill_from fill bind need choose sums_to_one with_fractions shares_of normalize_of rule_in rule_of positive tolerance_right options_right options_in question_from
    inputs_right limits_right task_in moles_of rest_of state_words model_words answer_words answer_bytes task_of answer_to roomy turn_of residual_of
    slope_of k_max k_min validate liquid_part vapor_part solution_at iterate between negative two_phase one_phase constrained rice_block task8 task_split pool_count
    pool_total drums_right total_right pool_feed fed_to drums_to pooled_from
pool_samples = record {
  two_drums = answered book2 _ _ opened.solvents2 refl;
  none = answered book2 _ _ opened.solvents2 refl;
  zeros = answered book2 _ _ opened.solvents2 refl;
  wraps = answered book2 _ _ opened.solvents2 refl;
}
