-- The question that 27 refuses, by computation on the definitions, and by the theorem. Assumes nothing.
use Prim.Native.Nat.{ℕ, ◌≤◌}
use mathlib.Core.Path.{◌≡◌, refl, sym, ◌∙◌}
use mathlib.Core.Logic.{inl, inr}
use mathlib.Core.List.{List}
use native.Mathlib.Omega.{arith}
use lib.Ieee.{of_bits, to_bits, add, sub, mul, div, neg, lt, le, eq, is_nan, of_int, to_signed, size}
use Rattle.floats.specs.Small.{is_finite, positive}
use Rattle.floats.specs.Fold.{fold_to, all_to}
use Rattle.floats.specs.Vector.{fill_from, fill}
use Rattle.floats.specs.Outcome.{bind, need, choose}
use Rattle.thermo_types.specs.Composition.{sums_to_one}
use Rattle.blocks.specs.declared.Rule.TheVariants.{Plain}
use Rattle.blocks.specs.Words.{word, block, check_sum, sum_by, check_right}
use Rattle.blocks.specs.Bytes.{bytes, row_to, block_bytes}
use Rattle.blocks.proofs.Laws.{length_block-bytes}
use Rattle.blocks.proofs.Small.{block-bytes}
use Rattle.book.specs.Book.{rule_in, rule_of}
use Rattle.rachford_rice.specs.Rachford.{turn_of, residual_of, slope_of, k_max, k_min, validate, liquid_part, vapor_part, solution_at, iterate, between, negative}
use Rattle.question.specs.Asked.{task_in, kind_right, inputs_right, tolerance_right, options_right, limits_right, moles_of, options_in, question_from}
use Rattle.question.specs.Asked.{rest_of, question_of}
use Rattle.replies.specs.Blocks.{state_words, model_words, answer_words, answer_bytes, answer_room}
use Rattle.replies.specs.Answers.{rice_block}
use Rattle.sheet.specs.Tasks.{task_of, task9, task_split}
use Rattle.sheet.specs.Sheet.{answer_to, roomy, sheet_from}
use Rattle.samples.specs.Sheets.{book2}
use Rattle.samples.proofs.Books.{answered, opened}
use Rattle.limits.specs.Raised.{words_with, Raised}
use Rattle.limits.proofs.Build.{raisable}
use Rattle.limits.proofs.Theorem.{raising}
use Rattle.raised_calls.specs.Example.{asked, within, Example}

-- words 12 and 14
record Limits (q : List ℕ) (M N : ℕ) : Type 0 where
  iterations : word q 12 ≡ M
  temperature_iterations : word q 14 ≡ N

one : Limits asked 1 200
unfolding word bytes row_to block_bytes
one = record { iterations = refl; temperature_iterations = refl }

two : Limits (within 2) 2 200
unfolding word bytes row_to block_bytes words_with
two = record { iterations = refl; temperature_iterations = refl }

million : Limits (within 1000000) 1000000 200
unfolding word bytes row_to block_bytes words_with
million = record { iterations = refl; temperature_iterations = refl }

-- within M, from 1 on
more : (M : ℕ) → 1 ≤ M → M ≤ 1000000 → Raised Plain asked (within M)
more M h l =
    (raisable Plain asked M 200 (block-bytes Plain _) (length_block-bytes Plain _) (rw one.iterations (inr (h, l))) (inl one.temperature_iterations)).0

-- and from 2 on
far : Raised Plain (within 2) (within 1000000)
far =
    let a = more 2 (omega arith) (omega arith) in
    let b = more 1000000 (omega arith) (omega arith) in
    record {
      size = sym a.size ∙ b.size;
      iterations = rw (two.iterations, million.iterations) (inr (omega arith, omega arith));
      temperature_iterations = inl (two.temperature_iterations ∙ sym million.temperature_iterations);
      others = λ k l x y. sym (a.others k l x y) ∙ b.others k l x y;
      check = b.check;
    }

pub example : Example
unfolding of_bits to_bits add sub mul div neg lt le eq is_nan of_int to_signed size word block check_sum sum_by check_right bytes row_to block_bytes is_finite
    fold_to all_to fill_from fill bind need choose sums_to_one rule_in rule_of positive tolerance_right options_right options_in question_from inputs_right
    limits_right task_in kind_right moles_of rest_of question_of state_words model_words answer_words answer_bytes task_of answer_to roomy
    sheet_from turn_of residual_of slope_of k_max k_min validate liquid_part vapor_part solution_at iterate between negative rice_block task9 task_split
    words_with
example = record {
  spent = answered book2 _ opened.solvents2 refl;
  raised = more 2 (omega arith) (omega arith);
  answered = answered book2 _ opened.solvents2 refl;
  kept = raising book2 (within 2) (within 1000000) answer_room _ far (answered book2 _ opened.solvents2 refl);
}
