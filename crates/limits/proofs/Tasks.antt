-- A task's answer at greater limits. Assumes nothing.
use mathlib.Core.List.{List}
use Prim.Native.Nat.{ℕ, ◌≤◌}
use lib.Ieee.{Float}
use Rattle.floats.specs.Outcome.{Out}
use Rattle.thermo_models.specs.Mixture.{Mixture, mixture_of}
use Rattle.saturation.specs.Saturation.{Saturation}
use Rattle.question.specs.declared.Question.{Question}
use Rattle.sheet.specs.Tasks.{saturated, task1, task2, task3, task4, task5, task6, task7_counted, task7, flash_task, task8, task9}
use Rattle.sheet.specs.Tasks.{task_at, task_under, task_split, task_of}
use Rattle.sheet.specs.Sheet.{answer_to}
use Rattle.limits.specs.Kept.{Kept, KeptCounted, Spent, question_with}
use Rattle.limits.proofs.Kept.{keeping, kept-bind, kept_refl, counting, counted-outcome}
use Rattle.limits.proofs.Rice.{kept-negative, kept-constrained}
use Rattle.limits.proofs.Saturation.{kept-dew_pressure}
use Rattle.limits.proofs.Boiling.{kept-bubble_temperature, kept-dew_temperature}
use Rattle.limits.proofs.Stability.{kept-stability_of}
use Rattle.limits.proofs.Flash.{kept-flash}

kept-saturated : {o o' : Out Saturation} → Kept Spent o o' → Kept Spent (saturated o) (saturated o')
unfolding saturated
kept-saturated h = kept-bind h (λ s. kept_refl)

ruleset solvers = (kept-dew_pressure, kept-bubble_temperature, kept-dew_temperature, kept-stability_of, kept-constrained, kept-negative)

module _ (m : Mixture) (q : Question) (M M' N N' : ℕ) (h : M ≤ M') (g : N ≤ N') where
  -- word 38 too
  kept-flash_at : (t p : Float) → KeptCounted Spent (task7_counted m (question_with q M N) t p) (task7_counted m (question_with q M' N') t p)
  unfolding task7_counted
  kept-flash_at t p = search (counting, kept-flash)

  pub kept-flash_task : KeptCounted Spent (flash_task m (question_with q M N)) (flash_task m (question_with q M' N'))
  unfolding flash_task
  kept-flash_task = search (counting, kept-flash_at)

  kept-task7 : (t p : Float) → Kept Spent (task7 m (question_with q M N) t p) (task7 m (question_with q M' N') t p)
  unfolding task7
  kept-task7 t p = counted-outcome (kept-flash_at t p)

  kept-task : Kept Spent (task_of m (question_with q M N)) (task_of m (question_with q M' N'))
  unfolding task_of task_at task_under task_split task1 task2 task3 task4 task5 task6 task8 task9
  kept-task = search (keeping, solvers, kept-saturated, kept-task7) depth 12

-- of a book, in bytes
pub kept-answer : (book : List ℕ) (n : ℕ) (q : Question) (M M' N N' : ℕ) → M ≤ M' → N ≤ N'
    → Kept Spent (answer_to book n (question_with q M N)) (answer_to book n (question_with q M' N'))
unfolding answer_to
kept-answer book n q M M' N N' h g = kept-bind (kept-task (mixture_of book n) q M M' N N' h g) (λ a. kept_refl)
