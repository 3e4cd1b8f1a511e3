-- Tasks 1 to 9 of a mixture: which definition answers each. Assumes nothing.
use Rattle.std.specs.Prelude.{[], eqb, Float}
use Rattle.floats.specs.Small.{is_finite}
use Rattle.floats.specs.Vector.{at}
use Rattle.floats.specs.Outcome.{Out, ok, no, bind, need, choose}
use Rattle.counted.specs.Counted.{Counted, uncounted, bind_counted, told, count_word}
use Rattle.thermo_types.specs.Quantities.{positive_of}
use Rattle.excess.specs.State.{Excess}
use Rattle.thermo_models.specs.declared.Assessment.{Assessment}
use Rattle.thermo_models.specs.Mixture.{Mixture, activity}
use Rattle.rachford_rice.specs.Rachford.{constrained, negative}
use Rattle.rachford_rice.specs.declared.RachfordRiceOutcome.TheVariants.{TwoPhase}
use Rattle.saturation.specs.Saturation.{Saturation, bubble_pressure, dew_pressure_point}
use Rattle.saturation_temperature.specs.Boiling.{bubble_temperature, dew_temperature}
use Rattle.liquid_stability.specs.Stability.{stability_of}
use Rattle.tp_flash.specs.Tp.{trials_of}
use Rattle.tp_flash.specs.Counted.{flash_counted}
use Rattle.question.specs.Inputs.{needs_temperature, needs_pressure}
use Rattle.question.specs.declared.Question.{Question}
use Rattle.replies.specs.declared.AnswerBlock.{AnswerBlock}
use Rattle.replies.specs.Blocks.{Answer}
use Rattle.replies.specs.Answers.{excess_block, saturation_block, stability_block, flash_block, rice_block}

-- an answer without trials
abbrev pub alone : AnswerBlock → Answer
alone b = record { block = b; trials = [] }

-- 1: every float of the answer is finite (25)
unfoldable pub excess_found : Float → Assessment → Excess → Out Answer
excess_found t v e = need (is_finite e.reduced) 25 (ok (alone (excess_block t e v)))

-- 2 to 5
unfoldable pub saturated : Out Saturation → Out Answer
saturated o = bind o (λ s. ok (alone (saturation_block s)))

module _ (m : Mixture) (q : Question) where
  -- 1 `excess_at`
  unfoldable pub task1 : Float → Out Answer
  task1 t = bind (m.excess t q.fractions) (excess_found t (m.validity t q.fractions))

  -- 2 `activity_bubble_pressure`
  unfoldable pub task2 : Float → Out Answer
  task2 t = saturated (bubble_pressure (activity m) m.liquids m.n t q.fractions)

  -- 3 `activity_dew_pressure`
  unfoldable pub task3 : Float → Out Answer
  task3 t = saturated (dew_pressure_point (activity m) m.liquids m.n q.options t q.fractions)

  -- 4 `activity_bubble_temperature`
  unfoldable pub task4 : Float → Out Answer
  task4 p = saturated (bubble_temperature (activity m) m.liquids m.n q.options p q.fractions)

  -- 5 `activity_dew_temperature`
  unfoldable pub task5 : Float → Out Answer
  task5 p = saturated (dew_temperature (activity m) m.liquids m.n q.options p q.fractions)

  -- 6 `liquid_stability`: an unstable liquid is an answer
  unfoldable pub task6 : Float → Out Answer
  task6 t =
      bind (stability_of (activity m t) m.n q.options q.fractions) (λ s.
      ok (record { block = stability_block s.stable s.count; trials = s.trials }))

  -- 7 `activity_tp_flash`, with the evaluations that it begins, which its answer tells
  unfoldable pub task7_counted : Float → Float → Counted Answer
  task7_counted t p =
      told (flash_counted (activity m) m.liquids m.domain m.n q.options t q.fractions p) (λ f k.
      record { block = flash_block t p f (count_word k); trials = (trials_of f).trials })

  unfoldable pub task7 : Float → Float → Out Answer
  task7 t p = (task7_counted t p).outcome

  -- from the question's T and p (13, 14)
  unfoldable pub flash_task : Counted Answer
  flash_task =
      bind_counted (uncounted (positive_of q.temperature 13)) (λ t.
      bind_counted (uncounted (positive_of q.pressure 14)) (task7_counted t))

  -- 8 `rachford_rice` and 9 `rachford_rice_negative`
  unfoldable pub task8 : Out Answer
  task8 = bind (constrained (at q.fractions) (at q.ratios) m.n q.options.max_iterations) (λ r. ok (alone (rice_block r.outcome r.liquid r.vapor)))

  unfoldable pub task9 : Out Answer
  task9 =
      bind (negative (at q.fractions) (at q.ratios) m.n q.options.max_iterations) (λ s.
      ok (alone (rice_block (TwoPhase s.vapor_fraction s.residual s.iterations) s.liquid s.vapor)))

  -- by the task's number: at T, 7 at p too (14)
  unfoldable pub task_at : Float → Out Answer
  task_at t =
      choose (eqb q.task 1) (task1 t)
      (choose (eqb q.task 2) (task2 t)
      (choose (eqb q.task 3) (task3 t)
      (choose (eqb q.task 6) (task6 t)
      (bind (positive_of q.pressure 14) (task7 t)))))

  -- at p
  unfoldable pub task_under : Float → Out Answer
  task_under p = choose (eqb q.task 4) (task4 p) (task5 p)

  -- of K values
  unfoldable pub task_split : Out Answer
  task_split = choose (eqb q.task 8) task8 (choose (eqb q.task 9) task9 (no 12))

  -- T first where the task needs one (13), else p (14)
  unfoldable pub task_of : Out Answer
  task_of =
      choose (needs_temperature q.task) (bind (positive_of q.temperature 13) task_at)
      (choose (needs_pressure q.task) (bind (positive_of q.pressure 14) task_under) task_split)
