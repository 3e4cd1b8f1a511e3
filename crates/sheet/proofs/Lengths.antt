-- An accepted call's bytes say their own length: at most eight trials stand behind the block. Assumes nothing.
use mathlib.Core.Path.{◌≡◌, refl}
use mathlib.Core.List.{List, ◌++◌}
use Prim.Native.Nat.{ℕ, ◌≤◌}
use native.Mathlib.Omega.{arith}
use lib.ListN.{length}
use lib.Ieee.{Float}
use Rattle.floats.specs.Outcome.{Out, ok}
use Rattle.floats.proofs.Outcomes.{need_inv, bind_inv, Each, each-ok, each-no, each-need, each-choose, each-bind}
use Rattle.book.specs.Book.{rule_of, book_of}
use Rattle.book.proofs.Accepted.{accepted}
use Rattle.thermo_models.specs.Mixture.{Mixture, activity, mixture_of}
use Rattle.saturation.specs.Saturation.{Saturation}
use Rattle.liquid_stability.proofs.Counts.{stability_few}
use Rattle.tp_flash.proofs.Counts.{flash_few}
use Rattle.question.specs.declared.Question.{Question}
use Rattle.replies.specs.declared.AnswerBlock.{AnswerBlock}
use Rattle.replies.specs.Blocks.{Answer, answer_bytes, answer_length}
use Rattle.replies.proofs.Laws.{answer_length_lem}
use Rattle.sheet.specs.Tasks.{alone, excess_found, saturated, task1, task2, task3, task4, task5, task6, task7, task8, task9, task_at, task_under, task_split, task_of}
use Rattle.sheet.specs.Sheet.{answer_to, roomy, question_to, sheet_from, sheet_of}
use Rattle.sheet.proofs.Flashes.{task7-is}
use Rattle.sheet.proofs.Replies.{rice-alone}

record Eight (a : Answer) : Type 0 where
  count : a.block.state.trials ≤ 8

without : {b : AnswerBlock} → b.state.trials ≡ 0 → Each Eight (ok (alone b))
without e = each-ok Eight (record { count = omega (arith, e) })

saturated-few : (o : Out Saturation) → Each Eight (saturated o)
unfolding saturated
saturated-few o = each-bind Eight o _ (λ s e. without refl)

module _ (m : Mixture) (q : Question) (small : m.n ≤ 8) where
  stability_eight : (t : Float) → Each Eight (task6 m q t)
  unfolding task6
  stability_eight t =
      each-bind Eight _ _ (λ s e. let h = (stability_few (activity m t) m.n q.options q.fractions).each s e in each-ok Eight (record { count = omega (arith, h.count, small) }))

  flash_eight : (t p : Float) → Each Eight (task7 m q t p)
  flash_eight t p =
      rw (task7-is m q t p)
      (each-bind Eight _ _ (λ f e.
      let h = flash_few (activity m) m.liquids m.domain m.n q.options t q.fractions p f e in
      each-ok Eight (record { count = omega (arith, h.count, small) })))

  at-eight : (t : Float) → Each Eight (task_at m q t)
  unfolding task_at task1 excess_found task2 task3
  at-eight t =
      each-choose Eight _ (each-bind Eight _ _ (λ e h. each-need Eight _ 25 (without refl)))
      (each-choose Eight _ (saturated-few _)
      (each-choose Eight _ (saturated-few _)
      (each-choose Eight _ (stability_eight t)
      (each-bind Eight _ _ (λ p e. flash_eight t p)))))

  task-eight : Each Eight (task_of m q)
  unfolding task_of task_under task4 task5 task_split task8 task9
  task-eight =
      each-choose Eight _ (each-bind Eight _ _ (λ t e. at-eight t))
      (each-choose Eight _ (each-bind Eight _ _ (λ p e. each-choose Eight _ (saturated-few _) (saturated-few _)))
      (each-choose Eight _ (each-bind Eight _ _ (λ r e. without (rice-alone _ _ _)))
      (each-choose Eight _ (each-bind Eight _ _ (λ s e. without (rice-alone _ _ _))) (each-no Eight 12))))

pub own_length : (book question : List ℕ) (room : ℕ) {bs : List ℕ} → sheet_of book question room ≡ ok bs → (rest : List ℕ) → answer_length (bs ++ rest) ≡ length bs
unfolding sheet_of sheet_from roomy answer_to
own_length book question room {bs} e rest =
    let b = bind_inv (book_of book) _ e in
    let n = b.0.n in
    let y = need_inv _ 10 _ b.2 in
    let z = bind_inv (question_to book b.0.version n question) _ y.1 in
    let q = z.0 in
    let w = bind_inv (task_of (mixture_of book n) q) _ z.2 in
    let c = ((task-eight (mixture_of book n) q (accepted book b.1).few).each w.0 w.1).count in
    let k : answer_bytes (rule_of book) q.task w.0 ≡ bs = cc w.2 in
    rw (← k) (answer_length_lem (rule_of book) q.task w.0 rest c)
