-- What a question that was read says: its task, the words that the solvers read, and the limit of a flash. Assumes nothing.
use Prim.Native.Nat.{ℕ, ◌≤◌}
use mathlib.Core.Path.{◌≡◌, refl, sym, ◌∙◌}
use mathlib.Core.Bool.{Bool, true, false, ◌&&◌, true≢false}
use mathlib.Core.List.{List}
use borrow.Author.Tests.{leb-true}
use lib.Dec.{leb}
use lib.Ieee.{Float}
use lib.Ieee.Bits.{is_true}
use Rattle.floats.specs.Small.{float}
use Rattle.floats.specs.Outcome.{ok}
use Rattle.floats.proofs.Outcomes.{Each, each-ok, each-need, each-bind, need_inv, bind_inv}
use Rattle.blocks.specs.declared.Rule.{Rule}
use Rattle.blocks.specs.Words.{word}
use Rattle.question.specs.declared.Question.{Question}
use Rattle.question.specs.Inputs.{needs_options, needs_ratios, if_needed}
use Rattle.question.specs.Asked.{task_in, inputs_right, moles_of, limits_few, limits_right, options_in, question_from, rest_of, question_of, feed_of}

-- ---- what the solvers read of the question's words, whatever the feed
pub record Reads (w : ℕ → ℕ) (q : Question) : Type 0 where
  pub task : q.task ≡ w 1
  pub temperature : q.temperature ≡ float w 2
  pub pressure : q.pressure ≡ float w 3
  pub limit : q.options.max_iterations ≡ w 12

pub reads : (question : List ℕ) (m : ℕ → Float) (n : ℕ) (x : List Float) → Each (Reads (word question)) (rest_of question m n x)
unfolding rest_of inputs_right limits_right question_from options_in
reads question m n x =
    let R = Reads (word question) in
    each-need R _ 13 (each-need R _ 14 (each-need R _ 15 (each-need R _ 16 (each-need R _ 17 (each-need R _ 18
    (each-bind R (moles_of (word question) m n x) _ (λ z e.
    each-need R _ 19 (each-need R _ 20 (each-need R _ 21 (each-ok R (record { task = refl; temperature = refl; pressure = refl; limit = refl })))))))))))

pub task-read : (rule : Rule) (question : List ℕ) {k : ℕ} → task_in rule question ≡ ok k → k ≡ word question 1
unfolding task_in
task-read rule question {k} e =
    let a = need_inv _ 11 _ e in
    let b = need_inv _ 11 _ a.1 in
    let c = need_inv _ 11 _ b.1 in
    let d = need_inv _ 12 _ c.1 in
    cc d.1

-- of task 7 the limit M is at most 1,000,000 (21)
few_of : (t : ℕ) (b c : Bool) → t ≡ 7 → (if_needed (needs_options t) (b && c) && if_needed (needs_ratios t) b) ≡ true → b ≡ true
few_of t true c h e = refl
few_of t false c h e = absurd (true≢false (sym (rw h at e)))

pub limit-few : (question : List ℕ) (m : ℕ → Float) (n : ℕ) (x : List Float) (seven : word question 1 ≡ 7) {q : Question} → rest_of question m n x ≡ ok q → q.options.max_iterations ≤ 1000000
unfolding rest_of inputs_right limits_right
limit-few question m n x seven {q} e =
    let a = need_inv _ 13 _ e in
    let b = need_inv _ 14 _ a.1 in
    let c = need_inv _ 15 _ b.1 in
    let d = need_inv _ 16 _ c.1 in
    let f = need_inv _ 17 _ d.1 in
    let g = need_inv _ 18 _ f.1 in
    let h = bind_inv (moles_of (word question) m n x) _ g.1 in
    let i = need_inv _ 19 _ h.2 in
    let j = need_inv _ 20 _ i.1 in
    let k = need_inv (limits_few (word question)) 21 _ j.1 in
    rw ((reads question m n x).each q e).limit (leb-true (word question 12) 1000000 (few (is_true _ k.0)))
  where
    few : limits_few (word question) ≡ true → leb (word question 12) 1000000 ≡ true
    few t = few_of (word question 1) (leb (word question 12) 1000000) (leb (word question 14) 1000000) seven t

-- ---- a question of task 7
module _ (rule : Rule) (question : List ℕ) (version : ℕ) (m : ℕ → Float) (n : ℕ) {q : Question} (e : question_of rule question version m n ≡ ok q) where
  rest : (k : ℕ) × (task_in rule question ≡ ok k) × (rest_of question m n (feed_of question n) ≡ ok q)
  unfolding question_of
  rest = let a = bind_inv (task_in rule question) _ e in let b = need_inv _ 36 _ a.2 in (a.0, a.1, b.1)

  pub asked-task : {k : ℕ} → task_in rule question ≡ ok k → q.task ≡ k
  asked-task h = ((reads question m n (feed_of question n)).each q rest.2).task ∙ sym (task-read rule question h)

  pub asked-known : (k : ℕ) × (task_in rule question ≡ ok k)
  asked-known = (rest.0, rest.1)

  pub asked-limit : q.task ≡ 7 → q.options.max_iterations ≤ 1000000
  asked-limit h = limit-few question m n (feed_of question n) (sym ((reads question m n (feed_of question n)).each q rest.2).task ∙ h) rest.2
