-- Every refusal of the whole call is one of the numbers that there are, so the result 0 means an answer. Assumes nothing.
use mathlib.Core.Path.{◌≡◌, refl, sym, ap}
use mathlib.Core.Bool.{Bool, true, false, not, true≢false}
use mathlib.Core.List.{List}
use Prim.Native.Nat.{ℕ, zero, suc, ◌≤◌}
use native.Mathlib.Omega.{arith}
use lib.Dec.{T}
use lib.Ieee.{Float}
use Rattle.floats.specs.Fold.{all_to}
use Rattle.floats.proofs.Folds.{all_at}
use Rattle.floats.specs.Outcome.{Out, ok, no, bind, need}
use Rattle.counted.specs.Counted.{told}
use Rattle.blocks.specs.declared.Rule.{Rule}
use Rattle.book.specs.declared.Model.{Model}
use Rattle.book.specs.declared.Model.TheVariants.{Nrtl, Wilson}
use Rattle.book.specs.declared.Head.{Head}
use Rattle.book.specs.Book.{model_of, head_in, alphas_equal, pairs_of, solvents_of, head_of, book_of}
use Rattle.thermo_models.specs.Activity.{activity_in}
use Rattle.thermo_models.specs.Mixture.{Mixture, activity}
use Rattle.question.specs.Asked.{task_in, inputs_right, limits_right, moles_of, rest_of, question_of}
use Rattle.question.specs.declared.Question.{Question}
use Rattle.sheet.specs.Tasks.{excess_found, saturated, task1, task2, task3, task4, task5, task6, task7_counted, task7, task8, task9, task_at, task_under, task_split, task_of}
use Rattle.sheet.specs.Sheet.{answer_to, roomy, sheet_from, sheet_of, number_of}
use Rattle.refusals.specs.Numbered.{has_alphas, is_number, is_among, Among, Numbered, Refusals, WilsonNumbers, RefusedByBook, ZeroIsAnswer}
use Rattle.refusals.proofs.Laws.{numbers}
use Rattle.refusals.proofs.Models.{num_positive, num_normalize, num_liquids, num_excess}
use Rattle.refusals.proofs.Rice.{num_negative, num_constrained}
use Rattle.refusals.proofs.Saturation.{num_bubble_pressure, num_dew_pressure}
use Rattle.refusals.proofs.Boiling.{num_bubble_temperature, num_dew_temperature}
use Rattle.refusals.proofs.Stability.{num_stability}
use Rattle.refusals.proofs.Flash.{num_flash}

all_yes : (n : ℕ) → all_to (λ d. true) n ≡ true
unfolding all_to
all_yes zero = refl
all_yes (suc n) = rw (all_yes n)

num_pairs : (M : Model) (w : ℕ → ℕ → ℕ) (h : Head) → h.model ≡ M → Numbered M (pairs_of w h)
unfolding pairs_of alphas_equal has_alphas need
num_pairs Nrtl w h e = search numbers depth 8
num_pairs Wilson w h e = rw (e, all_yes _) (search numbers depth 8)

pub num_book : (book : List ℕ) → Numbered (model_of book) (book_of book)
unfolding book_of head_of solvents_of head_in
num_book book = search (numbers, num_pairs) depth 14

pub num_task_in : {own : Bool} {M : Model} (rule : Rule) (question : List ℕ) → Among own M (task_in rule question)
unfolding task_in
num_task_in rule question = search numbers

pub num_rest : {own : Bool} {M : Model} (question : List ℕ) (m : ℕ → Float) (n : ℕ) (x : List Float) → Among own M (rest_of question m n x)
unfolding rest_of inputs_right limits_right moles_of
num_rest question m n x = search (numbers, num_normalize) depth 16

num_question : {own : Bool} {M : Model} (rule : Rule) (question : List ℕ) (version : ℕ) (m : ℕ → Float) (n : ℕ) → Among own M (question_of rule question version m n)
unfolding question_of
num_question rule question version m n = search (numbers, num_task_in, num_rest)

ruleset solvers = (num_bubble_pressure, num_dew_pressure, num_bubble_temperature, num_dew_temperature, num_stability, num_flash, num_constrained, num_negative)

-- of a mixture whose own refusals are numbered
module _ {own : Bool} {M : Model} (m : Mixture) (h : (t : Float) (x : List Float) → Among own M (m.excess t x)) (g : (t : Float) → Among own M (m.liquids t)) where
  num_activity : (t : Float) (x : List Float) → Among own M (activity m t x)
  unfolding activity_in
  num_activity t x = search numbers

  num_task : (q : Question) → Among own M (task_of m q)
  unfolding task_of task_at task_under task_split task1 excess_found saturated task2 task3 task4 task5 task6 task7 task7_counted told task8 task9
  num_task q = search (numbers, solvers, num_positive, num_activity) depth 12

pub num_answer : {own : Bool} (book : List ℕ) (n : ℕ) (q : Question) → Among own (model_of book) (answer_to book n q)
unfolding answer_to
num_answer book n q = search (numbers, num_task, num_excess, num_liquids)

num_from : {own : Bool} (book : List ℕ) (version n : ℕ) (question : List ℕ) (room : ℕ) → Among own (model_of book) (sheet_from book version n question room)
unfolding sheet_from roomy
num_from book version n question room = search (numbers, num_question, num_answer)

pub refusals : Refusals
unfolding sheet_of
refusals book question room = search (numbers, num_book, num_from)

-- what follows the book never gives 1 to 9: antt computes it
never_low : (M : Model) (r : ℕ) → r ≤ 9 → T (is_among false M r) → ⊥
unfolding all_to
never_low M r l t = clash (is_among false M r) (all_at (λ k. not (is_among false M k)) 10 r (omega arith) refl) t
  where
    clash : (b : Bool) → not b ≡ true → T b → ⊥
    clash true e t = true≢false (sym e)
    clash false e t = t

pub refused-by-book : RefusedByBook
unfolding sheet_of bind
refused-by-book book question room r e l = go (book_of book) e
  where
    go : (o : Out Head) → bind o (λ h. sheet_from book h.version h.n question room) ≡ no r → o ≡ no r
    go (ok h) q = absurd (never_low (model_of book) r l ((num_from {own = false} book h.version h.n question room).number r q))
    go (no k) q = let j : k ≡ r = cc q in ap no j

pub wilson_numbers : WilsonNumbers
unfolding has_alphas
wilson_numbers book question room e = (λ q. never 9 q, λ q. never 24 q)
  where
    never : (r : ℕ) → sheet_of book question room ≡ no r → T (is_number Wilson r)
    never r q = rw e at ((refusals book question room).number r q)

answered : {M : Model} (o : Out (List ℕ)) → Numbered M o → number_of o ≡ 0 → (bs : List ℕ) × (o ≡ ok bs)
unfolding number_of
answered (ok bs) h e = (bs, refl)
answered (no r) h e = absurd (rw e at (h.number r refl))

pub zero_is-answer : ZeroIsAnswer
zero_is-answer book question room = answered (sheet_of book question room) (refusals book question room)
