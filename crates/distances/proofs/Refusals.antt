-- Every number that a distance call gives is one of a plain call's. Assumes nothing.
use Prim.Native.Nat.{ℕ}
use mathlib.Core.Path.{◌≡◌, refl, sym, ap, ◌∙◌}
use mathlib.Core.List.{List}
use lib.Ieee.{Float}
use Rattle.floats.specs.Outcome.{Out, ok, no, bind}
use Rattle.floats.proofs.Outcomes.{bind-no}
use Rattle.book.specs.declared.Model.{Model}
use Rattle.book.specs.Book.{model_of}
use Rattle.thermo_models.specs.Mixture.{mixture_of}
use Rattle.question.specs.declared.Question.{Question}
use Rattle.question.specs.Asked.{question_of}
use Rattle.sheet.specs.Tasks.{task_of}
use Rattle.sheet.specs.Sheet.{answer_to}
use Rattle.refusals.specs.Numbered.{Numbered}
use Rattle.refusals.proofs.Laws.{numbers, num_ok, num_bind}
use Rattle.refusals.proofs.Theorem.{num_book, num_task_in, num_rest, num_answer}
use Rattle.distance.specs.Distance.{at_pressure, outcome_at, flash_question, searched, distance_of, distance_number}
use Rattle.distances.specs.Numbered.{DistanceRefusals, ZeroIsFound}

num_before : {M : Model} {A B : Type 0} (x : Out A) (f : A → B) → Numbered M (bind x (λ a. ok (f a))) → Numbered M x
num_before x f h = record { number = λ r e. h.number r (bind-no _ e) }

num_outcome : (book : List ℕ) (n : ℕ) (q : Question) (p : Float) → Numbered (model_of book) (outcome_at book n q p)
unfolding outcome_at answer_to
num_outcome book n q p = num_bind (task_of (mixture_of book n) (at_pressure q p)) (num_before _ _ (num_answer book n (at_pressure q p))) (λ a. num_ok)

num_distance : (book question : List ℕ) → Numbered (model_of book) (distance_of book question)
unfolding distance_of flash_question question_of searched
num_distance book question = search (numbers, num_book, num_task_in, num_rest, num_outcome) depth 12

pub distance-refusals : DistanceRefusals
distance-refusals book question r e = (num_distance book question).number r e

pub zero_is-found : ZeroIsFound
unfolding distance_number
zero_is-found book question z r e =
    let q : r ≡ 0 = rw e at z in
    rw q at (distance-refusals book question r e)
