-- Task 7 and its count: without the count it is the flash of tp_flash, and it is the task of a question of task 7. Assumes nothing.
use Prim.Native.Nat.{ℕ, ◌+◌}
use mathlib.Core.Path.{◌≡◌, refl, sym, ap, ◌∙◌}
use native.Mathlib.Omega.{arith}
use lib.Ieee.{Float}
use Rattle.floats.specs.Outcome.{Out, ok, no, bind, choose}
use Rattle.counted.specs.Counted.{Counted, uncounted, begun_before, go_on, bind_counted, told, count_word}
use Rattle.counted.proofs.Laws.{forget_bind}
use Rattle.thermo_types.specs.Quantities.{positive_of}
use Rattle.thermo_models.specs.Mixture.{Mixture, activity}
use Rattle.tp_flash.specs.Tp.{Flash, trials_of, tp_flash}
use Rattle.tp_flash.specs.Counted.{flash_counted}
use Rattle.tp_flash.proofs.Forgets.{flash-outcome}
use Rattle.question.specs.declared.Question.{Question}
use Rattle.replies.specs.Blocks.{Answer}
use Rattle.replies.specs.Answers.{flash_block}
use Rattle.sheet.specs.Tasks.{task7_counted, task7, flash_task, task_at, task_of}

-- ---- steps that begin none, ahead of a counted one
pub none_before : {A : Type 0} (c : Counted A) → begun_before 0 c ≡ c
unfolding begun_before
none_before c =
    let e : 0 + c.begun ≡ c.begun = omega arith in
    ap (λ (k : ℕ). record { outcome = c.outcome; begun = k }) e

pub given : {A B : Type 0} {o : Out A} (f : A → Counted B) {a : A} → o ≡ ok a → bind_counted (uncounted o) f ≡ f a
unfolding bind_counted go_on uncounted
given f {a} e = rw e (none_before (f a))

pub stopped : {A B : Type 0} (f : A → Counted B) (r : ℕ) → bind_counted (uncounted (no r)) f ≡ uncounted (no r)
unfolding bind_counted go_on uncounted
stopped f r = refl

pub told_none : {A B : Type 0} {c : Counted A} (f : A → ℕ → B) (r : ℕ) → c ≡ uncounted (no r) → told c f ≡ uncounted (no r)
unfolding told uncounted bind
told_none f r e = rw e

-- ---- the answer of a flash that began k
abbrev pub flash_answer : Float → Float → Flash → ℕ → Answer
flash_answer t p f k = record { block = flash_block t p f (count_word k); trials = (trials_of f).trials }

abbrev pub flashed : Float → Float → Counted Flash → Counted Answer
flashed t p c = told c (flash_answer t p)

-- from what was found, and its count as a word
pub told_found : (t p : Float) (c : Counted Flash) {f : Out Flash} {k : ℕ} → f ≡ c.outcome → count_word c.begun ≡ k
    → (flashed t p c).outcome ≡ bind f (λ a. ok (record { block = flash_block t p a k; trials = (trials_of a).trials }))
unfolding told
told_found t p c e z = rw (e, z)

-- ---- the task
module _ (m : Mixture) (q : Question) where
  abbrev flash_in : Float → Float → Counted Flash
  flash_in t p = flash_counted (activity m) m.liquids m.domain m.n q.options t q.fractions p

  pub task7-is : (t p : Float)
      → task7 m q t p ≡ bind (tp_flash (activity m) m.liquids m.domain m.n q.options t q.fractions p) (λ f. ok (flash_answer t p f (flash_counted (activity m) m.liquids m.domain m.n q.options t q.fractions p).begun))
  unfolding task7 task7_counted told
  task7-is t p = ap (λ (o : Out Flash). bind o (λ f. ok (flash_answer t p f (flash_in t p).begun))) (flash-outcome (activity m) m.liquids m.domain m.n q.options t q.fractions p)

  -- without its count
  pub flash_task_steps : (flash_task m q).outcome ≡ bind (positive_of q.temperature 13) (λ t. bind (positive_of q.pressure 14) (task7 m q t))
  unfolding flash_task task7 uncounted
  flash_task_steps = forget_bind _ _ _ refl (λ t. forget_bind _ _ _ refl (λ p. refl))

  pub flash_task_outcome : q.task ≡ 7 → (flash_task m q).outcome ≡ task_of m q
  unfolding task_of task_at choose flash_task task7 task7_counted
  flash_task_outcome s = rw s flash_task_steps

  module _ {t p : Float} (a : positive_of q.temperature 13 ≡ ok t) (b : positive_of q.pressure 14 ≡ ok p) where
    pub flash_task_at : flash_task m q ≡ task7_counted m q t p
    unfolding flash_task
    flash_task_at = given _ a ∙ given _ b

    pub task_seven : q.task ≡ 7 → task_of m q ≡ task7 m q t p
    unfolding task7
    task_seven s = sym (flash_task_outcome s) ∙ ap (λ (c : Counted Answer). c.outcome) flash_task_at
