-- The account of a queue. Assumes nothing.
use Prim.Native.Nat.{ℕ, zero, suc, ◌+◌, ◌≤◌, ◌<◌}
use mathlib.Core.Path.{◌≡◌, refl}
use mathlib.Core.Logic.{⊎_elim}
use mathlib.Core.Bool.{Bool, true, false, cond, ◌||◌}
use mathlib.Core.List.{List}
use native.Mathlib.Nat.{eq-or-lt_of_le}
use native.Mathlib.Omega.{arith}
use borrow.Author.Tests.{le-leb, leb-true, eqb-true}
use lib.Dec.{eqb, leb}
use Rattle.floats.specs.Outcome.{Out, ok, no}
use Rattle.counted.specs.Counted.{uncounted}
use Rattle.blocks.specs.Words.{block}
use Rattle.thermo_models.specs.Mixture.{mixture_of}
use Rattle.question.specs.declared.Question.{Question}
use Rattle.sheet.specs.Sheet.{question_to}
use Rattle.queue.specs.Queue.{question_count, run_of, most_of, is_put, takes, left_at}
use Rattle.queue.proofs.Calls.{unread-run, read-run, flash-most}
use Rattle.queues.specs.Account.{taken_to, most_to, TakesWithin, Account, TakesCount, AllFit}
use Rattle.queues.proofs.Alone.{queue_parts}

-- ---- one question
module _ (book : List ℕ) (version n : ℕ) (question : List ℕ) where
  abbrev most : ℕ
  most = most_of book version n question (question_to book version n question)

  -- it begins no more than its most
  run-most : (run_of book version n question).begun ≤ most
  unfolding most_of uncounted
  run-most = go (question_to book version n question) refl
    where
      go : (o : Out Question) → question_to book version n question ≡ o → (run_of book version n question).begun ≤ most_of book version n question o
      go (ok q) e = rw (read-run book version n question e) (flash-most (mixture_of book n) q)
      go (no r) e = rw (unread-run book version n question e) (omega arith)

-- what is put takes b of at most m, where none is begun or m is left
within : (b m l : ℕ) → b ≤ m → cond (eqb b 0 || leb m l) b 0 ≤ l
within b m l h = go (eqb b 0) (leb m l) (eqb-true b 0) (leb-true m l)
  where
    go : (c d : Bool) → (c ≡ true → b ≡ 0) → (d ≡ true → m ≤ l) → cond (c || d) b 0 ≤ l
    go true d f g = omega (arith, f refl)
    go false true f g = omega (arith, g refl)
    go false false f g = omega arith

pub takes-within : TakesWithin
unfolding takes is_put
takes-within book version n question left = within (run_of book version n question).begun (most book version n question) left (run-most book version n question)

pub account : Account
unfolding taken_to left_at
account book version n questions allowance zero = omega arith
account book version n questions allowance (suc k) =
    let i = account book version n questions allowance k in
    let w = takes-within book version n (block questions k) (left_at book version n questions allowance k) in
    omega (arith, i, w)

pub takes_count : TakesCount
unfolding takes
takes_count book version n question left = (λ p. rw p, λ p. rw p)

-- ---- where all fit
some_of : (p : Bool) (b m : ℕ) → b ≤ m → cond p b 0 ≤ m
some_of true b m h = h
some_of false b m h = omega arith

either : (b : Bool) → b || true ≡ true
either true = refl
either false = refl

fits-put : (book : List ℕ) (version n : ℕ) (question : List ℕ) (left : ℕ) → most book version n question ≤ left → is_put book version n question left ≡ true
unfolding is_put
fits-put book version n question left l = rw (le-leb (most book version n question) left l) (either (eqb (run_of book version n question).begun 0))

module _ (book : List ℕ) (version n : ℕ) (questions : List ℕ) where
  takes-most : (k left : ℕ) → takes book version n (block questions k) left ≤ most book version n (block questions k)
  unfolding takes
  takes-most k left =
      some_of (is_put book version n (block questions k) left) (run_of book version n (block questions k)).begun (most book version n (block questions k))
      (run-most book version n (block questions k))

  -- what is left and the most of those before are at least the allowance
  left-most : (allowance k : ℕ) → allowance ≤ most_to book version n questions k + left_at book version n questions allowance k
  unfolding most_to left_at
  left-most allowance zero = omega arith
  left-most allowance (suc k) =
      let i = left-most allowance k in
      let w = takes-most k (left_at book version n questions allowance k) in
      omega (arith, i, w)

  most_grows : (k m : ℕ) → k < m → most_to book version n questions k + most book version n (block questions k) ≤ most_to book version n questions m
  unfolding most_to
  most_grows k zero l = absurd (omega arith)
  most_grows k (suc m) l =
      ⊎_elim
      (λ (e : k ≡ m). rw e (omega arith))
      (λ (j : k < m). let i = most_grows k m j in omega (arith, i))
      (eq-or-lt_of_le (omega arith))

  all-put : (allowance count : ℕ) → most_to book version n questions count ≤ allowance → (k : ℕ) → k < count
      → is_put book version n (block questions k) (left_at book version n questions allowance k) ≡ true
  all-put allowance count h k l =
      let a = left-most allowance k in
      let b = most_grows k count l in
      fits-put book version n (block questions k) (left_at book version n questions allowance k) (omega (arith, a, b, h))

pub all_fit : AllFit
all_fit book questions allowance h old new opened e m k l =
    let p = all-put book h.version h.n questions allowance (question_count questions) m k l in
    (p, (queue_parts book questions allowance h old new opened e).alone k l p)
