-- The numbers that end a call with a queue. Assumes nothing.
use Prim.Native.Nat.{ℕ}
use mathlib.Core.Path.{◌≡◌, refl}
use mathlib.Core.Logic.{◌⊎◌, inl, inr}
use mathlib.Core.List.{List}
use native.Mathlib.Omega.{arith}
use Rattle.floats.specs.Outcome.{Out, ok, no}
use Rattle.book.specs.Book.{book_of}
use Rattle.sheet.specs.Sheet.{number_of}
use Rattle.refusals.proofs.Theorem.{num_book}
use Rattle.batches.proofs.Refusals.{among-ok, among-need, among-bind}
use Rattle.queue.specs.Queue.{queue_of}
use Rattle.queues.specs.Numbered.{QueueRefusals, ZeroIsQueue}

pub queue_refusals : QueueRefusals
unfolding queue_of
queue_refusals book questions allowance old =
    (among-bind {P = λ r. (book_of book ≡ no r) ⊎ ((r ≡ 39) ⊎ (r ≡ 10))} (book_of book) (λ r e. inl e)
    (λ h. among-need _ 39 (inr (inl refl)) (among-need _ 10 (inr (inr refl)) (among-ok _)))).number

-- no number is 0
pub zero_is_queue : ZeroIsQueue
unfolding number_of
zero_is_queue book questions allowance old = go (queue_of book questions allowance old) (queue_refusals book questions allowance old)
  where
    none : (r : ℕ) → r ≡ 0 → (book_of book ≡ no r) ⊎ ((r ≡ 39) ⊎ (r ≡ 10)) → ⊥
    none r z (inl e) = (num_book book).number 0 (rw z at e)
    none r z (inr (inl e)) = omega arith
    none r z (inr (inr e)) = omega arith

    go : (o : Out (List ℕ)) → ((r : ℕ) → o ≡ no r → (book_of book ≡ no r) ⊎ ((r ≡ 39) ⊎ (r ≡ 10))) → number_of o ≡ 0 → (new : List ℕ) × (o ≡ ok new)
    go (ok new) h e = (new, refl)
    go (no r) h e = absurd (none r e (h r refl))
