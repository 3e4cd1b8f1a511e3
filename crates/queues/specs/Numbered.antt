-- Which numbers end a call with a queue: a book's, 39 and 10; so the result 0 means that every question has its blocks. Assumes nothing.
use Rattle.std.specs.Prelude.{◌≡◌, ◌⊎◌, List, ℕ}
use Rattle.floats.specs.Outcome.{ok, no}
use Rattle.book.specs.Book.{book_of}
use Rattle.sheet.specs.Sheet.{number_of}
use Rattle.queue.specs.Queue.{queue_of}

abbrev pub QueueRefusals : Type 0
QueueRefusals =
    (book questions : List ℕ) (allowance : ℕ) (old : List ℕ) (r : ℕ) → queue_of book questions allowance old ≡ no r
    → (book_of book ≡ no r) ⊎ ((r ≡ 39) ⊎ (r ≡ 10))

abbrev pub ZeroIsQueue : Type 0
ZeroIsQueue =
    (book questions : List ℕ) (allowance : ℕ) (old : List ℕ) → number_of (queue_of book questions allowance old) ≡ 0
    → (new : List ℕ) × (queue_of book questions allowance old ≡ ok new)
