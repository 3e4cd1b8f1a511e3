-- Raising a limit in the queue: the most that a flash could begin grows with M, so a question can be put off that was put before; one that is put is answered
-- as before and takes what it took. Assumes nothing.
use Rattle.std.specs.Prelude.{ℕ, ◌≤◌, ◌<◌, ◌≡◌, ◌⊎◌, true, List}
use Rattle.floats.specs.Outcome.{ok}
use Rattle.blocks.specs.Words.{block}
use Rattle.book.specs.declared.Head.{Head}
use Rattle.book.specs.Book.{book_of, rule_of}
use Rattle.question.specs.Asked.{task_in}
use Rattle.replies.specs.Blocks.{answer_room}
use Rattle.sheet.specs.Sheet.{question_to, sheet_of}
use Rattle.queue.specs.Queue.{question_count, is_flash, run_of, most_of, is_put, takes, queue_reply, queue_of}
use Rattle.batches.specs.Alone.{part}
use Rattle.queues.specs.Account.{most_to}
use Rattle.limits.specs.Raised.{Raised}

-- of a question q, r with limits raised, and so much left of the allowance, for a book of that version and n solvents
pub record QueueKept (book : List ℕ) (version n : ℕ) (q r : List ℕ) (left : ℕ) : Type 0 where
  -- what changes: the most that it could begin, which is no less
  pub most : most_of book version n q (question_to book version n q) ≤ most_of book version n r (question_to book version n r)
  -- what doesn't: its flash, with the evaluations that it begins
  pub run : run_of book version n q ≡ run_of book version n r
  -- where r is put, so is q, with the same blocks, and both take the same
  pub put : is_put book version n r left ≡ true → is_put book version n q left ≡ true
  pub reply : is_put book version n r left ≡ true → queue_reply book version n q left ≡ queue_reply book version n r left
  pub takes : is_put book version n r left ≡ true → takes book version n q left ≡ takes book version n r left

-- for each question that a call on its own accepts, whatever is left
abbrev pub QueueRaising : Type 0
QueueRaising =
    (book : List ℕ) (h : Head) (q r bs : List ℕ) (left : ℕ) → book_of book ≡ ok h → Raised (rule_of book) q r
    → is_flash (task_in (rule_of book) q) ≡ true → sheet_of book q answer_room ≡ ok bs → QueueKept book h.version h.n q r left

-- of the whole call, some questions raised and the others as they were: where the allowance holds the most of all of them, each question that a call on its own
-- accepts has the same part of the slice
abbrev pub QueuesRaising : Type 0
QueuesRaising =
    (book qs rs : List ℕ) (allowance : ℕ) (h : Head) (old new new' : List ℕ) → book_of book ≡ ok h
    → queue_of book qs allowance old ≡ ok new → queue_of book rs allowance old ≡ ok new' → question_count qs ≡ question_count rs
    → ((k : ℕ) → k < question_count qs → (block qs k ≡ block rs k) ⊎ Raised (rule_of book) (block qs k) (block rs k))
    → most_to book h.version h.n rs (question_count rs) ≤ allowance
    → (k : ℕ) → k < question_count qs → (bs : List ℕ) → sheet_of book (block qs k) answer_room ≡ ok bs → part new k ≡ part new' k
