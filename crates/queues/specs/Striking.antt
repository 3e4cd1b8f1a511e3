-- Demand 3 of each question in a queue: where it is put and accepted, nothing of a solvent that isn't in it shows in its part of the slice, which has the words of a plain
-- call on the shorter book and question. Assumes nothing.
use Rattle.std.specs.Prelude.{ℕ, ◌≤◌, ◌<◌, ◌≡◌, true, List, length}
use Rattle.floats.specs.Outcome.{ok}
use Rattle.blocks.specs.Words.{word, block}
use Rattle.book.specs.declared.Head.{Head}
use Rattle.book.specs.Book.{book_of}
use Rattle.replies.specs.Blocks.{answer_room}
use Rattle.sheet.specs.Sheet.{sheet_of}
use Rattle.striking.specs.Questions.{kept_in, solvents, Shorter}
use Rattle.striking.specs.Sheets.{SameSheet}
use Rattle.striking.specs.Theorem.{Accepted, after}
use Rattle.queue.specs.Queue.{question_count, takes, left_at, queue_of}
use Rattle.batches.specs.Alone.{part}
use Rattle.queues.specs.Alone.{put_at}

abbrev pub QueueDemand3 : Type 0
QueueDemand3 =
    (book questions : List ℕ) (allowance : ℕ) (h : Head) (old new book' question' old' : List ℕ) (k : ℕ)
    → book_of book ≡ ok h → queue_of book questions allowance old ≡ ok new → k < question_count questions → put_at book h questions allowance k ≡ true
    → Shorter book (block questions k) book' question' → Accepted (sheet_of book (block questions k) answer_room) → answer_room ≤ length old'
    → Accepted (sheet_of book' question' (length old')) × SameSheet (kept_in (block questions k)) (solvents book) (part new k) (after book' question' old')

-- and what it takes is word 38 of that plain call's answer
abbrev pub StrikingTakes : Type 0
StrikingTakes =
    (book questions : List ℕ) (allowance : ℕ) (h : Head) (old new book' question' old' : List ℕ) (k : ℕ)
    → book_of book ≡ ok h → queue_of book questions allowance old ≡ ok new → k < question_count questions → put_at book h questions allowance k ≡ true
    → Shorter book (block questions k) book' question' → Accepted (sheet_of book (block questions k) answer_room) → answer_room ≤ length old'
    → word (after book' question' old') 38 ≡ takes book h.version h.n (block questions k) (left_at book h.version h.n questions allowance k)
