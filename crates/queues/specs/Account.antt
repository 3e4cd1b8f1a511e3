-- The account of a queue: never below zero, taken and left are the allowance, what a question takes is its real count, and where all could fit all are put. Assumes nothing.
use Rattle.std.specs.Prelude.{ℕ, zero, suc, ◌+◌, ◌*◌, ◌≤◌, ◌<◌, ◌≡◌, true, false, List}
use Rattle.floats.specs.Outcome.{ok, no}
use Rattle.blocks.specs.Words.{word, block}
use Rattle.blocks.specs.Bytes.{put}
use Rattle.book.specs.declared.Head.{Head}
use Rattle.book.specs.Book.{book_of}
use Rattle.liquid_stability.specs.Stability.{present_count}
use Rattle.question.specs.declared.Question.{Question}
use Rattle.replies.specs.Blocks.{answer_room}
use Rattle.sheet.specs.Sheet.{question_to, sheet_of, reply_to}
use Rattle.queue.specs.Queue.{question_count, run_of, most_of, is_put, takes, left_at, queue_of}
use Rattle.batches.specs.Alone.{part}
use Rattle.queues.specs.Alone.{put_at}

module _ (book : List ℕ) (version n : ℕ) (questions : List ℕ) where
  -- what the first k questions take of an allowance
  unfoldable pub taken_to : ℕ → ℕ → ℕ
  taken_to allowance zero = 0
  taken_to allowance (suc k) = taken_to allowance k + takes book version n (block questions k) (left_at book version n questions allowance k)

  -- the most that they could begin
  unfoldable pub most_to : ℕ → ℕ
  most_to zero = 0
  most_to (suc k) = most_to k + most_of book version n (block questions k) (question_to book version n (block questions k))

-- ---- no question takes more than is left
abbrev pub TakesWithin : Type 0
TakesWithin = (book : List ℕ) (version n : ℕ) (question : List ℕ) (left : ℕ) → takes book version n question left ≤ left

-- so the counts taken and what is left make up the allowance, before every question and behind the last
abbrev pub Account : Type 0
Account =
    (book : List ℕ) (version n : ℕ) (questions : List ℕ) (allowance k : ℕ) → taken_to book version n questions allowance k + left_at book version n questions allowance k ≡ allowance

-- ---- put, a question takes its real count; put off, nothing
abbrev pub TakesCount : Type 0
TakesCount =
    (book : List ℕ) (version n : ℕ) (question : List ℕ) (left : ℕ)
    → (is_put book version n question left ≡ true → takes book version n question left ≡ (run_of book version n question).begun)
    × (is_put book version n question left ≡ false → takes book version n question left ≡ 0)

-- one that begins none is refused: it is put whatever is left, and takes nothing
abbrev pub TakesNothing : Type 0
TakesNothing =
    (book : List ℕ) (version n : ℕ) (question : List ℕ) (left : ℕ) → (run_of book version n question).begun ≡ 0
    → ((r : ℕ) × ((run_of book version n question).outcome ≡ no r)) × (is_put book version n question left ≡ true) × (takes book version n question left ≡ 0)

-- of an answer, what it takes is word 38
abbrev pub TakesWord : Type 0
TakesWord =
    (book questions : List ℕ) (allowance : ℕ) (h : Head) (old new : List ℕ) → book_of book ≡ ok h → queue_of book questions allowance old ≡ ok new
    → (k : ℕ) → k < question_count questions → put_at book h questions allowance k ≡ true → (bs : List ℕ) → sheet_of book (block questions k) answer_room ≡ ok bs
    → word (part new k) 38 ≡ takes book h.version h.n (block questions k) (left_at book h.version h.n questions allowance k)

-- that word of the plain call's answer is at most (m + 2) M + 4, m the positive mole fractions of the feed
abbrev pub WordBound : Type 0
WordBound =
    (book question : List ℕ) (room : ℕ) (h : Head) (q : Question) (bs : List ℕ) → book_of book ≡ ok h → question_to book h.version h.n question ≡ ok q → q.task ≡ 7
    → sheet_of book question room ≡ ok bs → word bs 38 ≤ (present_count q.fractions h.n + 2) * q.options.max_iterations + 4

-- ---- where the most of all questions fits into the allowance, all are put: as calls on their own
abbrev pub AllFit : Type 0
AllFit =
    (book questions : List ℕ) (allowance : ℕ) (h : Head) (old new : List ℕ) → book_of book ≡ ok h → queue_of book questions allowance old ≡ ok new
    → most_to book h.version h.n questions (question_count questions) ≤ allowance
    → (k : ℕ) → k < question_count questions → (put_at book h questions allowance k ≡ true) × (part new k ≡ put (part old k) 0 (reply_to book (block questions k)))
