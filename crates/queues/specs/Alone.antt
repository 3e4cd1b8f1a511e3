-- A queue and the calls on their own: the part of a question that is put is what a call on it alone leaves there, that of one put off is its block, and no other
-- byte is touched. Assumes nothing.
use Rattle.std.specs.Prelude.{ℕ, ◌*◌, ◌<◌, ◌≡◌, Bool, true, false, List, length, drop}
use Rattle.floats.specs.Outcome.{ok}
use Rattle.blocks.specs.Words.{block}
use Rattle.blocks.specs.Bytes.{put}
use Rattle.book.specs.declared.Head.{Head}
use Rattle.book.specs.Book.{book_of, rule_of}
use Rattle.replies.specs.Blocks.{answer_room, put_off_bytes}
use Rattle.sheet.specs.Sheet.{reply_to}
use Rattle.queue.specs.Queue.{question_count, is_put, left_at, queue_of}
use Rattle.batches.specs.Alone.{part}

-- is question k put, for a book that was opened?
abbrev pub put_at : List ℕ → Head → List ℕ → ℕ → ℕ → Bool
put_at book h questions allowance k = is_put book h.version h.n (block questions k) (left_at book h.version h.n questions allowance k)

-- what an accepted call makes of a slice `old`
pub record Parts (book questions : List ℕ) (allowance : ℕ) (h : Head) (old new : List ℕ) : Type 0 where
  pub size : length old ≡ length new
  -- a question that is put has what a call on its own leaves: its answer's blocks, or the program's refusal block for its number
  pub alone : (k : ℕ) → k < question_count questions → put_at book h questions allowance k ≡ true → part new k ≡ put (part old k) 0 (reply_to book (block questions k))
  -- one that is put off has that one block
  pub off : (k : ℕ) → k < question_count questions → put_at book h questions allowance k ≡ false → part new k ≡ put (part old k) 0 (put_off_bytes (rule_of book))
  -- and nothing behind the parts is touched
  pub behind : drop (answer_room * question_count questions) old ≡ drop (answer_room * question_count questions) new

abbrev pub QueueParts : Type 0
QueueParts =
    (book questions : List ℕ) (allowance : ℕ) (h : Head) (old new : List ℕ) → book_of book ≡ ok h → queue_of book questions allowance old ≡ ok new
    → Parts book questions allowance h old new
