-- What a call wrote is read by both readers, and the lab's part of it is exactly the bytes that were written. Assumes nothing.
use Rattle.std.specs.Prelude.{ℕ, ◌<◌, ◌≡◌, List, ◌++◌}
use Rattle.floats.specs.Outcome.{Out, ok, no}
use Rattle.blocks.specs.Words.{block}
use Rattle.book.specs.declared.Head.{Head}
use Rattle.book.specs.Book.{book_of, rule_of}
use Rattle.replies.specs.Blocks.{refusal_bytes}
use Rattle.readers.specs.Readers.{floor_words, floor_of, lab_of}
use Rattle.sheet.specs.Sheet.{sheet_of, written, reply_to}
use Rattle.pool.specs.Pool.{pooled_of}
use Rattle.preview.specs.Preview.{preview_of}
use Rattle.batch.specs.Feeds.{feed_count, feeds_of}
use Rattle.batches.specs.Alone.{WithFeed, task_for, part}
use Rattle.queue.specs.Queue.{question_count, queue_reply, left_at, queue_of}

-- of a slice s both sheets are read, and the lab's is bs
pub record Reads (s bs : List ℕ) : Type 0 where
  pub floor : floor_of s ≡ ok (floor_words s)
  pub lab : lab_of s ≡ ok bs

-- bytes that are read wherever they stand at the front
pub record Readable (bs : List ℕ) : Type 0 where
  pub reads : (rest : List ℕ) → Reads (bs ++ rest) bs

-- the slice after an accepted call
abbrev pub ReadAfter : Out (List ℕ) → Type 0
ReadAfter o = (bs old : List ℕ) → o ≡ ok bs → Reads (written o old) bs

abbrev pub PlainRead : Type 0
PlainRead = (book question : List ℕ) (room : ℕ) → ReadAfter (sheet_of book question room)

abbrev pub PooledRead : Type 0
PooledRead = (book question drums : List ℕ) (room : ℕ) → ReadAfter (pooled_of book question drums room)

abbrev pub PreviewRead : Type 0
PreviewRead = (book offered question : List ℕ) (room : ℕ) → ReadAfter (preview_of book offered question room)

-- each part that a call with many feeds wrote: the blocks of the call on its feed alone, or those of 11 or 12
pub record PartsRead (book question feeds new : List ℕ) : Type 0 where
  pub alone : (task : ℕ) → task_for (rule_of book) question ≡ ok task → (k : ℕ) → k < feed_count feeds
      → (r : List ℕ) → WithFeed (rule_of book) question feeds k r → Reads (part new k) (reply_to book r)
  pub refused : (e : ℕ) → task_for (rule_of book) question ≡ no e → (k : ℕ) → k < feed_count feeds
      → Reads (part new k) (refusal_bytes (rule_of book) question e)

abbrev pub FeedsRead : Type 0
FeedsRead = (book question feeds old new : List ℕ) → feeds_of book question feeds old ≡ ok new → PartsRead book question feeds new

-- each part that a queue wrote: an answer's blocks, a refusal's, or the block of a question that is put off
abbrev pub QueueRead : Type 0
QueueRead =
    (book questions : List ℕ) (allowance : ℕ) (h : Head) (old new : List ℕ) → book_of book ≡ ok h → queue_of book questions allowance old ≡ ok new
    → (k : ℕ) → k < question_count questions
    → Reads (part new k) (queue_reply book h.version h.n (block questions k) (left_at book h.version h.n questions allowance k))

-- what the program writes, an answer's blocks or a refusal's
abbrev pub ReplyRead : Type 0
ReplyRead = (book question : List ℕ) → Readable (reply_to book question)
