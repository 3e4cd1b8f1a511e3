-- Striking on the floor: of an accepted call and its shorter one the first six words agree, and each kept solvent's entries. Nothing is said of absent ones.
-- Assumes nothing.
use Rattle.std.specs.Prelude.{ℕ, ◌≤◌, ◌<◌, ◌≡◌, Bool, true, List, T, length}
use Rattle.floats.specs.Outcome.{ok}
use Rattle.blocks.specs.Bytes.{word_at}
use Rattle.blocks.specs.Words.{word, block}
use Rattle.book.specs.declared.Head.{Head}
use Rattle.book.specs.Book.{book_of, rule_of}
use Rattle.replies.specs.Blocks.{answer_room}
use Rattle.readers.specs.Readers.{floor_of}
use Rattle.sheet.specs.Sheet.{sheet_of}
use Rattle.striking.specs.Words.{SameWord}
use Rattle.striking.specs.Questions.{kept_in, solvents, Shorter}
use Rattle.striking.specs.Sheets.{SameEntries}
use Rattle.striking.specs.Theorem.{Accepted, after}
use Rattle.pool.specs.Pool.{pooled_of}
use Rattle.pools.specs.Striking.{kept_pool, ShorterPool, after_pool}
use Rattle.preview.specs.Preview.{preview_of}
use Rattle.previews.specs.Striking.{after_preview, OfAbsent, ShorterOffered}
use Rattle.batch.specs.Feeds.{feeds_of}
use Rattle.batches.specs.Alone.{part}
use Rattle.batches.specs.Striking.{AsksAlone}
use Rattle.queue.specs.Queue.{question_count, queue_of}
use Rattle.queues.specs.Alone.{put_at}

-- the floor's words of the longer call and of the shorter: task to pressure and the vapor fraction; liquid from place 6 on, vapor from place 14 on
pub record SameFloor (keep : ℕ → Bool) (n : ℕ) (ws ws' : List ℕ) : Type 0 where
  pub front : (i : ℕ) → i ≤ 5 → SameWord (word_at ws i) (word_at ws' i)
  pub liquid : SameEntries keep n 6 (word_at ws) (word_at ws')
  pub vapor : SameEntries keep n 14 (word_at ws) (word_at ws')

-- two slices whose floor sheets are so
pub record SameOnFloor (keep : ℕ → Bool) (n : ℕ) (s s' : List ℕ) : Type 0 where
  pub longer : List ℕ
  pub shorter : List ℕ
  pub read : floor_of s ≡ ok longer
  pub read' : floor_of s' ≡ ok shorter
  pub same : SameFloor keep n longer shorter

abbrev pub FloorStriking : Type 0
FloorStriking =
    (book question book' question' : List ℕ) → Shorter book question book' question'
    → (old old' : List ℕ) → answer_room ≤ length old' → Accepted (sheet_of book question (length old))
    → SameOnFloor (kept_in question) (solvents book) (after book question old) (after book' question' old')

-- of pooled calls, by the solvents that are in some drum
abbrev pub PooledFloor : Type 0
PooledFloor =
    (book question drums book' question' drums' : List ℕ) → ShorterPool book question drums book' question' drums'
    → (old old' : List ℕ) → answer_room ≤ length old' → Accepted (pooled_of book question drums (length old))
    → SameOnFloor (kept_pool drums) (solvents book) (after_pool book question drums old) (after_pool book' question' drums' old')

-- of previews: an offered pair with an absent solvent, and one of two kept solvents
abbrev pub AbsentPairFloor : Type 0
AbsentPairFloor =
    (book offered question book' question' : List ℕ) → Shorter book question book' question' → OfAbsent (kept_in question) offered
    → (old old' : List ℕ) → answer_room ≤ length old' → Accepted (preview_of book offered question (length old))
    → SameOnFloor (kept_in question) (solvents book) (after_preview book offered question old) (after book' question' old')

abbrev pub KeptPairFloor : Type 0
KeptPairFloor =
    (book offered question book' offered' question' : List ℕ) → Shorter book question book' question'
    → T (kept_in question (word offered 1)) → T (kept_in question (word offered 2)) → ShorterOffered (rule_of book') (kept_in question) offered offered'
    → (old old' : List ℕ) → answer_room ≤ length old' → Accepted (preview_of book offered question (length old))
    → SameOnFloor (kept_in question) (solvents book) (after_preview book offered question old) (after_preview book' offered' question' old')

-- of the parts of two calls with many feeds
abbrev pub FeedFloor : Type 0
FeedFloor =
    (book question feeds old new book' question' feeds' old' new' r r' : List ℕ) (k k' : ℕ)
    → feeds_of book question feeds old ≡ ok new → AsksAlone book question feeds k r
    → feeds_of book' question' feeds' old' ≡ ok new' → AsksAlone book' question' feeds' k' r'
    → Shorter book r book' r' → Accepted (sheet_of book r answer_room)
    → SameOnFloor (kept_in r) (solvents book) (part new k) (part new' k')

-- of a queue's question that is put, and the plain call on the shorter one
abbrev pub QueueFloor : Type 0
QueueFloor =
    (book questions : List ℕ) (allowance : ℕ) (h : Head) (old new book' question' old' : List ℕ) (k : ℕ)
    → book_of book ≡ ok h → queue_of book questions allowance old ≡ ok new → k < question_count questions → put_at book h questions allowance k ≡ true
    → Shorter book (block questions k) book' question' → Accepted (sheet_of book (block questions k) answer_room) → answer_room ≤ length old'
    → SameOnFloor (kept_in (block questions k)) (solvents book) (part new k) (after book' question' old')
