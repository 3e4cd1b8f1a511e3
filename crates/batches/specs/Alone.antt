-- A call with many feeds and the calls on their own: part k of the slice is what the call on feed k alone leaves there, and no other byte is touched. Assumes nothing.
use Rattle.std.specs.Prelude.{ℕ, ◌+◌, ◌*◌, ◌≤◌, ◌<◌, ◌≡◌, ◌⊎◌, true, List, length, take, drop}
use Rattle.floats.specs.Outcome.{Out, ok, no, bind, need}
use Rattle.blocks.specs.declared.Rule.{Rule}
use Rattle.blocks.specs.Words.{Bytes, word, sum_by, check_right}
use Rattle.blocks.specs.Bytes.{bytes, put}
use Rattle.book.specs.Book.{rule_of}
use Rattle.question.specs.Inputs.{needs_temperature}
use Rattle.question.specs.Asked.{task_in}
use Rattle.replies.specs.Blocks.{answer_room, refusal_bytes}
use Rattle.sheet.specs.Sheet.{reply_to}
use Rattle.batch.specs.Feeds.{feed_count, feeds_of}

-- r is the question q with the words of feed k in place of words 4 to 11; all else stands, and the check is right
pub record WithFeed (rule : Rule) (q feeds : List ℕ) (k : ℕ) (r : List ℕ) : Type 0 where
  pub size : length q ≡ length r
  pub fraction : (i : ℕ) → i < 8 → word r (4 + i) ≡ word feeds (8 * k + i)
  pub others : (j : ℕ) → j < 63 → (j < 4) ⊎ (12 ≤ j) → word q j ≡ word r j
  pub check : check_right rule (word r) ≡ true

-- such a question, made: the bytes of feed k from word 4 on, then the check
abbrev pub fed : List ℕ → List ℕ → ℕ → List ℕ
fed question feeds k = put question 32 (take 64 (drop (64 * k) feeds))

unfoldable pub with_feed : Rule → List ℕ → List ℕ → ℕ → List ℕ
with_feed rule question feeds k = put (fed question feeds k) 504 (bytes (sum_by rule (word (fed question feeds k))))

abbrev pub FeedQuestion : Type 0
FeedQuestion =
    (rule : Rule) (question feeds : List ℕ) (k : ℕ) → length question ≡ 512 → k < feed_count feeds
    → WithFeed rule question feeds k (with_feed rule question feeds k) × (Bytes question → Bytes feeds → Bytes (with_feed rule question feeds k))

-- block and task: 11, and 12 for all but 1, 2, 3, 6 and 7
unfoldable pub task_for : Rule → List ℕ → Out ℕ
task_for rule question = bind (task_in rule question) (λ task. need (needs_temperature task) 12 (ok task))

-- part k of an answer slice
abbrev pub part : List ℕ → ℕ → List ℕ
part s k = take answer_room (drop (answer_room * k) s)

-- what an accepted call makes of a slice `old`
pub record Parts (book question feeds old new : List ℕ) : Type 0 where
  pub size : length old ≡ length new
  -- each feed has what a call on its own leaves: its answer's blocks, or the program's refusal block for its number
  pub alone : (task : ℕ) → task_for (rule_of book) question ≡ ok task → (k : ℕ) → k < feed_count feeds
      → (r : List ℕ) → WithFeed (rule_of book) question feeds k r → part new k ≡ put (part old k) 0 (reply_to book r)
  -- or all have the block with 11, or with 12
  pub refused : (e : ℕ) → task_for (rule_of book) question ≡ no e → (k : ℕ) → k < feed_count feeds
      → ((e ≡ 11) ⊎ (e ≡ 12)) × (part new k ≡ put (part old k) 0 (refusal_bytes (rule_of book) question e))
  -- and nothing behind the parts is touched
  pub behind : drop (answer_room * feed_count feeds) old ≡ drop (answer_room * feed_count feeds) new

abbrev pub FeedsAlone : Type 0
FeedsAlone = (book question feeds old new : List ℕ) → feeds_of book question feeds old ≡ ok new → Parts book question feeds old new
