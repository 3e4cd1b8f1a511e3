-- Demand 3 of each feed: where the call on a feed alone is accepted, nothing of a solvent that isn't in it shows in its part of the slice. Assumes nothing.
use Rattle.std.specs.Prelude.{ℕ, ◌<◌, ◌≡◌, List}
use Rattle.floats.specs.Outcome.{ok}
use Rattle.book.specs.Book.{rule_of}
use Rattle.replies.specs.Blocks.{answer_room}
use Rattle.sheet.specs.Sheet.{sheet_of}
use Rattle.striking.specs.Questions.{kept_in, solvents, Shorter}
use Rattle.striking.specs.Sheets.{SameSheet}
use Rattle.striking.specs.Theorem.{Accepted}
use Rattle.batch.specs.Feeds.{feed_count, feeds_of}
use Rattle.batches.specs.Alone.{WithFeed, task_for, part}

-- r is what the call asks of feed k alone
pub record AsksAlone (book question feeds : List ℕ) (k : ℕ) (r : List ℕ) : Type 0 where
  pub task : Accepted (task_for (rule_of book) question)
  pub below : k < feed_count feeds
  pub asked : WithFeed (rule_of book) question feeds k r

-- feed k of the longer call, and a feed k' of a call that asks the shorter question of the shorter book: the words are equal
abbrev pub FeedDemand3 : Type 0
FeedDemand3 =
    (book question feeds old new book' question' feeds' old' new' r r' : List ℕ) (k k' : ℕ)
    → feeds_of book question feeds old ≡ ok new → AsksAlone book question feeds k r
    → feeds_of book' question' feeds' old' ≡ ok new' → AsksAlone book' question' feeds' k' r'
    → Shorter book r book' r' → Accepted (sheet_of book r answer_room)
    → Accepted (sheet_of book' r' answer_room) × SameSheet (kept_in r) (solvents book) (part new k) (part new' k')
