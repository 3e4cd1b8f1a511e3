-- Raising a limit in a call of the entry point, of pooled drums, of many feeds and of a tried pair: what was accepted is accepted with the same bytes.
-- Assumes nothing.
use Rattle.std.specs.Prelude.{ℕ, ◌≡◌, List, length}
use Rattle.floats.specs.Outcome.{ok}
use Rattle.book.specs.Book.{rule_of}
use Rattle.replies.specs.Blocks.{answer_room}
use Rattle.sheet.specs.Sheet.{sheet_of, Answers}
use Rattle.pool.specs.Pool.{pooled_of}
use Rattle.batch.specs.Feeds.{feeds_of}
use Rattle.batches.specs.Alone.{part}
use Rattle.batches.specs.Striking.{AsksAlone}
use Rattle.preview.specs.Preview.{preview_of}
use Rattle.limits.specs.Raised.{Raised}

-- two calls of the entry point on one slice, by its contract: where the first gives 0 and leaves the slice `new`, so does the second
abbrev pub RaisingCalls : Type 0
RaisingCalls =
    (book q r old new new' : List ℕ) (e : ℕ) → Raised (rule_of book) q r → Answers (sheet_of book q (length old)) 0 old new
    → Answers (sheet_of book r (length old)) e old new' → (e ≡ 0) × (new ≡ new')

-- pooled drums
abbrev pub PooledRaising : Type 0
PooledRaising =
    (book q r drums : List ℕ) (room : ℕ) (bs : List ℕ) → Raised (rule_of book) q r → pooled_of book q drums room ≡ ok bs → pooled_of book r drums room ≡ ok bs

-- many feeds: no limit ends the call, and each feed whose call on its own is accepted has the same part of the slice
abbrev pub FeedsRaising : Type 0
FeedsRaising =
    (book q r feeds old new : List ℕ) → Raised (rule_of book) q r → feeds_of book q feeds old ≡ ok new
    → (new' : List ℕ) × (feeds_of book r feeds old ≡ ok new')
    × ((k : ℕ) (alone bs : List ℕ) → AsksAlone book q feeds k alone → sheet_of book alone answer_room ≡ ok bs → part new k ≡ part new' k)

-- a pair that is tried
abbrev pub PreviewRaising : Type 0
PreviewRaising =
    (book offered q r : List ℕ) (room : ℕ) (bs : List ℕ) → Raised (rule_of book) q r → preview_of book offered q room ≡ ok bs
    → preview_of book offered r room ≡ ok bs
