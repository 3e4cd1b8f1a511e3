-- Which numbers end a call with many feeds: a book's, 33 and 10; so the result 0 means that every feed has its blocks. Assumes nothing.
use Rattle.std.specs.Prelude.{◌≡◌, ◌⊎◌, List, ℕ}
use Rattle.floats.specs.Outcome.{ok, no}
use Rattle.book.specs.Book.{book_of}
use Rattle.sheet.specs.Sheet.{number_of}
use Rattle.batch.specs.Feeds.{feeds_of}

abbrev pub FeedsRefusals : Type 0
FeedsRefusals =
    (book question feeds old : List ℕ) (r : ℕ) → feeds_of book question feeds old ≡ no r
    → (book_of book ≡ no r) ⊎ ((r ≡ 33) ⊎ (r ≡ 10))

abbrev pub ZeroIsParts : Type 0
ZeroIsParts =
    (book question feeds old : List ℕ) → number_of (feeds_of book question feeds old) ≡ 0 → (new : List ℕ) × (feeds_of book question feeds old ≡ ok new)
