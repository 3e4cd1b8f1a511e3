-- Trying a pair before entering it: the call on a book with an offered block in the place of the pair with the same i and j. Assumes nothing.
use Rattle.std.specs.Prelude.{ℕ, List}
use Rattle.floats.specs.Outcome.{Out, bind}
use Rattle.book.specs.declared.Head.{Head}
use Rattle.book.specs.Book.{book_of, rule_of, offered_of}
use Rattle.records.specs.Offered.{with_pair}
use Rattle.sheet.specs.Sheet.{sheet_from}

-- the room and the question's numbers and the task's own, as on a copy of the book that holds the offered block
unfoldable pub preview_from : List ℕ → Head → List ℕ → List ℕ → ℕ → Out (List ℕ)
preview_from book h offered question room = sheet_from (with_pair h.n book offered) h.version h.n question room

-- a book's questions (1 to 9, 35, 37, 38), the offered block's (1, 2, 7, 8, 9), then the others
unfoldable pub preview_of : List ℕ → List ℕ → List ℕ → ℕ → Out (List ℕ)
preview_of book offered question room =
    bind (book_of book) (λ h.
    bind (offered_of (rule_of book) h offered) (λ h.
    preview_from book h offered question room))
