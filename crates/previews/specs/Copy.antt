-- A preview and the call on a copy of the book that holds the offered block. Assumes nothing.
use Rattle.std.specs.Prelude.{ℕ, ◌*◌, ◌<◌, ◌≡◌, true, List}
use Rattle.floats.specs.Outcome.{ok}
use Rattle.blocks.specs.Words.{block}
use Rattle.blocks.specs.Bytes.{put}
use Rattle.book.specs.declared.Head.{Head}
use Rattle.book.specs.Places.{pair_place}
use Rattle.book.specs.Book.{book_of}
use Rattle.records.specs.Offered.{place_named, names_pair}
use Rattle.sheet.specs.Sheet.{sheet_of}
use Rattle.preview.specs.Preview.{preview_of}

-- the copy of a book of n solvents: the offered block stands in the place of the pair with the same i and j
abbrev pub copy_of : ℕ → List ℕ → List ℕ → List ℕ
copy_of n book offered = put book (512 * place_named n offered) offered

-- where the book passes and the offered block is 512 bytes with i < j < n, a preview answers as the call on that copy
abbrev pub PreviewAsCopy : Type 0
PreviewAsCopy =
    (book offered question : List ℕ) (room : ℕ) (h : Head) → book_of book ≡ ok h → names_pair h.n offered ≡ true
    → preview_of book offered question room ≡ sheet_of (copy_of h.n book offered) question room

-- offering the book's own block, byte for byte, changes nothing
abbrev pub OwnPair : Type 0
OwnPair =
    (book question : List ℕ) (room i j : ℕ) (h : Head) → book_of book ≡ ok h → i < j → j < h.n
    → preview_of book (block book (pair_place h.n i j)) question room ≡ sheet_of book question room
