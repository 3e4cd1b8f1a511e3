-- Every refusal of a preview has one of the numbers of a call, so the result 0 means an answer. Assumes nothing.
use Rattle.std.specs.Prelude.{◌≡◌, List, ℕ}
use Rattle.floats.specs.Outcome.{ok}
use Rattle.book.specs.Book.{model_of}
use Rattle.sheet.specs.Sheet.{number_of}
use Rattle.refusals.specs.Numbered.{Numbered}
use Rattle.preview.specs.Preview.{preview_of}

abbrev pub PreviewRefusals : Type 0
PreviewRefusals = (book offered question : List ℕ) (room : ℕ) → Numbered (model_of book) (preview_of book offered question room)

abbrev pub ZeroIsPreview : Type 0
ZeroIsPreview =
    (book offered question : List ℕ) (room : ℕ) → number_of (preview_of book offered question room) ≡ 0
    → (bs : List ℕ) × (preview_of book offered question room ≡ ok bs)
