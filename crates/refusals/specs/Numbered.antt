-- Every refusal has one of the numbers of docs/FORMAT.md, so the result 0 means an answer; of a Wilson book it is neither 9 nor 24. Over the definition of the whole
-- call. Assumes nothing.
use Rattle.std.specs.Prelude.{◌≡◌, ◌≢◌, ◌≤◌, Bool, true, false, ◌&&◌, ◌||◌, List, ℕ, T, eqb, leb}
use Rattle.floats.specs.Outcome.{Out, ok, no}
use Rattle.book.specs.declared.Model.{Model}
use Rattle.book.specs.declared.Model.TheVariants.{Nrtl, Wilson}
use Rattle.book.specs.Book.{model_of, book_of}
use Rattle.sheet.specs.Sheet.{sheet_of, number_of}

-- NRTL has an α of each pair, which 9 and 24 ask for
unfoldable pub has_alphas : Model → Bool
has_alphas Nrtl = true
has_alphas Wilson = false

-- the numbers of the questions that are put to a book of model M: 1 to 9, 35, 37 and 38, 9 only where there are alphas
abbrev pub is_books : Model → ℕ → Bool
is_books M r = (leb 1 r && leb r 8) || eqb r 35 || eqb r 37 || eqb r 38 || (eqb r 9 && has_alphas M)

-- and of those that follow: 10 to 30, 34 and 36, 24 only where there are alphas
abbrev pub is_later : Model → ℕ → Bool
is_later M r = (leb 10 r && leb r 23) || (leb 25 r && leb r 30) || eqb r 34 || eqb r 36 || (eqb r 24 && has_alphas M)

-- those that follow, and with b the book's too
abbrev pub is_among : Bool → Model → ℕ → Bool
is_among b M r = is_later M r || (b && is_books M r)

-- the numbers that there are
abbrev pub is_number : Model → ℕ → Bool
is_number M r = is_among true M r

-- an outcome whose refusal, if it is one, has such a number
pub record Among {A : Type 0} (b : Bool) (M : Model) (o : Out A) : Type 0 where
  pub number : (r : ℕ) → o ≡ no r → T (is_among b M r)

abbrev pub Numbered : {A : Type 0} → Model → Out A → Type 0
Numbered M o = Among true M o

-- every call
abbrev pub Refusals : Type 0
Refusals = (book question : List ℕ) (room : ℕ) → Numbered (model_of book) (sheet_of book question room)

-- a call on a Wilson book
abbrev pub WilsonNumbers : Type 0
WilsonNumbers = (book question : List ℕ) (room : ℕ) → model_of book ≡ Wilson → (sheet_of book question room ≢ no 9) × (sheet_of book question room ≢ no 24)

-- 1 to 9 are the book's own: a call that is refused with one of them was refused by its book
abbrev pub RefusedByBook : Type 0
RefusedByBook = (book question : List ℕ) (room r : ℕ) → sheet_of book question room ≡ no r → r ≤ 9 → book_of book ≡ no r

-- a call whose result is 0 has an answer
abbrev pub ZeroIsAnswer : Type 0
ZeroIsAnswer = (book question : List ℕ) (room : ℕ) → number_of (sheet_of book question room) ≡ 0 → (bs : List ℕ) × (sheet_of book question room ≡ ok bs)
