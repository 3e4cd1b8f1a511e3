-- Every refusal of a pooled call has one of the numbers of a call, or 31 or 32, so the result 0 means an answer. Assumes nothing.
use Rattle.std.specs.Prelude.{◌≡◌, Bool, ◌||◌, List, ℕ, T}
use Rattle.floats.specs.Outcome.{Out, ok, no}
use Rattle.book.specs.declared.Model.{Model}
use Rattle.book.specs.Book.{model_of}
use Rattle.question.specs.Inputs.{within}
use Rattle.sheet.specs.Sheet.{number_of}
use Rattle.refusals.specs.Numbered.{is_number}
use Rattle.pool.specs.Pool.{pooled_of}

-- for a book of model M
abbrev pub is_pool_number : Model → ℕ → Bool
is_pool_number M r = is_number M r || within 31 32 r

-- an outcome whose refusal, if it is one, has such a number
pub record PoolNumbered {A : Type 0} (M : Model) (o : Out A) : Type 0 where
  pub number : (r : ℕ) → o ≡ no r → T (is_pool_number M r)

abbrev pub PoolRefusals : Type 0
PoolRefusals = (book question drums : List ℕ) (room : ℕ) → PoolNumbered (model_of book) (pooled_of book question drums room)

abbrev pub ZeroIsPoolAnswer : Type 0
ZeroIsPoolAnswer =
    (book question drums : List ℕ) (room : ℕ) → number_of (pooled_of book question drums room) ≡ 0 → (bs : List ℕ) × (pooled_of book question drums room ≡ ok bs)
