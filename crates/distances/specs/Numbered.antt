-- Which numbers a distance call gives: those of a plain call, so the number 0 means a step or none. Assumes nothing.
use Rattle.std.specs.Prelude.{ℕ, ◌≡◌, ◌≢◌, List, T}
use Rattle.floats.specs.Outcome.{no}
use Rattle.book.specs.Book.{model_of}
use Rattle.refusals.specs.Numbered.{is_number}
use Rattle.distance.specs.Distance.{distance_of, distance_number}

abbrev pub DistanceRefusals : Type 0
DistanceRefusals = (book question : List ℕ) (r : ℕ) → distance_of book question ≡ no r → T (is_number (model_of book) r)

abbrev pub ZeroIsFound : Type 0
ZeroIsFound = (book question : List ℕ) → distance_number (distance_of book question) ≡ 0 → (r : ℕ) → distance_of book question ≢ no r
