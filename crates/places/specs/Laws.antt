-- Laws of the place beside a refusal's number. Assumes nothing.
use Rattle.std.specs.Prelude.{ℕ, ◌<◌, ◌≡◌, ◌≢◌, ◌⊎◌, Bool, true, false, T, ◌||◌, ◌==◌, List, Some}
use Rattle.floats.specs.Outcome.{ok, no}
use Rattle.floats.specs.Fold.{all_to}
use Rattle.book.specs.declared.Head.{Head}
use Rattle.book.specs.declared.Place.{Place}
use Rattle.book.specs.declared.Place.TheVariants.{Nowhere, Offered}
use Rattle.book.specs.Book.{book_of, rule_of, offered_of}
use Rattle.book.specs.Place.{lowest, first_pair, place_of, preview_place, put_to_blocks, can_have, place_words, place_from}

-- ---- the searches find the first

abbrev pub LowestIsFirst : Type 0
LowestIsFirst = (q : ℕ → Bool) (n k : ℕ) → lowest q n ≡ Some k → (k < n) × (q k ≡ false) × (all_to q k ≡ true)

-- in the order (0, 1), (0, 2) and on
abbrev pub Before : ℕ → ℕ → ℕ → ℕ → Type 0
Before k l i j = (k < i) ⊎ ((k ≡ i) × (l < j))

abbrev pub FirstPairIsFirst : Type 0
FirstPairIsFirst =
    (q : ℕ → ℕ → Bool) (n i j : ℕ) → first_pair q n ≡ Some (i, j) →
    (i < j) × (j < n) × (q i j ≡ false) × ((k l : ℕ) → k < l → l < n → Before k l i j → q k l ≡ true)

-- ---- of a call's place

-- a book that is refused with a number of its blocks, or with 6, has a place
abbrev pub PlaceGiven : Type 0
PlaceGiven = (s : List ℕ) (r : ℕ) → book_of s ≡ no r → T (put_to_blocks r || (r == 6)) → place_of s r ≢ Nowhere

-- an offered block that says no is named as that
abbrev pub OfferedNamed : Type 0
OfferedNamed = (s offered : List ℕ) (h h' : Head) (r : ℕ) → book_of s ≡ ok h → offered_of (rule_of s) h' offered ≡ no r → preview_place s r ≡ Offered

-- a place is one that its number can have
abbrev pub PlaceFits : Type 0
PlaceFits = (s : List ℕ) (r : ℕ) → (can_have r (place_of s r) ≡ true) × (can_have r (preview_place s r) ≡ true)

-- three words say all of a place
abbrev pub WordsBack : Type 0
WordsBack = (p : Place) → place_from (place_words p) ≡ p
