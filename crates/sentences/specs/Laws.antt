-- Laws of the sentences, over every number with the places that it can have. Assumes nothing.
use Rattle.std.specs.Prelude.{ℕ, ◌^◌, ◌<◌, ◌≤◌, ◌≡◌, T, ⊤, List, [], ◌∷◌, ◌++◌, length, cond}
use Rattle.std.specs.Char.{is_ascii_digit}
use Rattle.std.specs.List.{All}
use Rattle.std.specs.Str.Parse.{digits_value}
use Rattle.book.specs.declared.Place.{Place}
use Rattle.book.specs.declared.Place.TheVariants.{Nowhere, Block, Pair, Offered}
use Rattle.book.specs.Place.{can_have}
use Rattle.sentences.specs.Sentence.{sentence_of}

-- a block, or the two solvents, is any number of 64 bits
abbrev pub Word : ℕ → Type 0
Word k = k < 2 ^ 64

abbrev pub Words : Place → Type 0
Words Nowhere = ⊤
Words (Block k) = Word k
Words (Pair i j) = Word i × Word j
Words Offered = ⊤

-- a number of a refusal, and a place that it can have
pub record Refused (r : ℕ) (p : Place) : Type 0 where
  pub least : 1 ≤ r
  pub most : r ≤ 39
  pub can : T (can_have r p)
  pub words : Words p

abbrev pub SentenceFits : Type 0
SentenceFits = (r : ℕ) (p : Place) → Refused r p → length (sentence_of r p) ≤ 160

-- from the space to the tilde
abbrev pub SentencePrintable : Type 0
SentencePrintable = (r : ℕ) (p : Place) → Refused r p → All (λ b. (32 ≤ b) × (b ≤ 126)) (sentence_of r p)

-- none is the beginning of another, nor another itself
abbrev pub SentenceApart : Type 0
SentenceApart = (r r' : ℕ) (p p' : Place) (rest : List ℕ) → Refused r p → Refused r' p' → sentence_of r p ++ rest ≡ sentence_of r' p' → (r ≡ r') × (p ≡ p')

-- the digits that a text begins with
abbrev pub first_digits : List ℕ → List ℕ
first_digits [] = []
first_digits (b ∷ bs) = cond (is_ascii_digit b) (b ∷ first_digits bs) []

abbrev pub SentenceNumber : Type 0
SentenceNumber = (r : ℕ) (p : Place) → Refused r p → digits_value 10 (first_digits (sentence_of r p)) ≡ r
