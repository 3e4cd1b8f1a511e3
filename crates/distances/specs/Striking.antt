-- Striking and distances: a step that is refused on account of an absent solvent may be answered without it, so step and count need not be the same (Refused.antt has a pair of sheets); where
-- every refused step that was tried is refused by 14 or 23 (steps that leave the domain), they are. Assumes nothing.
use Rattle.std.specs.Prelude.{ℕ, ◌<◌, ◌≡◌, ◌⊎◌, List}
use Rattle.floats.specs.Outcome.{ok, no}
use Rattle.blocks.specs.Words.{word}
use Rattle.striking.specs.Questions.{Shorter}
use Rattle.distance.specs.Distance.{step_count, distance_of}
use Rattle.distances.specs.First.{First, NoStep, plain_outcome, step_outcome}

-- the refused among the first k steps are refused by 14 or 23
abbrev pub Leaving : List ℕ → List ℕ → ℕ → Type 0
Leaving book question k = (i r : ℕ) → i < k → step_outcome book question i ≡ no r → (r ≡ 14) ⊎ (r ≡ 23)

-- the steps tried: those before the answer and itself, or all
abbrev pub Tried : List ℕ → List ℕ → ℕ → ℕ → Type 0
Tried book question o k = ((o' : ℕ) × First (step_outcome book question) o k o') ⊎ ((k ≡ step_count) × NoStep (step_outcome book question) o)

abbrev pub DistanceStrikes : Type 0
DistanceStrikes =
    (book question book' question' : List ℕ) (o k : ℕ) → Shorter book question book' question' → word question 1 ≡ 7 → plain_outcome book question ≡ ok o
    → Tried book question o k → Leaving book question k → distance_of book question ≡ distance_of book' question'
