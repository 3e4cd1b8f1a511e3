-- Striking doesn't carry over to refused steps: a pair of sheets. Two solvents of equal vapor pressures mix ideally, and their flash at 26,900 Pa is vapor. At 27,000 Pa, the first step,
-- it is liquid, and that is the distance; with an absent solvent 0, whose ln γ is finite at the feed and not at the start of the liquid's first trial, that step is refused (25). Assumes nothing.
use Rattle.std.specs.Prelude.{ℕ, ◌≡◌, ◌≢◌, List, [], ◌∷◌, ◌++◌}
use Rattle.floats.specs.Outcome.{ok, no}
use Rattle.striking.specs.Questions.{Shorter}
use Rattle.samples.specs.Sheets.{½, 350K, 4MPa, head, solvent, pair, question}
use Rattle.samples.specs.Absent.{1e300}
use Rattle.distance.specs.declared.Distance.TheVariants.{Step}
use Rattle.distance.specs.Distance.{distance_of}
use Rattle.distances.specs.First.{plain_outcome, step_outcome}

-- 26,900 Pa, and 2466
abbrev pub 26900Pa : ℕ
26900Pa = 0x40da450000000000

abbrev pub 2466f : ℕ
2466f = 0x40a3440000000000

-- τ_10 = 1e300, so that G_10 is 0; τ_20 = 2466, so that G_20 is 104 of the smallest floats: half of it is one, and a thousandth is 0
abbrev pub long_book : List ℕ
long_book = head 3 ++ solvent 0 103 4MPa ++ solvent 1 101 4MPa ++ solvent 2 102 4MPa ++ pair 0 1 0 1e300 ++ pair 0 2 0 2466f ++ pair 1 2 0 0

abbrev pub short_book : List ℕ
short_book = head 2 ++ solvent 0 101 4MPa ++ solvent 1 102 4MPa ++ pair 0 1 0 0

abbrev pub long_ask : List ℕ
long_ask = question 7 350K 26900Pa (0 ∷ ½ ∷ ½ ∷ []) 200 []

abbrev pub short_ask : List ℕ
short_ask = question 7 350K 26900Pa (½ ∷ ½ ∷ []) 200 []

pub record RefusedStep : Type 0 where
  pub shorter : Shorter long_book long_ask short_book short_ask
  pub long : plain_outcome long_book long_ask ≡ ok 2
  pub short : plain_outcome short_book short_ask ≡ ok 2
  pub long-step : step_outcome long_book long_ask 0 ≡ no 25
  pub short-step : step_outcome short_book short_ask 0 ≡ ok 1
  -- s = 1, liquid, none refused before it
  pub short-distance : distance_of short_book short_ask ≡ ok (Step 1 1 0)
  pub long-distance : distance_of long_book long_ask ≢ ok (Step 1 1 0)
