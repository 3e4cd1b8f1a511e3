-- A flash at 350 K and 100 kPa (task 7) with an absent solvent of extreme data before the two kept ones, and the shorter sheet. Both calls are accepted, with every byte of
-- their answers; the trials' components 1 and 2 become 0 and 1. Assumes nothing.
use Rattle.std.specs.Prelude.{ℕ, ◌≡◌, List, [], ◌∷◌, ◌++◌}
use Rattle.floats.specs.Outcome.{ok}
use Rattle.replies.specs.Blocks.{answer_room}
use Rattle.sheet.specs.Sheet.{sheet_of}
use Rattle.striking.specs.Questions.{Shorter}
use Rattle.samples.specs.Sheets.{350K, 100kPa, 1MPa, 4MPa, head, solvent, pair, book2, question, answer, trial}

-- 0.25, 0.75, 1000 and 1e300
abbrev pub ¼ : ℕ
¼ = 0x3fd0000000000000

abbrev pub ¾ : ℕ
¾ = 0x3fe8000000000000

abbrev pub 1e3 : ℕ
1e3 = 0x408f400000000000

abbrev pub 1e300 : ℕ
1e300 = 0x7e37e43c8800759c

-- solvent 0: a reducing pressure of 1e300 Pa; τ_0j = 1e300, so that G_0j is 0; τ_j0 = 1000, so that γ_0 = exp 1000 is infinite. The others are those of book2
abbrev pub book3 : List ℕ
book3 =
    head 3
    ++ solvent 0 103 1e300 ++ solvent 1 101 4MPa ++ solvent 2 102 1MPa
    ++ pair 0 1 1e300 1e3 ++ pair 0 2 1e300 1e3 ++ pair 1 2 0 0

-- the longer feed and question, and the shorter
abbrev pub feed3 : List ℕ
feed3 = 0 ∷ ¼ ∷ ¾ ∷ []

abbrev pub feed2 : List ℕ
feed2 = ¼ ∷ ¾ ∷ []

abbrev pub question3 : List ℕ
question3 = question 7 350K 100kPa feed3 200 []

abbrev pub question2 : List ℕ
question2 = question 7 350K 100kPa feed2 200 []

-- liquid: bubble pressure 11791.4 Pa, dew pressure 8292.9 Pa, two trials, A7-GAMMA-PHI; stable; 8 evaluations: one of the bubble point, two of the dew point,
-- one of the feed and two of each trial
abbrev pub liquid : List ℕ → List ℕ
liquid z =
    answer 7 1 (350K ∷ 100kPa ∷ 0x40c707b420b72ebc ∷ 0x40c0326dcdddaab7 ∷ 0 ∷ 0 ∷ 0 ∷ 0 ∷ 2 ∷ 1 ∷ []) z [] (0 ∷ 0 ∷ 0 ∷ 0 ∷ 0 ∷ 0 ∷ 0 ∷ 1 ∷ 8 ∷ [])

-- a trial that came back to the feed in two iterations
abbrev pub back : ℕ → List ℕ → List ℕ
back component z = trial component 0 2 1 z

pub record Absent : Type 0 where
  pub shorter : Shorter book3 question3 book2 question2
  pub long : sheet_of book3 question3 answer_room ≡ ok (liquid feed3 ++ back 1 feed3 ++ back 2 feed3)
  pub short : sheet_of book2 question2 answer_room ≡ ok (liquid feed2 ++ back 0 feed2 ++ back 1 feed2)
