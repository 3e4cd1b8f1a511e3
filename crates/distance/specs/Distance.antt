-- How far to the next phase change: from a flash's pressure P the steps of 100 Pa, 1, -1, 2, -2 and on to 1000, -1000, are tried in turn, and the first whose flash is accepted
-- with another outcome is the answer, with the count of refused steps before it. Assumes nothing.
use Rattle.std.specs.Prelude.{ℕ, zero, suc, ◌+◌, ◌-◌, ◌*◌, ◌/◌, ◌%◌, ◌^◌, cond, List, [], ◌∷◌, ◌++◌, eqb, leb, length, drop, pos, Float}
use Rattle.std.specs.Float.{binary64}
use Rattle.std.specs.Float.Ieee.{of_int, neg}
use Rattle.floats.specs.Arithmetic.{◌⊕◌}
use Rattle.floats.specs.Outcome.{Out, ok, no, bind, need}
use Rattle.book.specs.Book.{book_of, rule_of}
use Rattle.question.specs.declared.Question.{Question}
use Rattle.question.specs.Asked.{task_in}
use Rattle.thermo_models.specs.Mixture.{mixture_of}
use Rattle.sheet.specs.Tasks.{task_of}
use Rattle.sheet.specs.Sheet.{question_to}
use Rattle.distance.specs.declared.Distance.{Distance}
use Rattle.distance.specs.declared.Distance.TheVariants.{Step, None}

-- ---- the steps

-- how many
abbrev pub step_count : ℕ
step_count = 2000

-- step j, counted from 0, goes j / 2 + 1 times 100 Pa away from P
abbrev pub step_size : ℕ → ℕ
step_size j = j / 2 + 1

-- s: up where j is even, down where it is odd; as a word, in two's complement
unfoldable pub step_word : ℕ → ℕ
step_word j = cond (eqb (j % 2) 0) (step_size j) (2 ^ 64 - step_size j)

-- 100 × |s|, which is a float
abbrev pub hundreds : ℕ → Float
hundreds m = of_int binary64 (pos (100 * m))

-- P + 100 × s, one rounded addition
unfoldable pub pressure_at : Float → ℕ → Float
pressure_at P j = P ⊕ cond (eqb (j % 2) 0) (hundreds (step_size j)) (neg (hundreds (step_size j)))

-- ---- the flash of a question that was read, at another pressure

-- the question with that pressure
abbrev pub at_pressure : Question → Float → Question
at_pressure q p = record { task = q.task; temperature = q.temperature; pressure = p; fractions = q.fractions; options = q.options; ratios = q.ratios }

-- its outcome: word 3 of the answer
unfoldable pub outcome_at : List ℕ → ℕ → Question → Float → Out ℕ
outcome_at book n q p = bind (task_of (mixture_of book n) (at_pressure q p)) (λ a. ok a.block.outcome)

-- ---- the search, from the outcome o at P

-- step j after so many refused ones, with outcome x: a refused step is counted, the same outcome passed over, another one is the answer; `on` goes on from the count of
-- refused ones
unfoldable pub tried : ℕ → Out ℕ → ℕ → ℕ → (ℕ → Distance) → Distance
tried o (no r) j refused on = on (suc refused)
tried o (ok o') j refused on = cond (eqb o' o) (on refused) (Step (step_word j) o' refused)

-- over the outcome f of each pressure: from step j on, with `left` steps left, after so many refused ones
module _ (f : Float → Out ℕ) (P : Float) (o : ℕ) where
  unfoldable pub search_from : ℕ → ℕ → ℕ → Distance
  search_from zero j refused = None refused
  search_from (suc left) j refused = tried o (f (pressure_at P j)) j refused (search_from left (suc j))

-- ---- the call

-- 11 and 12 (here task 7 alone), then the question's (36, 13 to 21, 34 of a feed), for a book of that version and n solvents
unfoldable pub flash_question : List ℕ → ℕ → ℕ → List ℕ → Out Question
flash_question book version n question = bind (task_in (rule_of book) question) (λ task. need (eqb task 7) 12 (question_to book version n question))

-- the flash at P, then the search
unfoldable pub searched : List ℕ → ℕ → Question → Out Distance
searched book n q = bind (outcome_at book n q q.pressure) (λ o. ok (search_from (outcome_at book n q) q.pressure o step_count 0 0))

-- a book's questions (1 to 9, 35, 37, 38), the question's, then those
unfoldable pub distance_of : List ℕ → List ℕ → Out Distance
distance_of book question = bind (book_of book) (λ h. bind (flash_question book h.version h.n question) (searched book h.n))

-- ---- for C

-- 0, or the number
unfoldable pub distance_number : Out Distance → ℕ
distance_number (ok d) = 0
distance_number (no r) = r

-- four words: 1, s, outcome, refused; or 0, 0, 0, refused
abbrev pub four_words : Distance → List ℕ
four_words (Step s o refused) = 1 ∷ s ∷ o ∷ refused ∷ []
four_words (None refused) = 0 ∷ 0 ∷ 0 ∷ refused ∷ []

-- at the front of a slice that has room for them
unfoldable pub four_in : List ℕ → List ℕ → List ℕ
four_in ws old = cond (leb 4 (length old)) (ws ++ drop 4 old) old

-- the slice afterwards; as it was with a number
unfoldable pub distance_written : Out Distance → List ℕ → List ℕ
distance_written (ok d) old = four_in (four_words d) old
distance_written (no r) old = old
