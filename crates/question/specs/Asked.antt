-- The question's words and questions 11 to 21 and 36, in the order of docs/FORMAT.md: block and task, the feed, the rest put to that feed. w k is word k. Assumes nothing.
use Rattle.std.specs.Prelude.{ℕ, ◌+◌, Bool, not, ◌&&◌, ◌||◌, List, eqb, leb, length, Float}
use Rattle.std.specs.Float.Ieee.{lt, le}
use Rattle.floats.specs.Arithmetic.{◌⊘◌, #, 0f}
use Rattle.floats.specs.Small.{is_finite, positive, float}
use Rattle.floats.specs.Vector.{at, vec}
use Rattle.floats.specs.Outcome.{Out, ok, bind, need, choose}
use Rattle.thermo_types.specs.Quantities.{lowest_kelvin, highest_kelvin}
use Rattle.thermo_types.specs.Composition.{all_finite, none_negative, all_positive, sums_to_one, normalize_of}
use Rattle.thermo_types.specs.declared.ActivityOptions.{ActivityOptions}
use Rattle.blocks.specs.Words.{word, check_right}
use Rattle.blocks.specs.declared.Rule.{Rule}
use Rattle.book.specs.Book.{has_masses}
use Rattle.question.specs.Inputs.{is_task, needs_temperature, needs_pressure, needs_options, needs_ratios, if_needed}
use Rattle.question.specs.declared.Question.{Question}

-- ---- block and task (11, 12): the task
unfoldable pub task_in : Rule → List ℕ → Out ℕ
task_in rule q =
    need (eqb (length q) 512) 11
    (need (check_right rule (word q)) 11
    (need (eqb (word q 0) 8) 11
    (need (is_task (word q 1)) 12
    (ok (word q 1)))))

-- ---- the feed's kind: word 27 is 0 for mole fractions, 1 for mass fractions
abbrev pub by_mass : (ℕ → ℕ) → Bool
by_mass w = eqb (w 27) 1

-- mass only where the book's version has molar masses (36)
unfoldable pub kind_right : ℕ → (ℕ → ℕ) → Bool
kind_right version w = eqb (w 27) 0 || (by_mass w && has_masses version)

-- ---- the feed: fraction i is word 4 + i; the first n, +0 past them
abbrev pub fraction : (ℕ → ℕ) → ℕ → Float
fraction w i = float w (4 + i)

abbrev pub feed_of : List ℕ → ℕ → List Float
feed_of q n = vec (fraction (word q)) n

-- K value i is word 19 + i; the first n, +0 past them
abbrev pub ratio : (ℕ → ℕ) → ℕ → Float
ratio w i = float w (19 + i)

abbrev pub ratios_of : List ℕ → ℕ → List Float
ratios_of q n = vec (ratio (word q)) n

-- ---- 13 to 18, put to a feed x and K values k
abbrev pub temperature_right : (ℕ → ℕ) → Bool
temperature_right w = if_needed (needs_temperature (w 1)) (positive (float w 2))

abbrev pub pressure_right : (ℕ → ℕ) → Bool
pressure_right w = if_needed (needs_pressure (w 1)) (positive (float w 3))

abbrev pub inputs_finite : (ℕ → ℕ) → ℕ → List Float → List Float → Bool
inputs_finite w n x k = all_finite (at x) n && if_needed (needs_ratios (w 1)) (all_finite (at k) n)

abbrev pub ratios_positive : (ℕ → ℕ) → ℕ → List Float → Bool
ratios_positive w n k = if_needed (needs_ratios (w 1)) (all_positive (at k) n)

unfoldable pub inputs_right : {A : Type 0} → (ℕ → ℕ) → ℕ → List Float → List Float → Out A → Out A
inputs_right w n x k next =
    need (temperature_right w) 13
    (need (pressure_right w) 14
    (need (inputs_finite w n x k) 15
    (need (none_negative (at x) n) 16
    (need (ratios_positive w n k) 17
    (need (sums_to_one (at x) n) 18
    next)))))

-- ---- 19 to 21
-- a tolerance: finite, in (0, 1e-6]
abbrev pub largest_tolerance : Float
largest_tolerance = # 0x3eb0c6f7a0b5ed8d

unfoldable pub tolerance_right : Float → Bool
tolerance_right v = is_finite v && lt 0f v && le v largest_tolerance

-- `validate`: both tolerances, a finite negative threshold, an ordered bracket within 273.16 to 450 K
unfoldable pub options_right : (ℕ → ℕ) → Bool
options_right w =
    tolerance_right (float w 13) && tolerance_right (float w 15) && (is_finite (float w 16) && lt (float w 16) 0f)
    && (le lowest_kelvin (float w 17) && le (float w 18) highest_kelvin && lt (float w 17) (float w 18))

-- a limit: at most 1,000,000
abbrev pub limited : ℕ → Bool
limited m = leb m 1000000

abbrev pub limits_some : (ℕ → ℕ) → Bool
limits_some w = if_needed (needs_options (w 1)) (not (eqb (w 12) 0) && not (eqb (w 14) 0))

abbrev pub limits_few : (ℕ → ℕ) → Bool
limits_few w = if_needed (needs_options (w 1)) (limited (w 12) && limited (w 14)) && if_needed (needs_ratios (w 1)) (limited (w 12))

unfoldable pub limits_right : {A : Type 0} → (ℕ → ℕ) → Out A → Out A
limits_right w next = need (if_needed (needs_options (w 1)) (options_right w)) 19 (need (limits_some w) 20 (need (limits_few w) 21 next))

-- ---- mole fractions of a feed x: of mass fractions each over its molar mass m i, then `normalize` (34)
unfoldable pub moles_of : (ℕ → ℕ) → (ℕ → Float) → ℕ → List Float → Out (List Float)
moles_of w m n x = choose (by_mass w) (normalize_of (λ i. at x i ⊘ m i) n) (ok x)

-- ---- what the solvers read
unfoldable pub options_in : (ℕ → ℕ) → ActivityOptions
options_in w = record {
  max_iterations = w 12;
  tolerance = float w 13;
  max_temperature_iterations = w 14;
  tm_threshold = float w 16;
  minimum_temperature_k = float w 17;
  maximum_temperature_k = float w 18;
}

unfoldable pub question_from : (ℕ → ℕ) → List Float → List Float → Question
question_from w x k = record { task = w 1; temperature = float w 2; pressure = float w 3; fractions = x; options = options_in w; ratios = k }

-- the rest, put to a feed x
unfoldable pub rest_of : List ℕ → (ℕ → Float) → ℕ → List Float → Out Question
rest_of q m n x =
    inputs_right (word q) n x (ratios_of q n) (bind (moles_of (word q) m n x) (λ z.
    limits_right (word q) (ok (question_from (word q) z (ratios_of q n)))))

-- ---- questions 11 to 21 to the bytes of a question, for a book of that version and n solvents with the molar masses m
unfoldable pub question_of : Rule → List ℕ → ℕ → (ℕ → Float) → ℕ → Out Question
question_of rule q version m n = bind (task_in rule q) (λ task. need (kind_right version (word q)) 36 (rest_of q m n (feed_of q n)))
