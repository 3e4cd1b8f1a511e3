-- Demand 3: nothing of a solvent that isn't in the drum shows in an answer. Over the definition of the whole call, from bytes to bytes. Assumes nothing.
use Rattle.std.specs.Prelude.{ℕ, ◌+◌, ◌≤◌, ◌<◌, ◌≡◌, Bool, List, length, T, Float}
use Rattle.std.specs.Float.Ieee.{is_nan}
use Rattle.floats.specs.Vector.{at}
use Rattle.floats.specs.Outcome.{Out, ok, no}
use Rattle.blocks.specs.Words.{word}
use Rattle.book.specs.Places.{words}
use Rattle.thermo_models.specs.Model.{Activity}
use Rattle.thermo_models.specs.Mixture.{activity, mixture_of}
use Rattle.replies.specs.Blocks.{answer_room}
use Rattle.sheet.specs.Sheet.{sheet_of, written, Answers}
use Rattle.striking.specs.Places.{cnt}
use Rattle.striking.specs.Words.{SameWord}
use Rattle.striking.specs.Questions.{kept_in, solvents, Shorter}
use Rattle.striking.specs.Sheets.{SameSheet}

-- accepted: an answer and no number
unfoldable pub Accepted : {A : Type 0} → Out A → Type 0
Accepted (ok a) = Unit {0}
Accepted (no r) = ⊥

-- the answer slice after a call
abbrev pub after : List ℕ → List ℕ → List ℕ → List ℕ
after book question old = written (sheet_of book question (length old)) old

-- for every task: where the longer call is accepted, so is the shorter with any answer slice that passes question 10, and the words are equal
abbrev pub Demand3 : Type 0
Demand3 =
    (book question book' question' : List ℕ) → Shorter book question book' question'
    → (old old' : List ℕ) → answer_room ≤ length old' → Accepted (sheet_of book question (length old))
    → Accepted (sheet_of book' question' (length old')) × SameSheet (kept_in question) (solvents book) (after book question old) (after book' question' old')

-- the same of two calls of the entry point, by its contract: it gives 0 and leaves the slice `new`, and then it gives r' and leaves `new'`
abbrev pub Calls : Type 0
Calls =
    (book question book' question' : List ℕ) → Shorter book question book' question'
    → (old new old' new' : List ℕ) (r' : ℕ) → answer_room ≤ length old' → Answers (sheet_of book question (length old)) 0 old new → Answers (sheet_of book' question' (length old')) r' old' new'
    → (r' ≡ 0) × SameSheet (kept_in question) (solvents book) new new'

-- ---- two books that strike down to the same shorter one
-- solvent i of the first and solvent j of the second are the same kept one
pub record Meet (keep : ℕ → Bool) (n : ℕ) (keep' : ℕ → Bool) (n' : ℕ) (i j : ℕ) : Type 0 where
  pub below : i < n
  pub kept : T (keep i)
  pub below' : j < n'
  pub kept' : T (keep' j)
  pub place : cnt keep i ≡ cnt keep' j

-- the words of two answer blocks, and of two trial blocks: equal, with the entries and the component of the solvents kept
pub record EqualAnswer (keep : ℕ → Bool) (n : ℕ) (keep' : ℕ → Bool) (n' : ℕ) (w w' : ℕ → ℕ) : Type 0 where
  pub front : (k : ℕ) → k ≤ 13 → SameWord (w k) (w' k)
  pub liquid : (i j : ℕ) → Meet keep n keep' n' i j → SameWord (w (14 + i)) (w' (14 + j))
  pub vapor : (i j : ℕ) → Meet keep n keep' n' i j → SameWord (w (22 + i)) (w' (22 + j))
  pub back : (k : ℕ) → 30 ≤ k → k ≤ 62 → SameWord (w k) (w' k)

pub record EqualTrial (keep : ℕ → Bool) (n : ℕ) (keep' : ℕ → Bool) (n' : ℕ) (w w' : ℕ → ℕ) : Type 0 where
  pub kind : SameWord (w 0) (w' 0)
  pub component : Meet keep n keep' n' (w 1) (w' 1)
  pub front : (k : ℕ) → 2 ≤ k → k ≤ 4 → SameWord (w k) (w' k)
  pub fractions : (i j : ℕ) → Meet keep n keep' n' i j → SameWord (w (5 + i)) (w' (5 + j))
  pub back : (k : ℕ) → 13 ≤ k → k ≤ 62 → SameWord (w k) (w' k)

pub record EqualSheet (keep : ℕ → Bool) (n : ℕ) (keep' : ℕ → Bool) (n' : ℕ) (s s' : List ℕ) : Type 0 where
  pub answer : EqualAnswer keep n keep' n' (words s 0) (words s' 0)
  pub count : words s 0 12 ≡ words s' 0 12
  pub trials : (b : ℕ) → 1 ≤ b → b ≤ words s 0 12 → EqualTrial keep n keep' n' (words s b) (words s' b)

-- the corollary: two accepted calls that strike down to the same shorter book and question have equal answers for the solvents kept
abbrev pub SameDrum : Type 0
SameDrum =
    (book question book' question' short ask : List ℕ) → Shorter book question short ask → Shorter book' question' short ask
    → (old old' : List ℕ) → Accepted (sheet_of book question (length old)) → Accepted (sheet_of book' question' (length old'))
    → EqualSheet (kept_in question) (solvents book) (kept_in question') (solvents book') (after book question old) (after book' question' old')

-- ---- the scope's premise for bubble and dew temperature (4, 5), for each temperature and composition that `tried` names, with the composition of the shorter call: no slope of a
-- kept solvent's ln γ is a NaN, unless it is one with the shorter book too. `striking` holds without it; `Worded` is the worded form, for any `tried`
pub record NoNewNan (tried : Float → List Float → List Float → Type 0) (book question book' : List ℕ) : Type 0 where
  pub slope : (t : Float) (x x' : List Float) → tried t x x' → (a a' : Activity) → activity (mixture_of book (solvents book)) t x ≡ ok a
      → activity (mixture_of book' (solvents book')) t x' ≡ ok a'
      → (i : ℕ) → i < solvents book → T (kept_in question i) → T (is_nan (at a.slopes i)) → T (is_nan (at a'.slopes (cnt (kept_in question) i)))

abbrev pub Worded : ℕ → Type 1
Worded task =
    (tried : Float → List Float → List Float → Type 0) (book question book' question' : List ℕ) → Shorter book question book' question' → word question 1 ≡ task
    → NoNewNan tried book question book' → (old old' : List ℕ) → answer_room ≤ length old' → Accepted (sheet_of book question (length old))
    → Accepted (sheet_of book' question' (length old')) × SameSheet (kept_in question) (solvents book) (after book question old) (after book' question' old')
