-- A distance and the plain calls at its steps: the answer is the first step, in the given order, whose flash is accepted with another outcome than at P, and the count is that of the
-- refused ones before it; none is given exactly where no step of the 2000 is such. Assumes nothing.
use Rattle.std.specs.Prelude.{ℕ, suc, ◌<◌, ◌≡◌, ◌≢◌, ◌⊎◌, Bool, true, false, not, cond, List, T, eqb, Float}
use Rattle.floats.specs.Small.{float, bits_of}
use Rattle.floats.specs.Fold.{fold_to}
use Rattle.floats.specs.Outcome.{Out, ok, no, bind}
use Rattle.blocks.specs.declared.Rule.{Rule}
use Rattle.blocks.specs.Words.{word, sum_by}
use Rattle.blocks.specs.Bytes.{bytes, put}
use Rattle.book.specs.declared.Head.{Head}
use Rattle.book.specs.Book.{book_of, rule_of}
use Rattle.replies.specs.Blocks.{answer_room}
use Rattle.sheet.specs.Sheet.{sheet_of}
use Rattle.distance.specs.declared.Distance.TheVariants.{Step, None}
use Rattle.distance.specs.Distance.{step_count, step_word, pressure_at, distance_of}

-- the question with the pressure p in word 3, its check right
unfoldable pub with_pressure : Rule → Float → List ℕ → List ℕ
with_pressure rule p q = let r = put q 24 (bytes (bits_of p)) in put r 504 (bytes (sum_by rule (word r)))

-- the outcome of the plain call: word 3 of its answer
unfoldable pub plain_outcome : List ℕ → List ℕ → Out ℕ
plain_outcome book question = bind (sheet_of book question answer_room) (λ bs. ok (word bs 3))

-- of the plain call at step j
unfoldable pub step_outcome : List ℕ → List ℕ → ℕ → Out ℕ
step_outcome book question j = plain_outcome book (with_pressure (rule_of book) (pressure_at (float (word question) 3) j) question)

-- accepted with another outcome than o
unfoldable pub changes : ℕ → Out ℕ → Bool
changes o (ok o') = not (eqb o' o)
changes o (no r) = false

unfoldable pub is_refused : Out ℕ → Bool
is_refused (ok o') = false
is_refused (no r) = true

-- how many of the first k steps are refused
unfoldable pub refused_to : (ℕ → Out ℕ) → ℕ → ℕ
refused_to f k = fold_to (λ j (c : ℕ). cond (is_refused (f j)) (suc c) c) 0 k

-- step j is the first of them, with the outcome o'
pub record First (f : ℕ → Out ℕ) (o j o' : ℕ) : Type 0 where
  pub below : j < step_count
  pub here : f j ≡ ok o'
  pub other : eqb o' o ≡ false
  pub before : (i : ℕ) → i < j → changes o (f i) ≡ false

-- no step of the 2000 is such
abbrev pub NoStep : (ℕ → Out ℕ) → ℕ → Type 0
NoStep f o = (j : ℕ) → j < step_count → changes o (f j) ≡ false

-- both directions, for a flash with outcome o at P
pub record Distances (book question : List ℕ) (o : ℕ) : Type 0 where
  pub step : (s o' k : ℕ) → distance_of book question ≡ ok (Step s o' k)
      → (j : ℕ) × First (step_outcome book question) o j o' × (s ≡ step_word j) × (k ≡ refused_to (step_outcome book question) j)
  pub first : (j o' : ℕ) → First (step_outcome book question) o j o' → distance_of book question ≡ ok (Step (step_word j) o' (refused_to (step_outcome book question) j))
  pub none : (k : ℕ) → distance_of book question ≡ ok (None k) → NoStep (step_outcome book question) o × (k ≡ refused_to (step_outcome book question) step_count)
  pub no_step : NoStep (step_outcome book question) o → distance_of book question ≡ ok (None (refused_to (step_outcome book question) step_count))

abbrev pub FirstStep : Type 0
FirstStep = (book question : List ℕ) (o : ℕ) → word question 1 ≡ 7 → plain_outcome book question ≡ ok o → Distances book question o

-- a flash that is refused at P gives its number, and no other does
pub record RefusedAlike (book question : List ℕ) (r : ℕ) : Type 0 where
  pub gives : plain_outcome book question ≡ no r → distance_of book question ≡ no r
  pub only : distance_of book question ≡ no r → plain_outcome book question ≡ no r

abbrev pub RefusedAtP : Type 0
RefusedAtP = (book question : List ℕ) (r : ℕ) → word question 1 ≡ 7 → RefusedAlike book question r

-- a question of another task is refused by 11, or else by 12
abbrev pub OtherTask : Type 0
OtherTask =
    (book question : List ℕ) (h : Head) → book_of book ≡ ok h → word question 1 ≢ 7
    → (distance_of book question ≡ no 11) ⊎ (distance_of book question ≡ no 12)
