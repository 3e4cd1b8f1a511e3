-- Which words of two answer slices are equal (docs/FORMAT.md, "The shorter sheet"): s of the longer call, s' of the shorter. Block 0 is the answer, blocks 1 and on are the
-- trials, as many as word 12 of the answer says. Assumes nothing.
use Rattle.std.specs.Prelude.{ℕ, ◌+◌, ◌≤◌, ◌<◌, ◌≡◌, Bool, List, T}
use Rattle.book.specs.Places.{words}
use Rattle.striking.specs.Places.{cnt}
use Rattle.striking.specs.Words.{SameWord}

-- eight entries from word f on: each kept solvent's equals the one at its new place
pub record SameEntries (keep : ℕ → Bool) (n f : ℕ) (w w' : ℕ → ℕ) : Type 0 where
  pub entry : (i : ℕ) → i < n → T (keep i) → SameWord (w (f + i)) (w' (f + cnt keep i))

-- the answer block: words 0 to 13 and 30 to 62, liquid and vapor
pub record SameHead (keep : ℕ → Bool) (n : ℕ) (w w' : ℕ → ℕ) : Type 0 where
  pub front : (k : ℕ) → k ≤ 13 → SameWord (w k) (w' k)
  pub liquid : SameEntries keep n 14 w w'
  pub vapor : SameEntries keep n 22 w w'
  pub back : (k : ℕ) → 30 ≤ k → k ≤ 62 → SameWord (w k) (w' k)

-- a trial block: words 0, 2 to 4 and 13 to 62, fractions, and a kept component, given by its new place
pub record SameTrialBlock (keep : ℕ → Bool) (n : ℕ) (w w' : ℕ → ℕ) : Type 0 where
  pub kind : SameWord (w 0) (w' 0)
  pub below : w 1 < n
  pub kept : T (keep (w 1))
  pub component : cnt keep (w 1) ≡ w' 1
  pub front : (k : ℕ) → 2 ≤ k → k ≤ 4 → SameWord (w k) (w' k)
  pub fractions : SameEntries keep n 5 w w'
  pub back : (k : ℕ) → 13 ≤ k → k ≤ 62 → SameWord (w k) (w' k)

pub record SameSheet (keep : ℕ → Bool) (n : ℕ) (s s' : List ℕ) : Type 0 where
  pub answer : SameHead keep n (words s 0) (words s' 0)
  pub count : words s 0 12 ≡ words s' 0 12
  pub trials : (b : ℕ) → 1 ≤ b → b ≤ words s 0 12 → SameTrialBlock keep n (words s b) (words s' b)
