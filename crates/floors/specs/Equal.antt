-- When two answers look equal on the floor: exactly when they agree in words 1 to 5 and, outside task 1, in 11 and 14 to 29. Assumes nothing.
use Rattle.std.specs.Prelude.{ℕ, ◌≤◌, ◌≡◌, ◌≢◌, List}
use Rattle.floats.specs.Outcome.{ok}
use Rattle.blocks.specs.Words.{word}
use Rattle.readers.specs.Readers.{floor_of}

pub record Agree (s s' : List ℕ) : Type 0 where
  pub front : (k : ℕ) → 1 ≤ k → k ≤ 5 → word s k ≡ word s' k
  pub fraction : word s 1 ≢ 1 → word s 11 ≡ word s' 11
  pub phases : word s 1 ≢ 1 → (k : ℕ) → 14 ≤ k → k ≤ 29 → word s k ≡ word s' k

-- of two slices that are read, however their trials and counts differ
abbrev pub LooksEqual : Type 0
LooksEqual = (s s' ws ws' : List ℕ) → floor_of s ≡ ok ws → floor_of s' ≡ ok ws' → (ws ≡ ws' → Agree s s') × (Agree s s' → ws ≡ ws')
