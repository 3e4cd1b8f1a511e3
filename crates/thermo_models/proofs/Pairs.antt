-- The pairs that `validity` visits: the interval read is the pair's own; a turn of the loop over j from i + 1 on; the same loop over all j. Assumes nothing.
use Prim.Native.Nat.{ℕ, zero, suc, ◌+◌, ◌-◌, ◌≤◌, ◌<◌}
use mathlib.Core.Path.{◌≡◌, refl, ap, ◌∙◌}
use mathlib.Core.Bool.{Bool, true, false, not, cond, ◌&&◌}
use mathlib.Core.List.{List}
use native.Mathlib.Omega.{arith}
use borrow.Author.Tests.{ltb-true, ltb-false}
use lib.Dec.{ltb}
use lib.Ieee.{Float, le}
use Rattle.floats.specs.Arithmetic.{0f}
use Rattle.floats.specs.Fold.{fold_to}
use Rattle.floats.specs.Vector.{at}
use Rattle.floats.proofs.Folds.{fold_turn}
use Rattle.std.specs.Prelude.{Option}
use Rattle.records.specs.declared.Interval.{Interval}
use Rattle.thermo_models.specs.declared.Seen.{Seen}
use Rattle.thermo_models.specs.Validity.{unseen, interval_of, noted, visited, row_seen}

-- nothing seen
pub none_seen : {a m e i : Bool} → a ≡ false → m ≡ false → e ≡ false → i ≡ false → ◌≡◌ {A = Seen} (record { active = a; missing = m; extrapolated = e; inferred = i }) unseen
unfolding unseen
none_seen p q r s = rw (p, q, r, s)

pub visited_yes : (book : List ℕ) (n : ℕ) (t : Float) (x : List Float) (i j : ℕ) (s : Seen) {r : Option Interval} {q : Seen}
    → (not (le (at x i) 0f) && not (le (at x j) 0f)) ≡ true → r ≡ interval_of book n i j → q ≡ noted r t s → q ≡ visited book n t x i j s
unfolding visited
visited_yes book n t x i j s e p h = rw e (h ∙ rw p)

-- ---- the row i up to j
module _ (book : List ℕ) (n : ℕ) (t : Float) (x : List Float) (i : ℕ) (s₀ : Seen) where
  pub row-start : s₀ ≡ row_seen book n t x i (i + 1) s₀
  unfolding row_seen fold_to
  row-start = let z : i + 1 - (i + 1) ≡ 0 = omega arith in rw z

  pub row-turn : (j : ℕ) {r s : Seen} → i + 1 ≤ j → r ≡ visited book n t x i j s → s ≡ row_seen book n t x i j s₀ → r ≡ row_seen book n t x i (j + 1) s₀
  unfolding row_seen
  row-turn j {r} {s} l p h =
      let a : j + 1 - (i + 1) ≡ j - (i + 1) + 1 = omega arith in
      let b : i + 1 + (j - (i + 1)) ≡ j = omega arith in
      rw a (fold_turn (λ k. visited book n t x i (i + 1 + k)) s₀ (j - (i + 1)) (rw b p) h)

  pub row_done : (j : ℕ) {s : Seen} → j ≡ n → s ≡ row_seen book n t x i j s₀ → s ≡ row_seen book n t x i n s₀
  row_done j e h = h ∙ ap (λ (m : ℕ). row_seen book n t x i m s₀) e

  -- as a loop over all solvents below m
  pub row_all : (m : ℕ) → row_seen book n t x i m s₀ ≡ fold_to (λ j (s : Seen). cond (ltb i j) (visited book n t x i j s) s) s₀ m
  unfolding row_seen fold_to
  row_all zero = let z : 0 - (i + 1) ≡ 0 = omega arith in rw z
  row_all (suc m) = pick (ltb i m) refl (row_all m)
    where
      pick : (b : Bool) → ltb i m ≡ b → {s : Seen} → fold_to (λ k. visited book n t x i (i + 1 + k)) s₀ (m - (i + 1)) ≡ s
          → fold_to (λ k. visited book n t x i (i + 1 + k)) s₀ (suc m - (i + 1)) ≡ cond (ltb i m) (visited book n t x i m s) s
      pick true e h =
          let l : i < m = ltb-true i m e in
          let a : suc m - (i + 1) ≡ suc (m - (i + 1)) = omega arith in
          let b : i + 1 + (m - (i + 1)) ≡ m = omega arith in
          rw (e, a, ← h, b)
      pick false e h =
          let l : m ≤ i = ltb-false i m e in
          let a : suc m - (i + 1) ≡ m - (i + 1) = omega arith in
          rw (e, a) h
