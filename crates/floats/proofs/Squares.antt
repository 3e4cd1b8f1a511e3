-- A square of cells filled pair by pair, (k, j) with (j, k), is the square filled row by row, where cells commute. Assumes nothing.
use Prim.Native.Nat.{ℕ, zero, suc, ◌+◌, ◌*◌, ◌<◌, ◌≤◌}
use mathlib.Core.Path.{◌≡◌, refl, sym, ◌∙◌, ap}
use native.Mathlib.Omega.{arith}
use Rattle.floats.specs.Fold.{fold_to}

-- what commutes with each step commutes with the loop
pub fold_past : {S : Type 0} (F : S → S) (step : ℕ → S → S) (s : S) (n : ℕ) → ((i : ℕ) (s : S) → i < n → F (step i s) ≡ step i (F s))
    → F (fold_to step s n) ≡ fold_to step (F s) n
unfolding fold_to
fold_past F step s zero h = refl
fold_past F step s (suc n) h = h n (fold_to step s n) (omega arith) ∙ ap (step n) (fold_past F step s n (λ i t l. h i t (omega arith)))

module _ {S : Type 0} (c : ℕ → ℕ → S → S)
    (comm : (i j a b : ℕ) (s : S) → i < 8 → j < 8 → a < 8 → b < 8 → (i * 8 + j ≡ a * 8 + b → ⊥) → c i j (c a b s) ≡ c a b (c i j s)) where
  abbrev row : ℕ → ℕ → S → S
  row i n s = fold_to (λ j (s : S). c i j s) s n

  abbrev column : ℕ → ℕ → S → S
  column j m s = fold_to (λ i (s : S). c i j s) s m

  abbrev rows : ℕ → ℕ → S → S
  rows n m s = fold_to (λ i (s : S). row i n s) s m

  row-past-column : (n m : ℕ) (s : S) → n < 8 → m < 8 → row m n (column n m s) ≡ column n m (row m n s)
  row-past-column n m s n8 m8 =
      fold_past (λ t. row m n t) (λ i (t : S). c i n t) s m
      (λ i t l. sym (fold_past (c i n) (λ j (u : S). c m j u) t n (λ j u q. comm i n m j u (omega arith) n8 m8 (omega arith) (λ e. omega arith))))

  -- a column more
  wider : (n m : ℕ) (s : S) → n < 8 → m ≤ 8 → rows (suc n) m s ≡ column n m (rows n m s)
  unfolding fold_to
  wider n zero s n8 m8 = refl
  wider n (suc m) s n8 m8 =
      ap (λ t. c m n (row m n t)) (wider n m s n8 (omega arith)) ∙ ap (c m n) (row-past-column n m (rows n m s) n8 (omega arith))

  by-pairs : (k m : ℕ) (s : S) → k < 8 → m ≤ k → fold_to (λ j (t : S). c j k (c k j t)) s m ≡ row k m (column k m s)
  unfolding fold_to
  by-pairs k zero s k8 h = refl
  by-pairs k (suc m) s k8 h =
      ap (λ t. c m k (c k m t)) (by-pairs k m s k8 (omega arith))
      ∙ fold_past (c m k) (λ j (t : S). c k j t) (column k m s) (suc m) (λ j t l. comm m k k j t (omega arith) k8 k8 (omega arith) (λ e. omega arith))

  -- the square of k + 1 from that of k
  pub square-turn : (k : ℕ) (s : S) → k < 8 → c k k (fold_to (λ j (t : S). c j k (c k j t)) (rows k k s) k) ≡ rows (suc k) (suc k) s
  unfolding fold_to
  square-turn k s k8 = ap (c k k) (by-pairs k k (rows k k s) k8 (omega arith)) ∙ ap (λ t. c k k (row k k t)) (sym (wider k k s k8 (omega arith)))
