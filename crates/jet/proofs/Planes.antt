-- What stands where in a table of planes: place e of plane k, after one pair, a row, all rows; a Jet and its first two of a table. Assumes nothing.
use Prim.Native.Nat.{ℕ, zero, suc, ◌+◌, ◌*◌, ◌<◌, ◌≤◌}
use mathlib.Core.Path.{◌≡◌, refl, sym, ◌∙◌, ap}
use mathlib.Core.Logic.{⊎_elim}
use mathlib.Core.List.{List}
use native.Mathlib.Nat.{eq-or-lt_of_le}
use native.Mathlib.Omega.{arith}
use lib.ListN.{length, set, length-set}
use lib.Seq.{get_or-set_same, get_or-set_other, set_comm}
use lib.Ieee.{Float, nan}
use Rattle.floats.specs.Fold.{fold_to}
use Rattle.floats.specs.Vector.{at}
use Rattle.floats.proofs.Folds.{fold_turn, fold_cong}
use Rattle.floats.proofs.Squares.{fold_past, square-turn}
use Rattle.jet.specs.declared.Jet.{Jet}
use Rattle.jet.specs.Jets.{two_j}
use Rattle.jet.specs.Planes.{spread, plane_row, plane_rows, plane_pairs, jet_at, jets, twos, first_two}
use Rattle.jet.proofs.Near.{◌≃◌, two-near}

-- ---- one pair
spread_length : (f : ℕ → Float) (e m : ℕ) (l : List Float) → length (spread f e m l) ≡ length l
unfolding fold_to
spread_length f e zero l = refl
spread_length f e (suc m) l = length-set (spread f e m l) (m * 64 + e) (f m) ∙ spread_length f e m l

spread_at : (f : ℕ → Float) (e m : ℕ) (l : List Float) (k : ℕ) → e < 64 → m * 64 ≤ length l → k < m → at (spread f e m l) (k * 64 + e) ≡ f k
unfolding fold_to
spread_at f e zero l k h s q = absurd (omega arith)
spread_at f e (suc m) l k h s q =
    ⊎_elim
    (λ (p : k ≡ m). rw p (get_or-set_same (spread f e m l) (m * 64 + e) (f m) nan (omega (arith, spread_length f e m l))))
    (λ (p : k < m). get_or-set_other (spread f e m l) (m * 64 + e) (k * 64 + e) (f m) nan (omega arith) ∙ spread_at f e m l k h (omega arith) p)
    (eq-or-lt_of_le (omega arith))

spread-other : (f : ℕ → Float) (e o m : ℕ) (l : List Float) (k : ℕ) → e < 64 → o < 64 → (e ≡ o → ⊥) → at (spread f e m l) (k * 64 + o) ≡ at l (k * 64 + o)
unfolding fold_to
spread-other f e o zero l k h q n = refl
spread-other f e o (suc m) l k h q n =
    get_or-set_other (spread f e m l) (m * 64 + e) (k * 64 + o) (f m) nan (λ p. n (omega arith)) ∙ spread-other f e o m l k h q n

-- ---- row i
row_length : (f : ℕ → ℕ → Float) (m i n : ℕ) (l : List Float) → length (plane_row f m i n l) ≡ length l
unfolding fold_to
row_length f m i zero l = refl
row_length f m i (suc n) l = spread_length (f n) (i * 8 + n) m (plane_row f m i n l) ∙ row_length f m i n l

row_at : (f : ℕ → ℕ → Float) (m i n : ℕ) (l : List Float) (k j : ℕ) → length l ≡ 512 → m ≤ 8 → i < 8 → n ≤ 8 → k < m → j < n
    → at (plane_row f m i n l) (k * 64 + (i * 8 + j)) ≡ f j k
unfolding fold_to
row_at f m i zero l k j s m8 i8 n8 km q = absurd (omega arith)
row_at f m i (suc n) l k j s m8 i8 n8 km q =
    ⊎_elim
    (λ (p : j ≡ n). rw p (spread_at (f n) (i * 8 + n) m (plane_row f m i n l) k (omega arith) (omega (arith, row_length f m i n l)) km))
    (λ (p : j < n). spread-other (f n) (i * 8 + n) (i * 8 + j) m (plane_row f m i n l) k (omega arith) (omega arith) (λ e. omega arith)
    ∙ row_at f m i n l k j s m8 i8 (omega arith) km p)
    (eq-or-lt_of_le (omega arith))

row_other : (f : ℕ → ℕ → Float) (m i n : ℕ) (l : List Float) (k o : ℕ) → i < 8 → n ≤ 8 → o < i * 8 → at (plane_row f m i n l) (k * 64 + o) ≡ at l (k * 64 + o)
unfolding fold_to
row_other f m i zero l k o i8 n8 q = refl
row_other f m i (suc n) l k o i8 n8 q =
    spread-other (f n) (i * 8 + n) o m (plane_row f m i n l) k (omega arith) (omega arith) (λ e. omega arith) ∙ row_other f m i n l k o i8 (omega arith) q

-- ---- all rows
rows_length : (f : ℕ → ℕ → ℕ → Float) (m n r : ℕ) (l : List Float) → length (plane_rows f m n r l) ≡ length l
unfolding fold_to
rows_length f m n zero l = refl
rows_length f m n (suc r) l = row_length (f r) m r n (plane_rows f m n r l) ∙ rows_length f m n r l

pub rows_at : (f : ℕ → ℕ → ℕ → Float) (m n r : ℕ) (l : List Float) (k i j : ℕ) → length l ≡ 512 → m ≤ 8 → n ≤ 8 → r ≤ 8 → k < m → i < r → j < n
    → at (plane_rows f m n r l) (k * 64 + (i * 8 + j)) ≡ f i j k
unfolding fold_to
rows_at f m n zero l k i j s m8 n8 r8 km ir jn = absurd (omega arith)
rows_at f m n (suc r) l k i j s m8 n8 r8 km ir jn =
    ⊎_elim
    (λ (p : i ≡ r). rw p (row_at (f r) m r n (plane_rows f m n r l) k j (rows_length f m n r l ∙ s) m8 (omega arith) n8 km jn))
    (λ (p : i < r). row_other (f r) m r n (plane_rows f m n r l) k (i * 8 + j) (omega arith) n8 (omega arith)
    ∙ rows_at f m n r l k i j s m8 n8 (omega arith) km p jn)
    (eq-or-lt_of_le (omega arith))

-- ---- a square of pairs
spread_comm : (f g : ℕ → Float) (e o m p : ℕ) (l : List Float) → e < 64 → o < 64 → (e ≡ o → ⊥) → spread f e m (spread g o p l) ≡ spread g o p (spread f e m l)
spread_comm f g e o m p l e64 o64 n =
    fold_past (λ t. spread f e m t) (λ k (t : List Float). set t (k * 64 + o) (g k)) l p
    (λ k t _. sym (fold_past (λ u. set u (k * 64 + o) (g k)) (λ i (u : List Float). set u (i * 64 + e) (f i)) t m
    (λ i u _. set_comm u (i * 64 + e) (k * 64 + o) (f i) (g k) (λ q. n (omega arith)))))

-- the square of k + 1: pairs (k, j) and (j, k) for j below k, then (k, k)
pub square-next : (f : ℕ → ℕ → ℕ → Float) (m k : ℕ) (old : List Float) {l₀ l₁ l₂ : List Float} → k < 8 → l₀ ≡ plane_rows f m k k old
    → l₁ ≡ plane_pairs f m k k l₀ → l₂ ≡ spread (f k k) (k * 8 + k) m l₁
    → l₂ ≡ plane_rows f m (k + 1) (k + 1) old
square-next f m k old {l₀} k8 p q r =
    let e : suc k ≡ k + 1 = omega arith in
    rw (r, q, p)
    (square-turn (λ i j (l : List Float). spread (f i j) (i * 8 + j) m l)
    (λ i j a b s i8 j8 a8 b8 n. spread_comm (f i j) (f a b) (i * 8 + j) (a * 8 + b) m m s (omega arith) (omega arith) n) k old k8
    ∙ ap (λ n. plane_rows f m n n old) e)

-- ---- other cells that are the same
pub spread_cong : {f g : ℕ → Float} (e m : ℕ) (l : List Float) → ((k : ℕ) → k < m → f k ≡ g k) → spread f e m l ≡ spread g e m l
spread_cong e m l h = fold_cong l m (λ k a q. ap (set a (k * 64 + e)) (h k q))

pub rows_cong : {f g : ℕ → ℕ → ℕ → Float} (m n r : ℕ) (l : List Float) → ((i j k : ℕ) → f i j k ≡ g i j k) → plane_rows f m n r l ≡ plane_rows g m n r l
rows_cong m n r l h = fold_cong l r (λ i a _. fold_cong a n (λ j b _. spread_cong (i * 8 + j) m b (λ k _. h i j k)))

-- the same below n
pub rows_same : {f g : ℕ → ℕ → ℕ → Float} (m n r : ℕ) (l : List Float) → ((i j k : ℕ) → i < r → j < n → f i j k ≡ g i j k) → plane_rows f m n r l ≡ plane_rows g m n r l
rows_same m n r l h = fold_cong l r (λ i a p. fold_cong a n (λ j b q. spread_cong (i * 8 + j) m b (λ k _. h i j k p q)))

pub pairs_turn : (f : ℕ → ℕ → ℕ → Float) (m i j : ℕ) (old : List Float) {l l' : List Float} → l' ≡ spread (f j i) (j * 8 + i) m (spread (f i j) (i * 8 + j) m l)
    → l ≡ plane_pairs f m i j old → l' ≡ plane_pairs f m i (j + 1) old
pairs_turn f m i j old p q = fold_turn (λ j (l : List Float). spread (f j i) (j * 8 + i) m (spread (f i j) (i * 8 + j) m l)) old j p q

-- ---- Jets of a table
pub jet_is : (j : Jet) {a b c : Float} → a ≡ j.v → b ≡ j.d → c ≡ j.dd → ◌≡◌ {A = Jet} (record { v = a; d = b; dd = c }) j
jet_is j p q r = rw (p, q, r)

pub two_is : {a b c d : Float} → a ≡ c → b ≡ d → two_j a b ≡ two_j c d
two_is p q = rw (p, q)

pub first-near : {a b : Jet} → a ≡ b → first_two a ≃ b
first-near e = two-near (ap (λ (j : Jet). j.v) e) (ap (λ (j : Jet). j.d) e)

-- the first two planes of a Jet give its value and slope
pub twos-near : (m : List Float) (b i j : ℕ) {a : Jet} → jets m b i j ≡ a → twos m b i j ≃ a
unfolding jet_at
twos-near m b i j e = first-near e
