-- Laws of arrays filled in index order: one turn of a loop, its end, what stands where. Assumes nothing.
use Prim.Native.Nat.{ℕ, zero, suc, ◌+◌, ◌*◌, ◌≤◌, ◌<◌}
use mathlib.Core.Path.{◌≡◌, refl, ◌∙◌, ap}
use mathlib.Core.Logic.{⊎_elim}
use native.Mathlib.Nat.{eq-or-lt_of_le}
use native.Mathlib.Numerals.{add-one}
use native.Mathlib.Omega.{arith}
use mathlib.Core.List.{List}
use lib.ListN.{set, length, get_or, length-set}
use lib.Seq.{get_or-set_same, get_or-set_other}
use lib.Ieee.{Float, nan}
use Rattle.floats.specs.Vector.{at, fill, fill_from, fill_rows, zeros8, vec}

module _ {A : Type 0} where
  pub fill_from-turn : (f : ℕ → A) (base k : ℕ) (m₀ : List A) {m : List A} {v : A} → v ≡ f k → m ≡ fill_from f base k m₀ → set m (base + k) v ≡ fill_from f base (k + 1) m₀
  unfolding fill_from
  fill_from-turn f base k m₀ p q = rw (add-one, p, q)

  pub fill_rows-next : (f : ℕ → ℕ → A) (n k : ℕ) (m₀ : List A) {m m' : List A} → m ≡ fill_rows f n k m₀ → m' ≡ fill_from (f k) (k * 8) n m → m' ≡ fill_rows f n (k + 1) m₀
  unfolding fill_rows
  fill_rows-next f n k m₀ p q = rw (add-one, q, p)

  pub fill_from_done : (f : ℕ → A) (base k n : ℕ) (m₀ : List A) {m : List A} → k ≡ n → m ≡ fill_from f base k m₀ → m ≡ fill_from f base n m₀
  fill_from_done f base k n m₀ e p = p ∙ ap (λ i. fill_from f base i m₀) e

  pub fill_rows_done : (f : ℕ → ℕ → A) (n k : ℕ) (m₀ : List A) {m : List A} → k ≡ n → m ≡ fill_rows f n k m₀ → m ≡ fill_rows f n n m₀
  fill_rows_done f n k m₀ e p = p ∙ ap (λ i. fill_rows f n i m₀) e

  pub fill-turn : (f : ℕ → A) (k : ℕ) (m₀ : List A) {m : List A} {v : A} → v ≡ f k → m ≡ fill f k m₀ → set m k v ≡ fill f (k + 1) m₀
  unfolding fill
  fill-turn f k m₀ p q = rw (add-one, p, q)

  pub fill_done : (f : ℕ → A) (k n : ℕ) (m₀ : List A) {m : List A} → k ≡ n → m ≡ fill f k m₀ → m ≡ fill f n m₀
  fill_done f k n m₀ e p = p ∙ ap (λ i. fill f i m₀) e

  pub fill_length : (f : ℕ → A) (n : ℕ) (m : List A) → length (fill f n m) ≡ length m
  unfolding fill
  fill_length f zero m = refl
  fill_length f (suc n) m = length-set (fill f n m) n (f n) ∙ fill_length f n m

  pub fill-at : (f : ℕ → A) (n : ℕ) (m : List A) (d : A) (k : ℕ) → n ≤ length m → k < n → get_or (fill f n m) k d ≡ f k
  unfolding fill
  fill-at f zero m d k h l = absurd (omega arith)
  fill-at f (suc n) m d k h l =
      ⊎_elim
      (λ (q : k ≡ n). rw q (get_or-set_same (fill f n m) n (f n) d (omega (arith, fill_length f n m))))
      (λ (q : k < n). get_or-set_other (fill f n m) n k (f n) d (omega arith) ∙ fill-at f n m d k (omega arith) q)
      (eq-or-lt_of_le (omega arith))

  pub fill_past : (f : ℕ → A) (n : ℕ) (m : List A) (d : A) (e : ℕ) → n ≤ e → get_or (fill f n m) e d ≡ get_or m e d
  unfolding fill
  fill_past f zero m d e h = refl
  fill_past f (suc n) m d e h = get_or-set_other (fill f n m) n e (f n) d (omega arith) ∙ fill_past f n m d e (omega arith)

  pub fill_from_length : (f : ℕ → A) (b n : ℕ) (m : List A) → length (fill_from f b n m) ≡ length m
  unfolding fill_from
  fill_from_length f b zero m = refl
  fill_from_length f b (suc n) m = length-set (fill_from f b n m) (b + n) (f n) ∙ fill_from_length f b n m

  -- in the row, and outside it
  pub fill_from-at : (f : ℕ → A) (b n : ℕ) (m : List A) (d : A) (k : ℕ) → b + n ≤ length m → k < n → get_or (fill_from f b n m) (b + k) d ≡ f k
  unfolding fill_from
  fill_from-at f b zero m d k h l = absurd (omega arith)
  fill_from-at f b (suc n) m d k h l =
      ⊎_elim
      (λ (q : k ≡ n). rw q (get_or-set_same (fill_from f b n m) (b + n) (f n) d (omega (arith, fill_from_length f b n m))))
      (λ (q : k < n). get_or-set_other (fill_from f b n m) (b + n) (b + k) (f n) d (omega arith) ∙ fill_from-at f b n m d k (omega arith) q)
      (eq-or-lt_of_le (omega arith))

  pub fill_from_before : (f : ℕ → A) (b n : ℕ) (m : List A) (d : A) (e : ℕ) → e < b → get_or (fill_from f b n m) e d ≡ get_or m e d
  unfolding fill_from
  fill_from_before f b zero m d e h = refl
  fill_from_before f b (suc n) m d e h = get_or-set_other (fill_from f b n m) (b + n) e (f n) d (omega arith) ∙ fill_from_before f b n m d e h

  pub fill_from_past : (f : ℕ → A) (b n : ℕ) (m : List A) (d : A) (e : ℕ) → b + n ≤ e → get_or (fill_from f b n m) e d ≡ get_or m e d
  unfolding fill_from
  fill_from_past f b zero m d e h = refl
  fill_from_past f b (suc n) m d e h = get_or-set_other (fill_from f b n m) (b + n) e (f n) d (omega arith) ∙ fill_from_past f b n m d e (omega arith)

  pub fill_rows_length : (f : ℕ → ℕ → A) (n r : ℕ) (m : List A) → length (fill_rows f n r m) ≡ length m
  unfolding fill_rows
  fill_rows_length f n zero m = refl
  fill_rows_length f n (suc r) m = fill_from_length (f r) (r * 8) n (fill_rows f n r m) ∙ fill_rows_length f n r m

  pub fill_rows-at : (f : ℕ → ℕ → A) (n r : ℕ) (m : List A) (d : A) (i j : ℕ) → length m ≡ 64 → n ≤ 8 → r ≤ n → i < r → j < n
      → get_or (fill_rows f n r m) (i * 8 + j) d ≡ f i j
  unfolding fill_rows
  fill_rows-at f n zero m d i j h n8 rn ir jn = absurd (omega arith)
  fill_rows-at f n (suc r) m d i j h n8 rn ir jn =
      ⊎_elim
      (λ (q : i ≡ r). rw q (fill_from-at (f r) (r * 8) n (fill_rows f n r m) d j (omega (arith, fill_rows_length f n r m)) jn))
      (λ (q : i < r). fill_from_before (f r) (r * 8) n (fill_rows f n r m) d (i * 8 + j) (omega arith) ∙ fill_rows-at f n r m d i j h n8 (omega arith) q jn)
      (eq-or-lt_of_le (omega arith))

  pub fill_cong : (f h : ℕ → A) (n : ℕ) (m : List A) → ((k : ℕ) → k < n → f k ≡ h k) → fill f n m ≡ fill h n m
  unfolding fill
  fill_cong f h zero m e = refl
  fill_cong f h (suc n) m e =
      let p : fill f n m ≡ fill h n m = fill_cong f h n m (λ k l. e k (omega arith)) in
      let q : f n ≡ h n = e n (omega arith) in
      rw (p, q)

-- entry i of an array of eight
pub vec-at : (f : ℕ → Float) (n i : ℕ) → n ≤ 8 → i < n → at (vec f n) i ≡ f i
vec-at f n i h l = fill-at f n zeros8 nan i h l
