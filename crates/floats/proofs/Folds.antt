-- Laws of folds, sums and tests over an index: one turn of a loop, its end, and equal steps. Assumes nothing.
use Prim.Native.Nat.{ℕ, zero, suc, ◌+◌, ◌<◌, ◌≤◌}
use mathlib.Core.Path.{◌≡◌, refl, sym, ◌∙◌, ap}
use mathlib.Core.Bool.{Bool, true, false, ◌&&◌, true≢false}
use mathlib.Core.Logic.{⊎_elim}
use native.Mathlib.Nat.{eq-or-lt_of_le}
use native.Mathlib.Numerals.{add-one}
use native.Mathlib.Omega.{arith}
use lib.Ieee.{Float}
use Rattle.floats.specs.Arithmetic.{◌⊕◌}
use Rattle.floats.specs.Fold.{fold_to, sum_from, all_to}

-- ---- folds
module _ {S : Type 0} (step : ℕ → S → S) (s₀ : S) where
  pub fold_turn : (k : ℕ) {r s : S} → r ≡ step k s → s ≡ fold_to step s₀ k → r ≡ fold_to step s₀ (k + 1)
  unfolding fold_to
  fold_turn k p h = rw (add-one, p, h)

  pub fold_done : (k n : ℕ) {s : S} → k ≡ n → s ≡ fold_to step s₀ k → s ≡ fold_to step s₀ n
  fold_done k n e h = h ∙ ap (fold_to step s₀) e

pub fold_cong : {S : Type 0} {f g : ℕ → S → S} (s : S) (n : ℕ) → ((k : ℕ) (a : S) → k < n → f k a ≡ g k a) → fold_to f s n ≡ fold_to g s n
unfolding fold_to
fold_cong s zero e = refl
fold_cong {S} {f} {g} s (suc n) e =
    let p : fold_to f s n ≡ fold_to g s n = fold_cong s n (λ k a l. e k a (omega arith)) in
    ap (f n) p ∙ e n (fold_to g s n) (omega arith)

-- a part of the fold is the fold of the parts
pub fold_map : {S R : Type 0} (f : ℕ → S → S) (g : ℕ → R → R) (p : S → R) (s : S) (n : ℕ) → ((k : ℕ) (a : S) → p (f k a) ≡ g k (p a)) → p (fold_to f s n) ≡ fold_to g (p s) n
unfolding fold_to
fold_map f g p s zero e = refl
fold_map f g p s (suc n) e = e n (fold_to f s n) ∙ ap (g n) (fold_map f g p s n e)

-- ---- sums
pub sum-turn : (a : Float) (f : ℕ → Float) (k : ℕ) {r s t : Float} → r ≡ s ⊕ t → t ≡ f k → s ≡ sum_from a f k → r ≡ sum_from a f (k + 1)
unfolding fold_to
sum-turn a f k p q h = rw (add-one, p, q, h)

pub sum_cong : (a : Float) {f g : ℕ → Float} (n : ℕ) → ((k : ℕ) → k < n → f k ≡ g k) → sum_from a f n ≡ sum_from a g n
sum_cong a n e = fold_cong a n (λ k s l. ap (λ (t : Float). s ⊕ t) (e k l))

-- ---- tests
both : (b : Bool) → b && false ≡ false
both true = refl
both false = refl

pub all_turn : (p : ℕ → Bool) (k : ℕ) → all_to p k ≡ true → p k ≡ true → all_to p (k + 1) ≡ true
unfolding all_to
all_turn p k a b = rw (add-one, a, b)

-- a turn of a loop that carries the test's result
pub all_next : (p : ℕ → Bool) (k : ℕ) {r b t : Bool} → r ≡ (b && t) → t ≡ p k → b ≡ all_to p k → r ≡ all_to p (k + 1)
unfolding all_to
all_next p k e q h = rw (add-one, e, q, h)

pub all_fails : (p : ℕ → Bool) (k n : ℕ) → k < n → p k ≡ false → all_to p n ≡ false
unfolding all_to
all_fails p k zero l e = absurd (omega arith)
all_fails p k (suc n) l e = ⊎_elim (λ h. let q : n ≡ k = omega arith in rw (q, e) (both (all_to p k))) (λ h. let q : k < n = omega arith in rw (all_fails p k n q e)) (eq-or-lt_of_le l)

pub all_at : (p : ℕ → Bool) (n k : ℕ) → k < n → all_to p n ≡ true → p k ≡ true
all_at p n k l a = pick (p k) refl
  where
    pick : (b : Bool) → p k ≡ b → b ≡ true
    pick true e = refl
    pick false e = absurd (true≢false (sym a ∙ all_fails p k n l e))

pub all_end : (p : ℕ → Bool) (k n : ℕ) → k ≤ n → n ≤ k → all_to p k ≡ true → true ≡ all_to p n
all_end p k n a b h = let e : k ≡ n = omega arith in sym (rw e at h)

pub all_done : (p : ℕ → Bool) (k n : ℕ) {b : Bool} → k ≡ n → b ≡ all_to p k → b ≡ all_to p n
all_done p k n e h = h ∙ ap (all_to p) e

pub all_cong : {p q : ℕ → Bool} (n : ℕ) → ((k : ℕ) → k < n → p k ≡ q k) → all_to p n ≡ all_to q n
unfolding all_to
all_cong zero e = refl
all_cong {p} {q} (suc n) e =
    let a : all_to p n ≡ all_to q n = all_cong n (λ k l. e k (omega arith)) in
    let b : p n ≡ q n = e n (omega arith) in
    rw (a, b)
