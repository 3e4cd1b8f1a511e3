-- The places of pairs as the code works them out: at n up to 8 antt computes both sides. Assumes nothing.
use mathlib.Core.Path.{◌≡◌, refl, sym, ap, ◌∙◌}
use mathlib.Core.Bool.{Bool, true, false}
use mathlib.Core.Logic.{⊎_elim}
use Prim.Native.Nat.{ℕ, zero, suc, ◌+◌, ◌-◌, ◌*◌, ◌/◌, ◌≤◌, ◌<◌, min}
use native.Mathlib.Nat.{eq-or-lt_of_le, add-zero}
use native.Mathlib.Omega.{arith}
use borrow.Author.Tests.{leb-true, eqb-true, ltb-true, ltb-false}
use lib.Dec.{eqb, leb, ltb}
use Rattle.floats.specs.Fold.{all_to}
use Rattle.floats.proofs.Folds.{all_at}
use Rattle.book.specs.Places.{row_from}

every : (p : ℕ → ℕ → Bool) (n i : ℕ) → n ≤ 8 → i ≤ n → all_to (λ m. all_to (p m) (suc m)) 9 ≡ true → p n i ≡ true
every p n i a b h = all_at (p n) (suc n) i (omega arith) (all_at (λ m. all_to (p m) (suc m)) 9 n (omega arith) h)

pub row_code : (n i : ℕ) → n ≤ 8 → i ≤ n → 1 + n + (i * (2 * n - i) - i) / 2 ≡ row_from n i
unfolding all_to row_from
row_code n i a b =
    eqb-true (1 + n + (i * (2 * n - i) - i) / 2) (row_from n i)
    (every (λ m k. eqb (1 + m + (k * (2 * m - k) - k) / 2) (row_from m k)) n i a b refl)

pub row-few : (n i : ℕ) → n ≤ 8 → i ≤ n → row_from n i ≤ 37
unfolding all_to row_from
row-few n i a b = leb-true (row_from n i) 37 (every (λ m k. leb (row_from m k) 37) n i a b refl)

-- the rows past the last are empty
row-past : (n i : ℕ) → n ≤ i → row_from n n ≡ row_from n i
unfolding row_from
row-past n zero h = let e : n ≡ 0 = omega arith in rw e
row-past n (suc i) h =
    ⊎_elim
    (λ (e : n ≡ suc i). ap (λ (k : ℕ). row_from n k) e)
    (λ (l : n < suc i). let z : n - i - 1 ≡ 0 = omega arith in row-past n i (omega arith) ∙ rw z (sym (add-zero (row_from n i))))
    (eq-or-lt_of_le h)

pub row_capped : (n i : ℕ) {k : ℕ} → k ≡ min i n → row_from n k ≡ row_from n i
row_capped n i {k} e = pick (ltb i n) refl
  where
    pick : (b : Bool) → ltb i n ≡ b → row_from n k ≡ row_from n i
    pick true q = let same : k ≡ i = omega (arith, e, ltb-true i n q) in ap (row_from n) same
    pick false q =
        let past : n ≤ i = ltb-false i n q in
        let last : k ≡ n = omega arith in
        ap (row_from n) last ∙ row-past n i past
