-- Each pair has a place of its own, and a test of all pairs or blocks but one of which the rest is known. Assumes nothing.
use Prim.Native.Nat.{ℕ, zero, suc, ◌+◌, ◌-◌, ◌≤◌, ◌<◌}
use mathlib.Core.Path.{◌≡◌, refl, ap, ◌∙◌}
use mathlib.Core.Logic.{◌≢◌, inl, inr}
use mathlib.Core.Bool.{Bool, true, false}
use native.Mathlib.Nat.{eq-or-lt_of_le}
use native.Mathlib.Omega.{arith}
use borrow.Author.Tests.{ltb-true, ltb-false, eqb-true, eqb-false}
use lib.Dec.{eqb, ltb}
use lib.Ieee.Bits.{is_true}
use Rattle.floats.specs.Fold.{all_to}
use Rattle.floats.proofs.Folds.{all_fails}
use Rattle.book.specs.Places.{row_from, pair_place}
use Rattle.striking.proofs.Acc.{all_of}
use Rattle.striking.proofs.Books.{so}

-- ---- the places of two pairs
row_mono : (n i j : ℕ) → i ≤ j → row_from n i ≤ row_from n j
unfolding row_from
row_mono n i zero h = let e : i ≡ 0 = omega arith in rw e (omega arith)
row_mono n i (suc j) h = elim (eq-or-lt_of_le h) [
  | inl e ↦ rw e (omega arith)
  | inr l ↦ omega (arith, row_mono n i j (omega arith))
]

place-less : (n a b i j : ℕ) → a < b → b < n → a < i → pair_place n a b < pair_place n i j
unfolding pair_place row_from
place-less n a b i j l m h = omega (arith, row_mono n (suc a) i h)

-- one place, one pair
pub record SamePair (a b i j : ℕ) : Type 0 where
  pub first : a ≡ i
  pub second : b ≡ j

pub same-pair : (n a b i j : ℕ) → a < b → b < n → i < j → j < n → pair_place n a b ≡ pair_place n i j → SamePair a b i j
unfolding pair_place
same-pair n a b i j l m h k e = pick (ltb a i) (ltb i a) refl refl
  where
    row : a ≡ i → row_from n a ≡ row_from n i
    row q = ap (row_from n) q

    pick : (s t : Bool) → ltb a i ≡ s → ltb i a ≡ t → SamePair a b i j
    pick true t p q = absurd (omega (arith, place-less n a b i j l m (ltb-true a i p)))
    pick false true p q = absurd (omega (arith, place-less n i j a b h k (ltb-true i a q)))
    pick false false p q =
        let f : a ≡ i = omega (arith, ltb-false a i p, ltb-false i a q) in
        record { first = f; second = omega (arith, row f) }

-- ---- where every other index passes, the test of all is that of the one
all_true : (q : ℕ → Bool) (n : ℕ) → ((j : ℕ) → j < n → q j ≡ true) → all_to q n ≡ true
all_true q n f = is_true (all_to q n) (all_of q n (λ j l. so (f j l)))

pub all_but : (q : ℕ → Bool) (n k : ℕ) → k < n → ((j : ℕ) → j < n → j ≢ k → q j ≡ true) → all_to q n ≡ q k
all_but q n k l f = pick (q k) refl
  where
    each : q k ≡ true → (j : ℕ) → j < n → (b : Bool) → eqb j k ≡ b → q j ≡ true
    each e j m true p = rw (eqb-true j k p) e
    each e j m false p = f j m (eqb-false j k p)

    pick : (b : Bool) → q k ≡ b → all_to q n ≡ b
    pick true e = all_true q n (λ j m. each e j m (eqb j k) refl)
    pick false e = all_fails q k n l e

-- the same of a test of the pairs, row by row
pub rows_but : (q : ℕ → ℕ → Bool) (n i j : ℕ) → i < j → j < n → ((a b : ℕ) → a < b → b < n → pair_place n a b ≢ pair_place n i j → q a b ≡ true)
    → all_to (λ a. all_to (λ d. q a (a + 1 + d)) (n - a - 1)) n ≡ q i j
rows_but q n i j l m f =
    let e : i + 1 + (j - i - 1) ≡ j = omega arith in
    all_but (λ a. all_to (λ d. q a (a + 1 + d)) (n - a - 1)) n i (omega arith) (λ a u x.
    all_true (λ d. q a (a + 1 + d)) (n - a - 1) (λ d v.
    f a (a + 1 + d) (omega arith) (omega arith) (λ z. x (same-pair n a (a + 1 + d) i j (omega arith) (omega arith) l m z).first)))
    ∙ all_but (λ d. q i (i + 1 + d)) (n - i - 1) (j - i - 1) (omega arith) (λ d v x.
    f i (i + 1 + d) (omega arith) (omega arith) (λ z. x (omega (arith, (same-pair n i (i + 1 + d) i j (omega arith) (omega arith) l m z).second))))
    ∙ ap (q i) e
