-- Words that are not named are never read: two books that agree on the named words have the same records and parameters. Assumes nothing.
use mathlib.Core.Path.{◌≡◌, refl, ap}
use mathlib.Core.List.{List}
use mathlib.Core.Bool.{Bool, true, false, cond, not}
use Prim.Native.Nat.{ℕ, zero, suc, ◌+◌, ◌*◌, ◌≤◌, ◌<◌}
use native.Mathlib.Omega.{arith}
use borrow.Author.Tests.{ltb-true}
use lib.Dec.{eqb, ltb}
use lib.Ieee.{Float}
use Rattle.std.specs.Prelude.{Option, None, Some}
use Rattle.floats.specs.Arithmetic.{0f}
use Rattle.floats.specs.Small.{float_of, float}
use Rattle.floats.specs.Vector.{vec, zeros8, fill_from}
use Rattle.floats.proofs.Folds.{fold_cong}
use Rattle.floats.proofs.Fills.{fill_cong}
use Rattle.book.specs.declared.Model.{Model}
use Rattle.book.specs.declared.Model.TheVariants.{Nrtl, Wilson}
use Rattle.book.specs.Places.{words, pair_place}
use Rattle.book.specs.Named.{parameters_end}
use Rattle.book.specs.Book.{model_of}
use Rattle.book.proofs.Laws.{place-above}
use Rattle.book.proofs.Unread.{PairAgrees, AgreeBehind}
use Rattle.records.specs.declared.Interval.{Interval}
use Rattle.records.specs.Records.{ancillary_of, range_of, regression_of}
use Rattle.records.specs.Parameters.{term_in, wilson_term, pair_term, lower_from, parameter, parameter_row, parameter_rows, parameters_of}

module _ (w v : ℕ → ℕ) (e : (k : ℕ) → k < 45 → w k ≡ v k) where
  eight-same : (f : ℕ) → f + 8 ≤ 45 → vec (λ k. float w (f + k)) 8 ≡ vec (λ k. float v (f + k)) 8
  eight-same f h = fill_cong (λ k. float w (f + k)) (λ k. float v (f + k)) 8 zeros8 (λ k l. ap float_of (e (f + k) (omega arith)))

  ancillary_same : (f : ℕ) → f ≤ 24 → ancillary_of w f ≡ ancillary_of v f
  unfolding ancillary_of
  ancillary_same f h =
      rw (
        e f (omega arith),
        e (f + 1) (omega arith),
        e (f + 2) (omega arith),
        e (f + 3) (omega arith),
        e (f + 4) (omega arith),
        eight-same (f + 5) (omega arith),
        eight-same (f + 13) (omega arith),
      )

  range_same : (f : ℕ) → f ≤ 24 → range_of w f ≡ range_of v f
  unfolding range_of
  range_same f h = rw (e (f + 2) (omega arith), e (f + 3) (omega arith))

module _ (m : Model) (w v : ℕ → ℕ) (e : PairAgrees m w v) where
  interval : (ℕ → ℕ) → Option Interval
  interval u = Some (record { low = float u 16; high = float u 17; inferred = not (eqb (u 18) 0) })

  regression_same : regression_of w ≡ regression_of v
  unfolding regression_of interval
  regression_same = pick (eqb (w 15) 0) refl
    where
      pick : (b : Bool) → eqb (w 15) 0 ≡ b → cond (eqb (w 15) 0) None (interval w) ≡ cond (eqb (v 15) 0) None (interval v)
      pick true q = rw (← e.flag, q)
      pick false q = rw (← e.flag, q, e.flagged q 16 (omega arith) (omega arith), e.flagged q 17 (omega arith) (omega arith), e.inferred)

-- the terms that start at word 3, and those of (j, i)
three : (m : Model) → 3 ≤ lower_from m
unfolding lower_from
three Nrtl = omega arith
three Wilson = omega arith

term-same : (m : Model) (w v : ℕ → ℕ) → PairAgrees m w v → (f k : ℕ) → f ≤ lower_from m → k < 6 → pair_term m w f k ≡ pair_term m v f k
unfolding parameters_end lower_from pair_term term_in wilson_term
term-same Nrtl w v e f k h q = rw (e.low (f + k) (omega arith), e.low (7 + k) (omega arith))
term-same Wilson w v e f k h q = pick (ltb k 2) refl
  where
    pick : (b : Bool) → ltb k 2 ≡ b → cond b (float w (f + k)) 0f ≡ cond b (float v (f + k)) 0f
    pick true l = ap float_of (e.low (f + k) (omega (arith, ltb-true k 2 l)))
    pick false l = refl

-- tables of equal entries are equal
fill_from_cong : (f g : ℕ → Float) (b n : ℕ) (l : List Float) → ((k : ℕ) → k < n → f k ≡ g k) → fill_from f b n l ≡ fill_from g b n l
unfolding fill_from
fill_from_cong f g b zero l e = refl
fill_from_cong f g b (suc n) l e = rw (fill_from_cong f g b n l (λ k h. e k (omega arith)), e n (omega arith))

rows_cong : (f g : ℕ → ℕ → ℕ → Float) (n : ℕ) → ((i j k : ℕ) → k < 6 → f i j k ≡ g i j k) → parameter_rows f n n ≡ parameter_rows g n n
unfolding parameter_rows parameter_row
rows_cong f g n e = fold_cong _ n (λ i l h. fold_cong l n (λ j l h. fill_from_cong (f i j) (g i j) ((i * 8 + j) * 6) 6 l (λ k q. e i j k q)))

chosen : (a b : Bool) (z : Float) {x y u v : Float} → x ≡ u → y ≡ v → cond a x (cond b y z) ≡ cond a u (cond b v z)
chosen a b z p q = rw (p, q)

-- of two books of n solvents
module _ (s t : List ℕ) (n : ℕ) (a : AgreeBehind s t n) where
  pub vapor-pressure-unread : (i : ℕ) → i < n → ancillary_of (words s (i + 1)) 3 ≡ ancillary_of (words t (i + 1)) 3
  vapor-pressure-unread i l = ancillary_same (words s (i + 1)) (words t (i + 1)) (a.solvent i l) 3 (omega arith)

  pub vapor-pressure_range_unread : (i : ℕ) → i < n → range_of (words s (i + 1)) 3 ≡ range_of (words t (i + 1)) 3
  vapor-pressure_range_unread i l = range_same (words s (i + 1)) (words t (i + 1)) (a.solvent i l) 3 (omega arith)

  pub density_range_unread : (i : ℕ) → i < n → range_of (words s (i + 1)) 24 ≡ range_of (words t (i + 1)) 24
  density_range_unread i l = range_same (words s (i + 1)) (words t (i + 1)) (a.solvent i l) 24 (omega arith)

  pub regression_unread : (i j : ℕ) → regression_of (words s (pair_place n i j)) ≡ regression_of (words t (pair_place n i j))
  regression_unread i j = regression_same (model_of s) (words s (pair_place n i j)) (words t (pair_place n i j)) (a.pair (pair_place n i j) (place-above n i j))

  pub parameters-unread : parameters_of s n ≡ parameters_of t n
  unfolding parameters_of parameter
  parameters-unread =
      let m = model_of s in
      let at : (i j : ℕ) → PairAgrees m (words s (pair_place n i j)) (words t (pair_place n i j)) = λ i j. a.pair (pair_place n i j) (place-above n i j) in
      rw (← a.model)
      (rows_cong (parameter m (words s) n) (parameter m (words t) n) n (λ i j k h.
      chosen (ltb i j) (ltb j i) 0f (term-same m _ _ (at i j) 3 k (three m) h) (term-same m _ _ (at j i) (lower_from m) k (omega arith) h)))
