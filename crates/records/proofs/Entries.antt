-- What stands in the parameters: term k of the pair (i, j) at (i * 8 + j) * 6 + k, for i and j below n. Assumes nothing.
use mathlib.Core.Path.{◌≡◌, refl, ◌∙◌}
use mathlib.Core.List.{List}
use mathlib.Core.Logic.{⊎_elim}
use Prim.Native.Nat.{ℕ, zero, suc, ◌+◌, ◌*◌, ◌≤◌, ◌<◌}
use native.Mathlib.Nat.{eq-or-lt_of_le}
use native.Mathlib.Omega.{arith}
use lib.Ieee.{Float}
use lib.ListN.{length, get_or, length-replicate}
use Rattle.floats.specs.Arithmetic.{0f}
use Rattle.floats.specs.Fold.{fold_to}
use Rattle.floats.proofs.Fills.{fill_from_length, fill_from-at, fill_from_before}
use Rattle.book.specs.Places.{words}
use Rattle.book.specs.Book.{model_of}
use Rattle.records.specs.Parameters.{parameter, parameter_row, parameter_rows, parameters_of}

module _ (f : ℕ → ℕ → Float) (i : ℕ) (d : Float) where
  row_length : (n : ℕ) (l : List Float) → length (parameter_row f n i l) ≡ length l
  unfolding parameter_row fold_to
  row_length zero l = refl
  row_length (suc n) l = fill_from_length (f n) ((i * 8 + n) * 6) 6 (parameter_row f n i l) ∙ row_length n l

  -- the pairs of the row, and the pairs before it
  row_at : (n : ℕ) (l : List Float) (j k : ℕ) → length l ≡ 384 → i < 8 → n ≤ 8 → j < n → k < 6 → get_or (parameter_row f n i l) ((i * 8 + j) * 6 + k) d ≡ f j k
  unfolding parameter_row fold_to
  row_at zero l j k z a b h q = absurd (omega arith)
  row_at (suc n) l j k z a b h q =
      ⊎_elim
      (λ (e : j ≡ n). rw e (fill_from-at (f n) ((i * 8 + n) * 6) 6 (parameter_row f n i l) d k (omega (arith, row_length n l)) q))
      (λ (e : j < n). fill_from_before (f n) ((i * 8 + n) * 6) 6 (parameter_row f n i l) d ((i * 8 + j) * 6 + k) (omega arith)
      ∙ row_at n l j k z a (omega arith) e q)
      (eq-or-lt_of_le (omega arith))

  row_before : (n : ℕ) (l : List Float) (p k : ℕ) → p < i * 8 → k < 6 → get_or (parameter_row f n i l) (p * 6 + k) d ≡ get_or l (p * 6 + k) d
  unfolding parameter_row fold_to
  row_before zero l p k h q = refl
  row_before (suc n) l p k h q = fill_from_before (f n) ((i * 8 + n) * 6) 6 (parameter_row f n i l) d (p * 6 + k) (omega arith) ∙ row_before n l p k h q

module _ (f : ℕ → ℕ → ℕ → Float) (n : ℕ) (d : Float) where
  rows_length : (r : ℕ) → length (parameter_rows f n r) ≡ 384
  unfolding parameter_rows fold_to
  rows_length zero = length-replicate 384 0f
  rows_length (suc r) = row_length (f r) r d n (parameter_rows f n r) ∙ rows_length r

  rows_at : (r i j k : ℕ) → n ≤ 8 → r ≤ n → i < r → j < n → k < 6 → get_or (parameter_rows f n r) ((i * 8 + j) * 6 + k) d ≡ f i j k
  unfolding parameter_rows fold_to
  rows_at zero i j k a b h q o = absurd (omega arith)
  rows_at (suc r) i j k a b h q o =
      ⊎_elim
      (λ (e : i ≡ r). rw e (row_at (f r) r d n (parameter_rows f n r) j k (rows_length r) (omega arith) a q o))
      (λ (e : i < r). row_before (f r) r d n (parameter_rows f n r) (i * 8 + j) k (omega arith) o ∙ rows_at r i j k a (omega arith) e q o)
      (eq-or-lt_of_le (omega arith))

pub parameters-at : (book : List ℕ) (n : ℕ) (d : Float) (i j k : ℕ) → n ≤ 8 → i < n → j < n → k < 6
    → get_or (parameters_of book n) ((i * 8 + j) * 6 + k) d ≡ parameter (model_of book) (words book) n i j k
unfolding parameters_of
parameters-at book n d i j k a h q o = rows_at (parameter (model_of book) (words book) n) n d n i j k a (omega arith) h q o
