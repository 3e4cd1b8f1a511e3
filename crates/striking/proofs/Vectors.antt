-- Arrays of eight: related entries make related arrays; parts over their sum make related fractions. Assumes nothing.
use mathlib.Core.Path.{◌≡◌, sym, subst}
use Prim.Native.Nat.{ℕ, zero, suc, ◌≤◌, ◌<◌}
use native.Mathlib.Nat.{le_trans}
use mathlib.Core.Bool.{Bool, not}
use mathlib.Core.List.{List, [], ◌∷◌}
use lib.ListN.{set, replicate, get_or-replicate}
use lib.Dec.{T}
use lib.Ieee.{Float, nan, binary64, fits, of_bits}
use lib.Ieee.Fits.{div-fits}
use Rattle.floats.specs.Arithmetic.{◌⊘◌, 0f}
use Rattle.floats.specs.Small.{positive}
use Rattle.floats.specs.Fold.{sum_to}
use Rattle.floats.specs.Vector.{at, vec, fill, zeros8}
use Rattle.thermo_types.specs.Composition.{shares_of, normalize_of}
use Rattle.floats.proofs.Fills.{vec-at}
use Rattle.zeros.specs.Same.{◌≈◌}
use Rattle.zeros.proofs.Congruence.{≈refl, div_≈}
use Rattle.zeros.proofs.Zero.{Zero}
use Rattle.zeros.specs.Below.{◌⊑◌}
use Rattle.zeros.proofs.Below.{⊑_refl, gone, gone-div}
use Rattle.striking.specs.Places.{cnt}
use Rattle.striking.specs.Accepted.{Acc}
use Rattle.striking.specs.Related.{Fractions}
use Rattle.striking.proofs.Acc.{acc_ok, acc_need}
use Rattle.striking.proofs.Strike.{cnt_lt, strike_sum≡}
use Rattle.striking.proofs.Excess.{cnt_le}

-- fractions in arrays
abbrev pub SameFractions : (ℕ → Bool) → ℕ → List Float → List Float → Type 0
SameFractions keep n x x' = Fractions keep n (at x) (at x')

fits_set : (l : List Float) (k : ℕ) (v : Float) → ((i : ℕ) → T (fits binary64 (at l i))) → T (fits binary64 v) → (i : ℕ) → T (fits binary64 (at (set l k v) i))
fits_set [] k v h p i = h i
fits_set (a ∷ l) zero v h p zero = p
fits_set (a ∷ l) zero v h p (suc i) = h (suc i)
fits_set (a ∷ l) (suc k) v h p zero = h zero
fits_set (a ∷ l) (suc k) v h p (suc i) = fits_set l k v (λ j. h (suc j)) p i

zeros-fit : (m i : ℕ) → T (fits binary64 (at (replicate m 0f) i))
unfolding of_bits fits
zeros-fit zero i = tt
zeros-fit (suc m) zero = tt
zeros-fit (suc m) (suc i) = zeros-fit m i

-- every entry of an array of f64 is one, also past the end
pub vec-fits : (f : ℕ → Float) → ((i : ℕ) → T (fits binary64 (f i))) → (n i : ℕ) → T (fits binary64 (at (vec f n) i))
unfolding fill
vec-fits f h zero i = zeros-fit 8 i
vec-fits f h (suc n) i = fits_set (fill f n zeros8) n (f n) (vec-fits f h n) (h n) i

pub vec-fractions : (keep : ℕ → Bool) (n : ℕ) (f f' : ℕ → Float) → n ≤ 8 → Fractions keep n f f' → Fractions keep n (at (vec f n)) (at (vec f' (cnt keep n)))
vec-fractions keep n f f' m h = record {
  absent = λ i l q. subst (λ (x : Float). x ⊑ 0f) (sym (vec-at f n i m l)) (h.absent i l q);
  fraction = λ i l q. subst (λ (x : Float). x ≈ at (vec f' (cnt keep n)) (cnt keep i)) (sym (vec-at f n i m l)) (subst (λ (x : Float). f i ≈ x) (sym (vec-at f' (cnt keep n) (cnt keep i) (le_trans (cnt_le keep n) m) (cnt_lt keep i n q l))) (h.fraction i l q));
  fit = vec-fits f h.fit n;
  fit' = vec-fits f' h.fit' (cnt keep n);
}

-- kept entries stand in arrays as they stand in what the arrays are made from
pub vec_kept : (keep : ℕ → Bool) (n : ℕ) (R : Float → Float → Type 0) (f f' : ℕ → Float) → n ≤ 8 → ((i : ℕ) → i < n → T (keep i) → R (f i) (f' (cnt keep i)))
    → (i : ℕ) → i < n → T (keep i) → R (at (vec f n) i) (at (vec f' (cnt keep n)) (cnt keep i))
vec_kept keep n R f f' m h i l q = subst (λ (x : Float). R x (at (vec f' (cnt keep n)) (cnt keep i))) (sym (vec-at f n i m l)) (subst (λ (x : Float). R (f i) x) (sym (vec-at f' (cnt keep n) (cnt keep i) (le_trans (cnt_le keep n) m) (cnt_lt keep i n q l))) (h i l q))

-- ---- zeros
pub zeros-at : (i : ℕ) → i < 8 → at zeros8 i ≡ 0f
zeros-at i l = get_or-replicate 8 i 0f nan l

module _ (keep : ℕ → Bool) (n : ℕ) (small : n ≤ 8) where
  pub new-below : (i : ℕ) → i < n → T (keep i) → cnt keep i < 8
  new-below i l q = le_trans (cnt_lt keep i n q l) (le_trans (cnt_le keep n) small)

  pub zeros-kept : (i : ℕ) → i < n → T (keep i) → at zeros8 i ≈ at zeros8 (cnt keep i)
  zeros-kept i l q = subst (λ (x : Float). x ≈ at zeros8 (cnt keep i)) (sym (zeros-at i (le_trans l small))) (subst (λ (x : Float). 0f ≈ x) (sym (zeros-at (cnt keep i) (new-below i l q))) (≈refl 0f))

  pub zeros-fractions : Fractions keep n (at zeros8) (at zeros8)
  zeros-fractions = record {
    absent = λ i l q. subst (λ (x : Float). x ⊑ 0f) (sym (zeros-at i (le_trans l small))) (⊑_refl 0f);
    fraction = zeros-kept;
    fit = zeros-fit 8;
    fit' = zeros-fit 8;
  }

  -- ---- parts that are zeros at absent solvents, over their sum
  module _ (f f' : ℕ → Float) (fit : (i : ℕ) → T (fits binary64 (f i))) (fit' : (i : ℕ) → T (fits binary64 (f' i))) (kept : (i : ℕ) → i < n → T (keep i) → f i ≈ f' (cnt keep i)) (struck : (i : ℕ) → i < n → T (not (keep i)) → Zero (f i)) where
    pub parts-sum : sum_to f n ≡ sum_to f' (cnt keep n)
    unfolding of_bits
    parts-sum = strike_sum≡ keep f f' n fit fit' kept struck

    parts_share : Fractions keep n (λ i. f i ⊘ sum_to f n) (λ i. f' i ⊘ sum_to f' (cnt keep n))
    unfolding of_bits
    parts_share = record {
      absent = λ i l q. gone-div _ (gone (struck i l q));
      fraction = λ i l q. div_≈ (kept i l q) parts-sum;
      fit = λ i. div-fits binary64 _ _;
      fit' = λ i. div-fits binary64 _ _;
    }

    pub parts-fractions : Fractions keep n (at (vec (λ i. f i ⊘ sum_to f n) n)) (at (vec (λ i. f' i ⊘ sum_to f' (cnt keep n)) (cnt keep n)))
    parts-fractions = vec-fractions keep n _ _ small parts_share

    -- `normalize`: one sum in both books, so that 34 is met in both or in neither
    pub strike_normalize : Acc (SameFractions keep n) (normalize_of f n) (normalize_of f' (cnt keep n))
    unfolding normalize_of shares_of
    strike_normalize = acc_need _ _ 34 _ _ (λ h. subst (λ (s : Float). T (positive s)) parts-sum h) (λ h. acc_ok parts-fractions)
