-- Shares and `normalize` of entries that agree. Assumes nothing.
use Prim.Native.Nat.{ℕ, ◌<◌}
use mathlib.Core.Path.{◌≡◌}
use lib.Ieee.{Float}
use Rattle.floats.specs.Arithmetic.{0f}
use Rattle.floats.specs.Fold.{sum_to}
use Rattle.floats.specs.Vector.{zeros8}
use Rattle.floats.proofs.Folds.{sum_cong}
use Rattle.floats.proofs.Fills.{fill_cong}
use Rattle.thermo_types.specs.Composition.{shares_of, normalize_of}

module _ {x f : ℕ → Float} (n : ℕ) (e : (i : ℕ) → i < n → x i ≡ f i) where
  pub shares_cong : shares_of x n ≡ shares_of f n
  unfolding shares_of
  shares_cong =
      let s : sum_to x n ≡ sum_to f n = sum_cong 0f n e in
      fill_cong _ _ n zeros8 (λ i l. let p : x i ≡ f i = e i l in rw (p, s))

  pub normalize_cong : normalize_of x n ≡ normalize_of f n
  unfolding normalize_of
  normalize_cong =
      let s : sum_to x n ≡ sum_to f n = sum_cong 0f n e in
      rw (shares_cong, s)
