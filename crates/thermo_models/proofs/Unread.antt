-- Words that are not named are never read: two books that agree on the named words make the same mixture. Assumes nothing.
use Prim.Native.Nat.{ℕ, zero, suc, ◌+◌, ◌-◌, ◌≤◌, ◌<◌}
use mathlib.Core.Path.{◌≡◌, refl, fun_ext}
use mathlib.Core.List.{List}
use native.Mathlib.Omega.{arith}
use lib.Ieee.{Float}
use Rattle.floats.proofs.Folds.{fold_cong, all_cong}
use Rattle.book.specs.Book.{model_of}
use Rattle.book.proofs.Unread.{AgreeBehind}
use Rattle.records.specs.Parameters.{parameters_of}
use Rattle.records.proofs.Unread.{vapor-pressure-unread, vapor-pressure_range_unread, density_range_unread, regression_unread, parameters-unread}
use Rattle.thermo_models.specs.declared.Seen.{Seen}
use Rattle.thermo_models.specs.Domain.{vapor_record, vapor_range, density_range, solvent_covers, temperature_in_domain, pures_to, pure_liquids_of}
use Rattle.thermo_models.specs.Validity.{unseen, visited, row_seen, all_seen, validity_of}
use Rattle.thermo_models.specs.Activity.{excess_of}
use Rattle.thermo_models.specs.Mixture.{mixture_of}

-- the same correlations of the solvents below n
pub record SameSolvents (s t : List ℕ) (n : ℕ) : Type 0 where
  pub vapor : (i : ℕ) → i < n → vapor_record s i ≡ vapor_record t i
  pub vapors : (i : ℕ) → i < n → vapor_range s i ≡ vapor_range t i
  pub densities : (i : ℕ) → i < n → density_range s i ≡ density_range t i

module _ (s t : List ℕ) (n : ℕ) (a : SameSolvents s t n) where
  covers-same : (T : Float) (i : ℕ) → i < n → solvent_covers s T i ≡ solvent_covers t T i
  unfolding solvent_covers
  covers-same T i l = rw (a.vapors i l, a.densities i l)

  pub domain-same : (T : Float) → temperature_in_domain s n T ≡ temperature_in_domain t n T
  unfolding temperature_in_domain
  domain-same T = rw (all_cong n (covers-same T))

  pures_same : (T : Float) (k : ℕ) → k ≤ n → pures_to s T k ≡ pures_to t T k
  unfolding pures_to
  pures_same T zero l = refl
  pures_same T (suc k) l = rw (pures_same T k (omega arith), a.vapor k (omega arith))

  pub liquids-same : (T : Float) → pure_liquids_of s n T ≡ pure_liquids_of t n T
  unfolding pure_liquids_of
  liquids-same T = rw (domain-same T, pures_same T n (omega arith))

pub excess-same : (s t : List ℕ) (P : List Float) (n : ℕ) → model_of s ≡ model_of t → (T : Float) (x : List Float) → excess_of s P n T x ≡ excess_of t P n T x
unfolding excess_of
excess-same s t P n e T x = rw e

-- of two books of n solvents
module _ (s t : List ℕ) (n : ℕ) (a : AgreeBehind s t n) where
  solvents-unread : SameSolvents s t n
  solvents-unread = record { vapor = vapor-pressure-unread s t n a; vapors = vapor-pressure_range_unread s t n a; densities = density_range_unread s t n a }

  module _ (T : Float) (x : List Float) where
    visited-same : (i j : ℕ) (w : Seen) → visited s n T x i j w ≡ visited t n T x i j w
    unfolding visited
    visited-same i j w = rw (regression_unread s t n a i j)

    row_same : (i : ℕ) (w : Seen) → row_seen s n T x i n w ≡ row_seen t n T x i n w
    unfolding row_seen
    row_same i w = fold_cong w (n - (i + 1)) (λ k v l. visited-same i (i + 1 + k) v)

    all_same : all_seen s n T x ≡ all_seen t n T x
    unfolding all_seen
    all_same = fold_cong unseen n (λ i w l. row_same i w)

    validity-unread : validity_of s n T x ≡ validity_of t n T x
    unfolding validity_of
    validity-unread = rw all_same

  pub mixture_unread : mixture_of s n ≡ mixture_of t n
  mixture_unread =
      rw (
        parameters-unread s t n a,
        fun_ext (λ T. fun_ext (excess-same s t (parameters_of t n) n a.model T)),
        fun_ext (liquids-same s t n solvents-unread),
        fun_ext (domain-same s t n solvents-unread),
        fun_ext (λ T. fun_ext (validity-unread T)),
      )
