-- The mixture of the copy of a book that holds an offered pair: the book's own, but for the parameters and the intervals of the pairs. Assumes nothing.
use Prim.Native.Nat.{ℕ, ◌+◌}
use mathlib.Core.Path.{◌≡◌, ap, fun_ext}
use mathlib.Core.List.{List}
use native.Mathlib.Omega.{arith}
use Rattle.records.specs.Offered.{with_pair}
use Rattle.records.specs.Parameters.{parameters_of}
use Rattle.records.specs.Records.{ancillary_of, range_of}
use Rattle.records.proofs.Offered.{copy-model, copy-words}
use Rattle.thermo_models.proofs.Unread.{SameSolvents, domain-same, liquids-same, excess-same}
use Rattle.thermo_models.specs.Mixture.{mixture_with, mixture_of}

module _ (n : ℕ) (book offered : List ℕ) where
  copy-solvents : SameSolvents (with_pair n book offered) book n
  copy-solvents = record {
    vapor = λ i l. ap (λ (w : ℕ → ℕ). ancillary_of w 3) (copy-words n book offered (i + 1) (omega arith));
    vapors = λ i l. ap (λ (w : ℕ → ℕ). range_of w 3) (copy-words n book offered (i + 1) (omega arith));
    densities = λ i l. ap (λ (w : ℕ → ℕ). range_of w 24) (copy-words n book offered (i + 1) (omega arith));
  }

  pub copy_mixture : mixture_of (with_pair n book offered) n
      ≡ mixture_with book (parameters_of (with_pair n book offered) n) (with_pair n book offered) n
  copy_mixture = let copy = with_pair n book offered in
      rw (
        fun_ext (λ T. fun_ext (excess-same copy book (parameters_of copy n) n (copy-model n book offered) T)),
        fun_ext (liquids-same copy book n copy-solvents),
        fun_ext (domain-same copy book n copy-solvents),
      )
