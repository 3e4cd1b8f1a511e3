-- Two tests of each entry, made side by side in one fold, and beside the entries' sum. Assumes nothing.
use Prim.Native.Nat.{ℕ, zero, suc}
use mathlib.Core.Path.{◌≡◌, refl, ap, ◌∙◌}
use mathlib.Core.Bool.{Bool, true, false, ◌&&◌}
use lib.Ieee.{Float}
use Rattle.floats.specs.Arithmetic.{◌⊕◌, 0f}
use Rattle.floats.specs.Fold.{fold_to, sum_to, all_to}
use Rattle.floats.proofs.Folds.{fold_map}

crossed : (a b c d : Bool) → ((a && b) && (c && d)) ≡ ((a && c) && (b && d))
crossed true true c d = refl
crossed true false true d = refl
crossed true false false d = refl
crossed false b c d = refl

module _ (p q : ℕ → Bool) where
  abbrev pub tested : ℕ → Bool → Bool
  tested i r = r && (p i && q i)

  pub both_tests : (n : ℕ) → fold_to tested true n ≡ (all_to p n && all_to q n)
  unfolding fold_to all_to
  both_tests zero = refl
  both_tests (suc n) = rw (both_tests n) (crossed (all_to p n) (all_to q n) (p n) (q n))

  module _ (x : ℕ → Float) where
    abbrev pub summed : ℕ → Float × Bool → Float × Bool
    summed i s = (s.0 ⊕ x i, s.1 && (p i && q i))

    pub sum_beside : (n : ℕ) {s : Float × Bool} → s ≡ fold_to summed (0f, true) n → s.0 ≡ sum_to x n
    sum_beside n e = ap (λ (a : Float × Bool). a.0) e ∙ fold_map summed (λ k (s : Float). s ⊕ x k) (λ (a : Float × Bool). a.0) (0f, true) n (λ i a. refl)

    pub tests_beside : (n : ℕ) {s : Float × Bool} → s ≡ fold_to summed (0f, true) n → s.1 ≡ (all_to p n && all_to q n)
    tests_beside n e = ap (λ (a : Float × Bool). a.1) e ∙ fold_map summed tested (λ (a : Float × Bool). a.1) (0f, true) n (λ i a. refl) ∙ both_tests n
