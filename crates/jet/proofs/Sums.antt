-- Sums of Jets over an index: one turn of a loop, its end, and equal terms. Assumes nothing.
use Prim.Native.Nat.{ℕ, ◌+◌, ◌<◌}
use mathlib.Core.Path.{◌≡◌, ◌∙◌, ap}
use native.Mathlib.Numerals.{add-one}
use Rattle.floats.specs.Fold.{fold_to}
use Rattle.floats.proofs.Folds.{fold_cong}
use Rattle.jet.specs.declared.Jet.{Jet}
use Rattle.jet.specs.Jets.{add_j, sum_jet_from}

pub sum_jet_turn : (a : Jet) (f : ℕ → Jet) (k : ℕ) {r s t : Jet} → r ≡ add_j s t → t ≡ f k → s ≡ sum_jet_from a f k → r ≡ sum_jet_from a f (k + 1)
unfolding fold_to
sum_jet_turn a f k p q h = rw (add-one, p, q, h)

pub sum_jet_cong : {a b : Jet} {f g : ℕ → Jet} (n : ℕ) → a ≡ b → ((k : ℕ) → k < n → f k ≡ g k) → sum_jet_from a f n ≡ sum_jet_from b g n
sum_jet_cong {a} {b} {f} {g} n p e = fold_cong a n (λ k s l. ap (add_j s) (e k l)) ∙ ap (λ (s : Jet). sum_jet_from s g n) p
