-- Jets that agree in value and slope: these never depend on second derivatives, so code can leave those away. Assumes nothing.
use Prim.Native.Nat.{ℕ, zero, suc, ◌<◌}
use mathlib.Core.Path.{◌≡◌, refl}
use native.Mathlib.Omega.{arith}
use lib.Ieee.{Float}
use Rattle.floats.specs.Fold.{fold_to}
use Rattle.jet.specs.declared.Jet.{Jet}
use Rattle.jet.specs.Jets.{add_j, sub_j, mul_j, scale_j, div_j, ln_j, ln_with, two_j, sum_jet_from}

infixl 4 ◌≃◌
pub record ◌≃◌ (a b : Jet) : Type 0 where
  pub v : a.v ≡ b.v
  pub d : a.d ≡ b.d

pub near_refl : {a : Jet} → a ≃ a
near_refl = record { v = refl; d = refl }

pub two-near : {x y : Float} {a : Jet} → x ≡ a.v → y ≡ a.d → two_j x y ≃ a
unfolding two_j
two-near p q = record { v = p; d = q }

pub add-near : {a a' b b' : Jet} → a ≃ a' → b ≃ b' → add_j a b ≃ add_j a' b'
unfolding add_j
add-near p q = record { v = rw (p.v, q.v); d = rw (p.d, q.d) }

pub sub-near : {a a' b b' : Jet} → a ≃ a' → b ≃ b' → sub_j a b ≃ sub_j a' b'
unfolding sub_j
sub-near p q = record { v = rw (p.v, q.v); d = rw (p.d, q.d) }

pub mul-near : {a a' b b' : Jet} → a ≃ a' → b ≃ b' → mul_j a b ≃ mul_j a' b'
unfolding mul_j
mul-near p q = record { v = rw (p.v, q.v); d = rw (p.v, q.v, p.d, q.d) }

pub scale-near : {a a' : Jet} (x : Float) → a ≃ a' → scale_j a x ≃ scale_j a' x
unfolding scale_j
scale-near x p = record { v = rw p.v; d = rw p.d }

pub div-near : {a a' b b' : Jet} → a ≃ a' → b ≃ b' → div_j a b ≃ div_j a' b'
unfolding div_j
div-near p q = record { v = rw (p.v, q.v); d = rw (p.v, q.v, p.d, q.d) }

pub ln-near : {a a' : Jet} → a ≃ a' → ln_j a ≃ ln_j a'
unfolding ln_with
ln-near p = record { v = rw p.v; d = rw (p.v, p.d) }

pub sum_near : {a a' : Jet} (f f' : ℕ → Jet) (n : ℕ) → a ≃ a' → ((k : ℕ) → k < n → f k ≃ f' k) → sum_jet_from a f n ≃ sum_jet_from a' f' n
unfolding fold_to
sum_near f f' zero p h = p
sum_near f f' (suc n) p h = add-near (sum_near f f' n p (λ k l. h k (omega arith))) (h n (omega arith))
