-- The table's one Jet begins at plane 0, where the code adds no 0; logarithms of two sums at once; rows kept one by one. Assumes nothing.
use Prim.Native.Nat.{ℕ, ◌+◌, ◌<◌}
use mathlib.Core.Path.{◌≡◌, ◌∙◌}
use mathlib.Core.Logic.{⊎_elim}
use mathlib.Core.List.{List}
use native.Mathlib.Nat.{eq-or-lt_of_le}
use native.Mathlib.Omega.{arith}
use lib.ListN.{set, length, length-set}
use lib.Seq.{get_or-set_same, get_or-set_other}
use lib.Ieee.{Float}
use Rattle.floats.specs.Vector.{at}
use Rattle.jet.specs.declared.Jet.{Jet}
use Rattle.numerics.specs.Numerics.{ln_of}
use Rattle.jet.specs.Jets.{ln_with, ln_j}
use Rattle.jet.specs.Planes.{jet_at}
use Rattle.excess.specs.Steps.{jet_of}

pub jet_first : (m : List Float) (e : ℕ) → ◌≡◌ {A = Jet} (record { v = at m e; d = at m (64 + e); dd = at m (128 + e) }) (jet_at m 0 e)
unfolding jet_at
jet_first m e = let z : 0 + e ≡ e = omega arith in rw z

-- the logarithm of a sum, where ln of its value is worked out beside another's
pub ln_is : {k : Float} {s S l : Jet} → l ≡ ln_with k s → k ≡ ln_of s.v → s ≡ S → l ≡ ln_j S
ln_is p q e = rw (p, q, e)

pub ln_one : {s S l : Jet} → l ≡ ln_j s → s ≡ S → l ≡ ln_j S
ln_one p e = rw (p, e)

-- ---- the first k of eight rows stand for F
pub record Rows (F : ℕ → Jet) (k : ℕ) (l : List Jet) : Type 0 where
  pub long : length l ≡ 8
  pub jet : (v : ℕ) → v < k → jet_of l v ≡ F v

pub rows_start : (F : ℕ → Jet) {l : List Jet} → length l ≡ 8 → Rows F 0 l
rows_start F e = record { long = e; jet = λ v l. absurd (omega arith) }

pub rows_next : (F : ℕ → Jet) (k : ℕ) {l : List Jet} {j : Jet} → k < 8 → j ≡ F k → Rows F k l → Rows F (k + 1) (set l k j)
rows_next F k {l} {j} h e r = record {
  long = length-set l k j ∙ r.long;
  jet = λ v q. ⊎_elim
      (λ (p : v ≡ k). rw p (get_or-set_same l k j _ (omega (arith, r.long)) ∙ e))
      (λ (p : v < k). get_or-set_other l k v j _ (omega arith) ∙ r.jet v p)
      (eq-or-lt_of_le (omega arith));
}

pub rows_done : (F : ℕ → Jet) (k n : ℕ) {l : List Jet} → k ≡ n → Rows F k l → Rows F n l
rows_done F k n e r = rw e at r
