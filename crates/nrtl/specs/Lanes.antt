-- Jets of solvents side by side in an array of 24: entry i of plane k (value, slope, second derivative) at k * 8 + i. Assumes nothing.
use Rattle.std.specs.Prelude.{ℕ, ◌+◌, ◌*◌, ◌%◌, ◌≡◌, List, [], ◌∷◌, set, Float}
use Rattle.floats.specs.Arithmetic.{0f}
use Rattle.floats.specs.Fold.{fold_to}
use Rattle.floats.specs.Vector.{at}
use Rattle.jet.specs.declared.Jet.{Jet}
use Rattle.jet.specs.Jets.{two_j}

unfoldable pub parts_of : Jet → ℕ → Float
parts_of j k = at (j.v ∷ j.d ∷ j.dd ∷ []) k

-- the first m parts of j in lane i; of F 0 to F (w - 1) in theirs; of F i to F (i + w - 1)
abbrev pub lane : Jet → ℕ → ℕ → List Float → List Float
lane j i m old = fold_to (λ k (l : List Float). set l (k * 8 + i) (parts_of j k)) old m

abbrev pub lanes : (ℕ → Jet) → ℕ → ℕ → List Float → List Float
lanes F m w old = fold_to (λ i (l : List Float). lane (F i) i m l) old w

abbrev pub lanes_from : (ℕ → Jet) → ℕ → ℕ → ℕ → List Float → List Float
lanes_from F m i w old = fold_to (λ v (l : List Float). lane (F (i + v)) (i + v) m l) old w

-- the Jet of lane i, and its first two
unfoldable pub jet_in : List Float → ℕ → Jet
jet_in l i = record { v = at l i; d = at l (8 + i); dd = at l (16 + i) }

abbrev pub two_in : List Float → ℕ → Jet
two_in l i = two_j (at l i) (at l (8 + i))

-- ---- an odd n
-- n rounded up to an even number
abbrev pub evened : ℕ → ℕ
evened n = n + n % 2

-- the entry past an odd n is +0, nothing else changed
pub record Cleared (n : ℕ) (old new : List Float) : Type 0 where
  pub odd : n % 2 ≡ 1 → new ≡ set old n 0f
  pub even : n % 2 ≡ 0 → new ≡ old
