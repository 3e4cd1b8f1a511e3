-- What a model's private functions leave: Jets side by side; of each solvent a sum S and a Jet R in one array of 32, and the partial sums of x_i R_i. Assumes nothing.
use Rattle.std.specs.Prelude.{ℕ, ◌+◌, ◌*◌, ◌<◌, ◌≡◌, List, [], ◌∷◌, length, get_or, Float}
use Rattle.std.specs.Float.{nan}
use Rattle.floats.specs.Fold.{fold_to}
use Rattle.floats.specs.Vector.{at, fill, fill_from}
use Rattle.jet.specs.declared.Jet.{Jet}
use Rattle.jet.specs.Jets.{add_j, scale_j, two_j, sum_jet_to}

-- kept of a solvent: S and R without second derivatives
unfoldable pub sums_kept : Jet → Jet → ℕ → Float
sums_kept s r k = at (s.v ∷ s.d ∷ r.v ∷ r.d ∷ []) k

-- the first n solvents
abbrev pub sums_in : (ℕ → Jet) → (ℕ → Jet) → ℕ → List Float → List Float
sums_in S R n old = fold_to (λ i (l : List Float). fill_from (sums_kept (S i) (R i)) (i * 4) 4 l) old n

abbrev pub two_of : List Float → ℕ → Jet
two_of l k = two_j (at l k) (at l (k + 1))

abbrev pub s_in : List Float → ℕ → Jet
s_in l j = two_of l (j * 4)

abbrev pub r_in : List Float → ℕ → Jet
r_in l j = two_of l (j * 4 + 2)

-- turn i of the sums: the next partial sum of x_i R_i, and the array
pub record SumTurn (S R : ℕ → Jet) (x : ℕ → Float) (i : ℕ) (e r : Jet) (old new : List Float) : Type 0 where
  pub next : r ≡ add_j e (scale_j (R i) (x i))
  pub kept : new ≡ fill_from (sums_kept (S i) (R i)) (i * 4) 4 old

-- the sums up to k
pub record SumsTo (S R : ℕ → Jet) (x : ℕ → Float) (k : ℕ) (r : Jet) (old new : List Float) : Type 0 where
  pub total : r ≡ sum_jet_to (λ i. scale_j (R i) (x i)) k
  pub kept : new ≡ sums_in S R k old

-- Jet w of an array; past the end NaNs, as the code's own reading has it
abbrev pub jet_of : List Jet → ℕ → Jet
jet_of l w = get_or l w (record { v = nan; d = nan; dd = nan })

-- the W Jets of an array are F i to F (i + W - 1)
pub record Side (F : ℕ → Jet) (i W : ℕ) (l : List Jet) : Type 0 where
  pub long : length l ≡ W
  pub jet : (w : ℕ) → w < W → jet_of l w ≡ F (i + w)

-- ln γ up to k, value and slope
pub record GammasTo (L : ℕ → Jet) (k : ℕ) (lg₀ sl₀ lg sl : List Float) : Type 0 where
  pub values : lg ≡ fill (λ i. (L i).v) k lg₀
  pub slopes : sl ≡ fill (λ i. (L i).d) k sl₀
