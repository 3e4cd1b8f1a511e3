-- Lanes: for each pair (j, i), j < i, the Jets of (j, i) and of (i, j) side by side, row by row: (0, 1), (0, 2), (1, 2) and on. Assumes nothing.
use Rattle.std.specs.Prelude.{ℕ, zero, suc, ◌+◌, ◌*◌, ◌<◌, ◌≡◌, cond, eqb, List, set, get_or, Float}
use Rattle.std.specs.Float.{nan}
use Rattle.floats.specs.Fold.{fold_to}
use Rattle.numerics.specs.Numerics.{exp_of}
use Rattle.jet.specs.declared.Jet.{Jet}
use Rattle.jet.specs.declared.Two.{Two}
use Rattle.jet.specs.declared.Lane.{Lane}
use Rattle.jet.specs.Jets.{exp_with}
use Rattle.jet.specs.Planes.{six}

unfoldable pub two_of : Jet → Jet → Two
two_of a b = record { v0 = a.v; v1 = b.v; d0 = a.d; d1 = b.d; dd0 = a.dd; dd1 = b.dd }

unfoldable pub first_of : Two → Jet
first_of t = record { v = t.v0; d = t.d0; dd = t.dd0 }

unfoldable pub second_of : Two → Jet
second_of t = record { v = t.v1; d = t.d1; dd = t.dd1 }

-- with the exponentials of the values in their place
unfoldable pub raised_two : Two → Two
raised_two t = record { v0 = exp_of t.v0; v1 = exp_of t.v1; d0 = t.d0; d1 = t.d1; dd0 = t.dd0; dd1 = t.dd1 }

-- from the six parameters p of (j, i) and q of (i, j)
unfoldable pub lane_of : (List Float → Jet) → (List Float → Jet) → List Float → List Float → Lane
lane_of B E p q = record { beside = two_of (B p) (B q); exponent = two_of (E p) (E q) }

abbrev pub lane_in : (List Float → Jet) → (List Float → Jet) → (ℕ → ℕ → List Float) → ℕ → ℕ → Lane
lane_in B E S j i = lane_of B E (S j i) (S i j)

unfoldable pub raised_lane : Lane → Lane
raised_lane l = record { beside = l.beside; exponent = raised_two l.exponent }

-- how many pairs the first n solvents have
unfoldable pub triangle : ℕ → ℕ
triangle zero = 0
triangle (suc n) = triangle n + n

-- F j i at place q + j, for j below r; and for each i below n, from place triangle i on
abbrev pub laid_border : (ℕ → ℕ → Lane) → ℕ → ℕ → ℕ → List Lane → List Lane
laid_border F i q r old = fold_to (λ j (l : List Lane). set l (q + j) (F j i)) old r

abbrev pub laid : (ℕ → ℕ → Lane) → ℕ → List Lane → List Lane
laid F n old = fold_to (λ i (l : List Lane). laid_border F i (triangle i) i l) old n

-- what the code reads past the end
abbrev pub no_two : Two
no_two = record { v0 = nan; v1 = nan; d0 = nan; d1 = nan; dd0 = nan; dd1 = nan }

abbrev pub no_lane : Lane
no_lane = record { beside = no_two; exponent = no_two }

-- the first n raised
abbrev pub raised_to : ℕ → List Lane → List Lane
raised_to n old = fold_to (λ k (l : List Lane). set l k (raised_lane (get_or l k no_lane))) old n

-- of a raised lane, G of (j, i) and of (i, j)
abbrev pub first_g : Lane → Jet
first_g l = exp_with l.exponent.v0 (first_of l.exponent)

abbrev pub second_g : Lane → Jet
second_g l = exp_with l.exponent.v1 (second_of l.exponent)

-- f j i and f i j are made of the lane
pub record Makes (m : Jet → Jet → ℕ → Float) (l : Lane) (f : ℕ → ℕ → ℕ → Float) (j i : ℕ) : Type 0 where
  pub first : m (first_of l.beside) (first_g l) ≡ f j i
  pub second : m (second_of l.beside) (second_g l) ≡ f i j

abbrev pub Lies : (Jet → Jet → ℕ → Float) → List Lane → (ℕ → ℕ → ℕ → Float) → ℕ → ℕ → ℕ → Type 0
Lies m L f i q r = (j : ℕ) → j < r → Makes m (get_or L (q + j) no_lane) f j i

pub record AllLie (m : Jet → Jet → ℕ → Float) (own : ℕ → Float) (L : List Lane) (f : ℕ → ℕ → ℕ → Float) (n : ℕ) : Type 0 where
  pub pairs : (i : ℕ) → i < n → Lies m L f i (triangle i) i
  pub diagonal : (i : ℕ) → i < n → own ≡ f i i

-- entry (i, j) of plane k: f of the pair's six parameters, and g of a solvent with itself
unfoldable pub cell_in : (List Float → ℕ → Float) → (ℕ → Float) → (ℕ → ℕ → List Float) → ℕ → ℕ → ℕ → Float
cell_in f g S i j = cond (eqb i j) g (f (S i j))

-- a source of n solvents gives what the flat list P has
abbrev pub Lists : (ℕ → ℕ → List Float) → ℕ → List Float → Type 0
Lists S n P = (i j : ℕ) → i < n → j < n → (i ≡ j → ⊥) → S i j ≡ six P (i * 8 + j)
