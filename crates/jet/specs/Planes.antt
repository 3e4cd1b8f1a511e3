-- Jets of ordered pairs in a flat table of planes of 64: entry (i, j) of plane k at k * 64 + i * 8 + j. Assumes nothing.
use Rattle.std.specs.Prelude.{ℕ, ◌+◌, ◌*◌, ◌<◌, ◌≡◌, List, [], ◌∷◌, set, Float}
use Rattle.floats.specs.Fold.{fold_to}
use Rattle.floats.specs.Vector.{at}
use Rattle.jet.specs.declared.Jet.{Jet}
use Rattle.jet.specs.Jets.{two_j}

-- f k at place e of plane k, for each of the first m planes
abbrev pub spread : (ℕ → Float) → ℕ → ℕ → List Float → List Float
spread f e m old = fold_to (λ k (l : List Float). set l (k * 64 + e) (f k)) old m

-- the first n entries of row i, m planes of each
abbrev pub plane_row : (ℕ → ℕ → Float) → ℕ → ℕ → ℕ → List Float → List Float
plane_row f m i n old = fold_to (λ j (l : List Float). spread (f j) (i * 8 + j) m l) old n

-- the first r rows of n entries each
abbrev pub plane_rows : (ℕ → ℕ → ℕ → Float) → ℕ → ℕ → ℕ → List Float → List Float
plane_rows f m n r old = fold_to (λ i (l : List Float). plane_row (f i) m i n l) old r

-- (i, j) and (j, i) for j below n
abbrev pub plane_pairs : (ℕ → ℕ → ℕ → Float) → ℕ → ℕ → ℕ → List Float → List Float
plane_pairs f m i n old = fold_to (λ j (l : List Float). spread (f j i) (j * 8 + i) m (spread (f i j) (i * 8 + j) m l)) old n

-- the first m entries of l are f 0 to f (m - 1)
abbrev pub Holds : (ℕ → Float) → ℕ → List Float → Type 0
Holds f m l = (k : ℕ) → k < m → at l k ≡ f k

-- the six parameters of the pair at e = i * 8 + j, in a flat list from e * 6 on
abbrev pub six : List Float → ℕ → List Float
six P e = at P (e * 6) ∷ at P (e * 6 + 1) ∷ at P (e * 6 + 2) ∷ at P (e * 6 + 3) ∷ at P (e * 6 + 4) ∷ at P (e * 6 + 5) ∷ []

-- the Jet whose three planes begin at b, and the one of two planes
unfoldable pub jet_at : List Float → ℕ → ℕ → Jet
jet_at m b e = record { v = at m (b + e); d = at m (b + 64 + e); dd = at m (b + 128 + e) }

abbrev pub two_at : List Float → ℕ → ℕ → Jet
two_at m b e = two_j (at m (b + e)) (at m (b + 64 + e))

-- entry (i, j)
abbrev pub jets : List Float → ℕ → ℕ → ℕ → Jet
jets m b i j = jet_at m b (i * 8 + j)

abbrev pub twos : List Float → ℕ → ℕ → ℕ → Jet
twos m b i j = two_at m b (i * 8 + j)

-- value and slope alone
abbrev pub first_two : Jet → Jet
first_two j = two_j j.v j.d
