-- The table of a temperature: Λ in the first three planes of a flat array of 512. Assumes nothing.
use Rattle.std.specs.Prelude.{ℕ, List, [], ◌∷◌, Float}
use Rattle.floats.specs.Vector.{at}
use Rattle.jet.specs.declared.Jet.{Jet}
use Rattle.jet.specs.Planes.{plane_rows}
use Rattle.wilson_tables.specs.Pair.{lambda_ij}

-- what the table keeps of a pair
unfoldable pub kept_of : Jet → ℕ → Float
kept_of l k = at (l.v ∷ l.d ∷ l.dd ∷ []) k

-- the first r rows of n entries
abbrev pub lambda_rows : (ℕ → ℕ → Jet) → ℕ → ℕ → List Float → List Float
lambda_rows L n r old = plane_rows (λ i j. kept_of (L i j)) 3 n r old

-- an array after the table of t is made in it
unfoldable pub lambdas_of : List Float → ℕ → Float → List Float → List Float
lambdas_of P n t old = lambda_rows (lambda_ij P t) n n old
