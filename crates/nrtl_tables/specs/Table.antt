-- The table of a temperature: eight planes of 64 in one flat array, entry (i, j) of plane k at k * 64 + i * 8 + j. Assumes nothing.
use Rattle.std.specs.Prelude.{ℕ, ◌≡◌, cond, List, [], ◌∷◌, Float, Result, Ok, Err}
use Rattle.floats.specs.Vector.{at}
use Rattle.outcome.specs.declared.Refusal.{Refusal}
use Rattle.outcome.specs.declared.Refusal.TheVariants.{AlphaNotPositive}
use Rattle.jet.specs.declared.Jet.{Jet}
use Rattle.jet.specs.Jets.{mul_j}
use Rattle.jet.specs.Planes.{plane_rows}
use Rattle.nrtl_tables.specs.Pair.{tau_at, g_at, alphas_right}

-- where the planes of G, of H = τ G and of τ begin
abbrev pub g_plane : ℕ
g_plane = 0

abbrev pub h_plane : ℕ
h_plane = 192

abbrev pub tau_plane : ℕ
tau_plane = 384

-- what the table keeps of a pair: G, H = τ G, and τ without its second derivative
unfoldable pub kept_of : Jet → Jet → ℕ → Float
kept_of t g k = at (g.v ∷ g.d ∷ g.dd ∷ (mul_j t g).v ∷ (mul_j t g).d ∷ (mul_j t g).dd ∷ t.v ∷ t.d ∷ []) k

-- the first m rows of n entries each
abbrev pub table_rows : (ℕ → ℕ → Jet) → (ℕ → ℕ → Jet) → ℕ → ℕ → List Float → List Float
table_rows T G n m old = plane_rows (λ i j. kept_of (T i j) (G i j)) 8 n m old

-- an array after the tables of t are made in it: as it was where an α is refused
unfoldable pub table_of : List Float → ℕ → Float → List Float → List Float
table_of P n t old = cond (alphas_right P t n) (table_rows (tau_at P t) (g_at P t) n n old) old

-- question 24 as a result
unfoldable pub alphas_of : List Float → ℕ → Float → Result (Unit {0}) Refusal
alphas_of P n t = cond (alphas_right P t n) (Ok tt) (Err AlphaNotPositive)

-- what a call of `tables` gives
pub record Filled (P : List Float) (n : ℕ) (t : Float) (r : Result (Unit {0}) Refusal) (old new : List Float) : Type 0 where
  pub alphas : r ≡ alphas_of P n t
  pub table : new ≡ table_of P n t old
