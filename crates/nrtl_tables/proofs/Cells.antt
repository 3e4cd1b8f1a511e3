-- A pair's cells from its six parameters are those of the definitions; the two ways out of `tables`. Assumes nothing.
use Prim.Native.Nat.{ℕ, ◌+◌, ◌*◌, ◌<◌}
use mathlib.Core.Path.{◌≡◌, refl, sym, ◌∙◌}
use mathlib.Core.Bool.{Bool, true, false, not, cond, ◌&&◌, true≢false}
use mathlib.Core.List.{List}
use native.Mathlib.Omega.{arith}
use borrow.Author.Tests.{eq-eqb, ne_eqb, eqb-true, eqb-false, ltb-true, ltb-false}
use lib.Dec.{T, eqb, ltb}
use lib.Ieee.{Float, nan, inf, fin, lt, le, is_nan, of_bits}
use Rattle.std.specs.Prelude.{Ok, Err}
use Rattle.std.proofs.lemmas.Float.{lt_of_not-le, lt_of_lt_of_le}
use Rattle.floats.specs.Arithmetic.{0f, 1f}
use Rattle.floats.specs.Fold.{all_to}
use Rattle.floats.proofs.Folds.{all_at}
use Rattle.floats.proofs.Chains.{all_each}
use Rattle.outcome.specs.declared.Refusal.TheVariants.{AlphaNotPositive}
use Rattle.jet.specs.Jets.{const_j, exp_j}
use Rattle.jet.specs.Planes.{six, plane_rows}
use Rattle.jet.specs.Lanes.{cell_in, Lists}
use Rattle.jet.proofs.Planes.{rows_same}
use Rattle.nrtl_tables.specs.declared.Basis.{Basis}
use Rattle.nrtl_tables.specs.Pair.{basis_of, tau_j, alpha_j, exponent_j, tau_ij, g_ij, alpha_right, all_right, alpha_above, both_above, all_above}
use Rattle.nrtl_tables.specs.Table.{kept_of, table_of, alphas_of, Filled}

T-true : {b : Bool} → b ≡ true → T b
T-true e = rw e tt

T-false : {b : Bool} → b ≡ false → T b → ⊥
T-false e t = rw e at t

T-not : {b : Bool} → b ≡ false → T (not b)
T-not e = rw e tt

-- neither a NaN nor ≤ 0: above 0
pub positive_is : (v : Float) → lt 0f v ≡ cond (is_nan v) false (not (le v 0f))
unfolding lt le is_nan of_bits
positive_is nan = refl
positive_is (inf true) = refl
positive_is (inf false) = refl
positive_is (fin s m e) = go (lt 0f (fin s m e)) (le (fin s m e) 0f) refl refl
  where
    go : (a b : Bool) → lt 0f (fin s m e) ≡ a → le (fin s m e) 0f ≡ b → a ≡ not b
    go true false p q = refl
    go false true p q = refl
    go true true p q = absurd (lt_of_lt_of_le 0f (fin s m e) 0f (T-true p) (T-true q))
    go false false p q = absurd (T-false p (lt_of_not-le (fin s m e) 0f tt tt (T-not q)))

-- what `Pairs` keeps of one pair, and of a solvent with itself
abbrev pub cells : Basis → List Float → ℕ → Float
cells b p = kept_of (tau_j p b 0) (exp_j (exponent_j p b 0))

abbrev pub own_cells : ℕ → Float
own_cells = kept_of (const_j 0f) (const_j 1f)

-- ---- question 24, of the pairs (j, i), j < i, and of all
same : (a b : Bool) → (a ≡ true → b ≡ true) → (b ≡ true → a ≡ true) → a ≡ b
same true b f g = sym (f refl)
same false true f g = g refl
same false false f g = refl

first : (a b : Bool) → a && b ≡ true → a ≡ true
first true b e = refl
first false b e = e

second : (a b : Bool) → a && b ≡ true → b ≡ true
second true b e = e
second false b e = absurd (true≢false (sym e))

module _ (S : ℕ → ℕ → List Float) (P : List Float) (b : Basis) (n : ℕ) (lists : Lists S n P) where
  right-is : (i j : ℕ) → i < n → j < n → (i ≡ j → ⊥) → alpha_right P b i j ≡ alpha_above b (S i j)
  unfolding alpha_right alpha_above alpha_j
  right-is i j h l d = rw (ne_eqb i j d, lists i j h l d) (sym (positive_is (alpha_j (six P (i * 8 + j)) b 0).v))

  right-own : (i : ℕ) → alpha_right P b i i ≡ true
  unfolding alpha_right
  right-own i = rw (eq-eqb i i refl)

  to-pairs : all_right P b n ≡ true → all_above b S n ≡ true
  unfolding all_right all_above both_above
  to-pairs e =
      all_each (λ i. all_to (λ j. alpha_above b (S j i) && alpha_above b (S i j)) i) n
      (λ i h. all_each (λ j. alpha_above b (S j i) && alpha_above b (S i j)) i
      (λ j l.
      let down : alpha_above b (S j i) ≡ true = sym (right-is j i (omega arith) h (λ d. omega arith)) ∙ at-pair e j i (omega arith) h in
      let up : alpha_above b (S i j) ≡ true = sym (right-is i j h (omega arith) (λ d. omega arith)) ∙ at-pair e i j h (omega arith) in
      rw (down, up)))
    where
      at-pair : all_to (λ i. all_to (alpha_right P b i) n) n ≡ true → (i j : ℕ) → i < n → j < n → alpha_right P b i j ≡ true
      at-pair e i j h l = all_at (alpha_right P b i) n j l (all_at (λ i. all_to (alpha_right P b i) n) n i h e)

  from-pairs : all_above b S n ≡ true → all_right P b n ≡ true
  unfolding all_right all_above both_above
  from-pairs e = all_each (λ i. all_to (alpha_right P b i) n) n (λ i h. all_each (alpha_right P b i) n (λ j l. pick i j h l (eqb i j) refl (ltb i j) refl))
    where
      at-pair : (i j : ℕ) → i < n → j < i → alpha_above b (S j i) && alpha_above b (S i j) ≡ true
      at-pair i j h l =
          all_at (λ j. alpha_above b (S j i) && alpha_above b (S i j)) i j l (all_at (λ i. all_to (λ j. alpha_above b (S j i) && alpha_above b (S i j)) i) n i h e)

      pick : (i j : ℕ) → i < n → j < n → (c : Bool) → eqb i j ≡ c → (d : Bool) → ltb i j ≡ d → alpha_right P b i j ≡ true
      pick i j h l true q d p = let k : i ≡ j = eqb-true i j q in rw k (right-own j)
      pick i j h l false q true p = right-is i j h l (eqb-false i j q) ∙ first (alpha_above b (S i j)) (alpha_above b (S j i)) (at-pair j i l (ltb-true i j p))
      pick i j h l false q false p =
          let k : j < i = omega (arith, ltb-false i j p, eqb-false i j q) in
          right-is i j h l (eqb-false i j q) ∙ second (alpha_above b (S j i)) (alpha_above b (S i j)) (at-pair i j h k)

  pub above_is : all_above b S n ≡ all_right P b n
  above_is = same (all_above b S n) (all_right P b n) from-pairs to-pairs

  -- ---- the cells
  cell_is : (i j k : ℕ) → i < n → j < n → cell_in (cells b) own_cells S i j k ≡ kept_of (tau_ij P b i j) (g_ij P b i j) k
  unfolding cell_in tau_ij g_ij tau_j alpha_j exponent_j
  cell_is i j k h l = go (eqb i j) refl
    where
      go : (c : Bool) → eqb i j ≡ c → cell_in (cells b) own_cells S i j k ≡ kept_of (tau_ij P b i j) (g_ij P b i j) k
      go true e = rw e
      go false e = rw (e, lists i j h l (eqb-false i j e))

module _ (S : ℕ → ℕ → List Float) (P : List Float) (n : ℕ) (t : Float) (old : List Float) (lists : Lists S n P) {b : Basis} (e : b ≡ basis_of t) where
  pub filled-no : false ≡ all_above b S n → Filled P n t (Err AlphaNotPositive) old old
  unfolding alphas_of table_of
  filled-no p = let q : false ≡ all_right P b n = p ∙ above_is S P b n lists in record { alphas = rw (← e, ← q); table = rw (← e, ← q) }

  pub filled_yes : {new : List Float} → true ≡ all_above b S n → new ≡ plane_rows (cell_in (cells b) own_cells S) 8 n n old → Filled P n t (Ok tt) old new
  unfolding alphas_of table_of
  filled_yes a p =
      let q : true ≡ all_right P b n = a ∙ above_is S P b n lists in
      record { alphas = rw (← e, ← q); table = rw (← e, ← q) (p ∙ rows_same 8 n n old (λ i j k h l. cell_is S P b n lists i j k h l)) }
