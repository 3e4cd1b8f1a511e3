-- On a table that `tables` made, NRTL of the table is NRTL of the parameters: H = τ G is the product that the definition takes, C / S once
-- is C / S each time, and Jets without second derivatives give the same values and slopes. Assumes nothing.
use Prim.Native.Nat.{ℕ, ◌+◌, ◌*◌, ◌<◌, ◌≤◌}
use mathlib.Core.Path.{◌≡◌, refl, ap}
use mathlib.Core.Bool.{Bool, true, false, cond}
use mathlib.Core.List.{List}
use native.Mathlib.Omega.{arith}
use lib.ListN.{length}
use lib.Ieee.{Float}
use Rattle.std.specs.Prelude.{Ok, Err}
use Rattle.floats.specs.Vector.{at}
use Rattle.floats.specs.Outcome.{need, bind}
use Rattle.outcome.specs.declared.Refusal.TheVariants.{AlphaNotPositive}
use Rattle.outcome.specs.Refused.{outcome_of}
use Rattle.jet.specs.declared.Jet.{Jet}
use Rattle.jet.specs.Jets.{scale_j, mul_j, two_j}
use Rattle.jet.specs.Planes.{jet_at, jets, twos, first_two}
use Rattle.jet.proofs.Sums.{sum_jet_cong}
use Rattle.jet.proofs.Planes.{rows_at, jet_is, two_is, first-near, twos-near}
use Rattle.jet.proofs.Near.{◌≃◌, two-near, scale-near, div-near, sub-near, mul-near, sum_near}
use Rattle.nrtl_tables.specs.Pair.{tau_at, g_at, alphas_right}
use Rattle.nrtl_tables.specs.Table.{g_plane, h_plane, tau_plane, kept_of, table_rows, table_of, alphas_of}
use Rattle.excess.specs.State.{state_from}
use Rattle.excess.proofs.Ways.{state-near}
use Rattle.nrtl.specs.Columns.{col_s, col_c, ratio, term_j, ln_from, gibbs_from, ln_gamma_j, reduced_j}
use Rattle.nrtl.specs.State.{nrtl_of}
use Rattle.nrtl.specs.On.{s_on, r_on, ln_gamma_on, reduced_on, passing, nrtl_on}

-- the table m stands for τ and G, below n
pub record TableOf (T G : ℕ → ℕ → Jet) (n : ℕ) (m : List Float) : Type 0 where
  pub g : (i j : ℕ) → i < n → j < n → jets m g_plane i j ≡ G i j
  pub h : (i j : ℕ) → i < n → j < n → jets m h_plane i j ≡ mul_j (T i j) (G i j)
  pub tau : (i j : ℕ) → i < n → j < n → twos m tau_plane i j ≡ first_two (T i j)

pub rows_stand : (T G : ℕ → ℕ → Jet) (n : ℕ) (old : List Float) → length old ≡ 512 → n ≤ 8 → TableOf T G n (table_rows T G n n old)
unfolding jet_at kept_of
rows_stand T G n old len n8 = record {
  g = λ i j a b. jet_is (G i j) (e i j a b 0 (omega arith)) (e i j a b 1 (omega arith)) (e i j a b 2 (omega arith));
  h = λ i j a b. jet_is (mul_j (T i j) (G i j)) (e i j a b 3 (omega arith)) (e i j a b 4 (omega arith)) (e i j a b 5 (omega arith));
  tau = λ i j a b. two_is (e i j a b 6 (omega arith)) (e i j a b 7 (omega arith));
}
  where
    e : (i j : ℕ) → i < n → j < n → (k : ℕ) → k < 8 → at (table_rows T G n n old) (k * 64 + (i * 8 + j)) ≡ kept_of (T i j) (G i j) k
    e i j a b k k8 = rows_at (λ i j. kept_of (T i j) (G i j)) 8 n n old k i j len (omega arith) n8 n8 k8 a b

term-near : {t t' g g' s s' r r' : Jet} (x : Float) → t ≃ t' → g ≃ g' → s ≃ s' → r ≃ r' → term_j t g s r x ≃ term_j t' g' s' r' x
unfolding term_j
term-near x t g s r = mul-near (div-near (scale-near x g) s) (sub-near t r)

module _ (T G : ℕ → ℕ → Jet) (n : ℕ) (m : List Float) (s : TableOf T G n m) (x : ℕ → Float) where
  s-is : (k : ℕ) → k < n → s_on m x n k ≡ col_s G x n k
  unfolding col_s
  s-is k l = sum_jet_cong n refl (λ i a. ap (λ (j : Jet). scale_j j (x i)) (s.g i k a l))

  c-is : (k : ℕ) → k < n → col_s (jets m h_plane) x n k ≡ col_c T G x n k
  unfolding col_s col_c
  c-is k l = sum_jet_cong n refl (λ i a. ap (λ (j : Jet). scale_j j (x i)) (s.h i k a l))

  r-is : (k : ℕ) → k < n → r_on m x n k ≡ ratio T G x n k
  r-is k l = rw (s-is k l, c-is k l)

  pub reduced-is : reduced_on m x n ≡ reduced_j T G x n
  unfolding gibbs_from
  reduced-is = sum_jet_cong n refl (λ i a. ap (λ (j : Jet). scale_j j (x i)) (r-is i a))

  g-near : (i j : ℕ) → i < n → j < n → twos m g_plane i j ≃ G i j
  g-near i j a b = twos-near m g_plane i j (s.g i j a b)

  t-near : (i j : ℕ) → i < n → j < n → twos m tau_plane i j ≃ T i j
  unfolding two_j
  t-near i j a b = two-near (ap (λ (q : Jet). q.v) (s.tau i j a b)) (ap (λ (q : Jet). q.d) (s.tau i j a b))

  pub ln-near : (i : ℕ) → i < n → ln_gamma_on m x n i ≃ ln_gamma_j T G x n i
  unfolding ln_from
  ln-near i l =
      sum_near _ _ n (first-near (r-is i l)) (λ j h. term-near (x j) (t-near i j l h) (g-near i j l h) (first-near (s-is j h)) (first-near (r-is j h)))

module _ (P : List Float) (n : ℕ) (t : Float) (old : List Float) (len : length old ≡ 512) (n8 : n ≤ 8) (x : ℕ → Float) where
  filled : state_from (reduced_on (table_rows (tau_at P t) (g_at P t) n n old) x n) (ln_gamma_on (table_rows (tau_at P t) (g_at P t) n n old) x n) n t
      ≡ state_from (reduced_j (tau_at P t) (g_at P t) x n) (ln_gamma_j (tau_at P t) (g_at P t) x n) n t
  filled =
      let s = rows_stand (tau_at P t) (g_at P t) n old len n8 in
      state-near _ _ n t (reduced-is (tau_at P t) (g_at P t) n _ s x) (ln-near (tau_at P t) (g_at P t) n _ s x)

  inner : (b : Bool)
      → passing (outcome_of (cond b (Ok tt) (Err AlphaNotPositive)))
      (state_from (reduced_on (cond b (table_rows (tau_at P t) (g_at P t) n n old) old) x n) (ln_gamma_on (cond b (table_rows (tau_at P t) (g_at P t) n n old) old) x n) n t)
      ≡ need b 24 (state_from (reduced_j (tau_at P t) (g_at P t) x n) (ln_gamma_j (tau_at P t) (g_at P t) x n) n t)
  unfolding passing need bind
  inner true = filled
  inner false = refl

  -- the law: a table and a result of `tables` carry the parameters
  pub nrtl_filled : nrtl_on (table_of P n t old) (outcome_of (alphas_of P n t)) n t x ≡ nrtl_of P n t x
  unfolding nrtl_on nrtl_of table_of alphas_of
  nrtl_filled = rw (inner (alphas_right P t n))
