-- One turn of each loop of a model and its end, and what the array of sums then holds of each solvent. Assumes nothing.
use Prim.Native.Nat.{ℕ, zero, suc, ◌+◌, ◌*◌, ◌<◌, ◌≤◌}
use mathlib.Core.Path.{◌≡◌, refl, ◌∙◌, ap}
use mathlib.Core.Logic.{⊎_elim}
use mathlib.Core.List.{List}
use native.Mathlib.Nat.{eq-or-lt_of_le}
use native.Mathlib.Omega.{arith}
use lib.ListN.{set, length, replicate, length-set, length-replicate, get_or-replicate}
use lib.Seq.{get_or-set_same, get_or-set_other}
use lib.Ieee.{Float, nan}
use Rattle.floats.specs.Fold.{fold_to}
use Rattle.floats.specs.Vector.{at, fill, fill_from}
use Rattle.floats.proofs.Folds.{fold_turn}
use Rattle.floats.proofs.Fills.{fill_from_length, fill_from-at, fill_from_before}
use Rattle.jet.specs.declared.Jet.{Jet}
use Rattle.jet.specs.Jets.{add_j, scale_j}
use Rattle.jet.specs.Planes.{first_two}
use Rattle.jet.proofs.Sums.{sum_jet_turn}
use Rattle.jet.proofs.Planes.{two_is}
use Rattle.excess.specs.Steps.{sums_kept, sums_in, s_in, r_in, SumTurn, SumsTo, jet_of, Side, GammasTo}

-- ---- the sums

-- the code's s, c, p and r: S_i, R_i, that times x_i, and the next partial sum
pub sum-turn : (S R : ℕ → Jet) (x : ℕ → Float) (i : ℕ) (old : List Float) {e r s c p : Jet} → s ≡ S i → c ≡ R i → p ≡ scale_j c (x i) → r ≡ add_j e p
    → SumTurn S R x i e r old (set (set (set (set old (i * 4) s.v) (i * 4 + 1) s.d) (i * 4 + 2) c.v) (i * 4 + 3) c.d)
unfolding fill_from sums_kept
sum-turn S R x i old {e} ps pc pp pr =
    let z : i * 4 + 0 ≡ i * 4 = omega arith in
    record {
      next = pr ∙ ap (add_j e) (pp ∙ ap (λ (j : Jet). scale_j j (x i)) pc);
      kept = rw (ps, pc, z);
    }

-- of a sum and a Jet that stand for S_i and R_i
pub sum_same : (S R : ℕ → Jet) (x : ℕ → Float) (i : ℕ) {s c e r : Jet} {old new : List Float} → s ≡ S i → c ≡ R i → SumTurn (λ _. s) (λ _. c) x i e r old new → SumTurn S R x i e r old new
sum_same S R x i ps pc t = record {
  next = t.next ∙ rw pc;
  kept = t.kept ∙ rw (ps, pc);
}

pub sums-turn : (S R : ℕ → Jet) (x : ℕ → Float) (k : ℕ) (old : List Float) {e r : Jet} {mid new : List Float} → SumTurn S R x k e r mid new
    → SumsTo S R x k e old mid → SumsTo S R x (k + 1) r old new
sums-turn S R x k old p q = record {
  total = sum_jet_turn _ _ k p.next refl q.total;
  kept = fold_turn _ _ k p.kept q.kept;
}

pub sums_done : (S R : ℕ → Jet) (x : ℕ → Float) (k n : ℕ) {e : Jet} {old new : List Float} → k ≡ n → SumsTo S R x k e old new → SumsTo S R x n e old new
sums_done S R x k n e p = rw e at p

-- ---- Jets side by side

module _ {F : ℕ → Jet} {i W : ℕ} where
  pub side-same : {z : Jet} → ((v : ℕ) → v < W → z ≡ F (i + v)) → Side F i W (replicate W z)
  side-same {z} e = record { long = length-replicate W z; jet = λ v l. get_or-replicate W v z _ l ∙ e v l }

-- those before w are those of G already, the others of F still
pub record Turning (F G : ℕ → Jet) (i w W : ℕ) (l : List Jet) : Type 0 where
  pub long : length l ≡ W
  pub turned : (v : ℕ) → v < w → jet_of l v ≡ G (i + v)
  pub left : (v : ℕ) → w ≤ v → v < W → jet_of l v ≡ F (i + v)

module _ {F G : ℕ → Jet} {i W : ℕ} {l : List Jet} where
  pub turning-start : Side F i W l → Turning F G i 0 W l
  turning-start s = record { long = s.long; turned = λ v l. absurd (omega arith); left = λ v z l. s.jet v l }

  pub turning-next : (w : ℕ) {j : Jet} → w < W → j ≡ G (i + w) → Turning F G i w W l → Turning F G i (w + 1) W (set l w j)
  turning-next w {j} h e t = record {
    long = length-set l w j ∙ t.long;
    turned = λ v q. ⊎_elim
        (λ (p : v ≡ w). rw p (get_or-set_same l w j _ (omega (arith, t.long)) ∙ e))
        (λ (p : v < w). get_or-set_other l w v j _ (omega arith) ∙ t.turned v p)
        (eq-or-lt_of_le (omega arith));
    left = λ v q r. get_or-set_other l w v j _ (omega arith) ∙ t.left v (omega arith) r;
  }

  pub turning-done : (w : ℕ) → W ≤ w → Turning F G i w W l → Side G i W l
  turning-done w h t = record { long = t.long; jet = λ v q. t.turned v (omega arith) }

-- ---- ln γ

-- f from i on, behind what stands to there
fill_more : (f h : ℕ → Float) (i n : ℕ) (old : List Float) → ((w : ℕ) → w < n → h w ≡ f (i + w)) → fill_from h i n (fill f i old) ≡ fill f (i + n) old
unfolding fill fill_from
fill_more f h i zero old e = let z : i + 0 ≡ i = omega arith in rw z
fill_more f h i (suc n) old e =
    let z : i + suc n ≡ suc (i + n) = omega arith in
    let p : fill_from h i n (fill f i old) ≡ fill f (i + n) old = fill_more f h i n old (λ w l. e w (omega arith)) in
    let q : h n ≡ f (i + n) = e n (omega arith) in
    rw (z, p, q)

-- W solvents more, stored one array after the other
pub gammas_more : (L : ℕ → Jet) (i W : ℕ) (l : List Jet) {lg₀ sl₀ lg sl lg' sl' : List Float} → Side L i W l → lg' ≡ fill_from (λ w. (jet_of l w).v) i W lg
    → sl' ≡ fill_from (λ w. (jet_of l w).d) i W sl → GammasTo L i lg₀ sl₀ lg sl → GammasTo L (i + W) lg₀ sl₀ lg' sl'
gammas_more L i W l {lg₀} {sl₀} p v d g = record {
  values = v ∙ ap (fill_from (λ w. (jet_of l w).v) i W) g.values ∙ fill_more (λ k. (L k).v) (λ w. (jet_of l w).v) i W lg₀ (λ w h. ap (λ (j : Jet). j.v) (p.jet w h));
  slopes = d ∙ ap (fill_from (λ w. (jet_of l w).d) i W) g.slopes ∙ fill_more (λ k. (L k).d) (λ w. (jet_of l w).d) i W sl₀ (λ w h. ap (λ (j : Jet). j.d) (p.jet w h));
}

pub gammas_done : (L : ℕ → Jet) (k n : ℕ) {lg₀ sl₀ lg sl : List Float} → k ≡ n → GammasTo L k lg₀ sl₀ lg sl → GammasTo L n lg₀ sl₀ lg sl
gammas_done L k n e p = rw e at p

-- ---- the array of sums
sums_length : (S R : ℕ → Jet) (n : ℕ) (l : List Float) → length (sums_in S R n l) ≡ length l
unfolding fold_to
sums_length S R zero l = refl
sums_length S R (suc n) l = fill_from_length (sums_kept (S n) (R n)) (n * 4) 4 (sums_in S R n l) ∙ sums_length S R n l

sums_at : (S R : ℕ → Jet) (n : ℕ) (l : List Float) (i k : ℕ) → length l ≡ 32 → n ≤ 8 → i < n → k < 4 → at (sums_in S R n l) (i * 4 + k) ≡ sums_kept (S i) (R i) k
unfolding fold_to
sums_at S R zero l i k s n8 il kl = absurd (omega arith)
sums_at S R (suc n) l i k s n8 il kl =
    ⊎_elim
    (λ (p : i ≡ n). rw p (fill_from-at (sums_kept (S n) (R n)) (n * 4) 4 (sums_in S R n l) nan k (omega (arith, sums_length S R n l)) kl))
    (λ (p : i < n). fill_from_before (sums_kept (S n) (R n)) (n * 4) 4 (sums_in S R n l) nan (i * 4 + k) (omega arith) ∙ sums_at S R n l i k s (omega arith) p kl)
    (eq-or-lt_of_le (omega arith))

module _ (S R : ℕ → Jet) (n : ℕ) (n8 : n ≤ 8) (old sums : List Float) (len : length old ≡ 32) (p : sums ≡ sums_in S R n old) where
  kept : (i k : ℕ) → i < n → k < 4 → at sums (i * 4 + k) ≡ sums_kept (S i) (R i) k
  kept i k a b = rw p (sums_at S R n old i k len n8 a b)

  pub s_in_lem : (j : ℕ) → j < n → s_in sums j ≡ first_two (S j)
  unfolding sums_kept
  s_in_lem j l = let z : j * 4 ≡ j * 4 + 0 = omega arith in two_is (ap (at sums) z ∙ kept j 0 l (omega arith)) (kept j 1 l (omega arith))

  pub r_in_lem : (j : ℕ) → j < n → r_in sums j ≡ first_two (R j)
  unfolding sums_kept
  r_in_lem j l = let z : j * 4 + 2 + 1 ≡ j * 4 + 3 = omega arith in two_is (kept j 2 l (omega arith)) (ap (at sums) z ∙ kept j 3 l (omega arith))
