-- Rachford-Rice is struck: feed and K of the solvents kept are equal value for value, so every number of the iteration is. Assumes nothing.
use mathlib.Core.Path.{◌≡◌, refl, ap, ◌∙◌, subst}
use Prim.Native.Nat.{ℕ, zero, suc, ◌*◌, ◌≤◌, ◌<◌}
use mathlib.Core.Bool.{Bool, not, cond}
use lib.Dec.{T}
use lib.Ieee.{Float, fin, binary64, neg, mul, fits, lt, le, up, down}
use native.Mathlib.Nat.{zero-mul, mul-pos}
use lib.Ieee.Fits.{mul-fits, div-fits, and_i, and_l, and_r, down_pos}
use Rattle.floats.specs.Arithmetic.{◌⊕◌, ◌⊖◌, ◌⊗◌, ◌⊘◌, 0f, ½, 1f, ∞, -∞}
use Rattle.floats.specs.Small.{is_finite, max_of, min_of, abs_of}
use Rattle.floats.specs.Fold.{fold_to, sum_to, all_to, active}
use Rattle.floats.specs.Outcome.{Out, ok, need, choose}
use Rattle.thermo_types.specs.Composition.{sum_tolerance, sums_to_one}
use Rattle.rachford_rice.specs.declared.RachfordRiceOutcome.{RachfordRiceOutcome}
use Rattle.rachford_rice.specs.declared.RachfordRiceOutcome.TheVariants.{LiquidOnly, VaporOnly, TwoPhase}
use Rattle.rachford_rice.specs.Rachford.{Solution, turn_of, root_of, residual_of, slope_of, k_max, k_min, validate, liquid_part, vapor_part, solution_at, iterate, between, negative, two_phase, one_phase, constrained}
use Rattle.zeros.proofs.Congruence.{same}
use Rattle.zeros.proofs.Zero.{Zero, zero_round}
use Rattle.striking.specs.Accepted.{Acc}
use Rattle.striking.specs.Places.{cnt}
use Rattle.striking.specs.Related.{Fractions}
use Rattle.striking.specs.Results.{SameSolution, SameRice}
use Rattle.striking.proofs.Acc.{acc_bind, acc_need, acc_if, acc_ok, acc_no, all_at, strike_all}
use Rattle.striking.proofs.Excess.{same_sum}
use Rattle.striking.proofs.Active.{gone_not_pos, cond_fit, zero_cond, strike_active, cong2}
use Rattle.striking.proofs.Vectors.{zeros-fractions, parts-fractions}

-- a zero times a finite number is a zero
zero_times : (x y : Float) → Zero x → T (is_finite y) → Zero (x ⊗ y)
unfolding is_finite mul
zero_times (fin s zero e) (fin t m d) h f = zero_round binary64 _ (0 * up e * (m * up d)) (down e * down d) (ap (λ (a : ℕ). a * (m * up d)) (zero-mul (up e)) ∙ zero-mul (m * up d)) (mul-pos (down_pos e) (down_pos d))
zero_times lib.Ieee.nan y h f = elim h [ ]
zero_times (lib.Ieee.inf _) y h f = elim h [ ]
zero_times (fin s zero e) lib.Ieee.nan h f = elim f [ ]
zero_times (fin s zero e) (lib.Ieee.inf _) h f = elim f [ ]
zero_times (fin s (suc _) e) y h f = elim h [ ]

module _ (keep : ℕ → Bool) (n : ℕ) (small : n ≤ 8) (z z' k k' : ℕ → Float) (hz : Fractions keep n z z') (ez : (i : ℕ) → i < n → T (keep i) → z i ≡ z' (cnt keep i)) (ek : (i : ℕ) → i < n → T (keep i) → k i ≡ k' (cnt keep i)) where
  -- a fold over the positive fractions of a term that is computed from z i and k i alone
  same_fold : (f : Float → Float → Float → Float) (s : Float) → fold_to (active z (λ i a. f a (z i) (k i))) s n ≡ fold_to (active z' (λ i a. f a (z' i) (k' i))) s (cnt keep n)
  same_fold f s = strike_active keep n (λ (a b : Float). a ≡ b) z z' hz _ _ s s refl (λ i l q a b h. ap (λ (u : Float). f u (z i) (k i)) h ∙ cong2 (f b) (ez i l q) (ek i l q))

  same-g : (β : Float) → residual_of z k n β ≡ residual_of z' k' (cnt keep n) β
  unfolding residual_of
  same-g β = same_fold (λ a u v. a ⊕ u ⊗ (v ⊖ 1f) ⊘ (1f ⊕ β ⊗ (v ⊖ 1f))) 0f

  same-slope : (β : Float) → slope_of z k n β ≡ slope_of z' k' (cnt keep n) β
  unfolding slope_of
  same-slope β = ap neg (same_fold (λ a u v. a ⊕ u ⊗ ((v ⊖ 1f) ⊗ (v ⊖ 1f)) ⊘ ((1f ⊕ β ⊗ (v ⊖ 1f)) ⊗ (1f ⊕ β ⊗ (v ⊖ 1f)))) 0f)

  same-max : k_max z k n ≡ k_max z' k' (cnt keep n)
  unfolding k_max
  same-max = same_fold (λ a u v. max_of a v) -∞

  same-min : k_min z k n ≡ k_min z' k' (cnt keep n)
  unfolding k_min
  same-min = same_fold (λ a u v. min_of a v) ∞

  module _ (β : Float) where
    liquid-fits : (z k : ℕ → Float) (m i : ℕ) → T (fits binary64 (liquid_part z k m β i))
    unfolding liquid_part
    liquid-fits z k m i = cond_fit (lt 0f (z i)) _ (div-fits binary64 _ _)

    liquid-kept : (i : ℕ) → i < n → T (keep i) → liquid_part z k n β i ≡ liquid_part z' k' (cnt keep n) β (cnt keep i)
    unfolding liquid_part
    liquid-kept i l q = cong2 (λ u v. cond (lt 0f u) (u ⊘ (1f ⊕ β ⊗ (v ⊖ 1f))) 0f) (ez i l q) (ek i l q)

    liquid-struck : (i : ℕ) → i < n → T (not (keep i)) → Zero (liquid_part z k n β i)
    unfolding liquid_part
    liquid-struck i l q = zero_cond _ _ (gone_not_pos (hz.absent i l q))

    vapor-kept : (i : ℕ) → i < n → T (keep i) → vapor_part z k n β i ≡ vapor_part z' k' (cnt keep n) β (cnt keep i)
    unfolding vapor_part
    vapor-kept i l q = cong2 (λ a b. a ⊗ b) (liquid-kept i l q) (ek i l q)

    vapor-fits : (z k : ℕ → Float) (m i : ℕ) → T (fits binary64 (vapor_part z k m β i))
    unfolding vapor_part
    vapor-fits z k m i = mul-fits binary64 _ _

    vapor-struck : (fk : (i : ℕ) → i < n → T (is_finite (k i))) (i : ℕ) → i < n → T (not (keep i)) → Zero (vapor_part z k n β i)
    unfolding vapor_part
    vapor-struck fk i l q = zero_times (liquid_part z k n β i) (k i) (liquid-struck i l q) (fk i l)

    same-solution : (fk : (i : ℕ) → i < n → T (is_finite (k i))) (it : ℕ) → SameSolution keep n (solution_at z k n β it) (solution_at z' k' (cnt keep n) β it)
    unfolding solution_at
    same-solution fk it = record {
      vapor_fraction = refl;
      liquid = parts-fractions keep n small (liquid_part z k n β) (liquid_part z' k' (cnt keep n) β) (liquid-fits z k n) (liquid-fits z' k' (cnt keep n)) (λ i l q. same (liquid-kept i l q)) liquid-struck;
      vapor = parts-fractions keep n small (vapor_part z k n β) (vapor_part z' k' (cnt keep n) β) (vapor-fits z k n) (vapor-fits z' k' (cnt keep n)) (λ i l q. same (vapor-kept i l q)) (vapor-struck fk);
      residual = ap abs_of (same-g β);
      iterations = refl;
    }

  -- one turn of the shorter problem, from any g and slope
  abbrev after : (left done : ℕ) (lo hi β g d : Float) → Out Solution
  after left done lo hi β g d =
      need (is_finite g) 25
      (choose (turn_of g d lo hi β).last
      (ok (solution_at z' k' (cnt keep n) (root_of g β (turn_of g d lo hi β).next) (suc done)))
      (iterate z' k' (cnt keep n) left (suc done) (turn_of g d lo hi β).lo (turn_of g d lo hi β).hi (turn_of g d lo hi β).next))

  strike_iterate : (fk : (i : ℕ) → i < n → T (is_finite (k i))) (left done : ℕ) (lo hi β : Float) → Acc (SameSolution keep n) (iterate z k n left done lo hi β) (iterate z' k' (cnt keep n) left done lo hi β)
  unfolding iterate
  strike_iterate fk zero done lo hi β = acc_no _
  strike_iterate fk (suc left) done lo hi β =
      let g = residual_of z k n β in
      let d = slope_of z k n β in
      let u = turn_of g d lo hi β in
      subst (λ (x : Float). Acc (SameSolution keep n) (iterate z k n (suc left) done lo hi β) (after left done lo hi β x (slope_of z' k' (cnt keep n) β))) (same-g β)
      (subst (λ (x : Float). Acc (SameSolution keep n) (iterate z k n (suc left) done lo hi β) (after left done lo hi β g x)) (same-slope β)
      (acc_need _ _ 25 _ _ (λ h. h) (λ h. acc_if u.last u.last _ _ _ _ refl
      (λ c. acc_ok (same-solution (root_of g β u.next) fk (suc done)))
      (λ c. strike_iterate fk left (suc done) u.lo u.hi u.next))))

  -- `validate`, with related calls behind it
  pub strike_validate : {A A' : Type 0} {R : A → A' → Type 0} (o : Out A) (o' : Out A') → (T (all_to (λ i. is_finite (k i)) n) → Acc R o o') → Acc R (validate z k n o) (validate z' k' (cnt keep n) o')
  unfolding validate sums_to_one
  strike_validate o o' f =
      acc_need _ _ 15 _ _ (λ h. and_i (all_to (λ i. is_finite (z' i)) (cnt keep n)) (all_to (λ i. is_finite (k' i)) (cnt keep n))
      (strike_all keep (λ i. is_finite (z i)) (λ i. is_finite (z' i)) n (λ i l q u. subst T (ap is_finite (ez i l q)) u) (and_l (all_to (λ i. is_finite (z i)) n) (all_to (λ i. is_finite (k i)) n) h))
      (strike_all keep (λ i. is_finite (k i)) (λ i. is_finite (k' i)) n (λ i l q u. subst T (ap is_finite (ek i l q)) u) (and_r (all_to (λ i. is_finite (z i)) n) (all_to (λ i. is_finite (k i)) n) h))) (λ h1.
      acc_need _ _ 16 _ _ (strike_all keep _ _ n (λ i l q u. subst (λ (x : Float). T (not (lt x 0f))) (ez i l q) u)) (λ h2.
      acc_need _ _ 17 _ _ (strike_all keep _ _ n (λ i l q u. subst (λ (x : Float). T (lt 0f x)) (ek i l q) u)) (λ h3.
      acc_need _ _ 18 _ _ (λ h. subst (λ (s : Float). T (not (lt sum_tolerance (abs_of (s ⊖ 1f))))) (z-sum (and_l (all_to (λ i. is_finite (z i)) n) (all_to (λ i. is_finite (k i)) n) h1)) h) (λ h4.
      f (and_r (all_to (λ i. is_finite (z i)) n) (all_to (λ i. is_finite (k i)) n) h1)))))
    where
      z-sum : T (all_to (λ i. is_finite (z i)) n) → sum_to z n ≡ sum_to z' (cnt keep n)
      z-sum g = same_sum keep n small z z' hz g

  -- `rachford_rice_negative`
  pub strike_negative : (limit : ℕ) → Acc (SameSolution keep n) (negative z k n limit) (negative z' k' (cnt keep n) limit)
  unfolding negative between
  strike_negative limit =
      strike_validate _ _ (λ fk.
      acc_need _ _ 28 _ _ (λ h. subst (λ (s : Float). T (not (le s 1f))) same-max h) (λ h4.
      acc_need _ _ 28 _ _ (λ h. subst (λ (s : Float). T (not (le 1f s))) same-min h) (λ h5.
      subst (λ (s : Float). Acc (SameSolution keep n) (iterate z k n limit 0 (1f ⊘ (1f ⊖ k_max z k n)) (1f ⊘ (1f ⊖ k_min z k n)) ½) (iterate z' k' (cnt keep n) limit 0 (1f ⊘ (1f ⊖ s)) (1f ⊘ (1f ⊖ k_min z' k' (cnt keep n))) ½)) same-max
      (subst (λ (s : Float). Acc (SameSolution keep n) (iterate z k n limit 0 (1f ⊘ (1f ⊖ k_max z k n)) (1f ⊘ (1f ⊖ k_min z k n)) ½) (iterate z' k' (cnt keep n) limit 0 (1f ⊘ (1f ⊖ k_max z k n)) (1f ⊘ (1f ⊖ s)) ½)) same-min
      (strike_iterate (λ i l. all_at (λ i. is_finite (k i)) n i fk l) limit 0 _ _ ½)))))

  -- ---- constrained to 0 ≤ β ≤ 1
  same-one : (o : RachfordRiceOutcome) → SameRice keep n (one_phase o) (one_phase o)
  unfolding one_phase
  same-one o = record { outcome = refl; liquid = zeros-fractions keep n small; vapor = zeros-fractions keep n small }

  same-two : (a b : Solution) → SameSolution keep n a b → SameRice keep n (two_phase a) (two_phase b)
  unfolding two_phase
  same-two a b h = record {
    outcome = ap (λ (v : Float). TwoPhase v a.residual a.iterations) h.vapor_fraction ∙ cong2 (TwoPhase b.vapor_fraction) h.residual h.iterations;
    liquid = h.liquid;
    vapor = h.vapor;
  }

  -- `rachford_rice`
  pub strike_constrained : (limit : ℕ) → Acc (SameRice keep n) (constrained z k n limit) (constrained z' k' (cnt keep n) limit)
  unfolding constrained
  strike_constrained limit =
      strike_validate _ _ (λ fk.
      acc_if _ _ _ _ _ _ (ap (λ (g : Float). le g 0f) (same-g 0f)) (λ a. acc_ok (same-one LiquidOnly)) (λ a.
      acc_if _ _ _ _ _ _ (ap (λ (g : Float). le 0f g) (same-g 1f)) (λ b. acc_ok (same-one VaporOnly)) (λ b.
      acc_bind (SameSolution keep n) _ _ _ _ (strike_negative limit) (λ s s' h. acc_ok (same-two s s' h)))))
