-- Bubble points, residuals and the dew iteration are struck, for any activity model that is: pressures are equal value for value, compositions are related. Assumes nothing.
use mathlib.Core.Path.{◌≡◌, refl, ap, subst}
use Prim.Native.Nat.{ℕ, zero, suc, ◌≤◌, ◌<◌}
use mathlib.Core.Bool.{Bool, not, ◌&&◌}
use mathlib.Core.List.{List}
use lib.Dec.{T}
use lib.Ieee.{Float, binary64, fits, lt, le}
use lib.Ieee.Fits.{mul-fits, div-fits}
use Rattle.floats.specs.Arithmetic.{◌⊗◌, ◌⊘◌, 0f, 1f}
use Rattle.floats.specs.Small.{is_finite}
use Rattle.floats.specs.Vector.{at, zeros8}
use Rattle.floats.specs.Outcome.{Out}
use Rattle.numerics.specs.Numerics.{ln_of}
use Rattle.thermo_types.specs.declared.ActivityOptions.{ActivityOptions}
use Rattle.thermo_models.specs.Model.{Activity, Activities, Liquids, pressure_in_domain}
use Rattle.saturation.specs.Saturation.{Bubble, Dew, partial_of, partial_sum, bubble_from, gap_at, gap_of, residual_with, dew_term, dew_pressure, dew_liquid}
use Rattle.saturation.specs.Saturation.{change_of, bubble_at, residual, dew_turn, dew_point, dew_at, bubble_pressure, dew_pressure_point, bubble_task}
use Rattle.saturation.specs.Saturation.{dew_task}
use Rattle.saturation.specs.Counted.{dew_turn_counted, dew_point_counted, dew_loop_counted, dew_counted}
use Rattle.saturation.proofs.Forgets.{dew-outcome}
use Rattle.zeros.specs.Same.{◌≈◌}
use Rattle.zeros.proofs.Congruence.{≈refl, ≈trans, same, add_≈, sub_≈, mul_≈, div_≈, lt_≈, le_≈}
use Rattle.zeros.proofs.Zero.{Zero}
use Rattle.zeros.proofs.Numbers.{pick_≈, abs_≈, exp_≈, ln_≈}
use Rattle.striking.specs.Places.{cnt}
use Rattle.striking.specs.Accepted.{Acc, AccCounted}
use Rattle.striking.specs.Related.{Fractions}
use Rattle.striking.specs.Results.{SameActivity, SamePures, SameSaturation}
use Rattle.striking.proofs.Strike.{strike_fold}
use Rattle.striking.proofs.Acc.{acc_bind, acc_need, acc_ok}
use Rattle.striking.proofs.AccCounted.{accc_bind, accc_if, accc_no, accc_after, forget_acc}
use Rattle.striking.proofs.Excess.{is_finite_≈}
use Rattle.striking.proofs.Active.{gone_not_pos, cond_off, cond_fit, zero_cond, max_≈, strike_active, cong2}
use Rattle.striking.proofs.Vectors.{SameFractions, zeros-kept, parts-sum, parts-fractions, strike_normalize}

pub record SameBubble (keep : ℕ → Bool) (n : ℕ) (a b : Bubble) : Type 0 where
  pub pressure : a.pressure ≡ b.pressure
  pub vapor : Fractions keep n (at a.vapor) (at b.vapor)

pub record SameDew (keep : ℕ → Bool) (n : ℕ) (a b : Dew) : Type 0 where
  pub pressure : a.pressure ≡ b.pressure
  pub liquid : Fractions keep n (at a.liquid) (at b.liquid)
  pub iterations : a.iterations ≡ b.iterations
  pub residual : a.residual ≈ b.residual
  pub activity : SameActivity keep n a.activity b.activity

module _ (keep : ℕ → Bool) (n : ℕ) (small : n ≤ 8) (ps ps' : List Float) (hps : (i : ℕ) → i < n → T (keep i) → at ps i ≡ at ps' (cnt keep i)) where
  -- the gap of ln fugacities of a solvent
  pub same-gap_at : (lg lg' : List Float) → ((i : ℕ) → i < n → T (keep i) → at lg i ≈ at lg' (cnt keep i)) → (p p' : Float) → p ≡ p' → (x x' y y' : List Float) → Fractions keep n (at x) (at x') → Fractions keep n (at y) (at y')
      → (i : ℕ) → i < n → T (keep i) → gap_at lg ps p x y i ≈ gap_at lg' ps' p' x' y' (cnt keep i)
  same-gap_at lg lg' hl p p' e x x' y y' hx hy i l q =
      abs_≈ (sub_≈ (sub_≈ (sub_≈ (add_≈ (same (ln_≈ _ _ (hy.fraction i l q))) (same (ap ln_of e))) (same (ln_≈ _ _ (hx.fraction i l q)))) (hl i l q)) (same (ap ln_of (hps i l q))))

  -- ---- the bubble point
  module _ (x x' : List Float) (hx : Fractions keep n (at x) (at x')) (lg lg' : List Float) (hl : (i : ℕ) → i < n → T (keep i) → at lg i ≈ at lg' (cnt keep i)) where
    partial-kept : (i : ℕ) → i < n → T (keep i) → partial_of x lg ps i ≈ partial_of x' lg' ps' (cnt keep i)
    unfolding partial_of
    partial-kept i l q = pick_≈ _ _ (lt_≈ (≈refl 0f) (hx.fraction i l q)) (mul_≈ (mul_≈ (hx.fraction i l q) (same (exp_≈ _ _ (hl i l q)))) (same (hps i l q))) (≈refl 0f)

    partial-gone : (i : ℕ) → i < n → T (not (keep i)) → Zero (partial_of x lg ps i)
    unfolding partial_of
    partial-gone i l q = zero_cond _ _ (gone_not_pos (hx.absent i l q))

    partial-fits : (x lg ps : List Float) (i : ℕ) → T (fits binary64 (partial_of x lg ps i))
    unfolding partial_of
    partial-fits x lg ps i = cond_fit (lt 0f (at x i)) _ (mul-fits binary64 _ _)

    same-partial_sum : partial_sum x lg ps n ≡ partial_sum x' lg' ps' (cnt keep n)
    unfolding partial_sum
    same-partial_sum = parts-sum keep n small (partial_of x lg ps) (partial_of x' lg' ps') (partial-fits x lg ps) (partial-fits x' lg' ps') partial-kept partial-gone

    pub strike_bubble_from : Acc (SameBubble keep n) (bubble_from x lg ps n) (bubble_from x' lg' ps' (cnt keep n))
    unfolding bubble_from partial_sum
    strike_bubble_from =
        acc_need _ _ 25 _ _ (λ h. subst (λ (s : Float). T (is_finite s)) same-partial_sum h) (λ a.
        acc_need _ _ 25 _ _ (λ h. subst (λ (s : Float). T (not (le s 0f))) same-partial_sum h) (λ b.
        acc_ok (record {
          pressure = same-partial_sum;
          vapor = parts-fractions keep n small (partial_of x lg ps) (partial_of x' lg' ps') (partial-fits x lg ps) (partial-fits x' lg' ps') partial-kept partial-gone;
        })))

  -- ---- the residual: at an absent solvent the liquid's fraction is not positive
  module _ (lg lg' : List Float) (hl : (i : ℕ) → i < n → T (keep i) → at lg i ≈ at lg' (cnt keep i)) (p p' : Float) (e : p ≡ p') (x x' y y' : List Float) (hx : Fractions keep n (at x) (at x')) (hy : Fractions keep n (at y) (at y')) where
    same_gap : gap_of lg ps p x y n ≈ gap_of lg' ps' p' x' y' (cnt keep n)
    unfolding gap_of
    same_gap =
        strike_fold keep ◌≈◌ _ _ 0f 0f n (≈refl 0f)
        (λ i l q a b h. pick_≈ _ _ (cong2 (λ c d. c && d) (lt_≈ (≈refl 0f) (hx.fraction i l q)) (lt_≈ (≈refl 0f) (hy.fraction i l q))) (max_≈ h (same-gap_at lg lg' hl p p' e x x' y y' hx hy i l q)) h)
        (λ i l q a b h. ≈trans (same (cond_off _ _ a (ap (λ c. c && lt 0f (at y i)) (gone_not_pos (hx.absent i l q))))) h)

    pub strike_residual_with : Acc ◌≈◌ (residual_with lg ps p x y n) (residual_with lg' ps' p' x' y' (cnt keep n))
    unfolding residual_with
    strike_residual_with = acc_need _ _ 25 _ _ (λ h. subst T (is_finite_≈ same_gap) h) (λ h. acc_ok same_gap)

  module _ (E E' : List Float → Out Activity) (hE : (x x' : List Float) → Fractions keep n (at x) (at x') → Acc (SameActivity keep n) (E x) (E' x')) where
    -- `bubble_at`
    pub strike_bubble : (x x' : List Float) → Fractions keep n (at x) (at x') → Acc (SameBubble keep n) (bubble_at E ps n x) (bubble_at E' ps' (cnt keep n) x')
    unfolding bubble_at
    strike_bubble x x' hx = acc_bind (SameActivity keep n) _ _ _ _ (hE x x' hx) (λ a a' ha. strike_bubble_from x x' hx a.ln_gamma a'.ln_gamma ha.ln_gamma)

    -- `residual`
    pub strike_residual : (p p' : Float) → p ≡ p' → (x x' y y' : List Float) → Fractions keep n (at x) (at x') → Fractions keep n (at y) (at y') → Acc ◌≈◌ (residual E ps n p x y) (residual E' ps' (cnt keep n) p' x' y')
    unfolding residual
    strike_residual p p' e x x' y y' hx hy = acc_bind (SameActivity keep n) _ _ _ _ (hE x x' hx) (λ a a' ha. strike_residual_with a.ln_gamma a'.ln_gamma ha.ln_gamma p p' e x x' y y' hx hy)

    -- ---- the dew iteration
    module _ (y y' : List Float) (hy : Fractions keep n (at y) (at y')) where
      module _ (lg lg' : List Float) (hl : (i : ℕ) → i < n → T (keep i) → at lg i ≈ at lg' (cnt keep i)) where
        term-kept : (i : ℕ) → i < n → T (keep i) → dew_term y ps lg i ≈ dew_term y' ps' lg' (cnt keep i)
        unfolding dew_term
        term-kept i l q = pick_≈ _ _ (lt_≈ (≈refl 0f) (hy.fraction i l q)) (div_≈ (hy.fraction i l q) (cong2 (λ a b. a ⊗ b) (exp_≈ _ _ (hl i l q)) (hps i l q))) (≈refl 0f)

        term-gone : (i : ℕ) → i < n → T (not (keep i)) → Zero (dew_term y ps lg i)
        unfolding dew_term
        term-gone i l q = zero_cond _ _ (gone_not_pos (hy.absent i l q))

        term_fits : (y ps lg : List Float) (i : ℕ) → T (fits binary64 (dew_term y ps lg i))
        unfolding dew_term
        term_fits y ps lg i = cond_fit (lt 0f (at y i)) _ (div-fits binary64 _ _)

        same-dew_pressure : dew_pressure y ps lg n ≡ dew_pressure y' ps' lg' (cnt keep n)
        unfolding dew_pressure
        same-dew_pressure = ap (λ (s : Float). 1f ⊘ s) (parts-sum keep n small (dew_term y ps lg) (dew_term y' ps' lg') (term_fits y ps lg) (term_fits y' ps' lg') term-kept term-gone)

        strike_dew_liquid : Acc (SameFractions keep n) (dew_liquid y ps lg n) (dew_liquid y' ps' lg' (cnt keep n))
        unfolding dew_liquid
        strike_dew_liquid = strike_normalize keep n small (dew_term y ps lg) (dew_term y' ps' lg') (term_fits y ps lg) (term_fits y' ps' lg') term-kept term-gone

        strike_dew_point : (iteration : ℕ) → Acc (SameDew keep n) (dew_point E ps n y lg iteration) (dew_point E' ps' (cnt keep n) y' lg' iteration)
        unfolding dew_point
        strike_dew_point iteration =
            acc_bind (SameFractions keep n) _ _ _ _ strike_dew_liquid (λ x x' hx.
            acc_bind (SameActivity keep n) _ _ _ _ (hE x x' hx) (λ a a' ha.
            acc_bind ◌≈◌ _ _ _ _ (strike_residual_with a.ln_gamma a'.ln_gamma ha.ln_gamma _ _ same-dew_pressure x x' y y' hx hy) (λ r r' hr.
            acc_ok (record { pressure = same-dew_pressure; liquid = hx; iterations = refl; residual = hr; activity = ha }))))

        same-change : (new new' : List Float) → ((i : ℕ) → i < n → T (keep i) → at new i ≈ at new' (cnt keep i)) → change_of y new lg n ≈ change_of y' new' lg' (cnt keep n)
        unfolding change_of
        same-change new new' hn = strike_active keep n ◌≈◌ (at y) (at y') hy _ _ 0f 0f (≈refl 0f) (λ i l q a b h. max_≈ h (abs_≈ (sub_≈ (hn i l q) (hl i l q))))

        strike_dew_turn : Acc (SameActivity keep n) (dew_turn E ps n y lg) (dew_turn E' ps' (cnt keep n) y' lg')
        unfolding dew_turn
        strike_dew_turn =
            acc_bind (SameFractions keep n) _ _ _ _ strike_dew_liquid (λ x x' hx.
            acc_bind (SameActivity keep n) _ _ _ _ (hE x x' hx) (λ a a' ha.
            acc_need _ _ 25 _ _ (λ h. subst T (is_finite_≈ (same-change a.ln_gamma a'.ln_gamma ha.ln_gamma)) h) (λ b.
            acc_need _ _ 25 _ _ (λ h. subst (λ (s : Float). T (is_finite s)) same-dew_pressure h) (λ c.
            acc_ok ha))))

      strike_dew_loop : (tolerance : Float) (left done : ℕ) (lg lg' : List Float) → ((i : ℕ) → i < n → T (keep i) → at lg i ≈ at lg' (cnt keep i))
          → AccCounted (SameDew keep n) (dew_loop_counted E ps n y tolerance left done lg) (dew_loop_counted E' ps' (cnt keep n) y' tolerance left done lg')
      unfolding dew_loop_counted dew_turn_counted dew_point_counted dew_turn dew_point
      strike_dew_loop tolerance zero done lg lg' hl = accc_no 27 _
      strike_dew_loop tolerance (suc left) done lg lg' hl =
          accc_bind (SameActivity keep n) _ _ _ _
          (accc_after (SameFractions keep n) _ _ _ _ (strike_dew_liquid lg lg' hl) (strike_dew_turn lg lg' hl)) (λ a a' ha.
          let hg = ha.ln_gamma in
          accc_if _ _ _ _ _ _ (le_≈ (same-change lg lg' hl a.ln_gamma a'.ln_gamma hg) (≈refl tolerance))
          (λ c.
          accc_after (SameFractions keep n) _ _ _ _ (strike_dew_liquid a.ln_gamma a'.ln_gamma hg) (strike_dew_point a.ln_gamma a'.ln_gamma hg (suc done)))
          (λ c. strike_dew_loop tolerance left (suc done) a.ln_gamma a'.ln_gamma hg))

      -- `dew_at`, with the evaluations that it begins
      pub strike_dew_counted : (o : ActivityOptions) → AccCounted (SameDew keep n) (dew_counted E ps n o y) (dew_counted E' ps' (cnt keep n) o y')
      unfolding dew_counted
      strike_dew_counted o = strike_dew_loop o.tolerance o.max_iterations 0 zeros8 zeros8 (zeros-kept keep n small)

      pub strike_dew : (o : ActivityOptions) → Acc (SameDew keep n) (dew_at E ps n o y) (dew_at E' ps' (cnt keep n) o y')
      strike_dew o = forget_acc (dew-outcome E ps n o y) (dew-outcome E' ps' (cnt keep n) o y') (strike_dew_counted o)

-- ---- tasks 2 and 3, for any model and pure liquids that are struck
module _ (keep : ℕ → Bool) (n : ℕ) (small : n ≤ 8)
    (E E' : Activities) (hE : (t : Float) (x x' : List Float) → Fractions keep n (at x) (at x') → Acc (SameActivity keep n) (E t x) (E' t x'))
    (L L' : Liquids) (hL : (t : Float) → Acc (SamePures keep n) (L t) (L' t)) where
  -- `activity_bubble_pressure`
  pub strike_bubble_pressure : (t : Float) (x x' : List Float) → Fractions keep n (at x) (at x') → Acc (SameSaturation keep n) (bubble_pressure E L n t x) (bubble_pressure E' L' (cnt keep n) t x')
  unfolding bubble_pressure bubble_task
  strike_bubble_pressure t x x' hx =
      acc_bind (SamePures keep n) _ _ _ _ (hL t) (λ u u' hu.
      acc_bind (SameBubble keep n) _ _ _ _ (strike_bubble keep n small u.pressure u'.pressure hu.pressure (E t) (E' t) (hE t) x x' hx) (λ b b' hb.
      acc_need _ _ 23 _ _ (λ h. subst (λ (p : Float). T (pressure_in_domain p)) hb.pressure h) (λ d.
      acc_bind ◌≈◌ _ _ _ _ (strike_residual keep n small u.pressure u'.pressure hu.pressure (E t) (E' t) (hE t) _ _ hb.pressure x x' b.vapor b'.vapor hx hb.vapor) (λ r r' hr.
      acc_ok (record { temperature = refl; pressure = hb.pressure; liquid = hx; vapor = hb.vapor; residual = hr; iterations = refl })))))

  -- `activity_dew_pressure`
  pub strike_dew_pressure : (o : ActivityOptions) (t : Float) (y y' : List Float) → Fractions keep n (at y) (at y')
      → Acc (SameSaturation keep n) (dew_pressure_point E L n o t y) (dew_pressure_point E' L' (cnt keep n) o t y')
  unfolding dew_pressure_point dew_task
  strike_dew_pressure o t y y' hy =
      acc_bind (SamePures keep n) _ _ _ _ (hL t) (λ u u' hu.
      acc_bind (SameDew keep n) _ _ _ _ (strike_dew keep n small u.pressure u'.pressure hu.pressure (E t) (E' t) (hE t) y y' hy o) (λ d d' hd.
      acc_need _ _ 23 _ _ (λ h. subst (λ (p : Float). T (pressure_in_domain p)) hd.pressure h) (λ c.
      acc_ok (record { temperature = refl; pressure = hd.pressure; liquid = hd.liquid; vapor = hy; residual = hd.residual; iterations = hd.iterations }))))
