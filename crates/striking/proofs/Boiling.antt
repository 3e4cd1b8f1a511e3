-- Bubble and dew temperatures are struck, for any model and pure liquids that are. No premise on NaN slopes is needed: the slopes of an accepted activity are related as they
-- stand. Assumes nothing.
use mathlib.Core.Path.{◌≡◌, refl, ap}
use Prim.Native.Nat.{ℕ, ◌+◌, ◌%◌, ◌^◌, ◌≤◌, ◌<◌}
use mathlib.Core.Bool.{Bool}
use mathlib.Core.List.{List}
use lib.Dec.{T}
use lib.Ieee.{Float}
use Rattle.floats.specs.Arithmetic.{◌⊕◌, ◌⊖◌, ◌⊗◌, ◌⊘◌, 0f}
use Rattle.floats.specs.Small.{abs_of}
use Rattle.floats.specs.Vector.{at}
use Rattle.numerics.specs.Numerics.{ln_of}
use Rattle.thermo_types.specs.Quantities.{positive_of}
use Rattle.thermo_types.specs.declared.ActivityOptions.{ActivityOptions}
use Rattle.thermo_models.specs.Model.{Activity, Pures, Activities, Liquids}
use Rattle.saturation.specs.Saturation.{Dew}
use Rattle.saturation_temperature.specs.Boiling.{weight, weight_sum, weight_slope, bubble_point_from, bubble_saturation, saturation_temperature, bubble_point_at, bubble_point, bubble_found, bubble_temperature, dew_slope, dew_point_from, dew_saturation, dew_point_at, dew_point, dew_found, dew_temperature}
use Rattle.zeros.specs.Same.{◌≈◌}
use Rattle.zeros.proofs.Congruence.{≈refl, same, add_≈, mul_≈, div_≈}
use Rattle.zeros.proofs.Numbers.{exp_≈}
use Rattle.striking.specs.Places.{cnt}
use Rattle.striking.specs.Accepted.{Acc}
use Rattle.striking.specs.Related.{Fractions}
use Rattle.striking.specs.Results.{SameActivity, SamePures, SameSaturation}
use Rattle.striking.proofs.Acc.{acc_bind, acc_then, acc_need, acc_ok, acc_same}
use Rattle.striking.proofs.Active.{max_≈, strike_active, cong2}
use Rattle.striking.proofs.Saturation.{SameBubble, SameDew, strike_bubble, strike_residual_with, strike_residual, strike_dew}
use Rattle.striking.proofs.Search.{SamePoint, strike_solve}

module _ (keep : ℕ → Bool) (n : ℕ) (small : n ≤ 8)
    (E E' : Activities) (hE : (t : Float) (x x' : List Float) → Fractions keep n (at x) (at x') → Acc (SameActivity keep n) (E t x) (E' t x'))
    (L L' : Liquids) (hL : (t : Float) → Acc (SamePures keep n) (L t) (L' t))
    (x x' : List Float) (hx : Fractions keep n (at x) (at x')) (ex : (i : ℕ) → i < n → T (keep i) → at x i ≡ at x' (cnt keep i)) where
  module _ (a a' : Activity) (ha : SameActivity keep n a a') (u u' : Pures) (hu : SamePures keep n u u') where
    same-weight : (i : ℕ) → i < n → T (keep i) → weight x a u i ≡ weight x' a' u' (cnt keep i)
    same-weight i l q = cong2 (λ c d. c ⊗ d) (cong2 (λ c d. c ⊗ d) (ex i l q) (exp_≈ _ _ (ha.ln_gamma i l q))) (hu.pressure i l q)

    same-weight_sum : weight_sum x a u n ≡ weight_sum x' a' u' (cnt keep n)
    unfolding weight_sum
    same-weight_sum = strike_active keep n (λ (b c : Float). b ≡ c) (at x) (at x') hx _ _ 0f 0f refl (λ i l q b c h. cong2 (λ d e. d ⊕ e) h (same-weight i l q))

    same-weight_slope : weight_slope x a u n ≈ weight_slope x' a' u' (cnt keep n)
    unfolding weight_slope
    same-weight_slope = strike_active keep n ◌≈◌ (at x) (at x') hx _ _ 0f 0f (≈refl 0f) (λ i l q b c h. add_≈ h (mul_≈ (same (same-weight i l q)) (add_≈ (ha.slopes i l q) (same (hu.slope i l q)))))

  strike_bubble_point_at : (p t : Float) → Acc SamePoint (bubble_point_at E L n p x t) (bubble_point_at E' L' (cnt keep n) p x' t)
  unfolding bubble_point_at bubble_point_from
  strike_bubble_point_at p t =
      acc_bind (SameActivity keep n) _ _ _ _ (hE t x x' hx) (λ a a' ha.
      acc_bind (SamePures keep n) _ _ _ _ (hL t) (λ u u' hu.
      acc_ok (record {
        value = ap (λ (v : Float). ln_of v ⊖ ln_of p) (same-weight_sum a a' ha u u' hu);
        slope = div_≈ (same-weight_slope a a' ha u u' hu) (same-weight_sum a a' ha u u' hu);
      })))

  strike_bubble_point : (p t : Float) → Acc SamePoint (bubble_point E L n p x t) (bubble_point E' L' (cnt keep n) p x' t)
  unfolding bubble_point
  strike_bubble_point p t = acc_then _ _ _ _ (acc_same (positive_of t 13)) (strike_bubble_point_at p)

  strike_bubble_found : (p : Float) (iterations : ℕ) (t : Float) → Acc (SameSaturation keep n) (bubble_found E L n p x iterations t) (bubble_found E' L' (cnt keep n) p x' iterations t)
  unfolding bubble_found bubble_saturation
  strike_bubble_found p iterations t =
      acc_bind (SamePures keep n) _ _ _ _ (hL t) (λ u u' hu.
      acc_bind (SameBubble keep n) _ _ _ _ (strike_bubble keep n small u.pressure u'.pressure hu.pressure (E t) (E' t) (hE t) x x' hx) (λ b b' hb.
      acc_bind ◌≈◌ _ _ _ _ (strike_residual keep n small u.pressure u'.pressure hu.pressure (E t) (E' t) (hE t) p p refl x x' b.vapor b'.vapor hx hb.vapor) (λ r r' hr.
      acc_ok (record {
        temperature = refl;
        pressure = refl;
        liquid = hx;
        vapor = hb.vapor;
        residual = max_≈ hr (same (ap (λ (q : Float). abs_of (ln_of (q ⊘ p))) hb.pressure));
        iterations = refl;
      }))))

  -- `activity_bubble_temperature`
  pub strike_bubble_temperature : (o : ActivityOptions) (p : Float) → Acc (SameSaturation keep n) (bubble_temperature E L n o p x) (bubble_temperature E' L' (cnt keep n) o p x')
  unfolding bubble_temperature saturation_temperature
  strike_bubble_temperature o p =
      acc_need _ _ 23 _ _ (λ h. h) (λ g.
      acc_then _ _ _ _ (strike_solve (bubble_point E L n p x) (bubble_point E' L' (cnt keep n) p x') (strike_bubble_point p) o) (λ root.
      acc_then _ _ _ _ (acc_same (positive_of root.temperature 13)) (strike_bubble_found p root.iterations)))

module _ (keep : ℕ → Bool) (n : ℕ) (small : n ≤ 8)
    (E E' : Activities) (hE : (t : Float) (x x' : List Float) → Fractions keep n (at x) (at x') → Acc (SameActivity keep n) (E t x) (E' t x'))
    (L L' : Liquids) (hL : (t : Float) → Acc (SamePures keep n) (L t) (L' t))
    (o : ActivityOptions) (p : Float) (y y' : List Float) (hy : Fractions keep n (at y) (at y')) where
  same-dew_slope : (d d' : Dew) → SameDew keep n d d' → (u u' : Pures) → SamePures keep n u u' → dew_slope y d u n ≈ dew_slope y' d' u' (cnt keep n)
  unfolding dew_slope
  same-dew_slope d d' hd u u' hu =
      strike_active keep n ◌≈◌ (at y) (at y') hy _ _ 0f 0f (≈refl 0f)
      (λ i l q b c h. add_≈ h (mul_≈ (hd.liquid.fraction i l q) (add_≈ (hd.activity.slopes i l q) (same (hu.slope i l q)))))

  strike_dew_point_at : (t : Float) → Acc SamePoint (dew_point_at E L n o p y t) (dew_point_at E' L' (cnt keep n) o p y' t)
  unfolding dew_point_at dew_point_from
  strike_dew_point_at t =
      acc_bind (SamePures keep n) _ _ _ _ (hL t) (λ u u' hu.
      acc_bind (SameDew keep n) _ _ _ _ (strike_dew keep n small u.pressure u'.pressure hu.pressure (E t) (E' t) (hE t) y y' hy o) (λ d d' hd.
      acc_ok (record { value = ap (λ (v : Float). ln_of v ⊖ ln_of p) hd.pressure; slope = same-dew_slope d d' hd u u' hu })))

  strike_dew_point : (t : Float) → Acc SamePoint (dew_point E L n o p y t) (dew_point E' L' (cnt keep n) o p y' t)
  unfolding dew_point
  strike_dew_point t = acc_then _ _ _ _ (acc_same (positive_of t 13)) strike_dew_point_at

  strike_dew_found : (outer : ℕ) (t : Float) → Acc (SameSaturation keep n) (dew_found E L n o p y outer t) (dew_found E' L' (cnt keep n) o p y' outer t)
  unfolding dew_found dew_saturation
  strike_dew_found outer t =
      acc_bind (SamePures keep n) _ _ _ _ (hL t) (λ u u' hu.
      acc_bind (SameDew keep n) _ _ _ _ (strike_dew keep n small u.pressure u'.pressure hu.pressure (E t) (E' t) (hE t) y y' hy o) (λ d d' hd.
      acc_bind ◌≈◌ _ _ _ _ (strike_residual_with keep n small u.pressure u'.pressure hu.pressure _ _ hd.activity.ln_gamma p p refl _ _ y y' hd.liquid hy) (λ r r' hr.
      acc_ok (record {
        temperature = refl;
        pressure = refl;
        liquid = hd.liquid;
        vapor = hy;
        residual = max_≈ hr (same (ap (λ (q : Float). abs_of (ln_of (q ⊘ p))) hd.pressure));
        iterations = ap (λ (k : ℕ). (outer + k) % 2 ^ 64) hd.iterations;
      }))))

  -- `activity_dew_temperature`
  pub strike_dew_temperature : Acc (SameSaturation keep n) (dew_temperature E L n o p y) (dew_temperature E' L' (cnt keep n) o p y')
  unfolding dew_temperature saturation_temperature
  strike_dew_temperature =
      acc_need _ _ 23 _ _ (λ h. h) (λ g.
      acc_then _ _ _ _ (strike_solve (dew_point E L n o p y) (dew_point E' L' (cnt keep n) o p y') strike_dew_point o) (λ root.
      acc_then _ _ _ _ (acc_same (positive_of root.temperature 13)) (strike_dew_found root.iterations)))
