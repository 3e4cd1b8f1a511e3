-- `activity_tp_flash` is struck whole, for any model, pure liquids and domain of temperatures that are: it begins as many evaluations. Assumes nothing.
use mathlib.Core.Path.{◌≡◌, refl, ap, subst}
use Prim.Native.Nat.{ℕ, ◌≤◌, ◌<◌}
use mathlib.Core.Bool.{Bool, not, ◌&&◌}
use mathlib.Core.List.{List}
use lib.Dec.{T, eqb}
use lib.Ieee.{Float, le}
use Rattle.floats.specs.Arithmetic.{0f, 1f}
use Rattle.floats.specs.Vector.{at}
use Rattle.floats.specs.Outcome.{Out}
use Rattle.thermo_types.specs.declared.ActivityOptions.{ActivityOptions}
use Rattle.thermo_models.specs.Model.{Activity, Activities, Liquids}
use Rattle.tp_flash.specs.Split.{Split, balance_of}
use Rattle.tp_flash.specs.Tp.{inside, near_edge, gamma_phi, at_boundary, as_vapor}
use Rattle.tp_flash.specs.Counted.{stable_counted, dew_of_counted, liquid_counted, both_counted, boundary_counted, from_split_counted}
use Rattle.tp_flash.specs.Counted.{split_feed_counted, between_counted, from_dew_counted, phases_counted, flash_counted}
use Rattle.zeros.specs.Same.{◌≈◌}
use Rattle.zeros.proofs.Congruence.{≈refl}
use Rattle.striking.specs.Places.{cnt}
use Rattle.striking.specs.Accepted.{Acc, AccCounted}
use Rattle.striking.specs.Related.{Fractions}
use Rattle.striking.specs.Results.{SameActivity, SamePures, SameTrials, SameFlash}
use Rattle.striking.proofs.Acc.{acc_need, acc_ok}
use Rattle.striking.proofs.AccCounted.{accc_bind, accc_then, accc_need, accc_if, accc_ok, accc_uncounted, accc_evaluated}
use Rattle.striking.proofs.Excess.{strike_fractions}
use Rattle.striking.proofs.Vectors.{zeros-fractions}
use Rattle.striking.proofs.Saturation.{SameBubble, SameDew, strike_bubble, strike_dew_counted}
use Rattle.striking.proofs.Stability.{none-same, same-present, strike_stability_counted}
use Rattle.striking.proofs.Split.{SameSplit, same-balance, strike_split_counted}

-- the feed as one vapor
strike_vapor : (keep : ℕ → Bool) (n : ℕ) → n ≤ 8 → (z z' : List Float) → Fractions keep n (at z) (at z') → (bubble dew : Float) (notes : ℕ) → Acc (SameFlash keep n) (as_vapor n z bubble dew notes) (as_vapor (cnt keep n) z' bubble dew notes)
unfolding as_vapor
strike_vapor keep n small z z' hz bubble dew notes =
    strike_fractions keep n small (at z) (at z') hz _ _ (λ h.
    acc_ok (record {
      phases = refl;
      bubble = refl;
      dew = refl;
      iterations = refl;
      residual = ≈refl 0f;
      balance = ≈refl 0f;
      vapor_fraction = refl;
      notes = refl;
      liquid = zeros-fractions keep n small;
      vapor = hz;
      tested = refl;
      trials = none-same keep n;
    }))

module _ (keep : ℕ → Bool) (n : ℕ) (small : n ≤ 8) (E E' : List Float → Out Activity) (hE : (x x' : List Float) → Fractions keep n (at x) (at x') → Acc (SameActivity keep n) (E x) (E' x'))
    (o : ActivityOptions) (z z' : List Float) (hz : Fractions keep n (at z) (at z')) where
  strike_stable : (x x' : List Float) → Fractions keep n (at x) (at x')
      → AccCounted (SameTrials keep n) (stable_counted E n o x) (stable_counted E' (cnt keep n) o x')
  unfolding stable_counted
  strike_stable x x' hx =
      accc_bind (SameTrials keep n) _ _ _ _ (strike_stability_counted keep n small E E' hE o x x' hx) (λ s s' hs.
      accc_uncounted _ _ (acc_need _ _ 29 _ _ (λ h. subst T hs.stable h) (λ h. acc_ok hs)))

  strike_dew_of : (ps ps' : List Float) → ((i : ℕ) → i < n → T (keep i) → at ps i ≡ at ps' (cnt keep i)) → (bubble : Float)
      → AccCounted (λ (a b : Float). a ≡ b) (dew_of_counted E n o z ps bubble) (dew_of_counted E' (cnt keep n) o z' ps' bubble)
  unfolding dew_of_counted
  strike_dew_of ps ps' hps bubble =
      accc_if _ _ _ _ _ _ (ap (λ (c : ℕ). eqb c 1) (same-present keep n z z' hz)) (λ c. accc_ok _ _ refl)
      (λ c. accc_bind (SameDew keep n) _ _ _ _ (strike_dew_counted keep n small ps ps' hps E E' hE z z' hz o) (λ d d' hd. accc_ok _ _ hd.pressure))

  module _ (bubble dew : Float) where
    strike_liquid : (notes : ℕ) → AccCounted (SameFlash keep n) (liquid_counted E n o z bubble dew notes) (liquid_counted E' (cnt keep n) o z' bubble dew notes)
    unfolding liquid_counted
    strike_liquid notes =
        accc_bind (SameTrials keep n) _ _ _ _ (strike_stable z z' hz) (λ s s' hs.
        accc_uncounted _ _
        (strike_fractions keep n small (at z) (at z') hz _ _ (λ h.
        acc_ok (record {
          phases = refl;
          bubble = refl;
          dew = refl;
          iterations = refl;
          residual = ≈refl 0f;
          balance = ≈refl 0f;
          vapor_fraction = refl;
          notes = refl;
          liquid = hz;
          vapor = zeros-fractions keep n small;
          tested = refl;
          trials = hs;
        }))))

    module _ (s s' : Split) (hs : SameSplit keep n s s') where
      strike_both : AccCounted (SameFlash keep n) (both_counted E n o z bubble dew s) (both_counted E' (cnt keep n) o z' bubble dew s')
      unfolding both_counted
      strike_both =
          accc_bind (SameTrials keep n) _ _ _ _ (strike_stable s.liquid s'.liquid hs.liquid) (λ r r' hr.
          accc_uncounted _ _
          (strike_fractions keep n small (at s.vapor) (at s'.vapor) hs.vapor _ _ (λ f.
          strike_fractions keep n small (at s.liquid) (at s'.liquid) hs.liquid _ _ (λ g.
          acc_ok (record {
            phases = refl;
            bubble = refl;
            dew = refl;
            iterations = hs.iterations;
            residual = hs.residual;
            balance = subst (λ (β : Float). balance_of s.vapor_fraction s.liquid s.vapor z n ≈ balance_of β s'.liquid s'.vapor z' (cnt keep n)) hs.vapor_fraction
                (same-balance keep n s.vapor_fraction s.liquid s'.liquid s.vapor s'.vapor z z' hs.liquid hs.vapor hz);
            vapor_fraction = hs.vapor_fraction;
            notes = refl;
            liquid = hs.liquid;
            vapor = hs.vapor;
            tested = refl;
            trials = hr;
          })))))

      strike_from_split : AccCounted (SameFlash keep n) (from_split_counted E n o z bubble dew s) (from_split_counted E' (cnt keep n) o z' bubble dew s')
      unfolding from_split_counted boundary_counted
      strike_from_split =
          accc_if _ _ _ _ _ _ (ap (λ (β : Float). not (inside β) && near_edge β) hs.vapor_fraction)
          (λ c. accc_if _ _ _ _ _ _ (ap (λ (β : Float). le 1f β) hs.vapor_fraction)
          (λ d. accc_uncounted _ _ (strike_vapor keep n small z z' hz bubble dew at_boundary))
          (λ d. strike_liquid at_boundary))
          (λ c. accc_need _ _ 30 _ _ (λ h. subst (λ (β : Float). T (inside β)) hs.vapor_fraction h) (λ h. strike_both))

  module _ (ez : (i : ℕ) → i < n → T (keep i) → at z i ≡ at z' (cnt keep i)) (p : Float) (ps ps' : List Float) (hps : (i : ℕ) → i < n → T (keep i) → at ps i ≡ at ps' (cnt keep i)) where
    strike_between : (bubble dew : Float)
        → AccCounted (SameFlash keep n) (between_counted E n o z p ps bubble dew) (between_counted E' (cnt keep n) o z' p ps' bubble dew)
    unfolding between_counted split_feed_counted
    strike_between bubble dew =
        accc_if _ _ _ _ _ _ refl (λ c. strike_liquid bubble dew gamma_phi) (λ c.
        accc_if _ _ _ _ _ _ refl (λ d. accc_uncounted _ _ (strike_vapor keep n small z z' hz bubble dew gamma_phi)) (λ d.
        accc_bind (SameActivity keep n) _ _ _ _ (accc_evaluated _ _ (hE z z' hz)) (λ a a' ha.
        accc_bind (SameSplit keep n) _ _ _ _
        (strike_split_counted keep n small E E' hE ps ps' hps p z z' hz ez o.tolerance o.max_iterations 0 a.ln_gamma a'.ln_gamma ha.ln_gamma) (λ s s' hs.
        strike_from_split bubble dew s s' hs))))

    strike_from_dew : (bubble : Float)
        → AccCounted (SameFlash keep n) (from_dew_counted E n o z p ps bubble) (from_dew_counted E' (cnt keep n) o z' p ps' bubble)
    unfolding from_dew_counted
    strike_from_dew bubble = accc_then _ _ _ _ (strike_dew_of ps ps' hps bubble) (λ dew. strike_between bubble dew)

    strike_phases : AccCounted (SameFlash keep n) (phases_counted E n o z p ps) (phases_counted E' (cnt keep n) o z' p ps')
    unfolding phases_counted
    strike_phases =
        accc_bind (SameBubble keep n) _ _ _ _ (accc_evaluated _ _ (strike_bubble keep n small ps ps' hps E E' hE z z' hz)) (λ b b' hb.
        subst (λ (q : Float). AccCounted (SameFlash keep n) (from_dew_counted E n o z p ps b.pressure) (from_dew_counted E' (cnt keep n) o z' p ps' q))
        hb.pressure
        (strike_from_dew b.pressure))

-- `activity_tp_flash`, with the evaluations that it begins
pub strike_flash : (keep : ℕ → Bool) (n : ℕ) → n ≤ 8
    → (E E' : Activities) → ((t : Float) (x x' : List Float) → Fractions keep n (at x) (at x') → Acc (SameActivity keep n) (E t x) (E' t x'))
    → (L L' : Liquids) → ((t : Float) → Acc (SamePures keep n) (L t) (L' t))
    → (D D' : Float → Bool) → ((t : Float) → T (D t) → T (D' t))
    → (o : ActivityOptions) (t : Float) (z z' : List Float) → Fractions keep n (at z) (at z') → ((i : ℕ) → i < n → T (keep i) → at z i ≡ at z' (cnt keep i)) → (p : Float)
    → AccCounted (SameFlash keep n) (flash_counted E L D n o t z p) (flash_counted E' L' D' (cnt keep n) o t z' p)
unfolding flash_counted
strike_flash keep n small E E' hE L L' hL D D' hD o t z z' hz ez p =
    accc_need _ _ 22 _ _ (hD t) (λ d.
    accc_need _ _ 23 _ _ (λ h. h) (λ g.
    accc_bind (SamePures keep n) _ _ _ _ (accc_uncounted _ _ (hL t)) (λ u u' hu.
    strike_phases keep n small (E t) (E' t) (hE t) o z z' hz ez p u.pressure u'.pressure hu.pressure)))
