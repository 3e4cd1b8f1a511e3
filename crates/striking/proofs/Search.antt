-- The search for a temperature is struck: f is equal value for value, its slope up to the sign of zero, and a slope that is used is positive, so that every temperature
-- tried is the same. Assumes nothing.
use mathlib.Core.Path.{◌≡◌, refl, sym, ap, ◌∙◌, subst}
use Prim.Native.Nat.{ℕ, zero, suc}
use mathlib.Core.Bool.{Bool, true, false, not, ◌||◌, true≢false}
use lib.Dec.{T}
use lib.Ieee.{Float, lt, le, of_bits}
use Rattle.floats.specs.Arithmetic.{0f}
use Rattle.floats.specs.Small.{abs_of}
use Rattle.floats.specs.Outcome.{Out, need}
use Rattle.thermo_types.specs.declared.ActivityOptions.{ActivityOptions}
use Rattle.saturation_temperature.specs.Search.{Point, Root, step_of, collapsed, search_from, solve_temperature}
use Rattle.zeros.specs.Same.{◌≈◌}
use Rattle.zeros.proofs.Congruence.{≈refl, lt_≈}
use Rattle.zeros.proofs.Zero.{Zero, zero_≈, solid_≈}
use Rattle.striking.specs.Accepted.{Acc}
use Rattle.striking.proofs.Acc.{acc_bind, acc_need, acc_if, acc_ok, acc_no}
use Rattle.striking.proofs.Active.{cong2}

pub record SamePoint (a b : Point) : Type 0 where
  pub value : a.value ≡ b.value
  pub slope : a.slope ≈ b.slope

-- what is positive is no zero
pub positive_solid : (x : Float) → lt 0f x ≡ true → Zero x → ⊥
unfolding of_bits
positive_solid x h z = true≢false (sym h ∙ lt_≈ (≈refl 0f) (zero_≈ x 0f z tt) ∙ (unfold lt in refl))

same_step : (f g : Point) → SamePoint f g → (b : _) → step_of f b ≡ step_of g b
unfolding step_of
same_step f g h b = go (lt 0f f.slope) refl
  where
    go : (c : Bool) → lt 0f f.slope ≡ c → step_of f b ≡ step_of g b
    go true e = rw (h.value, solid_≈ f.slope g.slope (positive_solid f.slope e) h.slope)
    go false e = rw (e, sym (lt_≈ (≈refl 0f) h.slope) ∙ e, h.value)

module _ (f f' : Float → Out Point) (hf : (t : Float) → Acc SamePoint (f t) (f' t)) where
  strike_search : (tolerance : Float) (left done : ℕ) (b : _) → Acc (λ (x y : Root). x ≡ y) (search_from f tolerance left done b) (search_from f' tolerance left done b)
  unfolding search_from
  strike_search tolerance zero done b = acc_no _
  strike_search tolerance (suc left) done b =
      acc_bind SamePoint _ _ _ _ (hf b.next) (λ v v' h.
      acc_if (le (abs_of v.value) tolerance) (le (abs_of v'.value) tolerance) _ _ _ _ (ap (λ (y : Float). le (abs_of y) tolerance) h.value) (λ c. acc_ok refl) (λ c.
      subst (λ u. Acc (λ (x y : Root). x ≡ y) (need (not (collapsed (step_of v b) b.next)) 27 (search_from f tolerance left (suc done) (step_of v b))) (need (not (collapsed u b.next)) 27 (search_from f' tolerance left (suc done) u))) (same_step v v' h b)
      (acc_need _ _ 27 _ _ (λ g. g) (λ g. strike_search tolerance left (suc done) (step_of v b)))))

  -- `solve_temperature`, for any two functions whose points are related
  pub strike_solve : (o : ActivityOptions) → Acc (λ (x y : Root). x ≡ y) (solve_temperature f o) (solve_temperature f' o)
  unfolding solve_temperature
  strike_solve o =
      acc_bind SamePoint _ _ _ _ (hf o.minimum_temperature_k) (λ a a' ha.
      acc_bind SamePoint _ _ _ _ (hf o.maximum_temperature_k) (λ b b' hb.
      acc_if _ _ _ _ _ _ (ap (λ (v : Float). le (abs_of v) o.tolerance) ha.value) (λ c. acc_ok refl) (λ c.
      acc_if _ _ _ _ _ _ (ap (λ (v : Float). le (abs_of v) o.tolerance) hb.value) (λ d. acc_ok refl) (λ d.
      acc_need _ _ 26 _ _ (λ h. subst T (cong2 (λ u v. not (lt 0f u || lt v 0f)) ha.value hb.value) h) (λ h.
      strike_search o.tolerance o.max_temperature_iterations 0 _)))))
