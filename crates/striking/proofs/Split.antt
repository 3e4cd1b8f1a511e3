-- The two-phase split at T and p and its balance are struck, for any activity model that is: the vapor fraction is equal value for value. Assumes nothing.
use mathlib.Core.Path.{◌≡◌, refl, sym, ap, subst}
use Prim.Native.Nat.{ℕ, zero, suc, ◌≤◌, ◌<◌}
use mathlib.Core.Bool.{Bool, not, cond}
use mathlib.Core.List.{List}
use lib.Dec.{T}
use lib.Ieee.{Float, lt, of_bits}
use Rattle.floats.specs.Arithmetic.{◌⊕◌, ◌⊖◌, ◌⊗◌, 0f, 1f}
use Rattle.floats.specs.Vector.{at}
use Rattle.floats.specs.Outcome.{Out}
use Rattle.numerics.specs.Numerics.{ln_of}
use Rattle.thermo_models.specs.Model.{Activity}
use Rattle.tp_flash.specs.Split.{Split, Turn, rice_limit, k_values, phase_of, split_gap, balance_of, turn_at, split_from}
use Rattle.tp_flash.specs.Counted.{split_turn_counted, split_counted}
use Rattle.tp_flash.proofs.Forgets.{split-outcome}
use Rattle.zeros.specs.Same.{◌≈◌}
use Rattle.zeros.proofs.Congruence.{≈refl, ≈trans, same, add_≈, sub_≈, mul_≈, lt_≈, le_≈}
use Rattle.zeros.specs.Below.{◌⊑◌}
use Rattle.zeros.proofs.Below.{gone-mul-r, gone-add, gone-sub}
use Rattle.zeros.proofs.Numbers.{pick_≈, abs_≈, exp_≈}
use Rattle.striking.specs.Places.{cnt}
use Rattle.striking.specs.Accepted.{Acc, AccCounted}
use Rattle.striking.specs.Related.{Fractions}
use Rattle.striking.specs.Results.{SameActivity, SameSolution}
use Rattle.striking.proofs.Strike.{strike_fold}
use Rattle.striking.proofs.Acc.{acc_bind, acc_need, acc_ok}
use Rattle.striking.proofs.AccCounted.{accc_bind, accc_if, accc_ok, accc_no, accc_uncounted, accc_evaluated, forget_acc}
use Rattle.striking.proofs.Excess.{is_finite_≈}
use Rattle.striking.proofs.Active.{gone_not_pos, cond_fit, zero_cond, max_≈, strike_active, cong2}
use Rattle.striking.proofs.Vectors.{SameFractions, vec_kept, strike_normalize}
use Rattle.striking.proofs.Rice.{strike_negative}
use Rattle.striking.proofs.Saturation.{same-gap_at}
use Rattle.striking.proofs.Sizes.{Size, size_zero, size-max, max-gone, gone-abs}

pub record SameSplit (keep : ℕ → Bool) (n : ℕ) (a b : Split) : Type 0 where
  pub vapor_fraction : a.vapor_fraction ≡ b.vapor_fraction
  pub liquid : Fractions keep n (at a.liquid) (at b.liquid)
  pub vapor : Fractions keep n (at a.vapor) (at b.vapor)
  pub residual : a.residual ≈ b.residual
  pub iterations : a.iterations ≡ b.iterations

record SameTurn (keep : ℕ → Bool) (n : ℕ) (a b : Turn) : Type 0 where
  split : SameSplit keep n a.split b.split
  activity : SameActivity keep n a.activity b.activity

-- the balance: an absent solvent's term is NaN or zero, which the largest passes over
pub same-balance : (keep : ℕ → Bool) (n : ℕ) (β : Float) (x x' y y' z z' : List Float) → Fractions keep n (at x) (at x') → Fractions keep n (at y) (at y') → Fractions keep n (at z) (at z')
    → balance_of β x y z n ≈ balance_of β x' y' z' (cnt keep n)
unfolding balance_of
same-balance keep n β x x' y y' z z' hx hy hz =
    (strike_fold keep (λ (a c : Float). (a ≈ c) × Size a) _ _ 0f 0f n (≈refl 0f, size_zero)
    (λ i l q a c h. (max_≈ h.0 (abs_≈ (sub_≈ (add_≈ (mul_≈ (≈refl β) (hy.fraction i l q)) (mul_≈ (≈refl (1f ⊖ β)) (hx.fraction i l q))) (hz.fraction i l q))), size-max a _ h.1))
    (λ i l q a c h.
    let u = max-gone a _ h.1 (gone-abs _ (gone-term i l q)) in
    (≈trans (same u) h.0, subst Size (sym u) h.1))).0
  where
    gone-term : (i : ℕ) → i < n → T (not (keep i)) → (β ⊗ at y i ⊕ (1f ⊖ β) ⊗ at x i ⊖ at z i) ⊑ 0f
    gone-term i l q = unfold of_bits in gone-sub (gone-add (gone-mul-r β (hy.absent i l q)) (gone-mul-r (1f ⊖ β) (hx.absent i l q))) (hz.absent i l q)

module _ (keep : ℕ → Bool) (n : ℕ) (small : n ≤ 8) (E E' : List Float → Out Activity) (hE : (x x' : List Float) → Fractions keep n (at x) (at x') → Acc (SameActivity keep n) (E x) (E' x'))
    (ps ps' : List Float) (hps : (i : ℕ) → i < n → T (keep i) → at ps i ≡ at ps' (cnt keep i)) (p : Float)
    (z z' : List Float) (hz : Fractions keep n (at z) (at z')) (ez : (i : ℕ) → i < n → T (keep i) → at z i ≡ at z' (cnt keep i)) where
  same-k : (lg lg' : List Float) → ((i : ℕ) → i < n → T (keep i) → at lg i ≈ at lg' (cnt keep i)) → (i : ℕ) → i < n → T (keep i) → at (k_values z ps p lg n) i ≡ at (k_values z' ps' p lg' (cnt keep n)) (cnt keep i)
  unfolding k_values
  same-k lg lg' hl =
      vec_kept keep n (λ (a b : Float). a ≡ b) _ _ small
      (λ i l q. cong2 (λ (b : Bool) (e : Float). cond b e 1f) (lt_≈ (≈refl 0f) (hz.fraction i l q)) (exp_≈ _ _ (sub_≈ (add_≈ (hl i l q) (same (ap ln_of (hps i l q)))) (≈refl (ln_of p)))))

  strike_phase : (l l' : List Float) → Fractions keep n (at l) (at l') → Acc (SameFractions keep n) (phase_of z l n) (phase_of z' l' (cnt keep n))
  unfolding phase_of
  strike_phase l l' h =
      strike_normalize keep n small (λ i. cond (lt 0f (at z i)) (at l i) 0f) (λ i. cond (lt 0f (at z' i)) (at l' i) 0f)
      (λ i. cond_fit (lt 0f (at z i)) _ (h.fit i)) (λ i. cond_fit (lt 0f (at z' i)) _ (h.fit' i))
      (λ i m q. pick_≈ _ _ (lt_≈ (≈refl 0f) (hz.fraction i m q)) (h.fraction i m q) (≈refl 0f))
      (λ i m q. zero_cond _ _ (gone_not_pos (hz.absent i m q)))

  same-split_gap : (lg lg' : List Float) → ((i : ℕ) → i < n → T (keep i) → at lg i ≈ at lg' (cnt keep i)) → (x x' y y' : List Float) → Fractions keep n (at x) (at x') → Fractions keep n (at y) (at y')
      → split_gap z lg ps p x y n ≈ split_gap z' lg' ps' p x' y' (cnt keep n)
  unfolding split_gap
  same-split_gap lg lg' hl x x' y y' hx hy = strike_active keep n ◌≈◌ (at z) (at z') hz _ _ 0f 0f (≈refl 0f) (λ i l q a b h. max_≈ h (same-gap_at keep n small ps ps' hps lg lg' hl p p refl x x' y y' hx hy i l q))

  -- the phases of a turn, and the activity at its liquid
  strike_turn_at : (β : Float) (x x' y y' : List Float) → Fractions keep n (at x) (at x') → Fractions keep n (at y) (at y') → (iteration : ℕ)
      → Acc (SameTurn keep n) (turn_at E ps n p z β x y iteration) (turn_at E' ps' (cnt keep n) p z' β x' y' iteration)
  unfolding turn_at
  strike_turn_at β x x' y y' hx hy iteration =
      acc_bind (SameActivity keep n) _ _ _ _ (hE x x' hx) (λ a a' ha.
      let g = same-split_gap a.ln_gamma a'.ln_gamma ha.ln_gamma x x' y y' hx hy in
      acc_need _ _ 25 _ _ (λ h. subst T (is_finite_≈ g) h) (λ f.
      acc_ok (record { split = record { vapor_fraction = refl; liquid = hx; vapor = hy; residual = g; iterations = refl }; activity = ha })))

  strike_split_turn : (lg lg' : List Float) → ((i : ℕ) → i < n → T (keep i) → at lg i ≈ at lg' (cnt keep i)) → (iteration : ℕ)
      → AccCounted (SameTurn keep n) (split_turn_counted E ps n p z lg iteration) (split_turn_counted E' ps' (cnt keep n) p z' lg' iteration)
  unfolding split_turn_counted
  strike_split_turn lg lg' hl iteration =
      accc_bind (SameSolution keep n) _ _ _ _
      (accc_uncounted _ _
      (strike_negative keep n small (at z) (at z') (at (k_values z ps p lg n)) (at (k_values z' ps' p lg' (cnt keep n))) hz ez (same-k lg lg' hl)
      rice_limit)) (λ rr rr' hr.
      accc_bind (SameFractions keep n) _ _ _ _ (accc_uncounted _ _ (strike_phase rr.liquid rr'.liquid hr.liquid)) (λ x x' hx.
      accc_bind (SameFractions keep n) _ _ _ _ (accc_uncounted _ _ (strike_phase rr.vapor rr'.vapor hr.vapor)) (λ y y' hy.
      accc_evaluated _ _
      (subst (λ (β : Float). Acc (SameTurn keep n) (turn_at E ps n p z rr.vapor_fraction x y iteration) (turn_at E' ps' (cnt keep n) p z' β x' y' iteration))
      hr.vapor_fraction
      (strike_turn_at rr.vapor_fraction x x' y y' hx hy iteration)))))

  -- the split, with the evaluations that it begins
  module _ (tolerance : Float) where
    pub strike_split_counted : (left done : ℕ) (lg lg' : List Float) → ((i : ℕ) → i < n → T (keep i) → at lg i ≈ at lg' (cnt keep i))
        → AccCounted (SameSplit keep n) (split_counted E ps n p z tolerance left done lg) (split_counted E' ps' (cnt keep n) p z' tolerance left done lg')
    unfolding split_counted
    strike_split_counted zero done lg lg' hl = accc_no 27 _
    strike_split_counted (suc left) done lg lg' hl =
        accc_bind (SameTurn keep n) _ _ _ _ (strike_split_turn lg lg' hl (suc done)) (λ u u' hu.
        accc_if _ _ _ _ _ _ (le_≈ hu.split.residual (≈refl tolerance))
        (λ c. accc_ok _ _ hu.split)
        (λ c. strike_split_counted left (suc done) u.activity.ln_gamma u'.activity.ln_gamma hu.activity.ln_gamma))

    pub strike_split : (left done : ℕ) (lg lg' : List Float) → ((i : ℕ) → i < n → T (keep i) → at lg i ≈ at lg' (cnt keep i))
        → Acc (SameSplit keep n) (split_from E ps n p z tolerance left done lg) (split_from E' ps' (cnt keep n) p z' tolerance left done lg')
    strike_split left done lg lg' hl =
        forget_acc (split-outcome E ps n p z tolerance left done lg) (split-outcome E' ps' (cnt keep n) p z' tolerance left done lg')
        (strike_split_counted left done lg lg' hl)
