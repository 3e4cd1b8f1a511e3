-- The near-pure trials of a liquid are struck, for any activity model that is: each trial's component is a kept solvent, given by its new place. Assumes nothing.
use mathlib.Core.Path.{◌≡◌, refl, sym, ap, ◌∙◌, subst, subst₂}
use mathlib.Core.Logic.{⊎_elim}
use Prim.Native.Nat.{ℕ, zero, suc, ◌-◌, ◌≤◌, ◌<◌}
use native.Mathlib.Nat.{le_refl, le_trans, le_of_suc-le-suc, eq-or-lt_of_le, not-suc-le-zero}
use native.Mathlib.Omega.{arith}
use mathlib.Core.Bool.{Bool, true, false, not, ◌&&◌, cond}
use mathlib.Core.List.{List}
use lib.IntN.{pos}
use lib.ListN.{length, get_or, set, length-set, length-replicate}
use lib.Seq.{get_or-set_same, get_or-set_other}
use lib.Dec.{T, ltb}
use lib.Ieee.{Float, binary64, lt, of_int, of_bits}
use lib.Ieee.Fits.{div-fits}
use Rattle.floats.specs.Arithmetic.{◌⊕◌, ◌⊘◌, 0f, 1f}
use Rattle.floats.specs.Vector.{at}
use Rattle.floats.specs.Outcome.{Out, ok}
use Rattle.counted.specs.Counted.{Counted, uncounted, bind_counted, choose_counted}
use Rattle.numerics.specs.Numerics.{exp_of, ln_of}
use Rattle.thermo_types.specs.declared.ActivityOptions.{ActivityOptions}
use Rattle.thermo_models.specs.Model.{Activity}
use Rattle.liquid_stability.specs.declared.LiquidStabilityTrial.{LiquidStabilityTrial}
use Rattle.liquid_stability.specs.Stability.{present_count, tangent, start_of, total_of, trial_composition, distance_of, next_of, change_of, apart_of}
use Rattle.liquid_stability.specs.Stability.{trivial_at, unstable, trial_with, no_trial, Trials, no_trials, with_trial, stability_of, start_rest, start_from}
use Rattle.liquid_stability.specs.Stability.{others_in}
use Rattle.liquid_stability.specs.Counted.{judge_counted, trial_counted, trials_counted, stability_counted}
use Rattle.liquid_stability.proofs.Forgets.{stability_outcome}
use Rattle.zeros.specs.Same.{◌≈◌}
use Rattle.zeros.proofs.Congruence.{≈refl, same, add_≈, sub_≈, mul_≈, div_≈, lt_≈, le_≈}
use Rattle.zeros.specs.Below.{◌⊑◌}
use Rattle.zeros.proofs.Below.{gone}
use Rattle.zeros.proofs.Numbers.{pick_≈, abs_≈, exp_≈, ln_≈}
use Rattle.striking.specs.Places.{tick, cnt}
use Rattle.striking.specs.Accepted.{Acc, AccCounted}
use Rattle.striking.specs.Related.{Fractions}
use Rattle.striking.specs.Results.{SameActivity, SameTrial, SameTrials}
use Rattle.striking.proofs.Strike.{cnt_eqb}
use Rattle.striking.proofs.AccCounted.{accc_bind, accc_need, accc_if, accc_ok, accc_no, accc_evaluated, accc_weaken, accc_alone, forget_acc, counted-no}
use Rattle.striking.proofs.Excess.{is_finite_≈}
use Rattle.striking.proofs.Active.{gone_not_pos, cond_fit, zero_cond, max_≈, strike_active, cong2}
use Rattle.striking.proofs.Vectors.{vec-fractions, vec_kept}

-- ---- trials kept in an array of eight
-- after the solvents below k: at most k trials, in arrays of eight
record Running (keep : ℕ → Bool) (n k : ℕ) (s s' : Trials) : Type 0 where
  same-trials : SameTrials keep n s s'
  room : s.count ≤ k
  long : length s.trials ≡ 8
  long' : length s'.trials ≡ 8

same-unstable : (threshold : Float) {a a' : Float} {b b' : Bool} → a ≈ a' → b ≡ b' → unstable threshold a b ≡ unstable threshold a' b'
unfolding unstable
same-unstable threshold p q = cong2 (λ c d. c && not d) (lt_≈ p (≈refl threshold)) q

pub none-same : (keep : ℕ → Bool) (n : ℕ) → SameTrials keep n no_trials no_trials
unfolding no_trials
none-same keep n = record { stable = refl; count = refl; trials = λ k l. absurd (not-suc-le-zero l) }

none-running : (keep : ℕ → Bool) (n : ℕ) → Running keep n 0 no_trials no_trials
unfolding no_trials
none-running keep n = record { same-trials = unfold no_trials in none-same keep n; room = le_refl 0; long = length-replicate 8 no_trial; long' = length-replicate 8 no_trial }

module _ (keep : ℕ → Bool) (n : ℕ) where
  -- the entries of two arrays after a store at the same index
  stored : (l l' : List LiquidStabilityTrial) (c : ℕ) (r r' : LiquidStabilityTrial) → c < length l → c < length l' → ((k : ℕ) → k < c → SameTrial keep n (get_or l k no_trial) (get_or l' k no_trial)) → SameTrial keep n r r'
      → (k : ℕ) → k < suc c → SameTrial keep n (get_or (set l c r) k no_trial) (get_or (set l' c r') k no_trial)
  stored l l' c r r' h h' f g k m =
      ⊎_elim
      (λ (e : k ≡ c). subst (λ (j : ℕ). SameTrial keep n (get_or (set l c r) j no_trial) (get_or (set l' c r') j no_trial)) (sym e) (subst₂ (SameTrial keep n) (sym (get_or-set_same l c r no_trial h)) (sym (get_or-set_same l' c r' no_trial h')) g))
      (λ (e : k < c). subst₂ (SameTrial keep n) (sym (get_or-set_other l c k r no_trial (omega arith))) (sym (get_or-set_other l' c k r' no_trial (omega arith))) (f k e))
      (eq-or-lt_of_le (le_of_suc-le-suc m))

  one_more : (threshold : Float) (k : ℕ) → k < 8 → (s s' : Trials) → Running keep n k s s' → (r r' : LiquidStabilityTrial) → SameTrial keep n r r' → Running keep n (suc k) (with_trial threshold s r) (with_trial threshold s' r')
  unfolding with_trial
  one_more threshold k m s s' hs r r' hr =
      let e = hs.same-trials.count in
      record {
        same-trials = record {
          stable = cong2 (λ a b. a && not b) hs.same-trials.stable (same-unstable threshold hr.distance hr.trivial);
          count = ap suc e;
          trials = subst (λ (c : ℕ). (j : ℕ) → j < suc s.count → SameTrial keep n (get_or (set s.trials s.count r) j no_trial) (get_or (set s'.trials c r') j no_trial)) e
              (stored s.trials s'.trials s.count r r' (below s.count (length s.trials) hs.room hs.long) (below s.count (length s'.trials) hs.room hs.long') hs.same-trials.trials hr);
        };
        room = up s.count hs.room;
        long = length-set s.trials s.count r ∙ hs.long;
        long' = length-set s'.trials s'.count r' ∙ hs.long';
      }
    where
      below : (c l : ℕ) → c ≤ k → l ≡ 8 → c < l
      below c l h e = omega arith

      up : (c : ℕ) → c ≤ k → suc c ≤ suc k
      up c h = omega arith

  -- a solvent without a trial
  no_more : (k : ℕ) (s s' : Trials) → Running keep n k s s' → Running keep n (suc k) s s'
  no_more k s s' h = record { same-trials = h.same-trials; room = up s.count h.room; long = h.long; long' = h.long' }
    where
      up : (c : ℕ) → c ≤ k → c ≤ suc k
      up c h = omega arith

pub same-present : (keep : ℕ → Bool) (n : ℕ) (x x' : List Float) → Fractions keep n (at x) (at x') → present_count x n ≡ present_count x' (cnt keep n)
unfolding present_count
same-present keep n x x' hx = strike_active keep n (λ (a b : ℕ). a ≡ b) (at x) (at x') hx _ _ 0 0 refl (λ k l q a b h. ap suc h)

module _ (keep : ℕ → Bool) (n : ℕ) (small : n ≤ 8) (E E' : List Float → Out Activity) (hE : (x x' : List Float) → Fractions keep n (at x) (at x') → Acc (SameActivity keep n) (E x) (E' x'))
    (o : ActivityOptions) (x x' : List Float) (hx : Fractions keep n (at x) (at x')) where
  abbrev threshold : Float
  threshold = o.tm_threshold

  -- ---- one trial
  module _ (lw lw' : List Float) (hl : (i : ℕ) → i < n → T (keep i) → at lw i ≈ at lw' (cnt keep i)) where
    same_total : total_of x lw n ≡ total_of x' lw' (cnt keep n)
    unfolding total_of
    same_total = strike_active keep n (λ (a b : Float). a ≡ b) (at x) (at x') hx _ _ 0f 0f refl (λ k l q a b h. cong2 (λ c d. c ⊕ d) h (exp_≈ _ _ (hl k l q)))

    same-composition : Fractions keep n (at (trial_composition x lw n)) (at (trial_composition x' lw' (cnt keep n)))
    unfolding trial_composition
    same-composition = vec-fractions keep n _ _ small (parts (total_of x lw n) (total_of x' lw' (cnt keep n)) same_total)
      where
        off : (i : ℕ) (w : Float) → i < n → T (not (keep i)) → cond (lt 0f (at x i)) w 0f ⊑ 0f
        off i w l q = unfold of_bits in gone (zero_cond _ _ (gone_not_pos (hx.absent i l q)))

        parts : (s s' : Float) → s ≡ s' → Fractions keep n (λ i. cond (lt 0f (at x i)) (exp_of (at lw i) ⊘ s) 0f) (λ i. cond (lt 0f (at x' i)) (exp_of (at lw' i) ⊘ s') 0f)
        parts s s' e = record {
          absent = λ i l q. off i (exp_of (at lw i) ⊘ s) l q;
          fraction = λ i l q. pick_≈ _ _ (lt_≈ (≈refl 0f) (hx.fraction i l q)) (div_≈ (same (exp_≈ _ _ (hl i l q))) e) (≈refl 0f);
          fit = λ i. cond_fit (lt 0f (at x i)) _ (div-fits binary64 _ _);
          fit' = λ i. cond_fit (lt 0f (at x' i)) _ (div-fits binary64 _ _);
        }

    module _ (lg lg' d d' : List Float) (hg : (i : ℕ) → i < n → T (keep i) → at lg i ≈ at lg' (cnt keep i)) (hd : (i : ℕ) → i < n → T (keep i) → at d i ≈ at d' (cnt keep i)) where
      same-distance : distance_of x lw lg d n ≈ distance_of x' lw' lg' d' (cnt keep n)
      unfolding distance_of
      same-distance = strike_active keep n ◌≈◌ (at x) (at x') hx _ _ 1f 1f (≈refl 1f) (λ k l q a b h. add_≈ h (mul_≈ (same (exp_≈ _ _ (hl k l q))) (sub_≈ (sub_≈ (add_≈ (hl k l q) (hg k l q)) (hd k l q)) (≈refl 1f))))

      same-change : change_of x lw lg d n ≈ change_of x' lw' lg' d' (cnt keep n)
      unfolding change_of
      same-change = strike_active keep n ◌≈◌ (at x) (at x') hx _ _ 0f 0f (≈refl 0f) (λ k l q a b h. max_≈ h (abs_≈ (sub_≈ (sub_≈ (hd k l q) (hg k l q)) (hl k l q))))

  same-trivial : (w w' : List Float) → Fractions keep n (at w) (at w') → trivial_at x w n ≡ trivial_at x' w' (cnt keep n)
  unfolding apart_of
  same-trivial w w' hw = le_≈ (strike_active keep n ◌≈◌ (at x) (at x') hx _ _ 0f 0f (≈refl 0f) (λ k l q a b h. max_≈ h (abs_≈ (sub_≈ (hw.fraction k l q) (hx.fraction k l q))))) (≈refl _)

  same_next : (lg lg' d d' : List Float) → ((i : ℕ) → i < n → T (keep i) → at lg i ≈ at lg' (cnt keep i)) → ((i : ℕ) → i < n → T (keep i) → at d i ≈ at d' (cnt keep i))
      → (i : ℕ) → i < n → T (keep i) → at (next_of d lg n) i ≈ at (next_of d' lg' (cnt keep n)) (cnt keep i)
  unfolding next_of
  same_next lg lg' d d' hg hd = vec_kept keep n ◌≈◌ _ _ small (λ i l q. sub_≈ (hd i l q) (hg i l q))

  strike_trial : (d d' : List Float) → ((i : ℕ) → i < n → T (keep i) → at d i ≈ at d' (cnt keep i)) → (j : ℕ) → j < n → T (keep j) → (left done : ℕ) (lw lw' : List Float)
      → ((i : ℕ) → i < n → T (keep i) → at lw i ≈ at lw' (cnt keep i))
      → AccCounted (SameTrial keep n) (trial_counted E threshold n x d j left done lw)
      (trial_counted E' threshold (cnt keep n) x' d' (cnt keep j) left done lw')
  unfolding trial_counted judge_counted trial_with
  strike_trial d d' hd j lj qj zero done lw lw' hl = accc_no 27 _
  strike_trial d d' hd j lj qj (suc left) done lw lw' hl =
      accc_bind (SameActivity keep n) _ _ _ _ (accc_evaluated _ _ (hE _ _ (same-composition lw lw' hl))) (λ a a' ha.
      let v = same-distance lw lw' hl a.ln_gamma a'.ln_gamma d d' ha.ln_gamma hd in
      let w = same-composition lw lw' hl in
      let t = same-trivial _ _ w in
      accc_need _ _ 25 _ _ (λ h. subst T (is_finite_≈ v) h) (λ f.
      accc_if _ _ _ _ _ _ (same-unstable threshold v t)
      (λ b. accc_ok _ _ (record { below = lj; kept = qj; component = refl; distance = v; composition = w; iterations = refl; trivial = refl }))
      (λ b. accc_if _ _ _ _ _ _ (le_≈ (same-change lw lw' hl a.ln_gamma a'.ln_gamma d d' ha.ln_gamma hd) (≈refl _))
      (λ c. accc_ok _ _ (record { below = lj; kept = qj; component = refl; distance = v; composition = w; iterations = refl; trivial = t }))
      (λ c. strike_trial d d' hd j lj qj left (suc done) _ _ (same_next a.ln_gamma a'.ln_gamma d d' ha.ln_gamma hd)))))

  same_start : (j : ℕ) → j < n → T (keep j) → (i : ℕ) → i < n → T (keep i) → at (start_of x n j) i ≈ at (start_of x' (cnt keep n) (cnt keep j)) (cnt keep i)
  unfolding start_from others_in
  same_start j lj qj =
      vec_kept keep n ◌≈◌ _ _ small
      (λ i l q. pick_≈ _ _ (cnt_eqb keep i j q qj) (≈refl _) (same (ap (λ (c : ℕ). ln_of (start_rest ⊘ of_int binary64 (pos (c - 1)))) (same-present keep n x x' hx))))

  same-tangent : (lg lg' : List Float) → ((i : ℕ) → i < n → T (keep i) → at lg i ≈ at lg' (cnt keep i)) → (i : ℕ) → i < n → T (keep i) → at (tangent x lg n) i ≈ at (tangent x' lg' (cnt keep n)) (cnt keep i)
  unfolding tangent
  same-tangent lg lg' hg = vec_kept keep n ◌≈◌ _ _ small (λ i l q. pick_≈ _ _ (lt_≈ (≈refl 0f) (hx.fraction i l q)) (add_≈ (same (ln_≈ _ _ (hx.fraction i l q))) (hg i l q)) (≈refl 0f))

  -- ---- the trials of all solvents
  module _ (d d' : List Float) (hd : (i : ℕ) → i < n → T (keep i) → at d i ≈ at d' (cnt keep i)) where
    abbrev limit : ℕ
    limit = o.max_iterations

    -- what a solvent adds
    abbrev turn : (E : List Float → Out Activity) (n : ℕ) (x d : List Float) (k : ℕ) → Trials → Counted Trials
    turn E n x d k s =
        choose_counted (lt 0f (at x k))
        (bind_counted (trial_counted E threshold n x d k limit 0 (start_of x n k)) (λ r. uncounted (ok (with_trial threshold s r))))
        (uncounted (ok s))

    turn-kept : (k : ℕ) → k < n → T (keep k) → (s s' : Trials) → Running keep n k s s'
        → AccCounted (Running keep n (suc k)) (turn E n x d k s) (turn E' (cnt keep n) x' d' (cnt keep k) s')
    turn-kept k l q s s' hs =
        accc_if _ _ _ _ _ _ (lt_≈ (≈refl 0f) (hx.fraction k l q))
        (λ c. accc_bind (SameTrial keep n) _ _ _ _ (strike_trial d d' hd k l q limit 0 _ _ (same_start k l q)) (λ r r' hr.
        accc_ok _ _ (one_more keep n threshold k (le_trans l small) s s' hs r r' hr)))
        (λ c. accc_ok _ _ (no_more keep n k s s' hs))

    turn-struck : (k : ℕ) → k < n → T (not (keep k)) → (s s' : Trials) → Running keep n k s s'
        → AccCounted (Running keep n (suc k)) (turn E n x d k s) (uncounted (ok s'))
    turn-struck k l q s s' hs =
        subst (λ (c : Counted Trials). AccCounted (Running keep n (suc k)) c (uncounted (ok s'))) (sym (counted-no _ _ (gone_not_pos (hx.absent k l q))))
        (accc_ok _ _ (no_more keep n k s s' hs))

    strike_trials : (k : ℕ) → k ≤ n → AccCounted (Running keep n k) (trials_counted E n o x d k) (trials_counted E' (cnt keep n) o x' d' (cnt keep k))
    unfolding trials_counted cnt
    strike_trials zero h = accc_ok _ _ (none-running keep n)
    strike_trials (suc k) h = go (keep k) (turn-kept k h) (turn-struck k h) (strike_trials k (omega arith))
      where
        go : (b : Bool)
            → (T b → (s s' : Trials) → Running keep n k s s'
            → AccCounted (Running keep n (suc k)) (turn E n x d k s) (turn E' (cnt keep n) x' d' (cnt keep k) s'))
            → (T (not b) → (s s' : Trials) → Running keep n k s s' → AccCounted (Running keep n (suc k)) (turn E n x d k s) (uncounted (ok s')))
            → AccCounted (Running keep n k) (trials_counted E n o x d k) (trials_counted E' (cnt keep n) o x' d' (cnt keep k))
            → AccCounted (Running keep n (suc k)) (bind_counted (trials_counted E n o x d k) (turn E n x d k))
            (trials_counted E' (cnt keep n) o x' d' (tick b (cnt keep k)))
        go true f g ih = accc_bind (Running keep n k) _ _ _ _ ih (f tt)
        go false f g ih = accc_alone (Running keep n k) _ _ _ ih (g tt)

  -- `liquid_stability`, with the evaluations that it begins
  pub strike_stability_counted : AccCounted (SameTrials keep n) (stability_counted E n o x) (stability_counted E' (cnt keep n) o x')
  unfolding stability_counted
  strike_stability_counted =
      accc_bind (SameActivity keep n) _ _ _ _ (accc_evaluated _ _ (hE x x' hx)) (λ a a' ha.
      accc_if _ _ _ _ _ _ (ap (λ (c : ℕ). ltb c 2) (same-present keep n x x' hx)) (λ b. accc_ok _ _ (none-same keep n)) (λ b.
      accc_weaken (Running keep n n) _ _
      (strike_trials (tangent x a.ln_gamma n) (tangent x' a'.ln_gamma (cnt keep n)) (same-tangent a.ln_gamma a'.ln_gamma ha.ln_gamma) n (le_refl n))
      (λ s s' h. h.same-trials)))

  pub strike_stability : Acc (SameTrials keep n) (stability_of E n o x) (stability_of E' (cnt keep n) o x')
  strike_stability = forget_acc (stability_outcome E n o x) (stability_outcome E' (cnt keep n) o x') strike_stability_counted
