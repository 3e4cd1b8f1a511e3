-- The laws of striking refute the leaky definitions of crates/striking/specs/Leaks.antt. Each law is stated of any definition in the place of the core's; the core's has it, by
-- the theorem cited, and the leaky one has it not, by one computed sheet: solvents 1 and 2 in halves, 0 and 3 absent. Assumes nothing.
use mathlib.Core.Path.{◌≡◌, refl, sym, ap, ◌∙◌, subst}
use Prim.Native.Nat.{ℕ, zero, suc, ◌+◌, ◌*◌, ◌≤◌, ◌<◌}
use native.Mathlib.Nat.{le_trans}
use native.Mathlib.Omega.{arith}
use mathlib.Core.Bool.{Bool, true, false, not, ◌||◌}
use mathlib.Core.List.{List, [], ◌∷◌}
use lib.ListN.{replicate, get_or-replicate}
use lib.Dec.{T, eqb}
use lib.Ieee.{Float, nan, inf, fin, binary64, fits, of_bits, add, sub, mul, div, neg, lt, le, eq, is_nan, of_int, to_signed, size}
use Rattle.floats.specs.Arithmetic.{#, ◌⊕◌, ◌⊖◌, 0f, ½, 1f, 2f}
use Rattle.floats.specs.Small.{is_finite, positive, max_of, abs_of}
use Rattle.floats.specs.Fold.{fold_to, all_to}
use Rattle.floats.specs.Vector.{at, fill, zeros8}
use Rattle.floats.specs.Outcome.{Out, ok, bind, need, choose}
use Rattle.numerics.specs.Numerics.{exp_of, ln_of}
use Rattle.thermo_types.specs.Quantities.{positive_of}
use Rattle.thermo_types.specs.Composition.{sums_to_one, with_fractions, shares_of, normalize_of}
use Rattle.thermo_types.specs.declared.ActivityOptions.{ActivityOptions}
use Rattle.jet.specs.Jets.{const_j, add_j, sub_j, neg_j, scale_j, div_j, exp_with, ln_with}
use Rattle.excess.specs.State.{Excess, gibbs_of, enthalpy_of, heat_capacity_of, entropy_of, state_with, state_from, with_state}
use Rattle.wilson_tables.specs.Pair.{kelvin_j, ln_lambda_j, lambda_ij}
use Rattle.wilson.specs.Sums.{quotients, wilson_from, gibbs_of_ln}
use Rattle.wilson.specs.State.{wilson_of}
use Rattle.thermo_models.specs.Model.{Activity, Pures, Activities, Liquids, pressure_in_domain}
use Rattle.rachford_rice.specs.Rachford.{Solution, residual_of, slope_of, k_max, k_min, validate, turn_of, liquid_part, vapor_part, solution_at, iterate, between, negative}
use Rattle.saturation.specs.Saturation.{Bubble, Saturation, bubble_from, gap_at, gap_of, residual_with, dew_term, dew_pressure, dew_liquid, dew_turn, dew_point, dew_loop, dew_at}
use Rattle.saturation_temperature.specs.Search.{step_of, collapsed, search_from, solve_temperature}
use Rattle.saturation.specs.Saturation as saturation
use Rattle.saturation_temperature.specs.Boiling.{dew_saturation, saturation_temperature, dew_found, dew_temperature}
use Rattle.liquid_stability.specs.Stability.{Trials, no_trials, no_trial, with_trial, trial_with, present_count, tangent, start_from, others_in, total_of, trial_composition, distance_of, change_of, apart_of, unstable, judge, trial_from, stability_of}
use Rattle.tp_flash.specs.Split.{Split, k_values, phase_of, split_gap, turn_at, split_turn, split_from}
use Rattle.zeros.specs.Same.{◌≈◌}
use Rattle.zeros.specs.Below.{◌⊑◌}
use Rattle.zeros.proofs.Congruence.{≈refl, ≈trans, same, lt_≈}
use Rattle.zeros.proofs.Below.{⊑_refl}
use Rattle.zeros.proofs.Numbers.{ln_≈}
use Rattle.striking.specs.Places.{cnt}
use Rattle.striking.specs.Accepted.{Acc}
use Rattle.striking.specs.Related.{Fractions, SameExcess}
use Rattle.striking.specs.Results.{SameActivity, SamePures, SameSolution, SameSaturation, SameTrials}
use Rattle.striking.specs.Leaks.{leaky_partial, leaky_bubble, leaky_max, leaky_min, leaky_negative, leaky_change, leaky_split, leaky_trials, leaky_stability, leaky_slope, leaky_point, leaky_temperature, leaky_s, leaky_wilson}
use Rattle.striking.proofs.Strike.{strike_fold, cnt_lt}
use Rattle.striking.proofs.Acc.{acc_ok}
use Rattle.striking.proofs.Active.{max_≈}
use Rattle.striking.proofs.Excess.{Params, cnt_le}
use Rattle.striking.proofs.Wilson.{strike_wilson}
use Rattle.striking.proofs.Rice.{strike_negative}
use Rattle.striking.proofs.Saturation.{SameBubble, same-gap_at, strike_bubble_from}
use Rattle.striking.proofs.Stability.{strike_stability}
use Rattle.striking.proofs.Boiling.{strike_dew_temperature}
use Rattle.striking.proofs.Split.{SameSplit, strike_split}

-- ---- the sheet: of four solvents, 1 and 2 are kept
abbrev keep : ℕ → Bool
keep k = eqb k 1 || eqb k 2

-- what holds of each of the four
four : (P : ℕ → Type 0) → P 0 → P 1 → P 2 → P 3 → (k : ℕ) → k < 4 → P k
four P a b c d zero l = a
four P a b c d (suc zero) l = b
four P a b c d (suc (suc zero)) l = c
four P a b c d (suc (suc (suc zero))) l = d
four P a b c d (suc (suc (suc (suc k)))) l = absurd (above k l)
  where
    above : (k : ℕ) → suc (suc (suc (suc k))) < 4 → ⊥
    above k l = omega arith

-- what holds of the two kept
two : (P : ℕ → Type 0) → P 1 → P 2 → (k : ℕ) → k < 4 → T (keep k) → P k
two P b c = four (λ k. T (keep k) → P k) (λ q. absurd q) (λ q. b) (λ q. c) (λ q. absurd q)

abbrev feed : List Float
feed = 0f ∷ ½ ∷ ½ ∷ 0f ∷ []

abbrev feed' : List Float
feed' = ½ ∷ ½ ∷ []

fit : (k : ℕ) → T (fits binary64 (at feed k))
unfolding of_bits fits
fit zero = tt
fit (suc zero) = tt
fit (suc (suc zero)) = tt
fit (suc (suc (suc zero))) = tt
fit (suc (suc (suc (suc k)))) = tt

fit' : (k : ℕ) → T (fits binary64 (at feed' k))
unfolding of_bits fits
fit' zero = tt
fit' (suc zero) = tt
fit' (suc (suc k)) = tt

fractions : Fractions keep 4 (at feed) (at feed')
unfolding cnt
fractions = record {
  absent = four (λ k. T (not (keep k)) → at feed k ⊑ 0f) (λ q. ⊑_refl 0f) (λ q. absurd q) (λ q. absurd q) (λ q. ⊑_refl 0f);
  fraction = two (λ k. at feed k ≈ at feed' (cnt keep k)) (≈refl ½) (≈refl ½);
  fit = fit;
  fit' = fit';
}

ln_zero : (i : ℕ) → i < 4 → T (keep i) → at zeros8 i ≈ at zeros8 (cnt keep i)
unfolding cnt
ln_zero = two (λ i. at zeros8 i ≈ at zeros8 (cnt keep i)) (≈refl 0f) (≈refl 0f)

-- ---- 1. the bubble pressure's sum
abbrev pub BubbleLaw : (List Float → List Float → List Float → ℕ → Out Bubble) → Type 0
BubbleLaw bubble =
    (keep : ℕ → Bool) (n : ℕ) → n ≤ 8 → (ps ps' : List Float) → ((i : ℕ) → i < n → T (keep i) → at ps i ≡ at ps' (cnt keep i))
    → (x x' : List Float) → Fractions keep n (at x) (at x') → (lg lg' : List Float) → ((i : ℕ) → i < n → T (keep i) → at lg i ≈ at lg' (cnt keep i))
    → Acc (SameBubble keep n) (bubble x lg ps n) (bubble x' lg' ps' (cnt keep n))

pub bubble_law : BubbleLaw bubble_from
bubble_law = strike_bubble_from

abbrev ones : List Float
ones = 1f ∷ 1f ∷ 1f ∷ 1f ∷ []

abbrev ones' : List Float
ones' = 1f ∷ 1f ∷ []

same-ones : (i : ℕ) → i < 4 → T (keep i) → at ones i ≡ at ones' (cnt keep i)
unfolding cnt
same-ones = two (λ i. at ones i ≡ at ones' (cnt keep i)) refl refl

-- 3 Pa with the longer book, 1 Pa with the shorter
pub bubble_leaks : BubbleLaw leaky_bubble → ⊥
unfolding cnt leaky_bubble leaky_partial exp_of of_bits add sub mul div neg lt le eq is_nan of_int to_signed size is_finite fold_to need
bubble_leaks law = subst (λ (p : Float). T (lt 1f p)) (law keep 4 (omega arith) ones ones' same-ones feed feed' fractions zeros8 zeros8 ln_zero).says.pressure tt

-- ---- 2. K bounds
abbrev pub RiceLaw : ((ℕ → Float) → (ℕ → Float) → ℕ → ℕ → Out Solution) → Type 0
RiceLaw split =
    (keep : ℕ → Bool) (n : ℕ) → n ≤ 8 → (z z' k k' : ℕ → Float) → Fractions keep n z z'
    → ((i : ℕ) → i < n → T (keep i) → z i ≡ z' (cnt keep i)) → ((i : ℕ) → i < n → T (keep i) → k i ≡ k' (cnt keep i))
    → (limit : ℕ) → Acc (SameSolution keep n) (split z k n limit) (split z' k' (cnt keep n) limit)

pub rice_law : RiceLaw negative
rice_law = strike_negative

same-feed : (i : ℕ) → i < 4 → T (keep i) → at feed i ≡ at feed' (cnt keep i)
unfolding cnt
same-feed = two (λ i. at feed i ≡ at feed' (cnt keep i)) refl refl

-- K = 1 at both kept solvents, 2 and 0.5 at the absent ones
abbrev ratios : List Float
ratios = 2f ∷ 1f ∷ 1f ∷ ½ ∷ []

same-ratios : (i : ℕ) → i < 4 → T (keep i) → at ratios i ≡ at ones' (cnt keep i)
unfolding cnt
same-ratios = two (λ i. at ratios i ≡ at ones' (cnt keep i)) refl refl

-- accepted with the longer book, 28 with the shorter
pub rice_leaks : RiceLaw leaky_negative → ⊥
unfolding cnt leaky_max leaky_min leaky_negative of_bits add sub mul div neg lt le eq is_nan size is_finite fold_to all_to need choose sums_to_one residual_of slope_of validate turn_of iterate
rice_leaks law = (law keep 4 (omega arith) (at feed) (at feed') (at ratios) (at ones') fractions same-feed same-ratios 1).says

-- ---- 3. the flash's convergence test
abbrev pub SplitLaw : ((List Float → Out Activity) → List Float → ℕ → Float → List Float → Float → ℕ → ℕ → List Float → Out Split) → Type 0
SplitLaw split =
    (keep : ℕ → Bool) (n : ℕ) → n ≤ 8 → (E E' : List Float → Out Activity) → ((x x' : List Float) → Fractions keep n (at x) (at x') → Acc (SameActivity keep n) (E x) (E' x'))
    → (ps ps' : List Float) → ((i : ℕ) → i < n → T (keep i) → at ps i ≡ at ps' (cnt keep i)) → (p : Float)
    → (z z' : List Float) → Fractions keep n (at z) (at z') → ((i : ℕ) → i < n → T (keep i) → at z i ≡ at z' (cnt keep i))
    → (tolerance : Float) (left done : ℕ) (lg lg' : List Float) → ((i : ℕ) → i < n → T (keep i) → at lg i ≈ at lg' (cnt keep i))
    → Acc (SameSplit keep n) (split E ps n p z tolerance left done lg) (split E' ps' (cnt keep n) p z' tolerance left done lg')

pub split_law : SplitLaw split_from
split_law = strike_split

-- an ideal liquid, and one in which the absent solvent 0 alone has ln γ = 2
ideal : List Float → Out Activity
ideal x = ok (record { ln_gamma = zeros8; slopes = zeros8 })

dilute : List Float → Out Activity
dilute x = ok (record { ln_gamma = 2f ∷ 0f ∷ 0f ∷ 0f ∷ []; slopes = zeros8 })

same-model : (x x' : List Float) → Fractions keep 4 (at x) (at x') → Acc (SameActivity keep 4) (dilute x) (ideal x')
unfolding cnt dilute ideal
same-model x x' hx = acc_ok (record {
  ln_gamma = two (λ i. at (2f ∷ 0f ∷ 0f ∷ 0f ∷ []) i ≈ at zeros8 (cnt keep i)) (≈refl 0f) (≈refl 0f);
  slopes = ln_zero;
})

abbrev pressures : List Float
pressures = 1f ∷ 2f ∷ ½ ∷ 1f ∷ []

abbrev pressures' : List Float
pressures' = 2f ∷ ½ ∷ []

same-pressures : (i : ℕ) → i < 4 → T (keep i) → at pressures i ≡ at pressures' (cnt keep i)
unfolding cnt
same-pressures = two (λ i. at pressures i ≡ at pressures' (cnt keep i)) refl refl

-- two turns with the longer book, one with the shorter
pub split_leaks : SplitLaw leaky_split → ⊥
unfolding cnt leaky_split leaky_change ideal dilute k_values phase_of split_gap turn_at split_turn exp_of ln_of of_bits add sub mul div neg lt le eq is_nan of_int to_signed size is_finite positive
    fold_to all_to fill bind need choose sums_to_one shares_of normalize_of residual_of slope_of k_max k_min validate turn_of liquid_part vapor_part solution_at iterate between negative
split_leaks law =
    subst (λ (c : ℕ). T (eqb c 2))
    (law keep 4 (omega arith) dilute ideal same-model pressures pressures' same-pressures 1f feed feed' fractions same-feed 1f 2 0 zeros8 zeros8 ln_zero).says.iterations tt

-- ---- no leak: the gap itself over all solvents. At an absent one ln y - ln x is a NaN, which the largest passes over
-- a NaN or -infinity
abbrev Low : Float → Type 0
Low nan = Unit {0}
Low (inf s) = T s
Low (fin s m e) = ⊥

ln-low : (u : Float) → u ⊑ 0f → Low (ln_of u)
unfolding ln_of lt le eq is_nan of_bits
ln-low nan h = tt
ln-low (inf s) h = subst Low (sym (ln_≈ (inf s) 0f (h.at tt))) tt
ln-low (fin s m e) h = subst Low (sym (ln_≈ (fin s m e) 0f (h.at tt))) tt

low-less : (a b c : Float) → Low a → Low b → a ⊕ c ⊖ b ≡ nan
unfolding add sub neg
low-less nan b c l m = refl
low-less (inf true) b nan l m = refl
low-less (inf true) b (inf false) l m = refl
low-less (inf true) nan (inf true) l m = refl
low-less (inf true) (inf true) (inf true) l m = refl
low-less (inf true) nan (fin s k e) l m = refl
low-less (inf true) (inf true) (fin s k e) l m = refl
low-less (inf false) b c l m = elim l [ ]
low-less (inf true) (inf false) (inf true) l m = elim m [ ]
low-less (inf true) (fin _ _ _) (inf true) l m = elim m [ ]
low-less (inf true) (inf false) (fin s k e) l m = elim m [ ]
low-less (inf true) (fin _ _ _) (fin s k e) l m = elim m [ ]
low-less (fin _ _ _) b c l m = elim l [ ]

max_nan : (a : Float) → max_of a nan ≡ a
unfolding is_nan lt
max_nan nan = refl
max_nan (inf s) = refl
max_nan (fin s m e) = refl

gap_nan : (u g q : Float) → u ≡ nan → abs_of (u ⊖ g ⊖ q) ≡ nan
unfolding add sub le
gap_nan u g q e = ap (λ (v : Float). abs_of (v ⊖ g ⊖ q)) e

pub gap_of_all : (keep : ℕ → Bool) (n : ℕ) → n ≤ 8 → (ps ps' : List Float) → ((i : ℕ) → i < n → T (keep i) → at ps i ≡ at ps' (cnt keep i))
    → (lg lg' : List Float) → ((i : ℕ) → i < n → T (keep i) → at lg i ≈ at lg' (cnt keep i)) → (p : Float)
    → (x x' y y' : List Float) → Fractions keep n (at x) (at x') → Fractions keep n (at y) (at y')
    → fold_to (λ i r. max_of r (gap_at lg ps p x y i)) 0f n ≈ fold_to (λ i r. max_of r (gap_at lg' ps' p x' y' i)) 0f (cnt keep n)
gap_of_all keep n small ps ps' hps lg lg' hl p x x' y y' hx hy =
    strike_fold keep ◌≈◌ _ _ 0f 0f n (≈refl 0f)
    (λ i l q a b h. max_≈ h (same-gap_at keep n small ps ps' hps lg lg' hl p p refl x x' y y' hx hy i l q))
    (λ i l q a b h. ≈trans (same (ap (max_of a) (gap_nan _ _ _ (low-less _ _ _ (ln-low _ (hy.absent i l q)) (ln-low _ (hx.absent i l q)))) ∙ max_nan a)) h)

-- ---- 4. the component of a trial
abbrev pub StabilityLaw : ((List Float → Out Activity) → ℕ → ActivityOptions → List Float → Out Trials) → Type 0
StabilityLaw stability =
    (keep : ℕ → Bool) (n : ℕ) → n ≤ 8 → (E E' : List Float → Out Activity) → ((x x' : List Float) → Fractions keep n (at x) (at x') → Acc (SameActivity keep n) (E x) (E' x'))
    → (o : ActivityOptions) (x x' : List Float) → Fractions keep n (at x) (at x')
    → Acc (SameTrials keep n) (stability E n o x) (stability E' (cnt keep n) o x')

pub stability_law : StabilityLaw stability_of
stability_law = strike_stability

-- one turn, and a threshold that every tm is below
once : ActivityOptions
once = record { max_iterations = 1; tolerance = 0f; max_temperature_iterations = 1; tm_threshold = 2f; minimum_temperature_k = 0f; maximum_temperature_k = 0f }

-- the first trial, of solvent 1, is numbered 0, which is absent
pub stability_leaks : StabilityLaw leaky_stability → ⊥
unfolding cnt once leaky_trials leaky_stability ideal dilute no_trials no_trial with_trial trial_with present_count tangent start_from others_in total_of trial_composition distance_of change_of apart_of
    unstable judge trial_from exp_of ln_of of_bits add sub mul div neg lt le eq is_nan of_int to_signed size is_finite fold_to fill bind need choose
stability_leaks law = ((law keep 4 (omega arith) dilute ideal same-model once feed feed' fractions).says.trials 0 (omega arith)).kept

-- ---- 5. the dew temperature's slope
abbrev pub DewLaw : (Activities → Liquids → ℕ → ActivityOptions → Float → List Float → Out Saturation) → Type 0
DewLaw dew =
    (keep : ℕ → Bool) (n : ℕ) → n ≤ 8
    → (E E' : Activities) → ((t : Float) (x x' : List Float) → Fractions keep n (at x) (at x') → Acc (SameActivity keep n) (E t x) (E' t x'))
    → (L L' : Liquids) → ((t : Float) → Acc (SamePures keep n) (L t) (L' t))
    → (o : ActivityOptions) (p : Float) (y y' : List Float) → Fractions keep n (at y) (at y')
    → Acc (SameSaturation keep n) (dew E L n o p y) (dew E' L' (cnt keep n) o p y')

pub dew_law : DewLaw dew_temperature
dew_law = strike_dew_temperature

-- the largest float as both derivatives of the absent solvent 0, so that their sum is infinity; p_sat of each solvent is T, in Pa and K, with d ln p/dT = 1/128
abbrev largest : Float
largest = # 0x7fefffffffffffff

abbrev gentle : Float
gentle = # 0x3f80000000000000

steep : Float → List Float → Out Activity
steep t x = ok (record { ln_gamma = zeros8; slopes = largest ∷ 0f ∷ 0f ∷ 0f ∷ [] })

flat : Float → List Float → Out Activity
flat t x = ideal x

same-steep : (t : Float) (x x' : List Float) → Fractions keep 4 (at x) (at x') → Acc (SameActivity keep 4) (steep t x) (flat t x')
unfolding cnt steep flat ideal
same-steep t x x' hx = acc_ok (record {
  ln_gamma = ln_zero;
  slopes = two (λ i. at (largest ∷ 0f ∷ 0f ∷ 0f ∷ []) i ≈ at zeros8 (cnt keep i)) (≈refl 0f) (≈refl 0f);
})

liquids : Float → Out Pures
liquids t = ok (record { pressure = t ∷ t ∷ t ∷ t ∷ []; slope = largest ∷ gentle ∷ gentle ∷ 0f ∷ [] })

liquids' : Float → Out Pures
liquids' t = ok (record { pressure = t ∷ t ∷ []; slope = gentle ∷ gentle ∷ [] })

same-liquids : (t : Float) → Acc (SamePures keep 4) (liquids t) (liquids' t)
unfolding cnt liquids liquids'
same-liquids t = acc_ok (record {
  pressure = two (λ i. at (t ∷ t ∷ t ∷ t ∷ []) i ≡ at (t ∷ t ∷ []) (cnt keep i)) refl refl;
  slope = two (λ i. at (largest ∷ gentle ∷ gentle ∷ 0f ∷ []) i ≡ at (gentle ∷ gentle ∷ []) (cnt keep i)) refl refl;
})

-- 64 to 256 K, tolerance 1/8; the root at 128 Pa is 128 K
searched : ActivityOptions
searched = record { max_iterations = 1; tolerance = # 0x3fc0000000000000; max_temperature_iterations = 3; tm_threshold = 0f; minimum_temperature_k = # 0x4050000000000000; maximum_temperature_k = # 0x4070000000000000 }

-- 3 temperatures and 1 dew iteration with the longer book, where the slope is a NaN and the Newton step is dropped; 2 and 1 with the shorter
pub dew_leaks : DewLaw leaky_temperature → ⊥
unfolding cnt searched leaky_slope leaky_point leaky_temperature ideal flat steep liquids liquids' positive_of pressure_in_domain gap_of residual_with dew_term dew_pressure dew_liquid saturation.change_of dew_turn
    dew_point dew_loop dew_at step_of collapsed search_from solve_temperature dew_saturation saturation_temperature dew_found shares_of normalize_of exp_of ln_of of_bits add sub mul div neg lt le eq is_nan of_int
    to_signed size is_finite positive fold_to fill bind need choose
dew_leaks law =
    subst (λ (c : ℕ). T (eqb c 4))
    (law keep 4 (omega arith) steep flat same-steep liquids liquids' same-liquids searched (# 0x4060000000000000) feed feed' fractions).says.iterations tt

-- ---- 6. Wilson's S
abbrev pub WilsonLaw : (List Float → ℕ → Float → (ℕ → Float) → Out Excess) → Type 0
WilsonLaw excess =
    (keep : ℕ → Bool) (n : ℕ) → n ≤ 8 → (P P' : List Float) → Params keep n P P' → (t : Float) (x x' : ℕ → Float) → Fractions keep n x x'
    → Acc (SameExcess keep n) (excess P n t x) (excess P' (cnt keep n) t x')

pub wilson_law : WilsonLaw wilson_of
wilson_law = strike_wilson

-- a = b = 0 of every pair, so that each Λ is 1 at each T
abbrev level : List Float
level = replicate 384 0f

level-at : (i j : ℕ) → i < 4 → j < 4 → (k : ℕ) → k < 6 → at level ((i * 8 + j) * 6 + k) ≡ 0f
level-at i j l m k u = get_or-replicate 384 ((i * 8 + j) * 6 + k) 0f nan (omega arith)

same-level : Params keep 4 level level
same-level = record {
  entry = λ i j l p m q k u. level-at i j l m k u ∙ sym (level-at (cnt keep i) (cnt keep j) (le_trans (cnt_lt keep i 4 p l) (cnt_le keep 4)) (le_trans (cnt_lt keep j 4 q m) (cnt_le keep 4)) k u);
}

-- at 300 K g^E / RT is below 0 with the longer book, and 0 with the shorter
pub wilson_leaks : WilsonLaw leaky_wilson → ⊥
unfolding cnt leaky_s leaky_wilson quotients wilson_from gibbs_of_ln kelvin_j ln_lambda_j lambda_ij const_j add_j sub_j neg_j scale_j div_j exp_with ln_with gibbs_of
    enthalpy_of heat_capacity_of entropy_of state_with state_from with_state with_fractions sums_to_one exp_of ln_of of_bits add sub mul div neg lt le eq is_nan of_int to_signed size is_finite fold_to all_to fill need
wilson_leaks law =
    subst T (lt_≈ (law keep 4 (omega arith) level level same-level (# 0x4072c00000000000) (at feed) (at feed') fractions).says.reduced (≈refl 0f)) tt
