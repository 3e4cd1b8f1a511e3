-- The calculations of every task, struck, for two mixtures that are the same for the solvents kept. A feed is the same where its kept
-- fractions are those of the shorter feed as they stand and its absent ones are zeros. Assumes nothing.
use mathlib.Core.Path.{◌≡◌, refl}
use Prim.Native.Nat.{ℕ, ◌≤◌, ◌<◌}
use mathlib.Core.Bool.{Bool, not}
use mathlib.Core.List.{List}
use lib.Dec.{T}
use lib.Ieee.{Float, binary64, fits, of_bits}
use Rattle.floats.specs.Vector.{at}
use Rattle.thermo_types.specs.declared.ActivityOptions.{ActivityOptions}
use Rattle.thermo_models.specs.Activity.{activity_in}
use Rattle.thermo_models.specs.Mixture.{Mixture, activity, mixture_of}
use Rattle.book.specs.Book.{model_of}
use Rattle.rachford_rice.specs.Rachford.{constrained, negative}
use Rattle.saturation.specs.Saturation.{bubble_pressure, dew_pressure_point}
use Rattle.saturation_temperature.specs.Boiling.{bubble_temperature, dew_temperature}
use Rattle.liquid_stability.specs.Stability.{stability_of}
use Rattle.tp_flash.specs.Counted.{flash_counted}
use Rattle.zeros.proofs.Congruence.{same}
use Rattle.zeros.proofs.Zero.{Zero}
use Rattle.zeros.proofs.Below.{gone}
use Rattle.striking.specs.Places.{cnt}
use Rattle.striking.specs.Accepted.{Acc, AccCounted}
use Rattle.striking.specs.Related.{Fractions, SameExcess}
use Rattle.striking.specs.Results.{SameActivity, SamePures, SameSolution, SameRice, SameSaturation, SameTrials, SameFlash}
use Rattle.striking.specs.Books.{KeptSolvents, KeptPairs}
use Rattle.striking.proofs.Acc.{acc_bind, acc_ok}
use Rattle.striking.proofs.Rice.{strike_negative, strike_constrained}
use Rattle.striking.proofs.Saturation.{strike_bubble_pressure, strike_dew_pressure}
use Rattle.striking.proofs.Stability.{strike_stability}
use Rattle.striking.proofs.Boiling.{strike_bubble_temperature, strike_dew_temperature}
use Rattle.striking.proofs.Flash.{strike_flash}
use Rattle.striking.proofs.Liquids.{strike_domain, strike_pure_liquids}
use Rattle.striking.proofs.Validity.{strike_validity}
use Rattle.striking.proofs.Models.{strike_excess_of}

-- ---- feeds
pub record SameFeed (keep : ℕ → Bool) (n : ℕ) (x x' : List Float) : Type 0 where
  pub fractions : (i : ℕ) → i < n → T (keep i) → at x i ≡ at x' (cnt keep i)
  pub absent : (i : ℕ) → i < n → T (not (keep i)) → Zero (at x i)
  pub fit : (i : ℕ) → T (fits binary64 (at x i))
  pub fit' : (i : ℕ) → T (fits binary64 (at x' i))

pub feed-fractions : (keep : ℕ → Bool) (n : ℕ) {x x' : List Float} → SameFeed keep n x x' → Fractions keep n (at x) (at x')
unfolding of_bits
feed-fractions keep n s = record { absent = λ i l q. gone (s.absent i l q); fraction = λ i l q. same (s.fractions i l q); fit = s.fit; fit' = s.fit' }

-- ---- mixtures
pub record SameMixture (keep : ℕ → Bool) (n : ℕ) (m m' : Mixture) : Type 0 where
  pub count : m.n ≡ n
  pub count' : m'.n ≡ cnt keep n
  pub excess : (t : Float) (x x' : List Float) → Fractions keep n (at x) (at x') → Acc (SameExcess keep n) (m.excess t x) (m'.excess t x')
  pub liquids : (t : Float) → Acc (SamePures keep n) (m.liquids t) (m'.liquids t)
  pub domain : (t : Float) → T (m.domain t) → T (m'.domain t)
  pub validity : (t : Float) (x x' : List Float) → SameFeed keep n x x' → m.validity t x ≡ m'.validity t x'

-- of a longer and a shorter book
pub strike_mixture : (keep : ℕ → Bool) (n : ℕ) → n ≤ 8 → (book book' : List ℕ) → model_of book ≡ model_of book' → KeptSolvents keep n book book' → KeptPairs keep n book book'
    → SameMixture keep n (mixture_of book n) (mixture_of book' (cnt keep n))
strike_mixture keep n small book book' same-model hs hp = record {
  count = refl;
  count' = refl;
  excess = strike_excess_of keep n small book book' hp same-model;
  liquids = strike_pure_liquids keep n small book book' hs;
  domain = strike_domain keep n book book' hs;
  validity = λ t x x' s. strike_validity keep n book book' hp t x x' (λ i l q. same (s.fractions i l q)) s.absent;
}

module _ (keep : ℕ → Bool) (n : ℕ) (small : n ≤ 8) (m m' : Mixture) (hm : SameMixture keep n m m') where
  -- ln γ and slopes of the excess states
  pub strike_activity : (t : Float) (x x' : List Float) → Fractions keep n (at x) (at x') → Acc (SameActivity keep n) (activity m t x) (activity m' t x')
  unfolding activity_in
  strike_activity t x x' hx = acc_bind (SameExcess keep n) _ _ _ _ (hm.excess t x x' hx) (λ e e' h. acc_ok (record { ln_gamma = h.ln_gamma; slopes = h.slopes }))

  module _ (z z' : List Float) (s : SameFeed keep n z z') where
    hz : Fractions keep n (at z) (at z')
    hz = feed-fractions keep n s

    -- task 2
    pub task2 : (t : Float) → Acc (SameSaturation keep n) (bubble_pressure (activity m) m.liquids m.n t z) (bubble_pressure (activity m') m'.liquids m'.n t z')
    task2 t = rw (hm.count, hm.count') (strike_bubble_pressure keep n small (activity m) (activity m') strike_activity m.liquids m'.liquids hm.liquids t z z' hz)

    -- task 3
    pub task3 : (o : ActivityOptions) (t : Float) → Acc (SameSaturation keep n) (dew_pressure_point (activity m) m.liquids m.n o t z) (dew_pressure_point (activity m') m'.liquids m'.n o t z')
    task3 o t = rw (hm.count, hm.count') (strike_dew_pressure keep n small (activity m) (activity m') strike_activity m.liquids m'.liquids hm.liquids o t z z' hz)

    -- task 4
    pub task4 : (o : ActivityOptions) (p : Float) → Acc (SameSaturation keep n) (bubble_temperature (activity m) m.liquids m.n o p z) (bubble_temperature (activity m') m'.liquids m'.n o p z')
    task4 o p = rw (hm.count, hm.count') (strike_bubble_temperature keep n small (activity m) (activity m') strike_activity m.liquids m'.liquids hm.liquids z z' hz s.fractions o p)

    -- task 5
    pub task5 : (o : ActivityOptions) (p : Float) → Acc (SameSaturation keep n) (dew_temperature (activity m) m.liquids m.n o p z) (dew_temperature (activity m') m'.liquids m'.n o p z')
    task5 o p = rw (hm.count, hm.count') (strike_dew_temperature keep n small (activity m) (activity m') strike_activity m.liquids m'.liquids hm.liquids o p z z' hz)

    -- task 6
    pub task6 : (o : ActivityOptions) (t : Float) → Acc (SameTrials keep n) (stability_of (activity m t) m.n o z) (stability_of (activity m' t) m'.n o z')
    task6 o t = rw (hm.count, hm.count') (strike_stability keep n small (activity m t) (activity m' t) (strike_activity t) o z z' hz)

    -- task 7, with the evaluations that it begins
    pub task7 : (o : ActivityOptions) (t p : Float)
        → AccCounted (SameFlash keep n) (flash_counted (activity m) m.liquids m.domain m.n o t z p)
        (flash_counted (activity m') m'.liquids m'.domain m'.n o t z' p)
    task7 o t p =
        rw (hm.count, hm.count')
        (strike_flash keep n small (activity m) (activity m') strike_activity m.liquids m'.liquids hm.liquids m.domain m'.domain hm.domain o t z z' hz s.fractions p)

    -- tasks 8 and 9, with K values k and k'
    module _ (k k' : List Float) (ek : (i : ℕ) → i < n → T (keep i) → at k i ≡ at k' (cnt keep i)) (limit : ℕ) where
      pub task8 : Acc (SameRice keep n) (constrained (at z) (at k) m.n limit) (constrained (at z') (at k') m'.n limit)
      task8 = rw (hm.count, hm.count') (strike_constrained keep n small (at z) (at z') (at k) (at k') hz s.fractions ek limit)

      pub task9 : Acc (SameSolution keep n) (negative (at z) (at k) m.n limit) (negative (at z') (at k') m'.n limit)
      task9 = rw (hm.count, hm.count') (strike_negative keep n small (at z) (at z') (at k) (at k') hz s.fractions ek limit)
