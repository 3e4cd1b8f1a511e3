-- Terms that are stored in an array, and the ways through the steps of the code. Assumes nothing.
use Prim.Native.Nat.{ℕ, suc, ◌+◌, ◌-◌, ◌<◌, ◌≤◌}
use mathlib.Core.Path.{◌≡◌, ◌∙◌, refl, ap, sym}
use mathlib.Core.Bool.{Bool, true, false, not, ◌||◌}
use mathlib.Core.List.{List}
use native.Mathlib.Omega.{arith}
use lib.Ieee.{Float, le}
use Rattle.floats.specs.Arithmetic.{◌⊘◌, 0f, 1f}
use Rattle.floats.specs.Small.{is_finite}
use Rattle.floats.specs.Fold.{sum_to}
use Rattle.floats.specs.Vector.{at, vec, zeros8, places}
use Rattle.floats.specs.Outcome.{Out, ok, no, bind, need}
use Rattle.floats.proofs.Folds.{sum_cong}
use Rattle.floats.proofs.Fills.{vec-at, fill_cong}
use Rattle.floats.proofs.Outcomes.{refused}
use Rattle.counted.specs.Counted.{Counted, uncounted, evaluated_after, bind_counted, count_word, Counts}
use Rattle.counted.proofs.Laws.{counts_none, counts_next, counts_stop, counts_first, counts_second, after_none, after_one, counts_made, counts_of, counts-of-no}
use Rattle.thermo_types.specs.declared.ActivityOptions.{ActivityOptions}
use Rattle.thermo_types.specs.Composition.{normalize_of}
use Rattle.thermo_types.proofs.Normalizing.{normalize_cong}
use Rattle.thermo_models.specs.Model.{Activity}
use Rattle.saturation.specs.Saturation.{Dew, partial_of, partial_sum, bubble_from, residual_with, dew_term, dew_pressure, dew_liquid, change_of, turned, incipient, dew_turn, dew_point}
use Rattle.saturation.specs.Counted.{dew_turn_counted, dew_point_counted, dew_loop_counted, dew_counted}
use Rattle.saturation.specs.declared.IncipientLiquid.{IncipientLiquid}
use Rattle.saturation.specs.declared.DewTurn.{DewTurn}
use Rattle.saturation.proofs.Answers.{places_is}

-- ---- terms stored in an array, summed and divided from there
module _ (f : ℕ → Float) (n : ℕ) (h : n ≤ 8) {w : List Float} (e : w ≡ vec f n) where
  pub entry : (k : ℕ) → k < n → at w k ≡ f k
  entry k l = ap (λ (m : List Float). at m k) e ∙ vec-at f n k h l

  stored-sum : {s : Float} → s ≡ sum_to (at w) (places n) → s ≡ sum_to f n
  stored-sum q = q ∙ ap (sum_to (at w)) (places_is n h) ∙ sum_cong 0f n entry

  stored-shares : (s : Float) {x : List Float} → x ≡ vec (λ i. at w i ⊘ s) (places n) → x ≡ vec (λ i. f i ⊘ s) n
  stored-shares s q = q ∙ rw (places_is n h) (fill_cong _ _ n zeros8 (λ k l. rw (entry k l)))

-- ---- outcomes: two tests with one number are one, the second denied
module _ {A : Type 0} where
  tests-not : (a b : Bool) (r : ℕ) (o : Out A) → need a r (need (not b) r o) ≡ need (not (not a || b)) r o
  unfolding need
  tests-not true b r o = refl
  tests-not false b r o = refl

-- what one step gives, taken on
through : {A B C : Type 0} (o : Out A) (f : A → B) (k : B → Out C) → bind (bind o (λ x. ok (f x))) k ≡ bind o (λ x. k (f x))
unfolding bind
through (ok x) f k = refl
through (no r) f k = refl

-- ---- the bubble point of ln γ: w are the partial pressures, p their sum
module _ (x lg ps : List Float) (n : ℕ) {m : ℕ} (c : m ≡ places n) {w : List Float} {p : Float} (e : w ≡ vec (partial_of x lg ps) m)
    (t : p ≡ sum_to (at w) (places m)) {b : Bool} (f : b ≡ is_finite p) where
  small : m ≤ 8
  small = omega arith

  total : p ≡ partial_sum x lg ps (places n)
  unfolding partial_sum
  total = rw (← c) (stored-sum _ m small e t)

  pub bubble-refused : (not b || le p 0f) ≡ true → no 25 ≡ bubble_from x lg ps (places n)
  unfolding bubble_from need
  bubble-refused k = rw (← total, ← f, tests-not, k)

  pub bubble_good : {y : List Float} → (not b || le p 0f) ≡ false → y ≡ vec (λ i. at w i ⊘ p) (places m) → ok (record { pressure = p; vapor = y }) ≡ bubble_from x lg ps (places n)
  unfolding bubble_from need
  bubble_good k d = rw (← total, ← f, tests-not, k, ← c, ← stored-shares _ m small e p d)

-- ---- the incipient liquid of ln γ: w are the terms
module _ (y ps lg : List Float) (n : ℕ) (h : n ≤ 8) {w : List Float} (e : w ≡ vec (dew_term y ps lg) n) where
  pub pressure-is : {s : Float} → s ≡ sum_to (at w) (places n) → 1f ⊘ s ≡ dew_pressure y ps lg n
  unfolding dew_pressure
  pressure-is q = rw (stored-sum _ n h e q)

  pub liquid-is : {o : Out (List Float)} → o ≡ normalize_of (at w) (places n) → dew_liquid y ps lg n ≡ o
  unfolding dew_liquid
  liquid-is q = sym (q ∙ ap (normalize_of (at w)) (places_is n h) ∙ normalize_cong n (entry _ n h e))

-- ---- a turn and the last step of the dew iteration, from the incipient liquid
module _ (E : List Float → Out Activity) (ps : List Float) (n : ℕ) (y lg : List Float) where
  pub turn-from : dew_turn E ps n y lg ≡ bind (incipient ps n y lg)
      (λ i. bind (E i.liquid) (λ a. need (is_finite (change_of y a.ln_gamma lg n)) 25 (need (is_finite i.pressure) 25 (ok a))))
  unfolding dew_turn incipient
  turn-from = sym (through _ _ _)

  pub point-from : (k : ℕ) → dew_point E ps n y lg k ≡ bind (incipient ps n y lg)
      (λ i. bind (E i.liquid) (λ a. bind (residual_with a.ln_gamma ps i.pressure i.liquid y n)
      (λ r. ok (record { pressure = i.pressure; liquid = i.liquid; activity = a; iterations = k; residual = r }))))
  unfolding dew_point incipient
  point-from k = sym (through _ _ _)

  -- with the count: none where there is no liquid (34), else one
  abbrev holding : Out (List Float) → Out IncipientLiquid
  holding o = bind o (λ x. ok (record { pressure = dew_pressure y ps lg n; liquid = x }))

  without : (o : Out (List Float)) {r : ℕ} → no r ≡ holding o → o ≡ no r
  unfolding bind
  without (ok x) e = absurd (refused e)
  without (no m) {r = r} e = let q : m ≡ r = cc in rw q

  with_it : (o : Out (List Float)) {i : IncipientLiquid} → ok i ≡ holding o → o ≡ ok i.liquid
  unfolding bind
  with_it (ok x) {i = i} e = let q : i ≡ record { pressure = dew_pressure y ps lg n; liquid = x } = cc in rw q
  with_it (no m) e = absurd (refused (sym e))

  liquid-no : {r : ℕ} → no r ≡ incipient ps n y lg → dew_liquid y ps lg n ≡ no r
  unfolding incipient
  liquid-no e = without (dew_liquid y ps lg n) e

  liquid_ok : {i : IncipientLiquid} → ok i ≡ incipient ps n y lg → dew_liquid y ps lg n ≡ ok i.liquid
  unfolding incipient
  liquid_ok e = with_it (dew_liquid y ps lg n) e

  pub turn_none : {old r : ℕ} → no r ≡ incipient ps n y lg → Counts old (no r) old (bind_counted (dew_turn_counted E ps n y lg) (λ a. uncounted (ok (turned y lg n a))))
  unfolding dew_turn_counted bind
  turn_none e = counts_stop _ (after_none (liquid-no e) (rw (turn-from, ← e)))

  pub turn_one : {old new : ℕ} {i : IncipientLiquid} {o : Out DewTurn} → ok i ≡ incipient ps n y lg → new ≡ count_word (old + 1) → o ≡ bind (dew_turn E ps n y lg) (λ a. ok (turned y lg n a))
      → Counts old o new (bind_counted (dew_turn_counted E ps n y lg) (λ a. uncounted (ok (turned y lg n a))))
  unfolding dew_turn_counted evaluated_after
  turn_one e k q =
      let h = after_one {p = dew_turn E ps n y lg} (liquid_ok e) k refl in
      counts_made (turned y lg n) (evaluated_after (dew_liquid y ps lg n) (dew_turn E ps n y lg)) q h.begun

  pub point_none : (k : ℕ) {old r : ℕ} → no r ≡ incipient ps n y lg → Counts old (no r) old (dew_point_counted E ps n y lg k)
  unfolding dew_point_counted bind
  point_none k e = after_none (liquid-no e) (rw (point-from, ← e))

  pub point_one : (k : ℕ) {old new : ℕ} {i : IncipientLiquid} {o : Out Dew} → ok i ≡ incipient ps n y lg → new ≡ count_word (old + 1) → o ≡ dew_point E ps n y lg k
      → Counts old o new (dew_point_counted E ps n y lg k)
  unfolding dew_point_counted
  point_one k e w q = after_one (liquid_ok e) w q

-- ---- the dew iteration after `done` turns of at most `limit`: what is left to run from here, the count at k, is the whole run W from `old`
module _ (E : List Float → Out Activity) (ps : List Float) (n : ℕ) (y : List Float) (tol : Float) (limit done : ℕ) (lg : List Float) {old k : ℕ} {W : Counted Dew}
    (run : (o : Out Dew) (new : ℕ) → Counts k o new (dew_loop_counted E ps n y tol (limit - done) done lg) → Counts old o new W) where
  pub loop_out : limit ≤ done → Counts old (no 27) k W
  unfolding dew_loop_counted
  loop_out l =
      let z : limit - done ≡ 0 = omega arith in
      (rw z at run) (no 27) k (counts_none refl)

  module _ (l : done < limit) where
    left : (o : Out Dew) (new : ℕ) → Counts k o new (dew_loop_counted E ps n y tol (suc (limit - suc done)) done lg) → Counts old o new W
    left =
        let z : limit - done ≡ suc (limit - suc done) = omega arith in
        rw z at run

    pub loop-refused : {m new : ℕ} → Counts k (no m) new (bind_counted (dew_turn_counted E ps n y lg) (λ a. uncounted (ok (turned y lg n a)))) → Counts old (no m) new W
    unfolding dew_loop_counted
    loop-refused e = left _ _ (counts_stop _ (counts-of-no (turned y lg n) _ e))

    module _ {t : DewTurn} {mid : ℕ} (e : Counts k (ok t) mid (bind_counted (dew_turn_counted E ps n y lg) (λ a. uncounted (ok (turned y lg n a))))) where
      pub loop_done : le t.change tol ≡ true → {o : Out Dew} {new : ℕ} → Counts mid o new (dew_point_counted E ps n y t.ln_gamma (done + 1)) → Counts old o new W
      unfolding dew_loop_counted
      loop_done h p =
          let (a, c, q) = counts_of (turned y lg n) _ e in
          let z : done + 1 ≡ suc done = omega arith in
          left _ _ (counts_next _ c (counts_first _ (rw q at h) (rw (q, z) at p)))

      pub loop_more : le t.change tol ≡ false → (o : Out Dew) (new : ℕ) → Counts mid o new (dew_loop_counted E ps n y tol (limit - (done + 1)) (done + 1) t.ln_gamma) → Counts old o new W
      unfolding dew_loop_counted
      loop_more h o new p =
          let (a, c, q) = counts_of (turned y lg n) _ e in
          let z : done + 1 ≡ suc done = omega arith in
          left o new (counts_next _ c (counts_second _ (rw q at h) (rw (q, z) at p)))

pub loop_start : (E : List Float → Out Activity) (ps : List Float) (o : ActivityOptions) (y : List Float) {old m n : ℕ} → m ≡ n
    → (a : Out Dew) (new : ℕ) → Counts old a new (dew_loop_counted E ps m y o.tolerance (o.max_iterations - 0) 0 zeros8) → Counts old a new (dew_counted E ps n o y)
unfolding dew_counted
loop_start E ps o y e a new h =
    let z : o.max_iterations - 0 ≡ o.max_iterations = omega arith in
    rw (z, e) at h
