-- Turns of the loops, the ways out of a turn of a trial, out of a trial and out of the trials. Assumes nothing.
use Prim.Native.Nat.{ℕ, zero, suc, ◌+◌, ◌-◌, ◌<◌, ◌≤◌}
use mathlib.Core.Path.{◌≡◌, refl, ◌∙◌, ap, sym}
use mathlib.Core.Bool.{Bool, true, false, cond, ◌&&◌}
use mathlib.Core.List.{List}
use native.Mathlib.Nat.{zero-add, suc-add}
use native.Mathlib.Numerals.{add-one}
use native.Mathlib.Omega.{arith}
use lib.Dec.{T, ltb, le→leb}
use borrow.Author.Tests.{lt-ltb, le-ltb}
use lib.IntN.{pos}
use lib.Ieee.{Float, nan, binary64, lt, le, of_int, in_float}
use Rattle.std.specs.declared.ops.ControlFlow.{ControlFlow}
use Rattle.std.specs.declared.ops.ControlFlow.TheVariants.{Break, Continue}
use Rattle.floats.specs.Arithmetic.{◌⊕◌, ◌⊘◌, 0f}
use Rattle.floats.specs.Small.{is_finite}
use Rattle.floats.specs.Fold.{fold_to, active}
use Rattle.floats.specs.Vector.{at, vec, zeros8}
use Rattle.floats.specs.Outcome.{Out, ok, no, bind}
use Rattle.floats.proofs.Folds.{fold_cong}
use Rattle.floats.proofs.Fills.{fill-at, fill_cong}
use Rattle.counted.specs.Counted.{Counted, uncounted, evaluated, begun_before, go_on, bind_counted, need_counted, choose_counted, count_word, Counts}
use Rattle.counted.proofs.Laws.{counts_none, counts_one, counts_next, counts_stop, counts_first, counts_second}
use Rattle.numerics.specs.Numerics.{exp_of}
use Rattle.thermo_types.specs.declared.ActivityOptions.{ActivityOptions}
use Rattle.thermo_models.specs.Model.{Activity}
use Rattle.liquid_stability.specs.declared.LiquidStabilityTrial.{LiquidStabilityTrial}
use Rattle.liquid_stability.specs.Stability.{trivial_distance, ln_w_tolerance, present_count, start_of, others_in, total_of, trial_composition, distance_of, next_of, change_of, apart_of, unstable, trial_with, tangent, Trials, no_trials, with_trial}
use Rattle.liquid_stability.specs.Counted.{judge_counted, trial_counted, trials_counted, stability_counted}
use Rattle.liquid_stability.specs.Steps.{amounts_of, after, TrialTurn}

-- ---- the solvents present
at-present : {A : Type 0} (b : Bool) {u v : A} (w : A) → (b ≡ true → u ≡ v) → cond b u w ≡ cond b v w
at-present true w e = e refl
at-present false w e = refl

suc_le : (b : Bool) (c n : ℕ) → c ≤ n → cond b (suc c) c ≤ suc n
suc_le true c n h = omega arith
suc_le false c n h = omega arith

pub count_le : (x : List Float) (n : ℕ) → present_count x n ≤ n
unfolding present_count fold_to
count_le x zero = omega arith
count_le x (suc n) = suc_le (lt 0f (at x n)) (present_count x n) n (count_le x n)

-- a turn of a fold over the solvents present, at one present and at one absent
module _ {S : Type 0} (x : List Float) (f : ℕ → S → S) (s₀ : S) (k : ℕ) {r s : S} (h : s ≡ fold_to (active (at x) f) s₀ k) where
  pub present-turn : lt 0f (at x k) ≡ true → r ≡ f k s → r ≡ fold_to (active (at x) f) s₀ (k + 1)
  unfolding fold_to
  present-turn t e = rw (add-one, t, ← h) e

  pub absent-turn : lt 0f (at x k) ≡ false → r ≡ s → r ≡ fold_to (active (at x) f) s₀ (k + 1)
  unfolding fold_to
  absent-turn t e = rw (add-one, t, ← h) e

-- ---- a turn's composition from W
module _ (x lnW : List Float) (n : ℕ) (h : n ≤ 8) {big : List Float} (pb : big ≡ amounts_of x lnW n) where
  pub amount-at : (k : ℕ) → k < n → lt 0f (at x k) ≡ true → at big k ≡ exp_of (at lnW k)
  unfolding amounts_of
  amount-at k l t =
      let e : at big k ≡ cond (lt 0f (at x k)) (exp_of (at lnW k)) 0f = ap (λ (m : List Float). at m k) pb ∙ fill-at
      (λ i. cond (lt 0f (at x i)) (exp_of (at lnW i)) 0f) n zeros8 nan k h l in
      rw t at e

  total-is : {s : Float} → s ≡ fold_to (active (at x) (λ i a. a ⊕ at big i)) 0f n → s ≡ total_of x lnW n
  unfolding total_of
  total-is {s} e = e ∙ fold_cong 0f n (λ k a l. at-present (lt 0f (at x k)) a (λ t. ap (λ (v : Float). a ⊕ v) (amount-at k l t)))

  composition-is : {s : Float} {w : List Float} → s ≡ fold_to (active (at x) (λ i a. a ⊕ at big i)) 0f n
      → w ≡ vec (λ i. cond (lt 0f (at x i)) (at big i ⊘ s) 0f) n → w ≡ trial_composition x lnW n
  unfolding trial_composition
  composition-is {s} {w} e q = q ∙ fill_cong _ _ n zeros8 (λ k l. at-present (lt 0f (at x k)) 0f (λ t. rw (amount-at k l t, total-is e)))

-- ---- what only asks for ln γ of an evaluation
by_ln_gamma : {B : Type 0} (o : Out Activity) (k : List Float → Counted B)
    → bind_counted (evaluated o) (λ a. k a.ln_gamma) ≡ bind_counted (evaluated (bind o (λ a. ok a.ln_gamma))) k
unfolding bind bind_counted evaluated go_on
by_ln_gamma (ok a) k = refl
by_ln_gamma (no r) k = refl

-- a trial with tm below the threshold is not trivial
not-trivial : (threshold tm : Float) (trivial : Bool) → true ≡ unstable threshold tm trivial → false ≡ trivial
unfolding unstable
not-trivial threshold tm false e = refl
not-trivial threshold tm true e = by_cases (lt tm threshold) e
  where
    by_cases : (a : Bool) → true ≡ (a && false) → false ≡ true
    by_cases true e = sym e
    by_cases false e = sym e

-- ---- a whole turn: o is the outcome of ln γ at w
module _ (E : List Float → Out Activity) (threshold : Float) (n : ℕ) (h : n ≤ 8) (x d lnW : List Float) (j iteration : ℕ) {big w : List Float} {s : Float}
    (pb : big ≡ amounts_of x lnW n) (ps : s ≡ fold_to (active (at x) (λ i a. a ⊕ at big i)) 0f n)
    (pw : w ≡ vec (λ i. cond (lt 0f (at x i)) (at big i ⊘ s) 0f) n) where
  rest : (left done : ℕ) → List Float → Counted LiquidStabilityTrial
  rest left done lg = judge_counted threshold (distance_of x lnW lg d n) (change_of x lnW lg d n) (le (apart_of x w n) trivial_distance)
      (trial_with j (distance_of x lnW lg d n) w (suc done)) (trial_counted E threshold n x d j left (suc done) (next_of d lg n))

  -- the definition goes on from ln γ
  goes_on : {o : Out (List Float)} → o ≡ bind (E w) (λ a. ok a.ln_gamma) → (left done : ℕ)
      → trial_counted E threshold n x d j (suc left) done lnW ≡ bind_counted (evaluated o) (rest left done)
  unfolding trial_counted rest
  goes_on e left done = rw (← composition-is x lnW n h pb ps pw, e) (by_ln_gamma (E w) (rest left done))

  pub turn-refused : (k : ℕ) → no k ≡ bind (E w) (λ a. ok a.ln_gamma) → TrialTurn E threshold n x d j iteration lnW (no k)
  unfolding bind_counted evaluated go_on
  turn-refused k p = record { goes = λ left done i. goes_on p left done }

  module _ {lg : List Float} (p : ok lg ≡ bind (E w) (λ a. ok a.ln_gamma)) {tm change apart : Float}
      (pd : tm ≡ distance_of x lnW lg d n) (pc : change ≡ change_of x lnW lg d n) (pa : apart ≡ apart_of x w n) where
    pub turn-infinite : false ≡ is_finite tm → TrialTurn E threshold n x d j iteration lnW (no 25)
    unfolding bind_counted evaluated go_on begun_before rest judge_counted need_counted uncounted
    turn-infinite f = record { goes = λ left done i. rw (goes_on p left done, ← pd, ← f) }

    abbrev trivial : Bool
    trivial = le apart trivial_distance

    abbrev found : Bool → LiquidStabilityTrial
    found b = trial_with j tm w iteration b

    module _ (f : true ≡ is_finite tm) where
      turned : (left done : ℕ) → iteration ≡ suc done → trial_counted E threshold n x d j (suc left) done lnW
          ≡ begun_before 1
          (choose_counted (unstable threshold tm trivial)
          (uncounted (ok (found false)))
          (choose_counted (le change ln_w_tolerance) (uncounted (ok (found trivial))) (trial_counted E threshold n x d j left (suc done) (next_of d lg n))))
      unfolding bind_counted evaluated go_on rest judge_counted need_counted
      turned left done i = rw (goes_on p left done, ← pd, ← pc, ← pa, ← f, i)

      pub turn-unstable : true ≡ unstable threshold tm trivial → TrialTurn E threshold n x d j iteration lnW (ok (Break (found trivial)))
      unfolding bind_counted evaluated go_on after choose_counted
      turn-unstable u = let t = not-trivial threshold tm trivial u in record { goes = λ left done i. rw (turned left done i, ← u, ← t) }

      module _ (u : false ≡ unstable threshold tm trivial) where
        pub turn-converged : le change ln_w_tolerance ≡ true → TrialTurn E threshold n x d j iteration lnW (ok (Break (found trivial)))
        unfolding bind_counted evaluated go_on after choose_counted
        turn-converged c = record { goes = λ left done i. rw (turned left done i, ← u, c) }

        pub turn-on : le change ln_w_tolerance ≡ false → {nx : List Float} → nx ≡ next_of d lg n → TrialTurn E threshold n x d j iteration lnW (ok (Continue nx))
        unfolding bind_counted evaluated go_on after choose_counted
        turn-on c pn = record { goes = λ left done i. rw (turned left done i, ← u, c, ← pn) }

-- ---- a trial
module _ (E : List Float → Out Activity) (threshold : Float) (n : ℕ) (x d : List Float) (j : ℕ) where
  abbrev run : ℕ → ℕ → List Float → Counted LiquidStabilityTrial
  run left done lnW = trial_counted E threshold n x d j left done lnW

  -- the loop after `done` turns of at most `limit`, from a count at `old`, now at `now`: with what is left to run from here it is the whole run W
  pub record TrialLeft (limit done : ℕ) (lnW : List Float) (old now : ℕ) (W : Counted LiquidStabilityTrial) : Type 0 where
    pub all : (o : Out LiquidStabilityTrial) (new : ℕ) → Counts now o new (trial_counted E threshold n x d j (limit - done) done lnW) → Counts old o new W

  module _ (limit done : ℕ) (lnW : List Float) {old now : ℕ} {W : Counted LiquidStabilityTrial} (h : TrialLeft limit done lnW old now W) where
    pub trial_out : limit ≤ done → Counts old (no 27) now W
    unfolding trial_counted
    trial_out l =
        let z : limit - done ≡ 0 = omega arith in
        h.all (no 27) now (rw z (counts_none refl))

    -- the next turn begins one
    module _ (l : done < limit) {mid : ℕ} (b : mid ≡ count_word (now + 1)) where
      by_turn : {r : Out (ControlFlow LiquidStabilityTrial (List Float))} → TrialTurn E threshold n x d j (done + 1) lnW r
          → (o : Out LiquidStabilityTrial) (new : ℕ) → Counts now o new (bind_counted (evaluated r) (after (run (limit - (done + 1)) (done + 1))))
          → Counts old o new W
      by_turn ps o new g =
          let z : limit - done ≡ suc (limit - (done + 1)) = omega arith in
          let s : done + 1 ≡ suc done = add-one done in
          h.all o new (rw (z, ps.goes (limit - (done + 1)) done s, ← s) g)

      pub trial-refused : {k : ℕ} → TrialTurn E threshold n x d j (done + 1) lnW (no k) → Counts old (no k) mid W
      trial-refused {k} ps = by_turn ps (no k) mid (counts_stop _ (counts_one b refl))

      module _ {t : ControlFlow LiquidStabilityTrial (List Float)} (ps : TrialTurn E threshold n x d j (done + 1) lnW (ok t)) where
        pub trial-found : {a : LiquidStabilityTrial} → t ≡ Break a → Counts old (ok a) mid W
        unfolding after
        trial-found {a} e = by_turn ps (ok a) mid (rw e (counts_next _ (counts_one b refl) (counts_none refl)))

        pub trial-more : {nx : List Float} → t ≡ Continue nx → TrialLeft limit (done + 1) nx old mid W
        unfolding after
        trial-more e = record { all = λ o new g. by_turn ps o new (rw e (counts_next _ (counts_one b refl) g)) }

  pub trial-start : (limit : ℕ) (lnW : List Float) {l : List Float} (old : ℕ) → l ≡ lnW → TrialLeft limit 0 l old old (trial_counted E threshold n x d j limit 0 lnW)
  trial-start limit lnW old e =
      let z : limit - 0 ≡ limit = omega arith in
      record { all = λ o new g. rw (z, e) at g }

-- ---- the trials
module _ (E : List Float → Out Activity) (n : ℕ) (o : ActivityOptions) (x d : List Float) where
  abbrev runs : ℕ → Counted Trials
  runs k = trials_counted E n o x d k

  abbrev tried : ℕ → Counted LiquidStabilityTrial
  tried k = trial_counted E o.tm_threshold n x d k o.max_iterations 0 (start_of x n k)

  pub trials-none : {old : ℕ} → Counts old (ok no_trials) old (trials_counted E n o x d 0)
  unfolding trials_counted
  trials-none = counts_none refl

  module _ {old new r : ℕ} where
    stays : (k : ℕ) → Counts old (no r) new (runs k) → Counts old (no r) new (runs (suc k))
    unfolding trials_counted
    stays k h = counts_stop _ h

    stays_to : (k m : ℕ) → Counts old (no r) new (runs k) → Counts old (no r) new (runs (m + k))
    stays_to k zero h = rw (zero-add k) h
    stays_to k (suc m) h = rw (suc-add m k) (stays (m + k) (stays_to k m h))

  module _ (k : ℕ) {s : Trials} {old now : ℕ} (h : Counts old (ok s) now (trials_counted E n o x d k)) where
    pub trials_skip : lt 0f (at x k) ≡ false → Counts old (ok s) now (trials_counted E n o x d (k + 1))
    unfolding trials_counted
    trials_skip t = rw add-one (counts_next _ h (counts_second _ t (counts_none refl)))

    module _ (t : lt 0f (at x k) ≡ true) {new : ℕ} where
      pub trials-refused : {r : ℕ} → k < n → Counts now (no r) new (tried k) → Counts old (no r) new (trials_counted E n o x d n)
      unfolding trials_counted
      trials-refused {r} l q =
          let p : Counts old (no r) new (runs (suc k)) = counts_next _ h (counts_first _ t (counts_stop _ q)) in
          let z : (n - suc k) + suc k ≡ n = omega arith in
          rw z at (stays_to (suc k) (n - suc k) p)

      pub trials-more : {a : LiquidStabilityTrial} → Counts now (ok a) new (tried k)
          → Counts old (ok (with_trial o.tm_threshold s a)) new (trials_counted E n o x d (k + 1))
      unfolding trials_counted
      trials-more q = rw add-one (counts_next _ h (counts_first _ t (counts_next _ q (counts_none refl))))

-- ---- the number of the other solvents present
module _ (x : List Float) (n : ℕ) {c : ℕ} (e : c ≡ present_count x n) where
  pub others-is : of_int binary64 (pos (c - 1)) ≡ others_in x n
  unfolding others_in
  others-is = rw e

  pub others-fit : n ≤ 8 → T (in_float binary64 (pos (c - 1)))
  unfolding in_float
  others-fit h =
      let l : present_count x n ≤ n = count_le x n in
      le→leb (c - 1) 9007199254740992 (omega arith)

-- ---- the whole: r is the outcome of ln γ at x, the evaluation that is begun first
module _ (E : List Float → Out Activity) (n : ℕ) (o : ActivityOptions) (x : List Float) where
  abbrev from : List Float → Counted Trials
  from lg = choose_counted (ltb (present_count x n) 2) (uncounted (ok no_trials)) (trials_counted E n o x (tangent x lg n) n)

  by_feed : {r : Out (List Float)} → r ≡ bind (E x) (λ a. ok a.ln_gamma) → stability_counted E n o x ≡ bind_counted (evaluated r) from
  unfolding stability_counted
  by_feed e = rw e (by_ln_gamma (E x) from)

  module _ {old mid : ℕ} (b : mid ≡ count_word (old + 1)) where
    pub feed-refused : {k : ℕ} → no k ≡ bind (E x) (λ a. ok a.ln_gamma) → Counts old (no k) mid (stability_counted E n o x)
    feed-refused e = rw (by_feed e) (counts_stop _ (counts_one b refl))

    module _ {lg : List Float} (e : ok lg ≡ bind (E x) (λ a. ok a.ln_gamma)) {c : ℕ} (pc : c ≡ present_count x n) where
      pub few-present : c < 2 → Counts old (ok no_trials) mid (stability_counted E n o x)
      few-present l =
          let t : ltb (present_count x n) 2 ≡ true = rw (← pc) (lt-ltb c 2 l) in
          rw (by_feed e) (counts_next _ (counts_one b refl) (counts_first _ t (counts_none refl)))

      pub tested : 2 ≤ c → {m : ℕ} → m ≡ n → {d : List Float} → d ≡ tangent x lg m → {r : Out Trials} {new : ℕ}
          → Counts mid r new (trials_counted E m o x d m) → Counts old r new (stability_counted E n o x)
      tested l pm pd {r} {new} h =
          let t : ltb (present_count x n) 2 ≡ false = rw (← pc) (le-ltb c 2 l) in
          let g : Counts mid r new (trials_counted E n o x (tangent x lg n) n) = rw (← pm, ← pd) h in
          rw (by_feed e) (counts_next _ (counts_one b refl) (counts_second _ t g))
