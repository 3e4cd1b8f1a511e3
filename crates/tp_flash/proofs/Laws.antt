-- Turns of the loops, and the ways out of a split and of a flash. Assumes nothing.
use Prim.Native.Nat.{ℕ, suc, ◌+◌, ◌-◌, ◌<◌, ◌≤◌}
use mathlib.Core.Path.{◌≡◌, refl, sym, ◌∙◌, ap}
use mathlib.Core.Bool.{true, false, cond}
use mathlib.Core.List.{List}
use native.Mathlib.Numerals.{add-one}
use native.Mathlib.Omega.{arith}
use lib.Ieee.{Float, nan, lt, le}
use Rattle.std.specs.Prelude.{Result, Ok, Err}
use Rattle.std.specs.Result.{IsErrAnd}
use Rattle.floats.specs.Arithmetic.{◌⊕◌, ◌⊖◌, 0f, 1f}
use Rattle.floats.specs.Small.{max_of, abs_of}
use Rattle.floats.specs.Fold.{fold_to, active}
use Rattle.floats.specs.Vector.{at, vec, zeros8, places}
use Rattle.floats.specs.Outcome.{Out, ok, no, bind}
use Rattle.floats.proofs.Folds.{fold_cong}
use Rattle.floats.proofs.Fills.{fill-at, vec-at, fill_cong}
use Rattle.counted.specs.Counted.{Counted, uncounted, evaluated, begun_before, go_on, bind_counted, Counts}
use Rattle.counted.proofs.Laws.{counts_none, counts_next, counts_stop, counts_first, counts_second, counts_pure, counts-pure-stop, of_ok, of-no}
use Rattle.outcome.specs.declared.Refusal.{Refusal}
use Rattle.numerics.specs.Numerics.{exp_of, ln_of}
use Rattle.thermo_types.specs.Composition.{normalize_of}
use Rattle.thermo_types.proofs.Normalizing.{normalize_cong}
use Rattle.thermo_types.specs.declared.ActivityOptions.{ActivityOptions}
use Rattle.thermo_models.specs.Model.{Activity}
use Rattle.rachford_rice.specs.Rachford.{negative, two_phase}
use Rattle.rachford_rice.specs.declared.RachfordRice.{RachfordRice}
use Rattle.tp_flash.specs.Split.{Split, Turn, k_values, phase_of, split_gap, rice_limit, fraction_in, turn_at}
use Rattle.saturation.specs.Saturation.{bubble_at}
use Rattle.tp_flash.specs.Tp.{Flash, dew_of, saturated_of, between_of, from_dew, phases_of}
use Rattle.tp_flash.specs.declared.Saturated.{Saturated}
use Rattle.tp_flash.specs.Counted.{split_turn_counted, split_counted, dew_of_counted, between_counted, from_dew_counted, saturated_counted, phases_counted}

-- ---- a phase of the split
pub phase_is : (z l : List Float) (n : ℕ) {w : List Float} {o : Out (List Float)} → n ≤ 8 → w ≡ vec (λ i. cond (lt 0f (at z i)) (at l i) 0f) n → o ≡ normalize_of (at w) n
    → o ≡ phase_of z l n
unfolding phase_of
phase_is z l n h e q = q ∙ normalize_cong n (λ k b. ap (λ (m : List Float). at m k) e ∙ fill-at _ n zeros8 nan k h b)

-- ---- K and the gap from logarithms that were worked out before the first turn
module _ (z ps : List Float) (n : ℕ) (h : n ≤ 8) (p : Float) {lnps : List Float} {lnp : Float} (of_ps : lnps ≡ vec (λ i. ln_of (at ps i)) n) (of_p : lnp ≡ ln_of p) where
  ln-at : (k : ℕ) → k < n → at lnps k ≡ ln_of (at ps k)
  ln-at k l = rw of_ps (vec-at _ n k h l)

  pub k-values-is : (lg e : List Float) {lnk w : List Float} → lnk ≡ vec (λ i. at lg i ⊕ at lnps i ⊖ lnp) n → ((k : ℕ) → k < places n → at e k ≡ exp_of (at lnk k))
      → w ≡ vec (λ i. cond (lt 0f (at z i)) (at e i) 1f) n → w ≡ k_values z ps p lg n
  unfolding k_values
  k-values-is lg e {lnk} of_k exps q =
      let of : (k : ℕ) → k < n → at lnk k ≡ at lg k ⊕ at lnps k ⊖ lnp = λ k l. rw of_k (vec-at _ n k h l) in
      let one : (k : ℕ) → k < n → at e k ≡ exp_of (at lg k ⊕ ln_of (at ps k) ⊖ ln_of p) = λ k l. rw (exps k (omega arith), of k l, ln-at k l, of_p) in
      q ∙ fill_cong _ _ n zeros8 (λ k l. rw (one k l))

  pub split-gap-is : (lg x y : List Float) {r : Float} → r ≡ fold_to (active (at z) (λ i s. max_of s (abs_of (ln_of (at y i) ⊕ lnp ⊖ ln_of (at x i) ⊖ at lg i ⊖ at lnps i)))) 0f n
      → r ≡ split_gap z lg ps p x y n
  unfolding split_gap
  split-gap-is lg x y q = q ∙ fold_cong 0f n (λ k a l. rw (ln-at k l, of_p))

module _ (E : List Float → Out Activity) (ps : List Float) (n : ℕ) (p : Float) (z : List Float) where
  -- ---- a turn of the split, from the code's solution of Rachford-Rice
  abbrev phases : ℕ → RachfordRice → Counted Turn
  phases iteration rr =
      bind_counted (uncounted (phase_of z rr.liquid n)) (λ x.
      bind_counted (uncounted (phase_of z rr.vapor n)) (λ y.
      evaluated (turn_at E ps n p z (fraction_in rr.outcome) x y iteration)))

  module _ (lg : List Float) (iteration : ℕ) {k : List Float} (q : k ≡ k_values z ps p lg n) where
    pub no_rice : {old r : ℕ} → no r ≡ bind (negative (at z) (at k) n rice_limit) (λ s. ok (two_phase s)) → Counts old (no r) old (split_turn_counted E ps n p z lg iteration)
    unfolding split_turn_counted
    no_rice e = counts-pure-stop _ (of-no two_phase _ (rw q at e))

    pub from_rice : {old new : ℕ} {rr : RachfordRice} {o : Out Turn} → ok rr ≡ bind (negative (at z) (at k) n rice_limit) (λ s. ok (two_phase s))
        → Counts old o new (phases iteration rr) → Counts old o new (split_turn_counted E ps n p z lg iteration)
    unfolding split_turn_counted two_phase
    from_rice e h =
        let (s, g, t) = of_ok two_phase _ (rw q at e) in
        counts_pure _ g (rw t at h)

  -- ---- the iteration of the split: after `done` of at most `limit` turns, what is left to run from here, the count at k, is the whole run W from `old`
  module _ (tolerance : Float) (limit done : ℕ) (lg : List Float) {old k : ℕ} {W : Counted Split}
      (run : (o : Out Split) (new : ℕ) → Counts k o new (split_counted E ps n p z tolerance (limit - done) done lg) → Counts old o new W) where
    pub loop_out : limit ≤ done → Counts old (no 27) k W
    unfolding split_counted
    loop_out l =
        let m : limit - done ≡ 0 = omega arith in
        (rw m at run) (no 27) k (counts_none refl)

    module _ (l : done < limit) where
      left : (o : Out Split) (new : ℕ) → Counts k o new (split_counted E ps n p z tolerance (suc (limit - suc done)) done lg) → Counts old o new W
      left =
          let m : limit - done ≡ suc (limit - suc done) = omega arith in
          rw m at run

      pub loop-refused : {r new : ℕ} → Counts k (no r) new (split_turn_counted E ps n p z lg (done + 1)) → Counts old (no r) new W
      unfolding split_counted
      loop-refused e = left _ _ (counts_stop _ (rw (add-one done) at e))

      module _ {t : Turn} {mid : ℕ} (e : Counts k (ok t) mid (split_turn_counted E ps n p z lg (done + 1))) where
        pub loop_done : le t.split.residual tolerance ≡ true → Counts old (ok t.split) mid W
        unfolding split_counted
        loop_done h = left _ _ (counts_next _ (rw (add-one done) at e) (counts_first _ h (counts_none refl)))

        pub loop_more : le t.split.residual tolerance ≡ false → (o : Out Split) (new : ℕ)
            → Counts mid o new (split_counted E ps n p z tolerance (limit - (done + 1)) (done + 1) t.activity.ln_gamma) → Counts old o new W
        unfolding split_counted
        loop_more h o new g = left o new (counts_next _ (rw (add-one done) at e) (counts_second _ h (rw (add-one done) at g)))

-- ---- counted steps in a row, put together the other way
module _ {B C : Type 0} where
  go-shift : (o : Out B) (k m : ℕ) (g : B → Counted C) → go_on o (k + m) g ≡ begun_before k (go_on o m g)
  unfolding go_on begun_before
  go-shift (ok b) k m g =
      let e : k + m + (g b).begun ≡ k + (m + (g b).begun) = omega arith in
      rw e
  go-shift (no r) k m g = refl

module _ {A B C : Type 0} where
  go-go : (o : Out A) (k : ℕ) (f : A → Counted B) (g : B → Counted C) → bind_counted (go_on o k f) g ≡ go_on o k (λ a. bind_counted (f a) g)
  unfolding bind_counted go_on begun_before
  go-go (ok a) k f g = go-shift (f a).outcome k (f a).begun g
  go-go (no r) k f g = refl

  counted-apart : (c : Counted A) (f : A → Counted B) (g : B → Counted C) → bind_counted (bind_counted c f) g ≡ bind_counted c (λ a. bind_counted (f a) g)
  unfolding bind_counted
  counted-apart c f g = go-go c.outcome c.begun f g

module _ {A B : Type 0} where
  go-same : (o : Out A) (k : ℕ) (f g : A → Counted B) → ((a : A) → f a ≡ g a) → go_on o k f ≡ go_on o k g
  unfolding go_on
  go-same (ok a) k f g h = ap (begun_before k) (h a)
  go-same (no r) k f g h = refl

  counted-same : (c : Counted A) (f g : A → Counted B) → ((a : A) → f a ≡ g a) → bind_counted c f ≡ bind_counted c g
  unfolding bind_counted
  counted-same c f g h = go-same c.outcome c.begun f g h

  counted-at : (a : A) (f : A → Counted B) → bind_counted (uncounted (ok a)) f ≡ f a
  unfolding bind_counted uncounted go_on begun_before
  counted-at a f =
      let e : 0 + (f a).begun ≡ (f a).begun = omega arith in
      ap (λ (k : ℕ). record { outcome = (f a).outcome; begun = k }) e

-- ---- the flash, by what no pressure changes
module _ (E : List Float → Out Activity) (n : ℕ) (o : ActivityOptions) (z : List Float) (p : Float) (ps : List Float) where
  abbrev between : Saturated → Counted Flash
  between s = between_counted E n o z p ps s.bubble s.dew

  phases-apart : bind_counted (saturated_counted E n o z ps) between ≡ phases_counted E n o z p ps
  unfolding saturated_counted phases_counted from_dew_counted
  phases-apart =
      counted-apart _ _ between
      ∙ counted-same _ _ _ (λ b. counted-apart (dew_of_counted E n o z ps b.pressure) _ between ∙ counted-same _ _ _ (λ dew. counted-at _ between))

  pub saturated-stop : {old new r : ℕ} → Counts old (no r) new (saturated_counted E n o z ps) → Counts old (no r) new (phases_counted E n o z p ps)
  saturated-stop h = rw phases-apart at (counts_stop between h)

  pub saturated-next : {old mid new : ℕ} {s : Saturated} {f : Out Flash} → Counts old (ok s) mid (saturated_counted E n o z ps)
      → Counts mid f new (between_counted E n o z p ps s.bubble s.dew) → Counts old f new (phases_counted E n o z p ps)
  saturated-next h g = rw phases-apart at (counts_next between h g)

-- what the exit of a `?` returns
pub exit-is : {A : Type 0} (e : Refusal) (r : Result A Refusal) → IsErrAnd r (λ y. y ≡ e) → r ≡ Err e
exit-is e (Err y) h = rw h
exit-is e (Ok a) h = absurd h

-- ---- without the count
bind-apart : {A B C : Type 0} (x : Out A) (k : A → Out B) (l : B → Out C) → bind (bind x k) l ≡ bind x (λ a. bind (k a) l)
unfolding bind
bind-apart (ok a) k l = refl
bind-apart (no r) k l = refl

bind-same : {A B : Type 0} (x : Out A) (k l : A → Out B) → ((a : A) → k a ≡ l a) → bind x k ≡ bind x l
unfolding bind
bind-same (ok a) k l h = h a
bind-same (no r) k l h = refl

pub phases-by : (E : List Float → Out Activity) (n : ℕ) (o : ActivityOptions) (z : List Float) (p : Float) (ps : List Float)
    → phases_of E n o z p ps ≡ bind (saturated_of E n o z ps) (λ s. between_of E n o z p ps s.bubble s.dew)
unfolding phases_of from_dew saturated_of bind
phases-by E n o z p ps =
    sym (bind-apart (bubble_at E ps n z) _ _
    ∙ bind-same (bubble_at E ps n z) _ _ (λ b. bind-apart (dew_of E n o z ps b.pressure) _ _ ∙ bind-same (dew_of E n o z ps b.pressure) _ _ (λ dew. refl)))
