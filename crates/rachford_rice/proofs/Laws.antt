-- The sums over the feed, the tests of `validate` in a row, and the turns of the iteration. Assumes nothing.
use Prim.Native.Nat.{ℕ, suc, ◌+◌, ◌-◌, ◌<◌, ◌≤◌}
use mathlib.Core.Path.{◌≡◌, refl, sym, ◌∙◌, ap}
use mathlib.Core.Bool.{Bool, true, false, cond, ◌&&◌, true≢false}
use mathlib.Core.List.{List}
use native.Mathlib.Numerals.{add-one}
use native.Mathlib.Omega.{arith}
use lib.Ieee.{Float, neg, lt}
use Rattle.std.specs.declared.ops.ControlFlow.{ControlFlow}
use Rattle.std.specs.declared.ops.ControlFlow.TheVariants.{Break, Continue}
use Rattle.floats.specs.Arithmetic.{◌⊕◌, ◌⊖◌, ◌⊗◌, ◌⊘◌, 0f, 1f}
use Rattle.floats.specs.Small.{is_finite, abs_of}
use Rattle.floats.specs.Fold.{fold_to, active}
use Rattle.floats.specs.Vector.{at, vec, places}
use Rattle.floats.specs.Outcome.{Out, ok, no, bind, need, choose}
use Rattle.floats.proofs.Folds.{fold_map}
use Rattle.floats.proofs.Fills.{vec-at}
use Rattle.floats.proofs.Outcomes.{need_then}
use Rattle.thermo_types.specs.Composition.{all_finite, none_negative, all_positive, sums_to_one, shares_of}
use Rattle.thermo_types.proofs.Normalizing.{shares_cong}
use Rattle.rachford_rice.specs.declared.Bracket.{Bracket}
use Rattle.rachford_rice.specs.declared.RachfordRice.{RachfordRice}
use Rattle.rachford_rice.specs.declared.RachfordRiceOutcome.TheVariants.{TwoPhase}
use Rattle.rachford_rice.specs.Rachford.{over, Solution, turn_of, goes, residual_of, slope_of, validate, liquid_part, vapor_part, solution_at, iterate, two_phase}

-- ---- g(β) and the sum that g'(β) negates, added up side by side
cond_map : {A B : Type 0} (f : A → B) (b : Bool) (x y : A) → f (cond b x y) ≡ cond b (f x) (f y)
cond_map f true x y = refl
cond_map f false x y = refl

module _ (z k : ℕ → Float) (β : Float) (n : ℕ) where
  abbrev term : ℕ → Float → Float
  term i s = s ⊕ z i ⊗ (k i ⊖ 1f) ⊘ over k β i

  abbrev square : ℕ → Float → Float
  square i s = s ⊕ z i ⊗ ((k i ⊖ 1f) ⊗ (k i ⊖ 1f)) ⊘ (over k β i ⊗ over k β i)

  abbrev pub both_terms : ℕ → Float × Float → Float × Float
  both_terms i s = (term i s.0, square i s.1)

  module _ {s : Float × Float} (e : s ≡ fold_to (active z both_terms) (0f, 0f) n) where
    pub residual-is : s.0 ≡ residual_of z k n β
    unfolding residual_of
    residual-is = ap (λ (s : Float × Float). s.0) e ∙ fold_map _ (active z term) (λ (s : Float × Float). s.0) (0f, 0f) n (λ i a. cond_map (λ (s : Float × Float). s.0) (lt 0f (z i)) _ _)

    pub slope-is : neg s.1 ≡ slope_of z k n β
    unfolding slope_of
    slope-is = ap (λ (s : Float × Float). neg s.1) e ∙ ap neg (fold_map _ (active z square) (λ (s : Float × Float). s.1) (0f, 0f) n (λ i a. cond_map (λ (s : Float × Float). s.1) (lt 0f (z i)) _ _))

-- ---- a split: the vapor from the liquid that is not yet divided
module _ (z k : ℕ → Float) (n : ℕ) (h : n ≤ 8) (β : Float) {x y : List Float} (px : x ≡ vec (liquid_part z k n β) n) (py : y ≡ vec (λ i. at x i ⊗ k i) n) where
  liquid-at : (i : ℕ) → i < n → at x i ≡ liquid_part z k n β i
  liquid-at i m = ap (λ a. at a i) px ∙ vec-at _ n i h m

  vapor-at : (i : ℕ) → i < n → at y i ≡ vapor_part z k n β i
  unfolding vapor_part
  vapor-at i m = ap (λ a. at a i) py ∙ vec-at _ n i h m ∙ ap (λ (q : Float). q ⊗ k i) (liquid-at i m)

  pub solution-is : (it : ℕ) {l v : List Float} {g r : Float} → l ≡ shares_of (at x) (places n) → v ≡ shares_of (at y) (places n) → r ≡ residual_of z k n β
      → g ≡ abs_of r
      → ◌≡◌ {A = RachfordRice} (record { outcome = TwoPhase β g it; liquid = l; vapor = v }) (two_phase (solution_at z k n β it))
  unfolding two_phase solution_at shares_of
  solution-is it pl pv pr pg = let few : places n ≡ n = omega arith in rw (pl, pv, pg, pr, few, shares_cong n liquid-at, shares_cong n vapor-at)

-- ---- `validate`: its tests, then what comes after them
pub validate_then : {A : Type 0} (z k : ℕ → Float) (n : ℕ) (o : Out A) → bind (validate z k n (ok (tt {0}))) (λ _. o) ≡ validate z k n o
unfolding validate bind
validate_then z k n o = rw (need_then, need_then, need_then, need_then)

-- the same tests in another order
all_passed : {A : Type 0} (f m s g h : Bool) (o : Out A) → (((f && m) && s) && (g && h)) ≡ true → need (f && g) 15 (need m 16 (need h 17 (need s 18 o))) ≡ o
unfolding need
all_passed true true true true true o e = refl
all_passed true true true true false o e = absurd (true≢false (sym e))
all_passed true true true false h o e = absurd (true≢false (sym e))
all_passed true true false g h o e = absurd (true≢false (sym e))
all_passed true false s g h o e = absurd (true≢false (sym e))
all_passed false m s g h o e = absurd (true≢false (sym e))

pub valid : {A : Type 0} (z k : ℕ → Float) (n : ℕ) (o : Out A) {a b : Bool} → a ≡ ((all_finite z n && none_negative z n) && sums_to_one z n)
    → b ≡ (all_finite k n && all_positive k n) → (a && b) ≡ true → validate z k n o ≡ o
unfolding validate
valid z k n o p q e = all_passed (all_finite z n) (none_negative z n) (sums_to_one z n) (all_finite k n) (all_positive k n) o (rw (p, q) at e)

-- ---- the iteration, after `done` of `limit` turns: what is left to run from here is the whole run W
module _ (z k : ℕ → Float) (n limit done : ℕ) (lo hi β : Float) {W : Out Solution} (run : iterate z k n (limit - done) done lo hi β ≡ W) where
  pub loop_out : limit ≤ done → no 27 ≡ bind W (λ s. ok (two_phase s))
  unfolding iterate bind
  loop_out l =
      let m : limit - done ≡ 0 = omega arith in
      rw (← run, m)

  module _ (l : done < limit) {g : Float} (pg : g ≡ residual_of z k n β) {f : Bool} (pf : f ≡ is_finite g) where
    left : iterate z k n (suc (limit - (done + 1))) done lo hi β ≡ W
    left =
        let m : limit - done ≡ suc (limit - (done + 1)) = omega arith in
        rw m at run

    pub loop_stops : f ≡ false → no 25 ≡ bind W (λ s. ok (two_phase s))
    unfolding iterate need bind
    loop_stops h = rw (← left, ← pg, ← pf, h)

    module _ (h : f ≡ true) {d : Float} (pd : d ≡ slope_of z k n β) where
      -- the rest of the run, as the turn says
      abbrev rest : ControlFlow Float Bracket → Out Solution
      rest (Break root) = ok (solution_at z k n root (done + 1))
      rest (Continue b) = iterate z k n (limit - (done + 1)) (done + 1) b.lo b.hi b.beta

      by_last : (last : Bool) (root : Float) (b : Bracket) → choose last (rest (Break root)) (rest (Continue b)) ≡ rest (cond last (Break root) (Continue b))
      unfolding choose
      by_last true root b = refl
      by_last false root b = refl

      after : {c : ControlFlow Float Bracket} → c ≡ goes g β (turn_of g d lo hi β) → rest c ≡ W
      unfolding iterate need goes
      after e = rw e (sym (by_last _ _ _) ∙ (rw (← pg, ← pf, h, ← pd, ← add-one done) at left))

      module _ {c : ControlFlow Float Bracket} (pc : c ≡ goes g β (turn_of g d lo hi β)) where
        pub loop_last : {root : Float} → c ≡ Break root → {r : RachfordRice} → r ≡ two_phase (solution_at z k n root (done + 1)) → ok r ≡ bind W (λ s. ok (two_phase s))
        unfolding bind
        loop_last q e = rw (← after pc, q, e)

        pub loop_more : {b : Bracket} → c ≡ Continue b → iterate z k n (limit - (done + 1)) (done + 1) b.lo b.hi b.beta ≡ W
        loop_more q = ap rest (sym q) ∙ after pc
