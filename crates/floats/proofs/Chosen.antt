-- A fold over what a closure makes of the indices that pass a test, as a fold over all indices. Assumes nothing.
use Prim.Native.Nat.{ℕ, zero, suc, ◌+◌, ◌<◌}
use mathlib.Core.Path.{◌≡◌, refl, sym, ◌∙◌, ap, subst}
use mathlib.Core.Bool.{Bool, true, false, cond}
use mathlib.Core.List.{map}
use native.Mathlib.Numerals.{add-one}
use native.Mathlib.Omega.{arith}
use denote.Param.Members.{Mut}
use denote.Ref.{Bor}
use Rattle.std.specs.declared.ops.Range.{Range}
use Rattle.std.specs.declared.iter.Map.{Map}
use Rattle.std.specs.declared.iter.Filter.{Filter}
use Rattle.std.specs.List.{range_with_len, filter, fold}
use Rattle.std.specs.Iterator.{FoldsItems, ActsAs, ActsAsAt, ActsAsOnTwo}
use Rattle.std.specs.Iterator.Adapters.{map_source, map_callee, map_steps, filter_source, filter_callee, filter_steps}
use Rattle.std.proofs.iter.Yields.{nat_range_steps}
use Rattle.std.proofs.lemmas.Iterator.{YieldsList, YieldsList-from_range, YieldsList-from_map}
use Rattle.std.proofs.lemmas.Iterator.Consumers.{YieldsList-from_filter, fold_from_yields_List}
use Rattle.floats.specs.Fold.{fold_to}

module _ {S A : Type 0} (test : ℕ → Bool) (v : ℕ → A) (w : S → A → S) (s : S) where
  abbrev step : ℕ → S → S
  step i a = cond (test i) (w a (v i)) a

  each : (m k : ℕ) (a : S) → a ≡ fold_to step s k → fold w a (map v (filter test (range_with_len k m))) ≡ fold_to step s (k + m)
  unfolding fold_to
  each zero k a e = e ∙ ap (fold_to step s) (omega arith)
  each (suc m) k a e = turn (test k) refl (λ b q. each m (k + 1) (cond b (w a (v k)) a) (rw (add-one, q, e))) ∙ ap (fold_to step s) (omega arith)
    where
      turn : (b : Bool) → test k ≡ b → ((b : Bool) → test k ≡ b → fold w (cond b (w a (v k)) a) (map v (filter test (range_with_len (k + 1) m))) ≡ fold_to step s (k + 1 + m))
          → fold w a (map v (filter test (range_with_len k (suc m)))) ≡ fold_to step s (k + 1 + m)
      turn true q more = rw q (more true q)
      turn false q more = rw q (more false q)

  pub fold_of_chosen : {P H F : Type 0} {p : Mut P (Bor ℕ × Unit {0}) Bool} {h : Mut H (ℕ × Unit {0}) A} {g : Mut F (S × (A × Unit {0})) S} {u : Filter (Range ℕ) P} {c : Map (Filter (Range ℕ) P) H} {x : P} {y : H} {f : F} {r : S} (n : ℕ)
      → filter_source u ≡ record { start = 0; end = n } → filter_callee u ≡ x → map_source c ≡ u → map_callee c ≡ y
      → FoldsItems (map_steps (filter_steps nat_range_steps p) h) g c f s r → ActsAsAt p x test → ActsAs h y v → ActsAsOnTwo g f w → r ≡ fold_to step s n
  unfolding fold_to
  fold_of_chosen {p = p} {u = u} n source chooser under maker ran chooses makes folds =
      let chosen = YieldsList-from_filter _ test (YieldsList-from_range 0 n n source (omega arith)) chooser chooses in
      fold_from_yields_List _ w s _ ran (YieldsList-from_map _ v (subst (λ a. YieldsList (filter_steps nat_range_steps p) (λ (i : ℕ). i) a (filter test (range_with_len 0 n))) (sym under) chosen) maker makes) folds
      ∙ each n 0 s refl ∙ ap (fold_to step s) (omega arith)

-- a part of such a fold, as a fold of its own
module _ {S A R : Type 0} (test : ℕ → Bool) (v : ℕ → A) (w : S → A → S) (s : S) (p : S → R) (f : ℕ → R → R) where
  either : (b : Bool) (a : S) {x : S} {y : R} → (b ≡ true → p x ≡ y) → p (cond b x a) ≡ cond b y (p a)
  either true a e = e refl
  either false a e = refl

  part : (n : ℕ) → ((i : ℕ) (a : S) → i < n → test i ≡ true → p (w a (v i)) ≡ f i (p a)) → p (fold_to (step test v w s) s n) ≡ fold_to (λ i (b : R). cond (test i) (f i b) b) (p s) n
  unfolding fold_to
  part zero h = refl
  part (suc n) h = either (test n) _ (h n _ (omega arith)) ∙ ap (λ (b : R). cond (test n) (f n b) b) (part n (λ i a l. h i a (omega arith)))

  pub part_of_chosen : (n : ℕ) {r : S} → r ≡ fold_to (step test v w s) s n → ((i : ℕ) (a : S) → i < n → test i ≡ true → p (w a (v i)) ≡ f i (p a)) → p r ≡ fold_to (λ i (b : R). cond (test i) (f i b) b) (p s) n
  part_of_chosen n e h = ap p e ∙ part n h
