-- Loops as chains: a test of every index, or of every element with its index, by `all`; a fold over the indices. Assumes nothing.
use Prim.Native.Nat.{ℕ, zero, suc, ◌+◌, ◌<◌}
use mathlib.Core.Path.{◌≡◌, refl, sym, ◌∙◌, ap}
use mathlib.Core.Bool.{Bool, true, false}
use mathlib.Core.List.{List, map-id}
use native.Mathlib.Numerals.{add-one}
use native.Mathlib.Omega.{arith}
use lib.ListN.{length, get_or}
use denote.Param.Members.{Mut}
use denote.Ref.{Bor}
use Rattle.std.specs.Bool.{MatchBool}
use Rattle.std.specs.declared.ops.Range.{Range}
use Rattle.std.specs.declared.iter.Enumerate.{Enumerate}
use Rattle.std.specs.declared.slice.Iter.{Iter}
use Rattle.std.specs.Iterator.Adapters.{enumerate_source, enumerate_count, enumerate_steps}
use Rattle.std.specs.Slice.Iter.{iter_rest}
use Rattle.std.specs.Fn.{Called}
use Rattle.std.specs.List.{range_with_len, enumerate_from, AllWithin, HoldsAt, FoldsTo}
use Rattle.std.specs.Iterator.{ChecksAll, FoldTurn, FoldsItems}
use Rattle.std.proofs.iter.Yields.{fronts, nat_range_steps, gives_Drains}
use Rattle.std.proofs.lemmas.Iterator.{cases_from_all, YieldsList-from_range, YieldsList-from_slice}
use Rattle.std.proofs.lemmas.Iterator.Consumers.{YieldsList-from_enumerate}
use Rattle.std.proofs.lemmas.List.FromFn.{length-range_with_len, get_or-range_with_len, length-enumerate_from, get_or-enumerate_from}
use Rattle.floats.specs.Fold.{fold_to, all_to}
use Rattle.floats.proofs.Folds.{all_fails}

pub all_each : (p : ℕ → Bool) (n : ℕ) → ((k : ℕ) → k < n → p k ≡ true) → all_to p n ≡ true
unfolding all_to
all_each p zero e = refl
all_each p (suc n) e = rw (all_each p n (λ k l. e k (omega arith)), e n (omega arith))

-- what `all` says of a list's elements, as a test of the indices
done : {X : Type 0} (t : X → Bool) (ys : List X) (d : X) (p : ℕ → Bool) (n : ℕ) → length ys ≡ n → ((k : ℕ) → k < n → t (get_or ys k d) ≡ p k)
    → (r : Bool) → MatchBool r (AllWithin (λ y. t y ≡ true) ys 0 (length ys)) ((k : ℕ) × (k < length ys) × HoldsAt (λ y. t y ≡ false) ys k) → r ≡ all_to p n
done t ys d p n m e true h = sym (all_each p n (λ k l. sym (e k l) ∙ h k d (omega arith) (rw m l)))
done t ys d p n m e false (k, l, h) = let i : k < n = rw m at l in sym (all_fails p k n i (sym (e k i) ∙ h d))

pub all_of_range : {F : Type 0} {g : Mut F (ℕ × Unit {0}) Bool} {u : Range ℕ} {f : F} {r : Bool} {e : ℕ} (p : ℕ → Bool) (n : ℕ) → e ≡ n → ChecksAll nat_range_steps g (record { start = 0; end = e }) f r u → ((x : ℕ) (q : F) → Called g f (x, tt) true q → (q ≡ f) × (p x ≡ true)) → ((x : ℕ) (q : F) → Called g f (x, tt) false q → p x ≡ false) → r ≡ all_to p n
all_of_range {f = f} {r = r} {e = e} p n h run holds fails =
    done p (range_with_len 0 n) 0 p n (length-range_with_len 0 n) (λ k l. ap p (get_or-range_with_len 0 n k 0 l ∙ omega arith)) r
    (cases_from_all _ f r (λ k. p k ≡ true) (λ k. p k ≡ false) run (YieldsList-from_range 0 e n refl (rw h (omega arith))) holds fails)

-- the same of a slice's elements, each with its index
pub all_of_slice : {A F : Type 0} {g : Mut F ((ℕ × Bor A) × Unit {0}) Bool} {s u : Enumerate (Iter A)} {f : F} {r : Bool} (p : ℕ → A → Bool) (xs : List A) (d : A) → iter_rest (enumerate_source s) ≡ xs → enumerate_count s ≡ 0 → ChecksAll (enumerate_steps fronts) g s f r u
    → ((x : ℕ × Bor A) (q : F) → Called g f (x, tt) true q → (q ≡ f) × (p x.0 x.1.now ≡ true)) → ((x : ℕ × Bor A) (q : F) → Called g f (x, tt) false q → p x.0 x.1.now ≡ false) → r ≡ all_to (λ k. p k (get_or xs k d)) (length xs)
all_of_slice {f = f} {r = r} p xs d h z run holds fails =
    done (λ y. p y.0 y.1) (enumerate_from 0 xs) (0, d) (λ k. p k (get_or xs k d)) (length xs) (length-enumerate_from 0 xs) (λ k l. let z : 0 + k ≡ k = omega arith in ap (λ (y : ℕ × _). p y.0 y.1) (get_or-enumerate_from 0 xs k (0, d) l) ∙ ap (λ i. p i (get_or xs k d)) z) r
    (cases_from_all _ f r (λ y. p y.0 y.1 ≡ true) (λ y. p y.0 y.1 ≡ false) run (YieldsList-from_enumerate (YieldsList-from_slice xs h) z) holds fails)

module _ {S F : Type 0} (g : Mut F (S × (ℕ × Unit {0})) S) (f : F) (step : ℕ → S → S) (turn : (a : S) (x : ℕ) (b : S) (q : F) → Called g f (a, (x, tt)) b q → (q ≡ f) × (b ≡ step x a)) where
  fold_from : (s : S) (m k : ℕ) (p : F × S) (q : F) (r : S) → p.0 ≡ f → p.1 ≡ fold_to step s k → FoldsTo {P = F × S} (FoldTurn g) p (range_with_len k m) (q, r) → r ≡ fold_to step s (k + m)
  unfolding fold_to
  fold_from s zero k p q r u e t = sym (ap (λ (w : F × S). w.1) t) ∙ e ∙ ap (fold_to step s) (omega arith)
  fold_from s (suc m) k p q r u e (j, c, t) =
      let w = turn p.1 k j.1 j.0 (rw u at c) in
      let d : j.1 ≡ fold_to step s (k + 1) = w.1 ∙ rw (add-one, e) in
      fold_from s m (k + 1) j q r w.0 d t ∙ ap (fold_to step s) (omega arith)

pub fold_of_range : {S F : Type 0} {g : Mut F (S × (ℕ × Unit {0})) S} {f : F} {r : S} {e : ℕ} (step : ℕ → S → S) (s : S) (n : ℕ) → e ≡ n → FoldsItems nat_range_steps g (record { start = 0; end = e }) f s r → ((a : S) (x : ℕ) (b : S) (q : F) → Called g f (a, (x, tt)) b q → (q ≡ f) × (b ≡ step x a)) → r ≡ fold_to step s n
unfolding fold_to
fold_of_range {g = g} {f = f} {r = r} {e = e} step s n h (xs, q, drained, ran) turn =
    let y = YieldsList-from_range 0 e n refl (rw h (omega arith)) in
    let all : xs ≡ range_with_len 0 n = sym (map-id xs) ∙ gives_Drains nat_range_steps (λ x. x) xs (range_with_len 0 n) _ y.runs drained in
    fold_from g f step turn s n 0 (f, s) q r refl refl (rw all at ran) ∙ ap (fold_to step s) (omega arith)
