use mathlib.Core.Path.{◌≡◌, refl, sym, ap, ◌∙◌}
use mathlib.Core.Logic.{⊎_elim}
use mathlib.Core.Bool.{Bool, true, false, cond, ◌&&◌, true≢false}
use mathlib.Core.List.{List}
use Prim.Native.Nat.{ℕ, ◌+◌, ◌-◌, ◌%◌, ◌^◌, ◌≤◌, ◌<◌, min}
use native.Mathlib.Nat.{eq-or-lt_of_le}
use native.Mathlib.Omega.{arith}
use lib.ListN.{length}
use lib.Dec.{ltb}
use borrow.Author.Tests.{ltb-true, ne_eqb}
use lib.Ieee.{Float}
use Rattle.std.proofs.lemmas.Bool.Decides.{nat_tests}
use Rattle.floats.specs.Arithmetic.{◌⊘◌, 0f}
use Rattle.floats.specs.Small.{float}
use Rattle.floats.specs.Vector.{at, vec}
use Rattle.floats.specs.Outcome.{Out, ok, no, bind, need}
use Rattle.floats.proofs.Fills.{vec-at}
use Rattle.thermo_types.proofs.Normalizing.{normalize_cong}
use Rattle.thermo_types.specs.Composition.{all_finite, none_negative, all_positive, sums_to_one, normalize_of}
use Rattle.blocks.specs.Words.{word}
use Rattle.blocks.specs.declared.Rule.{Rule}
use Rattle.blocks.proofs.Laws.{word-past}
use Rattle.question.specs.Inputs.{within, needs_ratios, if_needed}
use Rattle.question.specs.Asked.{temperature_right, pressure_right, inputs_right, limits_right, task_in, kind_right, feed_of, rest_of, question_of}

-- tests in a row, with anything behind them
need-bind : {A B : Type 0} (b : Bool) (r : ℕ) (o : Out A) {p : Out B} (k : A → Out B) → p ≡ bind o k → need b r p ≡ bind (need b r o) k
unfolding need bind
need-bind true r o k e = e
need-bind false r o k e = refl

module _ {A : Type 0} (w : ℕ → ℕ) (p : Out A) where
  pub inputs_behind : (n : ℕ) (x k : List Float) → inputs_right w n x k p ≡ bind (inputs_right w n x k (ok (tt {0}))) (λ z. p)
  unfolding inputs_right bind
  inputs_behind n x k =
      let f : Unit {0} → Out A = λ z. p in
      need-bind _ 13 _ f (need-bind _ 14 _ f (need-bind _ 15 _ f (need-bind _ 16 _ f (need-bind _ 17 _ f (need-bind _ 18 _ f refl)))))

  pub limits_behind : limits_right w p ≡ bind (limits_right w (ok (tt {0}))) (λ z. p)
  unfolding limits_right bind
  limits_behind = let f : Unit {0} → Out A = λ z. p in need-bind _ 19 _ f (need-bind _ 20 _ f (need-bind _ 21 _ f refl))

-- tests that all pass, in another order
passed : {A : Type 0} (t p f m s d g h : Bool) (o : Out A) → ((t && p) && (((f && m) && s) && if_needed d (g && h))) ≡ true
    → need t 13 (need p 14 (need (f && if_needed d g) 15 (need m 16 (need (if_needed d h) 17 (need s 18 o))))) ≡ o
unfolding need
passed true true true true true false g h o e = refl
passed true true true true true true true true o e = refl
passed true true true true true true true false o e = absurd (true≢false (sym e))
passed true true true true true true false h o e = absurd (true≢false (sym e))
passed true true true true false d g h o e = absurd (true≢false (sym e))
passed true true true false s d g h o e = absurd (true≢false (sym e))
passed true true false m s d g h o e = absurd (true≢false (sym e))
passed true false f m s d g h o e = absurd (true≢false (sym e))
passed false p f m s d g h o e = absurd (true≢false (sym e))

pub inputs_passed : {A : Type 0} (w : ℕ → ℕ) (n : ℕ) (x k : List Float) (o : Out A)
    → ((temperature_right w && pressure_right w) && (((all_finite (at x) n && none_negative (at x) n) && sums_to_one (at x) n) && if_needed (needs_ratios (w 1)) (all_finite (at k) n && all_positive (at k) n))) ≡ true
    → inputs_right w n x k o ≡ o
unfolding inputs_right
inputs_passed w n x k o e = passed (temperature_right w) (pressure_right w) (all_finite (at x) n) (none_negative (at x) n) (sums_to_one (at x) n) (needs_ratios (w 1)) (all_finite (at k) n) (all_positive (at k) n) o e

-- a question that is no block, and one whose task and kind are right
module _ (rule : Rule) (q : List ℕ) (version : ℕ) (m : ℕ → Float) (n : ℕ) where
  pub no_block : (length q ≡ 512 → ⊥) → question_of rule q version m n ≡ no 11
  unfolding question_of task_in bind need
  no_block e = rw (ne_eqb (length q) 512 e) refl

  pub put_to_feed : {t : ℕ} {x : List Float} → ok t ≡ task_in rule q → true ≡ kind_right version (word q) → x ≡ feed_of q n
      → rest_of q m n x ≡ question_of rule q version m n
  unfolding question_of bind need
  put_to_feed a b e = rw (← a, ← b, e) refl

-- fractions over molar masses, in an array of eight
pub normalize_vec : (x : List Float) (m : ℕ → Float) (n : ℕ) → n ≤ 8 → normalize_of (at (vec (λ i. at x i ⊘ m i) n)) n ≡ normalize_of (λ i. at x i ⊘ m i) n
normalize_vec x m n l = normalize_cong n (λ i k. vec-at (λ i. at x i ⊘ m i) n i l k)

-- a number outside a range
pub outside : (a b k : ℕ) → (a ≤ k → k ≤ b → ⊥) → within a b k ≡ false
outside a b k f = grind (arith, nat_tests)

-- a word past every slice's end is 0, as the one at the largest index is
pub word-kept : (q : List ℕ) (k : ℕ) {s : ℕ} → length q < 2 ^ 64 → s ≡ min k (2 ^ 64 - 1) → word q s ≡ word q k
word-kept q k {s} l e =
    let past : s < k → word q s ≡ word q k = λ h. sym (word-past q s (omega arith)) ∙ word-past q k (omega arith) in
    ⊎_elim (λ h. ap (word q) h) past (eq-or-lt_of_le {n = s} {m = k} (omega arith))

-- a word of a whole block, where the fraction that it is read for counts
pub word-within : (q : List ℕ) (from i m : ℕ) {s : ℕ} → from ≤ 56 → m ≤ 8 → s ≡ min (from + i) (2 ^ 64 - 1)
    → cond (ltb i m) (float (word q) (s % 64)) 0f ≡ cond (ltb i m) (float (word q) (from + i)) 0f
word-within q from i m {s} few n e = pick (ltb i m) refl
  where
    pick : (b : Bool) → ltb i m ≡ b → cond b (float (word q) (s % 64)) 0f ≡ cond b (float (word q) (from + i)) 0f
    pick true h = let l = ltb-true i m h in let k : s % 64 ≡ from + i = omega arith in ap (float (word q)) k
    pick false h = refl
