-- Two answers look equal on the floor exactly when they agree in the words shown. Assumes nothing.
use Prim.Native.Nat.{ℕ, ◌+◌, ◌-◌, ◌≤◌, ◌<◌}
use mathlib.Core.Path.{◌≡◌, refl, sym, ap, ◌∙◌}
use mathlib.Core.Logic.{◌≢◌, inl, inr}
use mathlib.Core.Bool.{Bool, true, false, not}
use mathlib.Core.List.{List}
use native.Mathlib.Nat.{eq-or-lt_of_le}
use native.Mathlib.Omega.{arith}
use borrow.Author.Tests.{eqb-true, eqb-false}
use lib.Dec.{T, eqb, ltb, ltb→lt, nltb→le}
use lib.ListN.{replicate}
use Rattle.floats.specs.Vector.{fill}
use Rattle.floats.proofs.Fills.{fill_cong}
use Rattle.blocks.specs.Words.{word}
use Rattle.blocks.specs.Bytes.{word_at}
use Rattle.readers.specs.Readers.{floor_place, shown_of, floor_words}
use Rattle.floors.specs.Equal.{Agree, LooksEqual}
use Rattle.floors.proofs.Words.{floor-is, place-front, place_rest, shown-five, shown-all, place-shown, place-five}

module _ (s s' : List ℕ) where
  -- ---- equal words were read at equal places
  module _ (e : floor_words s ≡ floor_words s') where
    five : (k : ℕ) → 1 ≤ k → k ≤ 5 → word s k ≡ word s' k
    five k l m =
        let i = k - 1 in
        let q : 1 + i ≡ k = omega arith in
        let at = sym (place-five s i (omega arith)) ∙ ap (λ (ws : List ℕ). word_at ws i) e ∙ place-five s' i (omega arith) in
        rw q at at

    module _ (d : word s 1 ≢ 1) where
      all : shown_of (word s 1) ≡ 22
      all = shown-all (word s 1) d

      all' : shown_of (word s' 1) ≡ 22
      all' = shown-all (word s' 1) (λ t. d (five 1 (omega arith) (omega arith) ∙ t))

      rest : (i : ℕ) → i < 22 → word s (floor_place i) ≡ word s' (floor_place i)
      rest i l =
          sym (place-shown s all i (omega arith) l) ∙ ap (λ (ws : List ℕ). word_at ws i) e ∙ place-shown s' all' i (omega arith) l

    agree : Agree s s'
    unfolding floor_place
    agree = record {
      front = five;
      fraction = λ d. rest d 5 (omega arith);
      phases = λ d k l m.
          let i = k - 8 in
          let q : 8 + i ≡ k = omega arith in
          let p : floor_place i ≡ k = place_rest i (omega arith) ∙ q in
          rw p at (rest d i (omega arith));
    }

  -- ---- and back
  module _ (a : Agree s s') where
    task : word s 1 ≡ word s' 1
    task = a.front 1 (omega arith) (omega arith)

    front : (i : ℕ) → i < 5 → word s (floor_place i) ≡ word s' (floor_place i)
    front i l = rw (place-front i l) (a.front (1 + i) (omega arith) (omega arith))

    behind : word s 1 ≢ 1 → (i : ℕ) → 5 ≤ i → i < 22 → word s (floor_place i) ≡ word s' (floor_place i)
    unfolding floor_place
    behind d i l m = elim (eq-or-lt_of_le l) [
      | inl e ↦ let q : i ≡ 5 = omega arith in rw q (a.fraction d)
      | inr h ↦ rw (place_rest i h) (a.phases d (8 + i) (omega arith) (omega arith))
    ]

    shown : (b : Bool) → eqb (word s 1) 1 ≡ b → (i : ℕ) → i < shown_of (word s 1) → word s (floor_place i) ≡ word s' (floor_place i)
    shown true t i l = front i (rw (shown-five (word s 1) (eqb-true (word s 1) 1 t)) at l)
    shown false t i l =
        let d = eqb-false (word s 1) 1 t in
        let m : i < 22 = rw (shown-all (word s 1) d) at l in
        split (ltb i 5) (ltb→lt i 5) (nltb→le i 5) d m
      where
        split : (b : Bool) → (T b → i < 5) → (T (not b) → 5 ≤ i) → word s 1 ≢ 1 → i < 22 → word s (floor_place i) ≡ word s' (floor_place i)
        split true f g d m = front i (f tt)
        split false f g d m = behind d i (g tt) m

    pub equal : floor_words s ≡ floor_words s'
    unfolding floor_words
    equal =
        fill_cong _ _ (shown_of (word s 1)) (replicate 22 0) (shown (eqb (word s 1) 1) refl)
        ∙ ap (λ (t : ℕ). fill (λ i. word s' (floor_place i)) (shown_of t) (replicate 22 0)) task

pub looks_equal : LooksEqual
looks_equal s s' ws ws' e e' = (
  λ q. agree s s' (sym (floor-is s ws e) ∙ q ∙ floor-is s' ws' e'),
  λ a. floor-is s ws e ∙ equal s s' a ∙ sym (floor-is s' ws' e'),
)
