-- Arrays that `array::from_fn` makes; of eight: h of each index below n, and z past them. Assumes nothing.
use Prim.Native.Nat.{ℕ, zero, suc, ◌+◌, ◌≤◌, ◌<◌}
use mathlib.Core.Path.{◌≡◌, refl, sym, ◌∙◌}
use mathlib.Core.Bool.{Bool, true, false, cond}
use mathlib.Core.Logic.{⊎_elim}
use mathlib.Core.List.{List}
use native.Mathlib.Nat.{eq-or-lt_of_le}
use native.Mathlib.Omega.{arith}
use borrow.Author.Tests.{ltb-true, ltb-false}
use denote.Param.Members.{Mut}
use lib.Dec.{ltb}
use lib.ListN.{get_or, replicate}
use lib.Seq.{ext_get_or}
use Rattle.std.specs.Fn.{Called}
use Rattle.std.specs.Array.{IsFromFnResult, IsFromFnResultFrom}
use Rattle.std.proofs.lemmas.List.{get_or-replicate}
use Rattle.floats.specs.Vector.{fill}
use Rattle.floats.proofs.Fills.{fill_length, fill-at, fill_past}

-- each entry is what the closure gives at its index
module _ {A F : Type 0} {g : Mut F (ℕ × Unit {0}) A} {f : F} (ys : List A) (w : ℕ → A) (z : A)
    (turn : (x : ℕ) (y : A) (q : F) → Called g f (x, tt) y q → (q ≡ f) × (y ≡ w x)) where
  entry : (p : F) (i m k : ℕ) → p ≡ f → IsFromFnResultFrom g p ys i m → i ≤ k → k < i + m → get_or ys k z ≡ w k
  entry p i zero k e r l u = absurd (omega arith)
  entry p i (suc m) k e (q, y, here, c, r) l u =
      let v = turn i y q (rw e at c) in
      ⊎_elim
      (λ (d : i ≡ k). rw (← d) (here.1 z ∙ v.1))
      (λ (d : i < k). entry q (i + 1) m k v.0 r (omega arith) (omega arith))
      (eq-or-lt_of_le l)

  pub made-at : {n : ℕ} → IsFromFnResult g f ys n → (k : ℕ) → k < n → get_or ys k z ≡ w k
  made-at r k l = entry f 0 _ k refl r.each (omega arith) (omega arith)

module _ {A F : Type 0} {g : Mut F (ℕ × Unit {0}) A} {f : F} {ys : List A} (z : A) (h : ℕ → A) (n : ℕ) (few : n ≤ 8) (made : IsFromFnResult g f ys 8)
    (turn : (x : ℕ) (y : A) (q : F) → Called g f (x, tt) y q → (q ≡ f) × (y ≡ cond (ltb x n) (h x) z)) where
  at_once : (k : ℕ) → k < 8 → get_or ys k z ≡ cond (ltb k n) (h k) z
  at_once = made-at ys (λ k. cond (ltb k n) (h k) z) z turn made

  each : (k : ℕ) → k < 8 → (b : Bool) → ltb k n ≡ b → get_or ys k z ≡ get_or (fill h n (replicate 8 z)) k z
  each k l true e = at_once k l ∙ rw e (sym (fill-at h n (replicate 8 z) z k few (ltb-true k n e)))
  each k l false e = at_once k l ∙ rw e (sym (fill_past h n (replicate 8 z) z k (ltb-false k n e) ∙ get_or-replicate 8 k z z l))

  pub filled : ys ≡ fill h n (replicate 8 z)
  filled = ext_get_or z ys _ (made.long ∙ sym (fill_length h n (replicate 8 z))) (λ k l. each k (rw made.long at l) (ltb k n) refl)
