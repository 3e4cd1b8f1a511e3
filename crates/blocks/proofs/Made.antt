-- Arrays made by `from_fn`: each element is what the closure gives at its index. Assumes nothing.
use Prim.Native.Nat.{ℕ, zero, suc, ◌+◌, ◌<◌, ◌≤◌}
use mathlib.Core.Path.{◌≡◌, ◌∙◌, subst}
use native.Mathlib.Omega.{arith}
use mathlib.Core.List.{List}
use lib.ListN.{get_or}
use denote.Param.Members.{Mut}
use Rattle.std.proofs.Common.{⊎_elim, eq-or-lt_of_le}
use Rattle.std.specs.Fn.{Called}
use Rattle.std.specs.Array.{IsFromFnResultFrom, IsFromFnResult}

module _ {F B : Type 0} (g : Mut F (ℕ × Unit {0}) B) (f : F) (w : ℕ → B) (ys : List B)
    (gives : (k : ℕ) (y : B) (q : F) → Called g f (k, tt) y q → (q ≡ f) × (y ≡ w k)) where
  from : (n i j : ℕ) (d : B) → i ≤ j → j < i + n → IsFromFnResultFrom g f ys i n → get_or ys j d ≡ w j
  from zero i j d a b h = absurd (omega arith)
  from (suc n) i j d a b (q, y, at, call, rest) =
      let e = gives i y q call in
      ⊎_elim (λ (s : i ≡ j). subst (λ (k : ℕ). get_or ys k d ≡ w k) s (at.1 d ∙ e.1))
      (λ (l : i < j). from n (i + 1) j d (omega arith) (omega arith) (subst (λ (p : F). IsFromFnResultFrom g p ys (i + 1) n) e.0 rest))
      (eq-or-lt_of_le a)

  pub made_at : {n : ℕ} → IsFromFnResult g f ys n → (j : ℕ) (d : B) → j < n → get_or ys j d ≡ w j
  made_at h j d l = from _ 0 j d (omega arith) (omega arith) h.each
