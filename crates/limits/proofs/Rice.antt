-- Rachford-Rice within M is the same at any greater limit. Assumes nothing.
use mathlib.Core.Path.{refl}
use Prim.Native.Nat.{ℕ, ◌≤◌}
use lib.Ieee.{Float}
use Rattle.floats.specs.Outcome.{Out}
use Rattle.rachford_rice.specs.Rachford.{validate, iterate, between, negative, constrained}
use Rattle.limits.specs.Kept.{Kept, Spent}
use Rattle.limits.proofs.Kept.{raised, kept_refl, kept-no, kept-need, kept-choose, keeping}

module _ (z k : ℕ → Float) (n : ℕ) where
  kept-validate : {A : Type 0} {o o' : Out A} → Kept Spent o o' → Kept Spent (validate z k n o) (validate z k n o')
  unfolding validate
  kept-validate h = search keeping

  -- from β after `done` turns
  pub kept-iterate : (M M' : ℕ) → M ≤ M' → (done : ℕ) (lo hi β : Float) → Kept Spent (iterate z k n M done lo hi β) (iterate z k n M' done lo hi β)
  unfolding iterate
  kept-iterate M M' h done lo hi β =
      raised {S = ℕ × Float × Float × Float} (Kept Spent) (λ l s. iterate z k n l s.0 s.1 s.2 s.3) (λ s. kept-no 27 refl)
      (λ l m rest s. kept-need _ 25 (kept-choose _ kept_refl (rest (_, _, _, _)))) M M' h (done, lo, hi, β)

  pub kept-negative : (M M' : ℕ) → M ≤ M' → Kept Spent (negative z k n M) (negative z k n M')
  unfolding negative between
  kept-negative M M' h = search (keeping, kept-validate, kept-iterate)

  pub kept-constrained : (M M' : ℕ) → M ≤ M' → Kept Spent (constrained z k n M) (constrained z k n M')
  unfolding constrained
  kept-constrained M M' h = search (keeping, kept-validate, kept-negative)
