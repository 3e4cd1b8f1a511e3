use Rattle.std.proofs.Common.{◌≡◌, ℕ, ◌<◌, ◌≤◌, List, refl, ap, ◌∙◌, arith}
use lib.Ieee.{Float, nan}
use Rattle.floats.proofs.Fills.{fill-turn, fill_done, fill-at}
use Rattle.floats.specs.Vector.{at, vec, fill, zeros8}
use Rattle.numerics.proofs.exps.Goals as goal

entry : (f : ℕ → Float) (n k : ℕ) {e : List Float} → e ≡ vec f n → n ≤ 8 → k < n → at e k ≡ f k
entry f n k p h l = ap (λ (w : List Float). at w k) p ∙ fill-at f n zeros8 nan k h l

pub returns : goal.returns
returns c = λ k l. entry _ _ k c.loop-i.invariant.2 (omega arith) (omega arith)

pub returns-2 : goal.returns-2
returns-2 c = λ k l. entry _ _ k (fill-turn _ _ _ c.exp_two.ensures.1 (fill-turn _ _ _ c.exp_two.ensures.0 c.loop-i.invariant.2)) (omega arith) (omega arith)
