-- `liquid_stability::present_count` meets its contract. Assumes nothing.
use Prim.Native.Nat.{ℕ, zero, suc, ◌+◌, ◌≤◌}
use mathlib.Core.Path.{◌≡◌, refl, ◌∙◌, ap}
use mathlib.Core.Bool.{Bool, true, false, cond}
use mathlib.Core.List.{List}
use native.Mathlib.Omega.{arith}
use lib.ListN.{length, take}
use lib.Ieee.{Float, nan, lt}
use Rattle.std.specs.List.{count_by}
use Rattle.std.proofs.Common.{rules}
use Rattle.std.proofs.lemmas.List.Sums.{sum_by_more}
use Rattle.floats.specs.Arithmetic.{0f}
use Rattle.floats.specs.Fold.{fold_to}
use Rattle.floats.specs.Vector.{at, places}
use Rattle.liquid_stability.specs.Stability.{present_count}
use Rattle.liquid_stability.proofs.present_count.Goals as goal

one-more : (b : Bool) (c : ℕ) → c + cond b 1 0 ≡ cond b (suc c) c
one-more true c = omega arith
one-more false c = omega arith

counted : (x : List Float) (n : ℕ) → n ≤ length x → count_by (λ v. lt 0f v) (take n x) ≡ present_count x n
unfolding present_count fold_to
counted x zero l = refl
counted x (suc n) l =
    let e : suc n ≡ n + 1 = omega arith in
    ap (λ k. count_by (λ v. lt 0f v) (take k x)) e
    ∙ sum_by_more (λ v. cond (lt 0f v) 1 0) x n nan (omega arith)
    ∙ ap (λ c. c + cond (lt 0f (at x n)) 1 0) (counted x n (omega arith))
    ∙ one-more (lt 0f (at x n)) (present_count x n)

pub returns : goal.returns
returns c =
    let e : c.count.result ≡ count_by (λ v. lt 0f v) (take (places c.args.n) c.args.x.now) = search rules in
    e ∙ counted c.args.x.now (places c.args.n) (omega arith)
