-- What is read of a question beside its block's check, kind and feed. Assumes nothing.
use Prim.Native.Nat.{ℕ, ◌+◌, ◌≤◌, ◌<◌}
use mathlib.Core.Path.{◌≡◌, ap}
use mathlib.Core.List.{List}
use native.Mathlib.Omega.{arith}
use lib.Ieee.{Float}
use Rattle.floats.specs.Small.{float_of}
use Rattle.floats.specs.Vector.{zeros8}
use Rattle.floats.specs.Outcome.{Out, ok, bind}
use Rattle.floats.proofs.Fills.{fill_cong}
use Rattle.blocks.specs.Words.{word}
use Rattle.question.specs.Asked.{ratio, ratios_of, inputs_right, options_right, limits_right, options_in, question_from}
use Rattle.question.specs.declared.Question.{Question}

-- the rest of q, put to a feed x that is y in moles
unfoldable pub rest_in : List ℕ → ℕ → List Float → Out (List Float) → Out Question
rest_in q n x y = inputs_right (word q) n x (ratios_of q n) (bind y (λ z. limits_right (word q) (ok (question_from (word q) z (ratios_of q n)))))

module _ (q r : List ℕ) (n : ℕ) (l : n ≤ 8) (front : (k : ℕ) → k < 4 → word q k ≡ word r k) (middle : (k : ℕ) → 12 ≤ k → k < 27 → word q k ≡ word r k) where
  ratios-alike : ratios_of q n ≡ ratios_of r n
  ratios-alike = fill_cong (ratio (word q)) (ratio (word r)) n zeros8 (λ k h. ap float_of (middle (19 + k) (omega arith) (omega arith)))

  pub rest-alike : (x : List Float) (y : Out (List Float)) → rest_in q n x y ≡ rest_in r n x y
  unfolding rest_in inputs_right limits_right options_right question_from options_in
  rest-alike x y =
      let o : (k : ℕ) → 12 ≤ k → k < 19 → word q k ≡ word r k = λ k l h. middle k l (omega arith) in
      rw (
        ratios-alike,
        front 1 (omega arith),
        front 2 (omega arith),
        front 3 (omega arith),
        o 12 (omega arith) (omega arith),
        o 13 (omega arith) (omega arith),
        o 14 (omega arith) (omega arith),
        o 15 (omega arith) (omega arith),
        o 16 (omega arith) (omega arith),
        o 17 (omega arith) (omega arith),
        o 18 (omega arith) (omega arith),
      )
