-- A question by mass and the one in moles that has its feed converted are read alike. Assumes nothing.
use Prim.Native.Nat.{ℕ, ◌+◌, ◌≤◌, ◌<◌}
use mathlib.Core.Path.{◌≡◌}
use mathlib.Core.Logic.{inl, inr}
use mathlib.Core.Bool.{true}
use mathlib.Core.List.{List}
use native.Mathlib.Omega.{arith}
use lib.Ieee.{Float}
use Rattle.floats.specs.Arithmetic.{◌⊘◌}
use Rattle.floats.specs.Small.{positive}
use Rattle.floats.specs.Fold.{all_to}
use Rattle.floats.specs.Vector.{at}
use Rattle.floats.specs.Outcome.{ok, choose}
use Rattle.thermo_types.specs.Composition.{all_finite, none_negative, sums_to_one, normalize_of}
use Rattle.blocks.specs.declared.Rule.{Rule}
use Rattle.blocks.specs.Words.{word, check_right}
use Rattle.book.specs.Book.{has_masses}
use Rattle.question.specs.Asked.{task_in, kind_right, feed_of, inputs_right, moles_of, rest_of, question_of}
use Rattle.feeds.specs.Feeds.{InMoles}
use Rattle.feeds.proofs.Fractions.{moles_pass, fractions-read}
use Rattle.feeds.proofs.Moles.{kind-moles, moles-moles}
use Rattle.feeds.proofs.Rest.{rest_in, rest-alike}

kind-mass : (version : ℕ) (w : ℕ → ℕ) → w 27 ≡ 1 → has_masses version ≡ true → kind_right version w ≡ true
unfolding kind_right
kind-mass version w e h = rw (e, h)

moles-mass : (w : ℕ → ℕ) (m : ℕ → Float) (n : ℕ) (x : List Float) → w 27 ≡ 1 → moles_of w m n x ≡ normalize_of (λ i. at x i ⊘ m i) n
unfolding moles_of choose
moles-mass w m n x e = rw e

module _ (n : ℕ) (l : n ≤ 8) (z : List Float) (q r : List ℕ) (a : InMoles n z q r) where
  front : (k : ℕ) → k < 4 → word q k ≡ word r k
  front k h = a.others k (omega arith) (inl h) (λ e. omega arith)

  middle : (k : ℕ) → 12 ≤ k → k < 27 → word q k ≡ word r k
  middle k h g = a.others k (omega arith) (inr h) (λ e. omega arith)

  task-alike : (rule : Rule) → check_right rule (word q) ≡ true → check_right rule (word r) ≡ true → task_in rule q ≡ task_in rule r
  unfolding task_in
  task-alike rule c d = rw (c, d, a.size, front 0 (omega arith), front 1 (omega arith))

  module _ (m : ℕ → Float) (p : all_to (λ i. positive (m i)) n ≡ true) (e : normalize_of (λ i. at (feed_of q n) i ⊘ m i) n ≡ ok z) where
    rest-mass : all_finite (at (feed_of q n)) n ≡ true → none_negative (at (feed_of q n)) n ≡ true → sums_to_one (at (feed_of q n)) n ≡ true
        → rest_of q m n (feed_of q n) ≡ rest_of r m n (feed_of r n)
    unfolding rest_of rest_in inputs_right
    rest-mass f g h =
        let y : feed_of r n ≡ z = fractions-read (λ i. at (feed_of q n) i ⊘ m i) n l z e (λ i. word r (4 + i)) a.fraction in
        let s = moles_pass (at (feed_of q n)) m n l z e g p in
        let b = rest-alike q r n l front middle z (ok z) in
        rw (y, moles-mass (word q) m n (feed_of q n) a.kind, moles-moles (word r) m n z a.kind', e, f, g, h, ← b, s.0, s.1, s.2)

    pub question-mass : (rule : Rule) (version : ℕ) → has_masses version ≡ true → check_right rule (word q) ≡ true → check_right rule (word r) ≡ true
        → all_finite (at (feed_of q n)) n ≡ true → none_negative (at (feed_of q n)) n ≡ true → sums_to_one (at (feed_of q n)) n ≡ true
        → question_of rule q version m n ≡ question_of rule r version m n
    unfolding question_of
    question-mass rule version v c d f g h =
        rw (kind-mass version (word q) a.kind v, kind-moles version (word r) a.kind', task-alike rule c d, rest-mass f g h)
