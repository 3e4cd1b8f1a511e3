-- Words that are not named are never read: two questions whose checks are right and that agree on the named words are read alike. Assumes nothing.
use mathlib.Core.Path.{◌≡◌, refl, ap}
use mathlib.Core.List.{List}
use mathlib.Core.Bool.{Bool, true, false, ◌&&◌, ◌||◌}
use Prim.Native.Nat.{ℕ, ◌+◌, ◌≤◌, ◌<◌}
use native.Mathlib.Omega.{arith}
use borrow.Author.Tests.{lt-ltb, le-leb, eqb-true}
use lib.Dec.{T, eqb, ltb, leb}
use lib.Ieee.{Float}
use Rattle.floats.specs.Arithmetic.{◌⊘◌}
use Rattle.floats.specs.Small.{float_of}
use Rattle.floats.specs.Vector.{at, zeros8}
use Rattle.floats.specs.Outcome.{Out, ok, need, choose}
use Rattle.floats.proofs.Fills.{fill_cong}
use Rattle.thermo_types.specs.Composition.{normalize_of}
use Rattle.thermo_types.proofs.Normalizing.{normalize_cong}
use Rattle.blocks.specs.Words.{word, check_right}
use Rattle.blocks.specs.declared.Rule.{Rule}
use Rattle.book.specs.Book.{has_masses}
use Rattle.question.specs.Named.{named_asked, AgreeAsked}
use Rattle.question.specs.Asked.{task_in, by_mass, kind_right, fraction, feed_of, ratio, ratios_of, inputs_right, options_right, limits_right}
use Rattle.question.specs.Asked.{moles_of, options_in, question_from, rest_of, question_of}

right : (a b : Bool) → T b → T (a || b)
right true b h = tt
right false b h = h

left : (a b : Bool) → T a → T (a || b)
left true b h = tt
left false b h = absurd h

-- molar masses that agree where the version has them
pub record SameMasses (version n : ℕ) (m m' : ℕ → Float) : Type 0 where
  pub mass : has_masses version ≡ true → (i : ℕ) → i < n → m i ≡ m' i

module _ (w : ℕ → ℕ) (version n : ℕ) (m m' : ℕ → Float) (e : SameMasses version n m m') (x : List Float) where
  moles-same : kind_right version w ≡ true → moles_of w m n x ≡ moles_of w m' n x
  unfolding moles_of kind_right choose
  moles-same = pick (by_mass w) refl
    where
      pick : (b : Bool) → eqb (w 27) 1 ≡ b → (eqb (w 27) 0 || (eqb (w 27) 1 && has_masses version)) ≡ true
          → choose (eqb (w 27) 1) (normalize_of (λ i. at x i ⊘ m i) n) (ok x) ≡ choose (eqb (w 27) 1) (normalize_of (λ i. at x i ⊘ m' i) n) (ok x)
      pick false z h = rw z
      pick true z h =
          let k : eqb (w 27) 0 ≡ false = rw (eqb-true (w 27) 1 z) in
          let v : has_masses version ≡ true = rw (k, z) at h in
          rw z (normalize_cong n (λ i l. let g : m i ≡ m' i = e.mass v i l in rw g))

-- the feed's kind is all that is read of the question
moles-kind : (w v : ℕ → ℕ) (m : ℕ → Float) (n : ℕ) (x : List Float) → w 27 ≡ v 27 → moles_of w m n x ≡ moles_of v m n x
unfolding moles_of
moles-kind w v m n x e = rw e

when_needed : {A : Type 0} (b : Bool) (r : ℕ) {o p : Out A} → (b ≡ true → o ≡ p) → need b r o ≡ need b r p
unfolding need
when_needed true r f = f refl
when_needed false r f = refl

module _ (q r : List ℕ) (n : ℕ) (a : AgreeAsked q r n) where
  front : (k : ℕ) → k < 4 + n → word q k ≡ word r k
  unfolding named_asked
  front k h = a.same k (rw (lt-ltb k (4 + n) h) tt)

  behind : (k : ℕ) → 12 ≤ k → k < 19 + n → word q k ≡ word r k
  unfolding named_asked
  behind k l h = let b = leb 12 k && ltb k (19 + n) in
      let t : T b = rw (le-leb 12 k l, lt-ltb k (19 + n) h) tt in
      a.same k (left (ltb k (4 + n) || b) (eqb k 27) (right (ltb k (4 + n)) b t))

  kind : word q 27 ≡ word r 27
  unfolding named_asked
  kind = a.same 27 (right (ltb 27 (4 + n) || (leb 12 27 && ltb 27 (19 + n))) (eqb 27 27) tt)

  feed-same : feed_of q n ≡ feed_of r n
  feed-same = fill_cong (fraction (word q)) (fraction (word r)) n zeros8 (λ k l. ap float_of (front (4 + k) (omega arith)))

  ratios-same : ratios_of q n ≡ ratios_of r n
  ratios-same = fill_cong (ratio (word q)) (ratio (word r)) n zeros8 (λ k l. ap float_of (behind (19 + k) (omega arith) (omega arith)))

  module _ (version : ℕ) (m m' : ℕ → Float) (g : SameMasses version n m m') where
    rest-same : (x : List Float) → kind_right version (word r) ≡ true → rest_of q m n x ≡ rest_of r m' n x
    unfolding rest_of inputs_right limits_right options_right question_from options_in
    rest-same x h =
        let e1 = front 1 (omega arith) in
        let e2 = front 2 (omega arith) in
        let e3 = front 3 (omega arith) in
        let o : (k : ℕ) → 12 ≤ k → k < 19 → word q k ≡ word r k = λ k l h. behind k l (omega arith) in
        let e12 = o 12 (omega arith) (omega arith) in
        let e13 = o 13 (omega arith) (omega arith) in
        let e14 = o 14 (omega arith) (omega arith) in
        let e15 = o 15 (omega arith) (omega arith) in
        let e16 = o 16 (omega arith) (omega arith) in
        let e17 = o 17 (omega arith) (omega arith) in
        let e18 = o 18 (omega arith) (omega arith) in
        rw (ratios-same, moles-kind (word q) (word r) m n x kind, moles-same (word r) version n m m' g x h, e1, e2, e3, e12, e13, e14, e15, e16, e17, e18)

    pub question-unread : (rule : Rule) → check_right rule (word q) ≡ true → check_right rule (word r) ≡ true
        → question_of rule q version m n ≡ question_of rule r version m' n
    unfolding question_of task_in kind_right
    question-unread rule c d =
        let k = when_needed (kind_right version (word r)) 36 (rest-same (feed_of r n)) in
        rw (c, d, a.size, front 0 (omega arith), front 1 (omega arith), kind, feed-same, k)
