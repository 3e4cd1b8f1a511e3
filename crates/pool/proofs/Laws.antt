-- Sums that are kept at one past the most that is let through, and the counts of a pool that are sums of this kind. Assumes nothing.
use Prim.Native.Nat.{ℕ, zero, suc, ◌+◌, ◌^◌, ◌≤◌, ◌<◌, min}
use mathlib.Core.Path.{◌≡◌, refl, sym, ap, ◌∙◌}
use mathlib.Core.Bool.{Bool, true, false, not}
use mathlib.Core.List.{List}
use mathlib.Core.Logic.{⊎_elim}
use native.Mathlib.Nat.{le_trans, eq-or-lt_of_le}
use native.Mathlib.Omega.{arith}
use borrow.Author.Tests.{leb-true}
use lib.Dec.{T, ltb, leb, ltb→lt, nltb→le}
use lib.ListN.{replicate}
use lib.Ieee.{Float}
use lib.Ieee.Fits.{and_r}
use lib.Ieee.Bits.{is_true}
use Rattle.floats.specs.Fold.{fold_to}
use Rattle.floats.specs.Vector.{at, fill, vec}
use Rattle.floats.proofs.Folds.{fold_cong}
use Rattle.floats.proofs.Fills.{fill-at, vec-at}
use Rattle.floats.specs.Outcome.{Out}
use Rattle.thermo_types.specs.Composition.{normalize_of}
use Rattle.thermo_types.proofs.Normalizing.{normalize_cong}
use Rattle.blocks.specs.Bytes.{word_at}
use Rattle.question.specs.Inputs.{within}
use Rattle.question.proofs.Laws.{outside}
use Rattle.pool.specs.Pool.{total_to, pool_count, pool_total, total_right, amount, pool_feed}

module _ (f : ℕ → ℕ) (p : ℕ) where
  pub kept-sum : (n : ℕ) → fold_to (λ k s. min (s + f k) p) 0 n ≡ min (total_to f n) p
  unfolding fold_to
  kept-sum zero = omega arith
  kept-sum (suc n) = let e = kept-sum n in omega arith

  -- it doesn't matter that the numbers are kept at p too
  kept-total : (n : ℕ) → min (total_to (λ i. min (f i) p) n) p ≡ min (total_to f n) p
  unfolding fold_to
  kept-total zero = refl
  kept-total (suc n) = let e = kept-total n in omega arith

-- a test of what is kept at one past the most is a test of the sum itself
pub kept-within : (m t : ℕ) {s : ℕ} → s ≡ min t (m + 1) → within 1 m s ≡ within 1 m t
kept-within m t {s} e = go (ltb m t) (ltb→lt m t) (nltb→le m t)
  where
    go : (b : Bool) → (T b → m < t) → (T (not b) → t ≤ m) → within 1 m s ≡ within 1 m t
    go true h k = let l = h tt in outside 1 m s (λ a b. omega arith) ∙ sym (outside 1 m t (λ a b. omega arith))
    go false h k = let l = k tt in let d : s ≡ t = omega arith in ap (within 1 m) d

pub at_most : (m t : ℕ) → within 1 m t ≡ true → t ≤ m
at_most m t e = leb-true t m (is_true _ (and_r (leb 1 t) (leb t m) (rw e tt)))

-- a part is at most the total
pub total_mono : (f : ℕ → ℕ) (k n : ℕ) → k ≤ n → total_to f k ≤ total_to f n
unfolding fold_to
total_mono f k zero l = let e : k ≡ 0 = omega arith in rw e (omega arith)
total_mono f k (suc n) l = ⊎_elim (λ e. rw e (omega arith)) (λ h. le_trans (total_mono f k n (omega arith)) (omega arith)) (eq-or-lt_of_le l)

pub part_of : (f : ℕ → ℕ) (i n : ℕ) → i < n → f i ≤ total_to f n
part_of f i n l = le_trans {m = total_to f (suc i)} (unfold fold_to in omega arith) (total_mono f (suc i) n l)

pub total_cong : (f g : ℕ → ℕ) (n : ℕ) → ((k : ℕ) → k < n → f k ≡ g k) → total_to f n ≡ total_to g n
total_cong f g n e = fold_cong 0 n (λ k s l. ap (λ (t : ℕ). s + t) (e k l))

-- ---- the fractions of an array's first n entries
pub normalized_vec : (f : ℕ → Float) (n : ℕ) → n ≤ 8 → {y : List Float} {o : Out (List Float)} → y ≡ vec f n → o ≡ normalize_of (at y) n → o ≡ normalize_of f n
normalized_vec f n l e h = h ∙ rw e (normalize_cong n (λ i k. vec-at f n i l k))

-- ---- the counts that the code keeps
module _ (drums : List ℕ) (n : ℕ) (few : n ≤ 8) {counts : List ℕ} (e : counts ≡ fill (λ i. min (pool_count drums i) (2 ^ 53 + 1)) n (replicate 8 0)) where
  count_at : (i : ℕ) → i < n → word_at counts i ≡ min (pool_count drums i) (2 ^ 53 + 1)
  count_at i l = rw e (fill-at (λ i. min (pool_count drums i) (2 ^ 53 + 1)) n (replicate 8 0) 0 i few l)

  pub counted : within 1 (2 ^ 53) (total_to (word_at counts) n) ≡ total_right drums n
  unfolding total_right pool_total
  counted =
      let f : ℕ → ℕ = λ i. min (pool_count drums i) (2 ^ 53 + 1) in
      ap (within 1 (2 ^ 53)) (total_cong (word_at counts) f n count_at) ∙ sym (kept-within (2 ^ 53) (total_to f n) refl)
      ∙ kept-within (2 ^ 53) (total_to (pool_count drums) n) (kept-total (pool_count drums) (2 ^ 53 + 1) n)

  module _ (t : within 1 (2 ^ 53) (total_to (word_at counts) n) ≡ true) where
    pub count_fits : (i : ℕ) → i < n → word_at counts i ≤ 2 ^ 53
    count_fits i l = le_trans (part_of (word_at counts) i n l) (at_most (2 ^ 53) (total_to (word_at counts) n) t)

    pub feed_of_lem : normalize_of (λ i. amount (word_at counts i)) n ≡ pool_feed drums n
    unfolding pool_feed
    feed_of_lem = normalize_cong n (λ i l. let c : word_at counts i ≡ pool_count drums i = omega (arith, count_at i l, count_fits i l) in ap amount c)
