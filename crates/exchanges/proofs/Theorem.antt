-- In version 3 an exchange of two unequal neighbouring words is refused: by 3 or 38 where block 0 is read otherwise, else by the check of its block.
-- Assumes nothing.
use Prim.Native.Nat.{ℕ, zero, suc, ◌+◌, ◌*◌, ◌/◌, ◌≤◌, ◌<◌}
use mathlib.Core.Path.{◌≡◌, refl, sym, ◌∙◌}
use mathlib.Core.Logic.{◌≢◌}
use mathlib.Core.Bool.{Bool, true, false, ◌&&◌, true≢false}
use mathlib.Core.List.{List}
use native.Mathlib.Numerals.{add-one}
use native.Mathlib.Omega.{arith}
use borrow.Author.Tests.{eqb-true, leb-true, ltb-true}
use lib.Dec.{eqb, ltb, leb}
use lib.ListN.{length}
use Rattle.floats.specs.Outcome.{Out, ok, no}
use Rattle.floats.proofs.Folds.{all_at}
use Rattle.blocks.specs.declared.Rule.{Rule}
use Rattle.blocks.specs.declared.Rule.TheVariants.{Running}
use Rattle.blocks.specs.Words.{running_sum, sum_by, check_right}
use Rattle.blocks.proofs.Small.{words_small}
use Rattle.book.specs.declared.Head.{Head}
use Rattle.book.specs.Places.{words, block_count}
use Rattle.book.specs.Book.{version_right, head_right, whole_blocks, rule_in, rule_of, book_of}
use Rattle.book.proofs.Laws.{rule-sized}
use Rattle.book.proofs.Accepted.{Accepted, accepted}
use Rattle.exchanges.specs.Exchanges.{exchange, Passes, Exchanges}
use Rattle.exchanges.proofs.Places.{exchange_length, exchange-first, exchange-second, exchange-other}
use Rattle.exchanges.proofs.Sums.{exchange_seen}

decided : (o : Out Head) → ((h : Head) → o ≡ ok h → ⊥) → (r : ℕ) × (o ≡ no r)
decided (ok h) f = absurd (f h refl)
decided (no r) f = (r, refl)

both : (a b : Bool) → a && b ≡ true → (a ≡ true) × (b ≡ true)
both true b e = (refl, e)
both false b e = absurd (true≢false (sym e))

-- 3 wants kind 1, and of kind 1 38 wants a version up to 3
kind : (w : ℕ → ℕ) → head_right w ≡ true → w 0 ≡ 1
unfolding head_right
kind w h = eqb-true (w 0) 1 (both (eqb (w 0) 1) (ltb 0 (w 2)) (both (eqb (w 0) 1 && ltb 0 (w 2)) (leb (w 2) 8) h).0).0

some : (w : ℕ → ℕ) → head_right w ≡ true → 0 < w 2
unfolding head_right
some w h = ltb-true 0 (w 2) (both (eqb (w 0) 1) (ltb 0 (w 2)) (both (eqb (w 0) 1 && ltb 0 (w 2)) (leb (w 2) 8) h).0).1

known : (w : ℕ → ℕ) → w 0 ≡ 1 → version_right w ≡ true → w 1 ≤ 3
unfolding version_right
known w e h = let v : (ltb 0 (w 1) && leb (w 1) 3) ≡ true = rw e at h in leb-true (w 1) 3 (both (ltb 0 (w 1)) (leb (w 1) 3) v).1

running : (w : ℕ → ℕ) → w 0 ≡ 1 → w 1 ≡ 3 → rule_in w ≡ Running
unfolding rule_in
running w e v = rw (e, v)

whole-rule : (s : List ℕ) → whole_blocks s ≡ true → rule_of s ≡ rule_in (words s 0)
unfolding rule_of
whole-rule s e = rw e

check : (rule : Rule) (w : ℕ → ℕ) → rule ≡ Running → check_right rule w ≡ true → running_sum w 63 ≡ w 63
unfolding check_right sum_by
check rule w e h = eqb-true (running_sum w 63) (w 63) (rw e at h)

-- books of one and of two solvents have 2 and 4 blocks, one of three has 7
counts : (n : ℕ) → 0 < n → n ≤ 3 → block_count n ≡ 7 → n ≡ 3
counts zero a b e = absurd (omega arith)
counts (suc zero) a b e = absurd (omega arith)
counts (suc (suc zero)) a b e = absurd (omega arith)
counts (suc (suc (suc n))) a b e = omega arith

module _ (s : List ℕ) (j k : ℕ) (p : Passes 3 s) (there : j < length s / 512) (l : k < 62) (d : words s j k ≢ words s j (k + 1))
    (h : Head) (e : book_of (exchange s j k) ≡ ok h) where
  abbrev t : List ℕ
  t = exchange s j k

  a : Accepted t h.n
  a = accepted t e

  blocks : length s / 512 ≡ block_count h.n
  blocks = omega (arith, exchange_length s j k there l, a.size)

  -- the check of block j, where block 0 is read as before
  by-sum : words t 0 0 ≡ words s 0 0 → words t 0 1 ≡ words s 0 1 → ⊥
  by-sum f g =
      let own : rule_of s ≡ Running = whole-rule s p.whole ∙ running (words s 0) (kind (words s 0) p.head) p.says in
      let new : rule_of t ≡ Running = rule-sized t h.n a.size ∙ running (words t 0) (f ∙ kind (words s 0) p.head) (g ∙ p.says) in
      let c = check (rule_of s) (words s j) own (all_at (λ b. check_right (rule_of s) (words s b)) (length s / 512) j there p.checks) in
      let c' = check (rule_of t) (words t j) new (all_at (λ b. check_right (rule_of t) (words t b)) (block_count h.n) j (omega (arith, blocks)) a.checks) in
      let last : words t j 63 ≡ words s j 63 = exchange-other s j k there l j 63 (omega arith) (λ z. λ (y : 63 ≡ k). omega arith) (λ z. λ (y : 63 ≡ k + 1). omega arith) in
      let small = words_small s p.bytes j in
      d (rw add-one (exchange_seen (words s j) (words t j) k l (rw add-one at (exchange-first s j k there l)) (rw add-one at (exchange-second s j k there l))
      (λ m u x y. exchange-other s j k there l j m (omega arith) (λ z. x) (λ z. λ (q : m ≡ k + 1). y (omega arith)))
      (small.fits k) (small.fits (suc k)) (c' ∙ last ∙ sym c)))

-- words 0 and 1 of block 0 are a kind 3, words 1 and 2 a version n and three solvents
pub exchanges : Exchanges 3
exchanges s j k p there l d = decided (book_of (exchange s j k)) (λ h e. go j k there l d h e)
  where
    go : (j k : ℕ) → j < length s / 512 → k < 62 → words s j k ≢ words s j (k + 1) → (h : Head) → book_of (exchange s j k) ≡ ok h → ⊥
    go zero zero there l d h e =
        let z : words s 0 1 ≡ 1 = sym (exchange-first s 0 0 there l) ∙ kind (words (exchange s 0 0) 0) (accepted (exchange s 0 0) e).head in
        omega (arith, p.says)
    go zero (suc zero) there l d h e =
        let t = exchange s 0 1 in
        let a = accepted t e in
        let three : h.n ≡ 3 = sym a.count ∙ exchange-second s 0 1 there l ∙ p.says in
        let size : length t ≡ 512 * block_count 3 = rw three at a.size in
        let blocks : block_count (words s 0 2) ≡ 7 = sym p.count ∙ omega (arith, size, exchange_length s 0 1 there l) in
        let few : words s 0 2 ≤ 3 = rw (exchange-first s 0 1 there l) at (known (words t 0) (kind (words t 0) a.head) a.version) in
        d (p.says ∙ sym (counts (words s 0 2) (some (words s 0) p.head) few blocks))
    go zero (suc (suc k)) there l d h e =
        by-sum s 0 (suc (suc k)) p there l d h e
        (exchange-other s 0 (suc (suc k)) there l 0 0 (omega arith) (λ z. λ (y : 0 ≡ suc (suc k)). omega arith) (λ z. λ (y : 0 ≡ suc (suc k) + 1). omega arith))
        (exchange-other s 0 (suc (suc k)) there l 0 1 (omega arith) (λ z. λ (y : 1 ≡ suc (suc k)). omega arith) (λ z. λ (y : 1 ≡ suc (suc k) + 1). omega arith))
    go (suc j) k there l d h e =
        by-sum s (suc j) k p there l d h e
        (exchange-other s (suc j) k there l 0 0 (omega arith) (λ (z : 0 ≡ suc j). absurd (omega arith)) (λ (z : 0 ≡ suc j). absurd (omega arith)))
        (exchange-other s (suc j) k there l 0 1 (omega arith) (λ (z : 0 ≡ suc j). absurd (omega arith)) (λ (z : 0 ≡ suc j). absurd (omega arith)))
