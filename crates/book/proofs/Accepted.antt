-- What is known of a book that was accepted: its size, and that each question was answered yes. Assumes nothing.
use Rattle.std.proofs.Common.{◌≡◌, ℕ, ◌+◌, ◌-◌, ◌*◌, ◌/◌, ◌%◌, ◌<◌, ◌≤◌, Bool, true, false, ◌&&◌, eqb, ltb, leb, List, length, sym, refl, ap, ◌∙◌, true≢false, arith, ltb-true, eqb-true, leb-true}
use lib.Ieee.Bits.{is_true}
use Rattle.blocks.specs.Words.{check_right}
use Rattle.floats.specs.Fold.{all_to}
use Rattle.floats.specs.Outcome.{Out, ok, need}
use Rattle.floats.proofs.Folds.{all_at}
use Rattle.floats.proofs.Outcomes.{need_inv, each-ok, each-need}
use Rattle.book.proofs.Laws.{place-above, place-within}
use Rattle.book.specs.declared.Head.{Head}
use Rattle.book.specs.Places.{words, pair_count, block_count, row_from, pair_place}
use Rattle.book.specs.Book.{version_right, head_right, model_right, model_of, solvent_right, records_right, masses_right, cas_new, pair_right, row_right}
use Rattle.book.specs.Book.{pair_finite, alphas_equal, head_in, pairs_of, solvents_of, head_of, rule_of, book_of}

pub record Accepted (s : List ℕ) (n : ℕ) : Type 0 where
  pub some : 1 ≤ n
  pub few : n ≤ 8
  pub size : length s ≡ 512 * block_count n
  pub count : words s 0 2 ≡ n
  pub version : version_right (words s 0) ≡ true
  pub checks : all_to (λ k. check_right (rule_of s) (words s k)) (block_count n) ≡ true
  pub head : head_right (words s 0) ≡ true
  pub model : model_right (words s 0) ≡ true
  pub solvents : all_to (λ i. solvent_right (words s (i + 1)) i) n ≡ true
  pub records : all_to (λ i. records_right (words s (i + 1))) n ≡ true
  pub masses : masses_right (words s) (head_in (words s 0)) ≡ true
  pub cas : all_to (cas_new (words s)) n ≡ true
  pub pairs : all_to (λ i. row_right (words s) i (row_from n i) (n - i - 1)) n ≡ true
  pub floats : all_to (λ d. pair_finite (model_of s) (words s (1 + n + d))) (pair_count n) ≡ true
  pub alphas : all_to (λ d. alphas_equal (model_of s) (words s (1 + n + d))) (pair_count n) ≡ true

passed : (b : Bool) (r : ℕ) (o : Out Head) {h : Head} → need b r o ≡ ok h → (b ≡ true) × (o ≡ ok h)
passed b r o e = let p = need_inv b r o e in (is_true b p.0, p.1)

first : (a b : Bool) → a && b ≡ true → a ≡ true
first true b e = refl
first false b e = absurd (true≢false (sym e))

second : (a b : Bool) → a && b ≡ true → b ≡ true
second true b e = e
second false b e = absurd (true≢false (sym e))

whole : (l : ℕ) → l % 512 ≡ 0 → l ≡ 512 * (l / 512)
whole l h = omega arith

-- what was answered is block 0's
pub opened-head : (s : List ℕ) {h : Head} → book_of s ≡ ok h → head_in (words s 0) ≡ h
unfolding book_of head_of solvents_of pairs_of
opened-head s {h} e = let P : Head → Type 0 = λ g. head_in (words s 0) ≡ g in
    let pairs = each-need P _ 7 (each-need P _ 8 (each-need P _ 9 (each-ok P refl))) in
    let solvents = each-need P _ 4 (each-need P _ 5 (each-need P _ 35 (each-need P _ 6 pairs))) in
    (each-need P _ 1 (each-need P _ 1 (each-need P _ 38 (each-need P _ 2 (each-need P _ 3 (each-need P _ 3 (each-need P _ 37 solvents))))))).each h e

pub accepted : (s : List ℕ) {h : Head} → book_of s ≡ ok h → Accepted s h.n
unfolding book_of head_of solvents_of pairs_of head_in head_right
accepted s {h = g} h =
    let w = words s in
    let l = length s in
    let q1 = passed (eqb (l % 512) 0) 1 _ h in
    let q1' = passed (ltb 0 l) 1 _ q1.1 in
    let q38 = passed (version_right (w 0)) 38 _ q1'.1 in
    let q2 = passed (all_to (λ k. check_right (rule_of s) (w k)) (l / 512)) 2 _ q38.1 in
    let q3 = passed (head_right (w 0)) 3 _ q2.1 in
    let q3' = passed (eqb (l / 512) (block_count (w 0 2))) 3 _ q3.1 in
    let q37 = passed (model_right (w 0)) 37 _ q3'.1 in
    let q4 = passed (all_to (λ i. solvent_right (w (i + 1)) i) (w 0 2)) 4 _ q37.1 in
    let q5 = passed (all_to (λ i. records_right (w (i + 1))) (w 0 2)) 5 _ q4.1 in
    let q35 = passed (masses_right w (head_in (w 0))) 35 _ q5.1 in
    let q6 = passed (all_to (cas_new w) (w 0 2)) 6 _ q35.1 in
    let q7 = passed (all_to (λ i. row_right w i (row_from (w 0 2) i) (w 0 2 - i - 1)) (w 0 2)) 7 _ q6.1 in
    let q8 = passed (all_to (λ d. pair_finite (model_of s) (w (1 + w 0 2 + d))) (pair_count (w 0 2))) 8 _ q7.1 in
    let q9 = passed (all_to (λ d. alphas_equal (model_of s) (w (1 + w 0 2 + d))) (pair_count (w 0 2))) 9 _ q8.1 in
    let e : w 0 2 ≡ g.n = ap (λ (g : Head). g.n) (opened-head s h) in
    let z = eqb-true (l / 512) (block_count (w 0 2)) q3'.0 in
    let a : Accepted s (w 0 2) =
    record {
      some = ltb-true 0 (w 0 2) (second (eqb (w 0 0) 1) (ltb 0 (w 0 2)) (first (eqb (w 0 0) 1 && ltb 0 (w 0 2)) (leb (w 0 2) 8) q3.0));
      few = leb-true (w 0 2) 8 (second (eqb (w 0 0) 1 && ltb 0 (w 0 2)) (leb (w 0 2) 8) q3.0);
      size = whole l (eqb-true (l % 512) 0 q1.0) ∙ ap (λ (x : ℕ). 512 * x) z;
      count = refl;
      version = q38.0;
      checks = rw z at q2.0;
      head = q3.0;
      model = q37.0;
      solvents = q4.0;
      records = q5.0;
      masses = q35.0;
      cas = q6.0;
      pairs = q7.0;
      floats = q8.0;
      alphas = q9.0;
    } in
    rw e at a

-- what was asked of solvent i, and of the pair (i, j), i < j
module _ (s : List ℕ) (n : ℕ) (a : Accepted s n) where
  pub solvent-stands : (i : ℕ) → i < n → solvent_right (words s (i + 1)) i ≡ true
  solvent-stands i l = all_at (λ i. solvent_right (words s (i + 1)) i) n i l a.solvents

  pub records_stand : (i : ℕ) → i < n → records_right (words s (i + 1)) ≡ true
  records_stand i l = all_at (λ i. records_right (words s (i + 1))) n i l a.records

  pub pair-stands : (i j : ℕ) → i < j → j < n → pair_right (words s (pair_place n i j)) i j ≡ true
  unfolding pair_place row_right
  pair-stands i j h l =
      let e : i + 1 + (j - i - 1) ≡ j = omega arith in
      let row = all_at (λ i. row_right (words s) i (row_from n i) (n - i - 1)) n i (omega arith) a.pairs in
      rw e at (all_at (λ d. pair_right (words s (row_from n i + d)) i (i + 1 + d)) (n - i - 1) (j - i - 1) (omega arith) row)

  at_pair : (p : ℕ → Bool) → all_to (λ d. p (1 + n + d)) (pair_count n) ≡ true → (i j : ℕ) → i < j → j < n → p (pair_place n i j) ≡ true
  at_pair p t i j h l =
      let e : 1 + n + (pair_place n i j - (1 + n)) ≡ pair_place n i j = omega (arith, place-above n i j) in
      rw e at (all_at (λ d. p (1 + n + d)) (pair_count n) (pair_place n i j - (1 + n)) (omega (arith, place-above n i j, place-within n i j a.few h l)) t)

  pub floats_stand : (i j : ℕ) → i < j → j < n → pair_finite (model_of s) (words s (pair_place n i j)) ≡ true
  floats_stand = at_pair (λ b. pair_finite (model_of s) (words s b)) a.floats

  pub alphas_stand : (i j : ℕ) → i < j → j < n → alphas_equal (model_of s) (words s (pair_place n i j)) ≡ true
  alphas_stand = at_pair (λ b. alphas_equal (model_of s) (words s b)) a.alphas
