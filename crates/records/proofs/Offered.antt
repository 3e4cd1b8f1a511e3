-- The copy of a book that holds an offered pair: which of its blocks are the book's, for all bytes. Assumes nothing.
use mathlib.Core.Path.{◌≡◌, refl, sym, ap, ◌∙◌, fun_ext}
use mathlib.Core.List.{List, [], ◌++◌, append_assoc}
use Rattle.std.specs.Prelude.{Option, Some, None}
use mathlib.Core.Bool.{Bool, true, false, cond, ◌&&◌, true≢false}
use Prim.Native.Nat.{ℕ, ◌+◌, ◌-◌, ◌*◌, ◌/◌, ◌≤◌, ◌<◌}
use native.Mathlib.Omega.{arith}
use borrow.Author.Tests.{ltb-true, ltb-false, leb-true, eqb-true, eqb-false, lt-ltb, le-ltb, le-leb, lt-leb, eq-eqb, ne_eqb}
use lib.Dec.{eqb, ltb, leb}
use lib.Ieee.{Float}
use lib.ListN.{length, take, drop, length-take, length-drop, length-append, take-append-drop}
use lib.Seq.{drop-append-le, take-append-le, drop-append-add, drop-drop, take_at, drop_at}
use Rattle.floats.specs.Small.{float}
use Rattle.floats.specs.Vector.{places}
use Rattle.blocks.specs.Words.{word, block}
use Rattle.blocks.specs.Bytes.{put}
use Rattle.book.specs.Places.{words, pair_place}
use Rattle.book.specs.Book.{model_in, model_of, molar_mass, rule_of}
use Rattle.book.proofs.Laws.{place-above}
use Rattle.records.specs.declared.Pair.{Pair}
use Rattle.records.specs.Records.{regression_of, pair_of}
use Rattle.records.specs.Parameters.{parameter, parameter_rows, parameters_of}
use Rattle.records.specs.Offered.{place_named, names_pair, offers, offered_place, with_pair, pair_at}

-- ---- a block put in the place of block p

block-front : (a r : List ℕ) (k : ℕ) → 512 * k + 512 ≤ length a → block (a ++ r) k ≡ block a k
unfolding block
block-front a r k h =
    let l : 512 ≤ length (drop (512 * k) a) = simp length-drop (omega arith) in
    rw (drop-append-le (512 * k) a r (omega arith), take-append-le 512 (drop (512 * k) a) r l)

module _ (l bs : List ℕ) (p : ℕ) (whole : length bs ≡ 512) (fits : 512 * p + 512 ≤ length l) where
  front : length (take (512 * p) l) ≡ 512 * p
  front = simp length-take (omega arith)

  put_length : length (put l (512 * p) bs) ≡ length l
  put_length = simp (length-append, length-take, length-drop, whole) (omega arith)

  put_before : (k : ℕ) → k < p → block (put l (512 * p) bs) k ≡ block l k
  put_before k h =
      let a = take (512 * p) l in
      let fit : 512 * k + 512 ≤ length a = omega (arith, front) in
      ap (λ (x : List ℕ). block x k) (append_assoc a bs (drop (512 * p + length bs) l)) ∙ block-front a _ k fit
      ∙ sym (block-front a (drop (512 * p) l) k fit) ∙ ap (λ (x : List ℕ). block x k) (take-append-drop (512 * p) l)

  put-there : block (put l (512 * p) bs) p ≡ bs
  unfolding block
  put-there =
      let a = take (512 * p) l in
      let r = drop (512 * p + length bs) l in
      rw (append_assoc a bs r, drop_at a (bs ++ r) (512 * p) front) (take_at bs r 512 whole)

  put-behind : (k : ℕ) → p < k → block (put l (512 * p) bs) k ≡ block l k
  unfolding block
  put-behind k h =
      let a = take (512 * p) l ++ bs in
      let r = drop (512 * p + length bs) l in
      let e : length a ≡ 512 * p + 512 = simp (length-append, front, whole) (omega arith) in
      let m = 512 * k - (512 * p + 512) in
      let f : 512 * k ≡ length a + m = omega (arith, e) in
      let g : 512 * p + length bs + m ≡ 512 * k = omega arith in
      ap (λ (x : ℕ). take 512 (drop x (a ++ r))) f ∙ ap (take 512) (drop-append-add a r m ∙ drop-drop m (512 * p + length bs) l ∙ ap (λ (x : ℕ). drop x l) g)

  put_other : (k : ℕ) → (k ≡ p → ⊥) → block (put l (512 * p) bs) k ≡ block l k
  put_other k n = pick (ltb k p) refl
    where
      pick : (b : Bool) → ltb k p ≡ b → block (put l (512 * p) bs) k ≡ block l k
      pick true h = put_before k (ltb-true k p h)
      pick false h = put-behind k (omega (arith, ltb-false k p h))

  put-at : (k : ℕ) → block (put l (512 * p) bs) k ≡ pair_at l bs (Some p) k
  put-at k = pick (eqb k p) refl
    where
      pick : (b : Bool) → eqb k p ≡ b → block (put l (512 * p) bs) k ≡ cond b bs (block l k)
      pick true e = rw (eqb-true k p e) put-there
      pick false e = put_other k (eqb-false k p e)

-- ---- the copy of a book of n solvents

first : (a b : Bool) → a && b ≡ true → a ≡ true
first true b e = refl
first false b e = e

second : (a b : Bool) → a && b ≡ true → b ≡ true
second true b e = e
second false b e = absurd (true≢false (sym e))

-- of a block that is offered for a pair of the book
pub record Stands (n : ℕ) (book offered : List ℕ) : Type 0 where
  pub whole : length offered ≡ 512
  pub above : n < place_named n offered
  pub fits : 512 * place_named n offered + 512 ≤ length book

module _ (n : ℕ) (book offered : List ℕ) where
  pub stands : offers n book offered ≡ true → Stands n book offered
  unfolding offers names_pair
  stands e =
      let w = word offered in
      let named = first (eqb (length offered) 512 && ltb (w 1) (w 2) && ltb (w 2) n) (leb (512 * (place_named n offered + 1)) (length book)) e in
      let whole = first (eqb (length offered) 512) (ltb (w 1) (w 2)) (first (eqb (length offered) 512 && ltb (w 1) (w 2)) (ltb (w 2) n) named) in
      let fits = second (eqb (length offered) 512 && ltb (w 1) (w 2) && ltb (w 2) n) (leb (512 * (place_named n offered + 1)) (length book)) e in
      record {
        whole = eqb-true (length offered) 512 whole;
        above = place-above n (w 1) (w 2);
        fits = omega (arith, leb-true (512 * (place_named n offered + 1)) (length book) fits);
      }

  pub copy_length : length (with_pair n book offered) ≡ length book
  unfolding with_pair
  copy_length = pick (offers n book offered) refl
    where
      pick : (b : Bool) → offers n book offered ≡ b → length (cond b (put book (512 * place_named n offered) offered) book) ≡ length book
      pick true e = let o = stands e in put_length book offered (place_named n offered) o.whole o.fits
      pick false e = refl

  -- block k
  pub copy-block : (k : ℕ) → block (with_pair n book offered) k ≡ pair_at book offered (offered_place n book offered) k
  unfolding with_pair offered_place
  copy-block k = pick (offers n book offered) refl
    where
      pick : (b : Bool) → offers n book offered ≡ b
          → block (cond b (put book (512 * place_named n offered) offered) book) k ≡ pair_at book offered (cond b (Some (place_named n offered)) None) k
      pick true e = let o = stands e in put-at book offered (place_named n offered) o.whole o.fits k
      pick false e = refl

  -- block 0 and the solvents' are the book's: a pair stands behind them
  pub copy-below : (k : ℕ) → k ≤ n → block (with_pair n book offered) k ≡ block book k
  unfolding with_pair
  copy-below k h = pick (offers n book offered) refl
    where
      pick : (b : Bool) → offers n book offered ≡ b → block (cond b (put book (512 * place_named n offered) offered) book) k ≡ block book k
      pick true e = let o = stands e in
          put_before book offered (place_named n offered) o.whole o.fits k (omega (arith, o.above))
      pick false e = refl

  -- the block of the pair (i, j)
  pub copy-pair : (i j : ℕ) → block (with_pair n book offered) (pair_place n i j) ≡ pair_at book offered (offered_place n book offered) (pair_place n i j)
  copy-pair i j = copy-block (pair_place n i j)

  -- and its interval, as the code reads it
  pub copy_interval : (i j : ℕ) {place : Option ℕ} {r : Pair} → n ≤ 8 → i < j → j < n → place ≡ offered_place n book offered
      → r ≡ pair_of (model_of book) (word (pair_at book offered place (pair_place (places n) (places i) (places j))))
      → r.regression ≡ regression_of (words (with_pair n book offered) (pair_place n i j))
  unfolding pair_of
  copy_interval i j a b c o p =
      let pn : places n ≡ n = omega arith in
      let pi : places i ≡ i = omega arith in
      let pj : places j ≡ j = omega arith in
      rw (copy-pair i j, ← o) (rw (p, pn, pi, pj))

  pub copy-words : (k : ℕ) → k ≤ n → words (with_pair n book offered) k ≡ words book k
  copy-words k h = ap word (copy-below k h)

  pub copy-model : model_of (with_pair n book offered) ≡ model_of book
  copy-model = ap model_in (copy-words 0 (omega arith))

  pub copy-rule : rule_of (with_pair n book offered) ≡ rule_of book
  unfolding rule_of
  copy-rule = rw (copy_length, copy-words 0 (omega arith))

  pub copy-mass : (i : ℕ) → i < n → molar_mass (words (with_pair n book offered)) i ≡ molar_mass (words book) i
  copy-mass i h = ap (λ (w : ℕ → ℕ). float w 45) (copy-words (i + 1) (omega arith))

  -- the parameters read the pairs' blocks alone
  pub copy-parameters : parameters_of (with_pair n book offered) n
      ≡ parameter_rows (parameter (model_of book) (λ k. word (pair_at book offered (offered_place n book offered) k)) n) n n
  unfolding parameters_of parameter
  copy-parameters =
      rw copy-model
      (ap (λ (f : ℕ → ℕ → ℕ → Float). parameter_rows f n n) (fun_ext (λ i. fun_ext (λ j. fun_ext (λ k. rw (copy-pair i j, copy-pair j i))))))

  -- what is no whole block names no pair
  pub copy-cut : (length offered ≡ 512 → ⊥) → with_pair n book offered ≡ book
  unfolding with_pair offers names_pair
  copy-cut f = rw (ne_eqb (length offered) 512 f)

pub copy-nothing : (n : ℕ) (book : List ℕ) → with_pair n book [] ≡ book
copy-nothing n book = copy-cut n book [] (λ e. omega arith)

-- ---- the place, as the code finds it

module _ (n : ℕ) (book offered : List ℕ) where
  pub place-cut : (length offered ≡ 512 → ⊥) → None ≡ offered_place n book offered
  unfolding offered_place offers names_pair
  place-cut f = rw (ne_eqb (length offered) 512 f)

  module _ {i j m : ℕ} (whole : length offered ≡ 512) (first : i ≡ word offered 1) (other : j ≡ word offered 2) (count : m ≡ n) where
    pub place_order : j ≤ i → None ≡ offered_place n book offered
    unfolding offered_place offers names_pair
    place_order h = let l : word offered 2 ≤ word offered 1 = omega arith in rw (eq-eqb (length offered) 512 whole, le-ltb (word offered 1) (word offered 2) l)

    pub place-past : i < j → m ≤ j → None ≡ offered_place n book offered
    unfolding offered_place offers names_pair
    place-past h q =
        rw (
          eq-eqb (length offered) 512 whole,
          lt-ltb (word offered 1) (word offered 2) (omega arith),
          le-ltb (word offered 2) n (omega arith),
        )

    module _ {place : ℕ} (low : i < j) (high : j < m) (at : place ≡ pair_place m i j) where
      named : place ≡ place_named n offered
      named = at ∙ rw (first, other, count)

      pub place_found : place < length book / 512 → Some place ≡ offered_place n book offered
      unfolding offered_place offers names_pair
      place_found h =
          rw (
            eq-eqb (length offered) 512 whole,
            lt-ltb (word offered 1) (word offered 2) (omega arith),
            lt-ltb (word offered 2) n (omega arith),
            le-leb (512 * (place_named n offered + 1)) (length book) (omega (arith, named)),
          )
          (ap Some named)

      pub place_short : length book / 512 ≤ place → None ≡ offered_place n book offered
      unfolding offered_place offers names_pair
      place_short h =
          rw (
            eq-eqb (length offered) 512 whole,
            lt-ltb (word offered 1) (word offered 2) (omega arith),
            lt-ltb (word offered 2) n (omega arith),
            lt-leb (512 * (place_named n offered + 1)) (length book) (omega (arith, named)),
          )
