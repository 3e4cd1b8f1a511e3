-- The shorter book is accepted where the longer one is (questions 1 to 9, 35, 37 and 38), with the count of kept solvents, and has their data. Assumes nothing.
use mathlib.Core.Path.{◌≡◌, refl, sym, ap, ◌∙◌, subst}
use mathlib.Core.Logic.{◌≢◌}
use Prim.Native.Nat.{ℕ, zero, suc, ◌+◌, ◌-◌, ◌/◌, ◌%◌, ◌≤◌, ◌<◌}
use native.Mathlib.Nat.{le_refl, le_trans, min-le_right}
use native.Mathlib.Omega.{arith}
use borrow.Author.Tests.{lt-ltb, le-leb, eq-eqb, leb-true}
use mathlib.Core.Bool.{Bool, true, false, not, ◌&&◌, ◌||◌, false≢true}
use mathlib.Core.List.{List}
use lib.ListN.{length}
use lib.Dec.{T, eqb, ltb, leb, ltb→lt, nltb→le}
use lib.Ieee.Bits.{is_true}
use Rattle.blocks.specs.Words.{check_right}
use lib.Ieee.{Float}
use Rattle.floats.specs.Small.{positive, float_of}
use Rattle.floats.specs.Fold.{all_to}
use Rattle.floats.specs.Outcome.{ok}
use Rattle.floats.proofs.Folds.{all_at}
use Rattle.floats.proofs.Outcomes.{need_yes}
use Rattle.book.specs.Places.{words, pair_count, block_count, row_from, pair_place}
use Rattle.book.specs.declared.Model.{Model}
use Rattle.book.specs.declared.Model.TheVariants.{Nrtl, Wilson}
use Rattle.book.specs.declared.Head.{Head}
use Rattle.book.specs.Book.{head_in, rule_in, rule_of, floats_finite, version_right, head_right, model_right, model_in, model_of, solvent_right, range_right, term_count, record_right, records_right, has_masses, molar_mass, masses_right, cas_new, pair_right, row_right, parameters_finite, bounds_finite, pair_finite, alphas_equal, pairs_of, solvents_of, head_of, book_of}
use Rattle.book.proofs.Laws.{rule-sized}
use Rattle.book.proofs.Unread.{floats_same}
use Rattle.book.proofs.Accepted.{Accepted, accepted, opened-head, solvent-stands, records_stand, pair-stands, floats_stand, alphas_stand}
use Rattle.striking.specs.Places.{cnt}
use Rattle.striking.specs.Books.{ShorterBook, KeptSolvents, KeptPairs, shorter_head}
use Rattle.striking.proofs.Strike.{place, cnt_lt_back}
use Rattle.striking.proofs.Acc.{all_of}
use Rattle.striking.proofs.Excess.{cnt_le}

-- ---- tests that read only equal words
pub so : {b : Bool} → b ≡ true → T b
so e = subst T (sym e) tt

all_true : (p : ℕ → Bool) (n : ℕ) → ((k : ℕ) → k < n → p k ≡ true) → all_to p n ≡ true
all_true p n f = is_true (all_to p n) (all_of p n (λ k l. so (f k l)))

one_of : (a b c d e f g : Bool) → a && b && c && d && e && f && g ≡ true → a && true && c && d && e && f && g ≡ true
one_of true true c d e f g h = h
one_of true false c d e f g h = absurd (false≢true h)
one_of false b c d e f g h = absurd (false≢true h)

two_of_lem : (a b c d e : Bool) → a && b && c && d && e ≡ true → a && true && true && d && e ≡ true
two_of_lem true true true d e h = h
two_of_lem true true false d e h = absurd (false≢true h)
two_of_lem true false c d e h = absurd (false≢true h)
two_of_lem false b c d e h = absurd (false≢true h)

last_of : (a b c : Bool) → a && b && c ≡ true → a && true && true ≡ true
last_of true b c h = refl
last_of false b c h = absurd (false≢true h)

-- a test put only from version 2 on
weighed_to : {b b' : Bool} (t t' : Bool) → b ≡ b' → (b ≡ true → t ≡ true → t' ≡ true) → (not b || t) ≡ true → (not b' || t') ≡ true
weighed_to {b} t t' e f h = subst (λ (c : Bool). (not c || t') ≡ true) e (go b f h)
  where
    go : (b : Bool) → (b ≡ true → t ≡ true → t' ≡ true) → (not b || t) ≡ true → (not b || t') ≡ true
    go true f h = f refl h
    go false f h = refl

head-right : (w v : ℕ → ℕ) → ((k : ℕ) → k < 63 → k ≢ 2 → w k ≡ v k) → 0 < v 2 → v 2 ≤ 8 → head_right w ≡ true → head_right v ≡ true
unfolding head_right
head-right w v e l m h =
    let a : w 0 ≡ v 0 = e 0 (omega arith) (λ (z : 0 ≡ 2). omega arith) in
    rw (← a, lt-ltb 0 (v 2) l, le-leb (v 2) 8 m) (last_of (eqb (w 0) 1) (ltb 0 (w 2)) (leb (w 2) 8) h)

version-right : (w v : ℕ → ℕ) → ((k : ℕ) → k < 63 → k ≢ 2 → w k ≡ v k) → version_right w ≡ version_right v
unfolding version_right
version-right w v e = rw (e 0 (omega arith) (λ (z : 0 ≡ 2). omega arith), e 1 (omega arith) (λ (z : 1 ≡ 2). omega arith))

model-right : (w v : ℕ → ℕ) → ((k : ℕ) → k < 63 → k ≢ 2 → w k ≡ v k) → model_right w ≡ model_right v
unfolding model_right
model-right w v e = rw (e 1 (omega arith) (λ (z : 1 ≡ 2). omega arith), e 3 (omega arith) (λ (z : 3 ≡ 2). omega arith))

solvent-right : (w v : ℕ → ℕ) (i j : ℕ) → ((k : ℕ) → k < 63 → k ≢ 1 → w k ≡ v k) → v 1 ≡ j → solvent_right w i ≡ true → solvent_right v j ≡ true
unfolding solvent_right
solvent-right w v i j e x h =
    let a : w 0 ≡ v 0 = e 0 (omega arith) (λ (z : 0 ≡ 1). omega arith) in
    let b : w 2 ≡ v 2 = e 2 (omega arith) (λ (z : 2 ≡ 1). omega arith) in
    let c : w 7 ≡ v 7 = e 7 (omega arith) (λ (z : 7 ≡ 1). omega arith) in
    let d : w 28 ≡ v 28 = e 28 (omega arith) (λ (z : 28 ≡ 1). omega arith) in
    rw (← a, ← b, ← c, ← d, eq-eqb (v 1) j x) (one_of (eqb (w 0) 2) (eqb (w 1) i) (not (eqb (w 2) 0)) (ltb 0 (w 7)) (leb (w 7) 8) (ltb 0 (w 28)) (leb (w 28) 8) h)

module _ (w v : ℕ → ℕ) (f : ℕ) (e : (k : ℕ) → f ≤ k → k ≤ f + 20 → w k ≡ v k) where
  range_same : range_right w f ≡ range_right v f
  unfolding range_right
  range_same = rw (e f (omega arith) (omega arith), e (f + 1) (omega arith) (omega arith), e (f + 2) (omega arith) (omega arith), e (f + 3) (omega arith) (omega arith))

  record_same : record_right w f ≡ record_right v f
  unfolding record_right
  record_same =
      let c : w (f + 4) ≡ v (f + 4) = e (f + 4) (omega arith) (omega arith) in
      let m : term_count v f ≤ 8 = min-le_right (v (f + 4)) 8 in
      let a : floats_finite w f 4 ≡ floats_finite v f 4 = floats_same w v f 4 (λ k l. e (f + k) (omega arith) (omega arith)) in
      let n : floats_finite w (f + 5) (term_count v f) ≡ floats_finite v (f + 5) (term_count v f) = floats_same w v (f + 5) (term_count v f) (λ k l. e (f + 5 + k) (omega arith) (omega arith)) in
      let t : floats_finite w (f + 13) (term_count v f) ≡ floats_finite v (f + 13) (term_count v f) = floats_same w v (f + 13) (term_count v f) (λ k l. e (f + 13 + k) (omega arith) (omega arith)) in
      rw (c, a, n, t, range_same)

records-same : (w v : ℕ → ℕ) → ((k : ℕ) → 3 ≤ k → k ≤ 44 → w k ≡ v k) → records_right w ≡ records_right v
unfolding records_right
records-same w v e = rw (record_same w v 3 (λ k a b. e k a (omega arith)), record_same w v 24 (λ k a b. e k (omega arith) b))

module _ (w v : ℕ → ℕ) (e : (k : ℕ) → 3 ≤ k → k ≤ 18 → w k ≡ v k) where
  parameters-same : (m : Model) → parameters_finite m w ≡ parameters_finite m v
  unfolding parameters_finite
  parameters-same Nrtl = floats_same w v 3 12 (λ k l. e (3 + k) (omega arith) (omega arith))
  parameters-same Wilson = floats_same w v 3 4 (λ k l. e (3 + k) (omega arith) (omega arith))

  finite_same : (m : Model) → pair_finite m w ≡ pair_finite m v
  unfolding pair_finite bounds_finite
  finite_same m = rw (parameters-same m, floats_same w v 16 2 (λ k l. e (16 + k) (omega arith) (omega arith)), e 15 (omega arith) (omega arith))

  alphas-same : (m : Model) → alphas_equal m w ≡ alphas_equal m v
  unfolding alphas_equal
  alphas-same Wilson = refl
  alphas-same Nrtl = rw (e 11 (omega arith) (omega arith), e 12 (omega arith) (omega arith), e 13 (omega arith) (omega arith), e 14 (omega arith) (omega arith))

pair-right : (w v : ℕ → ℕ) (i j i' j' : ℕ) → w 0 ≡ v 0 → ((k : ℕ) → 3 ≤ k → k ≤ 18 → w k ≡ v k) → v 1 ≡ i' → v 2 ≡ j' → pair_right w i j ≡ true → pair_right v i' j' ≡ true
unfolding pair_right
pair-right w v i j i' j' a e x y h =
    let b : w 15 ≡ v 15 = e 15 (omega arith) (omega arith) in
    let c : w 18 ≡ v 18 = e 18 (omega arith) (omega arith) in
    rw (← a, ← b, ← c, eq-eqb (v 1) i' x, eq-eqb (v 2) j' y) (two_of_lem (eqb (w 0) 3) (eqb (w 1) i) (eqb (w 2) j) (leb (w 15) 1) (leb (w 18) 1) h)

-- ---- every block behind the solvents is that of a pair
pub record PairOf (m b : ℕ) : Type 0 where
  pub first : ℕ
  pub second : ℕ
  pub ordered : first < second
  pub below : second < m
  pub stands : b ≡ pair_place m first second

pub found : (m b i : ℕ) → i ≤ m → m < b → b < row_from m i → PairOf m b
unfolding row_from pair_place
found m b zero h l u = absurd (omega arith)
found m b (suc i) h l u = go (ltb b (row_from m i)) (ltb→lt b (row_from m i)) (nltb→le b (row_from m i)) (found m b i (omega arith) l)
  where
    here : row_from m i ≤ b → PairOf m b
    here v = record { first = i; second = i + 1 + (b - row_from m i); ordered = omega arith; below = omega arith; stands = omega arith }

    go : (c : Bool) → (T c → b < row_from m i) → (T (not c) → row_from m i ≤ b) → (b < row_from m i → PairOf m b) → PairOf m b
    go true f g r = r (f tt)
    go false f g r = here (g tt)

ending : ℕ → Bool
ending m = leb (block_count m) (row_from m m)

pub rows_end : (m : ℕ) → m ≤ 8 → block_count m ≤ row_from m m
unfolding ending all_to row_from
rows_end m h = leb-true (block_count m) (row_from m m) (all_at ending 9 m (omega arith) refl)

-- a test of all pairs' blocks
each-pair : (p : ℕ → Bool) (m : ℕ) → m ≤ 8 → ((i j : ℕ) → i < j → j < m → p (pair_place m i j) ≡ true) → all_to (λ d. p (1 + m + d)) (pair_count m) ≡ true
each-pair p m h f = all_true (λ d. p (1 + m + d)) (pair_count m) (λ d l.
    let r = found m (1 + m + d) m (le_refl m) (omega arith) (omega (arith, rows_end m h)) in
    subst (λ (b : ℕ). p b ≡ true) (sym r.stands) (f r.first r.second r.ordered r.below))

module _ (keep : ℕ → Bool) (n : ℕ) where
  -- a test of every place, from one of every kept index
  at_places : (p : ℕ → Bool) → ((i : ℕ) → i < n → T (keep i) → p (cnt keep i) ≡ true) → all_to p (cnt keep n) ≡ true
  at_places p f = all_true p (cnt keep n) (λ k l. let w = place keep n k l in subst (λ (x : ℕ). p x ≡ true) w.new (f w.old w.below w.kept))

  -- the same for two places in order
  at-pairs : (P : ℕ → ℕ → Type 0) → ((i j : ℕ) → i < j → j < n → T (keep i) → T (keep j) → P (cnt keep i) (cnt keep j)) → (i j : ℕ) → i < j → j < cnt keep n → P i j
  at-pairs P f i j l m =
      let u = place keep n i (le_trans l (omega arith)) in
      let v = place keep n j m in
      let o : cnt keep u.old < cnt keep v.old = subst (λ (x : ℕ). x < cnt keep v.old) (sym u.new) (subst (λ (x : ℕ). i < x) (sym v.new) l) in
      subst (λ (x : ℕ). P x j) u.new (subst (λ (y : ℕ). P (cnt keep u.old) y) v.new (f u.old v.old (cnt_lt_back keep u.old v.old u.kept v.kept o) v.below u.kept v.kept))

  module _ (s s' : List ℕ) (h : ShorterBook keep n s s') where
    pub shorter-solvents : KeptSolvents keep n s s'
    shorter-solvents = record { solvent = λ i l q k a b. h.solvent i l q k (omega arith) (λ (z : k ≡ 1). omega arith) }

    pub shorter-pairs : KeptPairs keep n s s'
    shorter-pairs = record { pair = λ i j l m p q k a b. h.pair i j l m p q k (omega arith) (λ (z : k ≡ 1). omega arith) (λ (z : k ≡ 2). omega arith) }

    -- block 0 stands but for the count
    pub model-same : model_of s ≡ model_of s'
    unfolding model_in
    model-same = rw (h.head 3 (omega arith) (λ (z : 3 ≡ 2). omega arith))

    mass-kept : (i : ℕ) → i < n → T (keep i) → molar_mass (words s) i ≡ molar_mass (words s') (cnt keep i)
    mass-kept i l q = ap float_of (h.solvent i l q 45 (omega arith) (λ (z : 45 ≡ 1). omega arith))

    module _ (a : Accepted s n) (some : 0 < cnt keep n) where
      few : cnt keep n ≤ 8
      few = le_trans (cnt_le keep n) a.few

      cas-places : (i : ℕ) → i < n → T (keep i) → cas_new (words s') (cnt keep i) ≡ true
      unfolding cas_new
      cas-places i l q =
          all_true (λ j. not (eqb (words s' (j + 1) 2) (words s' (cnt keep i + 1) 2))) (cnt keep i) (λ j u.
          let w = place keep i j u in
          subst (λ (x : ℕ). not (eqb (words s' (x + 1) 2) (words s' (cnt keep i + 1) 2)) ≡ true) w.new
          (subst (λ (x : ℕ). not (eqb x (words s' (cnt keep i + 1) 2)) ≡ true) (two w.old (less w.old w.below) w.kept)
          (subst (λ (x : ℕ). not (eqb (words s (w.old + 1) 2) x) ≡ true) (two i l q)
          (all_at (λ j. not (eqb (words s (j + 1) 2) (words s (i + 1) 2))) i w.old w.below (all_at (cas_new (words s)) n i l a.cas)))))
        where
          two : (i : ℕ) → i < n → T (keep i) → words s (i + 1) 2 ≡ words s' (cnt keep i + 1) 2
          two i l q = h.solvent i l q 2 (omega arith) (λ (z : 2 ≡ 1). omega arith)

          less : (j : ℕ) → j < i → j < n
          less j u = omega arith

      pair-places : (i j : ℕ) → i < j → j < cnt keep n → pair_right (words s' (pair_place (cnt keep n) i j)) i j ≡ true
      pair-places = at-pairs (λ i j. pair_right (words s' (pair_place (cnt keep n) i j)) i j ≡ true) (λ i j l u p q.
          pair-right _ _ i j (cnt keep i) (cnt keep j) (h.pair i j l u p q 0 (omega arith) (λ (z : 0 ≡ 1). omega arith) (λ (z : 0 ≡ 2). omega arith))
          (shorter-pairs.pair i j l u p q) (h.pair-i i j l u p q) (h.pair-j i j l u p q) (pair-stands s n a i j l u))

      rows_right : (i : ℕ) → i < cnt keep n → row_right (words s') i (row_from (cnt keep n) i) (cnt keep n - i - 1) ≡ true
      unfolding row_right pair_place
      rows_right i l = all_true (λ d. pair_right (words s' (row_from (cnt keep n) i + d)) i (i + 1 + d)) (cnt keep n - i - 1) (λ d u.
          let e : i + 1 + d - i - 1 ≡ d = omega arith in
          subst (λ (x : ℕ). pair_right (words s' (row_from (cnt keep n) i + x)) i (i + 1 + d) ≡ true) e (pair-places i (i + 1 + d) (omega arith) (omega arith)))

      -- block 0 with its version, of the longer book's model
      abbrev headed : ℕ → Head
      headed version = record { n = cnt keep n; version = version; model = model_of s }

      pairs_open : (version : ℕ) → pairs_of (words s') (headed version) ≡ ok (headed version)
      unfolding pairs_of
      pairs_open version =
          need_yes 7 _ (all_true (λ i. row_right (words s') i (row_from (cnt keep n) i) (cnt keep n - i - 1)) (cnt keep n) rows_right)
          ∙ need_yes 8 _ (each-pair (λ b. pair_finite (model_of s) (words s' b)) (cnt keep n) few (at-pairs (λ i j. pair_finite (model_of s) (words s' (pair_place (cnt keep n) i j)) ≡ true) (λ i j l u p q. sym (finite_same _ _ (shorter-pairs.pair i j l u p q) (model_of s)) ∙ floats_stand s n a i j l u)))
          ∙ need_yes 9 _ (each-pair (λ b. alphas_equal (model_of s) (words s' b)) (cnt keep n) few (at-pairs (λ i j. alphas_equal (model_of s) (words s' (pair_place (cnt keep n) i j)) ≡ true) (λ i j l u p q. sym (alphas-same _ _ (shorter-pairs.pair i j l u p q) (model_of s)) ∙ alphas_stand s n a i j l u)))

      masses_open : masses_right (words s') (headed (words s' 0 1)) ≡ true
      unfolding masses_right head_in
      masses_open =
          weighed_to (all_to (λ i. positive (molar_mass (words s) i)) (words s 0 2)) _ (ap has_masses (h.head 1 (omega arith) (λ (z : 1 ≡ 2). omega arith)))
          (λ v t. at_places (λ i. positive (molar_mass (words s') i)) (λ i l q. subst (λ (x : Float). positive x ≡ true) (mass-kept i l q) (all_at (λ i. positive (molar_mass (words s) i)) (words s 0 2) i (subst (λ (x : ℕ). i < x) (sym a.count) l) t)))
          a.masses

      solvents_open : (version : ℕ) → version ≡ words s' 0 1 → solvents_of (words s') (headed version) ≡ ok (headed version)
      unfolding solvents_of
      solvents_open version same =
          need_yes 4 _ (at_places (λ i. solvent_right (words s' (i + 1)) i) (λ i l q. solvent-right _ _ i (cnt keep i) (h.solvent i l q) (h.index i l q) (solvent-stands s n a i l)))
          ∙ need_yes 5 _ (at_places (λ i. records_right (words s' (i + 1))) (λ i l q. sym (records-same _ _ (shorter-solvents.solvent i l q)) ∙ records_stand s n a i l))
          ∙ need_yes 35 _ (subst (λ (v : ℕ). masses_right (words s') (headed v) ≡ true) (sym same) masses_open)
          ∙ need_yes 6 _ (at_places (cas_new (words s')) cas-places)
          ∙ pairs_open version

      blocks : length s' / 512 ≡ block_count (cnt keep n)
      blocks = omega (arith, h.size)

      opens : book_of s' ≡ ok (headed (words s' 0 1))
      unfolding book_of head_of head_in
      opens =
          need_yes 1 _ (eq-eqb (length s' % 512) 0 (omega (arith, h.size)))
          ∙ need_yes 1 _ (lt-ltb 0 (length s') (omega (arith, h.size)))
          ∙ need_yes 38 _ (sym (version-right (words s 0) (words s' 0) h.head) ∙ a.version)
          ∙ need_yes 2 _ (subst (λ (c : ℕ). all_to (λ k. check_right (rule_of s') (words s' k)) c ≡ true) (sym blocks) (is_true _ h.checks))
          ∙ need_yes 3 _ (head-right (words s 0) (words s' 0) h.head (subst (λ (x : ℕ). 0 < x) (sym h.count) some) (subst (λ (x : ℕ). x ≤ 8) (sym h.count) few) a.head)
          ∙ need_yes 3 _ (eq-eqb (length s' / 512) (block_count (words s' 0 2)) (blocks ∙ ap (λ (x : ℕ). block_count x) (sym h.count)))
          ∙ need_yes 37 _ (sym (model-right (words s 0) (words s' 0) h.head) ∙ a.model)
          ∙ subst (λ (m : Model). solvents_of (words s') (record { n = words s' 0 2; version = words s' 0 1; model = m }) ≡ ok (headed (words s' 0 1))) model-same
          (subst (λ (x : ℕ). solvents_of (words s') (record { n = x; version = words s' 0 1; model = model_of s }) ≡ ok (headed (words s' 0 1))) (sym h.count) (solvents_open (words s' 0 1) refl))

-- questions 1 to 9, 35, 37 and 38; that some solvent is kept follows from a feed that sums to 1
pub strike_book : (keep : ℕ → Bool) (g : Head) (s s' : List ℕ) → ShorterBook keep g.n s s' → 0 < cnt keep g.n → book_of s ≡ ok g → book_of s' ≡ ok (shorter_head keep g)
unfolding head_in shorter_head
strike_book keep g s s' h some e =
    let version : words s' 0 1 ≡ g.version = sym (h.head 1 (omega arith) (λ (z : 1 ≡ 2). omega arith)) ∙ ap (λ (x : Head). x.version) (opened-head s e) in
    opens keep g.n s s' h (accepted s e) some
    ∙ ap (λ (v : ℕ). ok (record { n = cnt keep g.n; version = v; model = model_of s })) version
    ∙ ap (λ (m : Model). ok (record { n = cnt keep g.n; version = g.version; model = m })) (ap (λ (x : Head). x.model) (opened-head s e))

-- the molar masses of the solvents kept, where the version has them; every one is positive
pub record KeptMasses (keep : ℕ → Bool) (version n : ℕ) (m m' : ℕ → Float) : Type 0 where
  pub kept : has_masses version ≡ true → (i : ℕ) → i < n → T (keep i) → m i ≡ m' (cnt keep i)
  pub above : has_masses version ≡ true → (i : ℕ) → i < n → T (positive (m i))

pub strike_masses : (keep : ℕ → Bool) (g : Head) (s s' : List ℕ) → ShorterBook keep g.n s s' → book_of s ≡ ok g
    → KeptMasses keep g.version g.n (molar_mass (words s)) (molar_mass (words s'))
unfolding masses_right
strike_masses keep g s s' h e = record {
  kept = λ v i l q. mass-kept keep g.n s s' h i l q;
  above = λ v i l. so (all_at (λ i. positive (molar_mass (words s) i)) g.n i l (there (has_masses g.version) v (subst (λ (x : Head). masses_right (words s) x ≡ true) (opened-head s e) (accepted s e).masses)));
}
  where
    there : (b : Bool) {t : Bool} → b ≡ true → (not b || t) ≡ true → t ≡ true
    there true v h = h
    there false v h = absurd (false≢true v)

-- both books are summed by one rule
pub rule-same : (keep : ℕ → Bool) (g : Head) (s s' : List ℕ) → ShorterBook keep g.n s s' → book_of s ≡ ok g → rule_of s ≡ rule_of s'
unfolding rule_in
rule-same keep g s s' h e =
    let kind = h.head 0 (omega arith) (λ (z : 0 ≡ 2). omega arith) in
    let version = h.head 1 (omega arith) (λ (z : 1 ≡ 2). omega arith) in
    let same : rule_in (words s 0) ≡ rule_in (words s' 0) = rw (kind, version) in
    rule-sized s g.n (accepted s e).size ∙ same ∙ sym (rule-sized s' (cnt keep g.n) h.size)
