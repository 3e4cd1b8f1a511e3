-- Words that are not named are never read: two books whose checks are right and that agree on the named words are opened alike. Assumes nothing.
use Rattle.std.proofs.Common.{◌≡◌, ℕ, ◌+◌, ◌-◌, ◌/◌, ◌<◌, ◌≤◌, Bool, true, false, cond, not, ◌||◌, T, eqb, ltb, List, length, refl, ap, arith, lt-ltb, ne_eqb, le-leb}
use native.Mathlib.Nat.{min-le_right}
use borrow.Author.Tests.{lt-leb}
use Rattle.blocks.specs.Words.{check_right}
use Rattle.floats.specs.Small.{is_finite, positive, float_of}
use Rattle.floats.specs.Fold.{all_to}
use Rattle.floats.proofs.Folds.{all_cong}
use Rattle.book.proofs.Laws.{row-above}
use Rattle.book.specs.declared.Model.{Model}
use Rattle.book.specs.declared.Model.TheVariants.{Nrtl, Wilson}
use Rattle.book.specs.Places.{words, pair_count, row_from}
use Rattle.book.specs.Named.{solvent_named, parameters_end, pair_named, named, Agree}
use Rattle.book.specs.Book.{floats_finite, version_right, head_right, model_right, model_in, model_of, solvent_right, range_right, term_count, record_right}
use Rattle.book.specs.Book.{records_right, has_masses, molar_mass, masses_right, cas_new, pair_right, row_right}
use Rattle.book.specs.Book.{parameters_finite, bounds_finite, pair_finite, alphas_equal, head_in, pairs_of, solvents_of, head_of, rule_in, rule_of, book_of}

-- a block's tests read only its named words
pub floats_same : (w v : ℕ → ℕ) (f n : ℕ) → ((k : ℕ) → k < n → w (f + k) ≡ v (f + k)) → floats_finite w f n ≡ floats_finite v f n
unfolding floats_finite
floats_same w v f n e = all_cong n (λ k l. ap (λ (x : ℕ). is_finite (float_of x)) (e k l))

head-same : (w v : ℕ → ℕ) → ((k : ℕ) → k < 4 → w k ≡ v k) → head_right w ≡ head_right v
unfolding head_right
head-same w v e = rw (e 0 (omega arith), e 2 (omega arith))

version-same : (w v : ℕ → ℕ) → ((k : ℕ) → k < 4 → w k ≡ v k) → version_right w ≡ version_right v
unfolding version_right
version-same w v e = rw (e 0 (omega arith), e 1 (omega arith))

model-same : (w v : ℕ → ℕ) → ((k : ℕ) → k < 4 → w k ≡ v k) → model_right w ≡ model_right v
unfolding model_right
model-same w v e = rw (e 1 (omega arith), e 3 (omega arith))

module _ (w v : ℕ → ℕ) (e : (k : ℕ) → k < 45 → w k ≡ v k) where
  solvent-same : (i : ℕ) → solvent_right w i ≡ solvent_right v i
  unfolding solvent_right
  solvent-same i = rw (e 0 (omega arith), e 1 (omega arith), e 2 (omega arith), e 7 (omega arith), e 28 (omega arith))

  range_same : (f : ℕ) → f ≤ 24 → range_right w f ≡ range_right v f
  unfolding range_right
  range_same f h = rw (e f (omega arith), e (f + 1) (omega arith), e (f + 2) (omega arith), e (f + 3) (omega arith))

  record_same : (f : ℕ) → f ≤ 24 → record_right w f ≡ record_right v f
  unfolding record_right
  record_same f h =
      let c : w (f + 4) ≡ v (f + 4) = e (f + 4) (omega arith) in
      let m : term_count v f ≤ 8 = min-le_right (v (f + 4)) 8 in
      let used : (g : ℕ) → g + 8 ≤ 45 → floats_finite w g (term_count v f) ≡ floats_finite v g (term_count v f) =
      λ g h. floats_same w v g (term_count v f) (λ k l. e (g + k) (omega arith)) in
      let a : floats_finite w f 4 ≡ floats_finite v f 4 = floats_same w v f 4 (λ k l. e (f + k) (omega arith)) in
      rw (c, a, used (f + 5) (omega arith), used (f + 13) (omega arith), range_same f h)

  records-same : records_right w ≡ records_right v
  unfolding records_right
  records-same = rw (record_same 3 (omega arith), record_same 24 (omega arith))

-- two pair blocks that agree on their named words
pub record PairAgrees (m : Model) (w v : ℕ → ℕ) : Type 0 where
  pub low : (k : ℕ) → k < parameters_end m → w k ≡ v k
  pub flag : w 15 ≡ v 15
  pub inferred : w 18 ≡ v 18
  pub flagged : eqb (w 15) 0 ≡ false → (k : ℕ) → 15 ≤ k → k ≤ 18 → w k ≡ v k

-- every pair has a and b each way before the end of its parameters
seven : (m : Model) → 7 ≤ parameters_end m
unfolding parameters_end
seven Nrtl = omega arith
seven Wilson = omega arith

module _ (m : Model) (w v : ℕ → ℕ) (e : PairAgrees m w v) where
  pair_same : (i j : ℕ) → pair_right w i j ≡ pair_right v i j
  unfolding pair_right
  pair_same i j =
      let low : (k : ℕ) → k < 3 → w k ≡ v k = λ k l. e.low k (omega (arith, seven m)) in
      rw (low 0 (omega arith), low 1 (omega arith), low 2 (omega arith), e.flag, e.inferred)

  bounds_same : bounds_finite w ≡ bounds_finite v
  unfolding bounds_finite
  bounds_same = pick (eqb (w 15) 0) refl
    where
      pick : (b : Bool) → eqb (w 15) 0 ≡ b → cond (eqb (w 15) 0) true (floats_finite w 16 2) ≡ cond (eqb (v 15) 0) true (floats_finite v 16 2)
      pick true q = rw (← e.flag, q)
      pick false q = rw (← e.flag, q) (floats_same w v 16 2 (λ k l. e.flagged q (16 + k) (omega arith) (omega arith)))

parameters-same : (m : Model) (w v : ℕ → ℕ) → PairAgrees m w v → parameters_finite m w ≡ parameters_finite m v
unfolding parameters_end parameters_finite
parameters-same Nrtl w v e = floats_same w v 3 12 (λ k l. e.low (3 + k) (omega arith))
parameters-same Wilson w v e = floats_same w v 3 4 (λ k l. e.low (3 + k) (omega arith))

finite_same : (m : Model) (w v : ℕ → ℕ) → PairAgrees m w v → pair_finite m w ≡ pair_finite m v
unfolding pair_finite
finite_same m w v e = rw (parameters-same m w v e, bounds_same m w v e)

alphas-same : (m : Model) (w v : ℕ → ℕ) → PairAgrees m w v → alphas_equal m w ≡ alphas_equal m v
unfolding parameters_end alphas_equal
alphas-same Nrtl w v e = rw (e.low 11 (omega arith), e.low 12 (omega arith), e.low 13 (omega arith), e.low 14 (omega arith))
alphas-same Wilson w v e = refl

-- the named words of the three kinds of block
or_left : (a b : Bool) → a ≡ true → T (a || b)
or_left a b e = rw e tt

or_right : (a b : Bool) → T b → T (a || b)
or_right true b t = tt
or_right false b t = t

marked : (b : Bool) → T (cond b true true)
marked true = tt
marked false = tt

module _ (m : Model) (flag : ℕ) where
  pair-low : (k : ℕ) → k < parameters_end m → T (pair_named m flag k)
  unfolding pair_named
  pair-low k h = or_left (ltb k (parameters_end m)) _ (lt-ltb k (parameters_end m) h)

  pair-flag : T (pair_named m flag 15)
  unfolding pair_named
  pair-flag = or_right (ltb 15 (parameters_end m)) _ (marked (eqb flag 0))

  pair-inferred : T (pair_named m flag 18)
  unfolding pair_named
  pair-inferred = or_right (ltb 18 (parameters_end m)) _ (marked (eqb flag 0))

  pair-flagged : eqb flag 0 ≡ false → (k : ℕ) → 15 ≤ k → k ≤ 18 → T (pair_named m flag k)
  unfolding pair_named
  pair-flagged q k a b = or_right (ltb k (parameters_end m)) _ (rw (q, le-leb 15 k a, le-leb k 18 b) tt)

module _ (w : ℕ → ℕ → ℕ) (n : ℕ) where
  head-named : (k : ℕ) → k < 4 → T (named w n 0 k)
  unfolding named
  head-named k h = rw (lt-ltb k 4 h) tt

  solvent-named : (i k : ℕ) → i < n → T (solvent_named (w 0 1) k) → T (named w n (i + 1) k)
  unfolding named
  solvent-named i k l h =
      let a : i + 1 ≤ n = omega arith in
      rw (ne_eqb (i + 1) 0 (λ (z : i + 1 ≡ 0). omega arith), le-leb (i + 1) n a) h

  low-named : (i k : ℕ) → i < n → k < 45 → T (named w n (i + 1) k)
  unfolding solvent_named
  low-named i k l h = solvent-named i k l (rw (lt-ltb k 45 h) tt)

  mass-named : (i : ℕ) → i < n → has_masses (w 0 1) ≡ true → T (named w n (i + 1) 45)
  unfolding solvent_named
  mass-named i l h = solvent-named i 45 l (rw h tt)

  pair-named : (j k : ℕ) → n < j → T (pair_named (model_in (w 0)) (w j 15) k) → T (named w n j k)
  unfolding named
  pair-named j k l h = rw (ne_eqb j 0 (λ (z : j ≡ 0). omega arith), lt-leb j n l) h

-- two books of n solvents that agree in the model and on the named words behind block 0, but for molar masses
pub record AgreeBehind (s t : List ℕ) (n : ℕ) : Type 0 where
  pub model : model_of s ≡ model_of t
  pub solvent : (i : ℕ) → i < n → (k : ℕ) → k < 45 → words s (i + 1) k ≡ words t (i + 1) k
  pub pair : (j : ℕ) → n < j → PairAgrees (model_of s) (words s j) (words t j)

module _ (s t : List ℕ) (a : Agree s t) where
  head-agrees : (k : ℕ) → k < 4 → words s 0 k ≡ words t 0 k
  head-agrees k h = a.same 0 k (head-named (words s) (words s 0 2) k h)

  pub mass-agrees : (i : ℕ) → i < words s 0 2 → has_masses (words s 0 1) ≡ true → molar_mass (words s) i ≡ molar_mass (words t) i
  mass-agrees i l h = ap float_of (a.same (i + 1) 45 (mass-named (words s) (words s 0 2) i l h))

  pair-agrees : (j : ℕ) → words s 0 2 < j → PairAgrees (model_of s) (words s j) (words t j)
  pair-agrees j l =
      let m = model_of s in
      let f = words s j 15 in
      let e : (k : ℕ) → T (pair_named m f k) → words s j k ≡ words t j k = λ k h. a.same j k (pair-named (words s) (words s 0 2) j k l h) in
      record {
        low = λ k h. e k (pair-low m f k h);
        flag = e 15 (pair-flag m f);
        inferred = e 18 (pair-inferred m f);
        flagged = λ q k g h. e k (pair-flagged m f q k g h);
      }

  pub model-unread : model_of s ≡ model_of t
  unfolding model_in
  model-unread = rw (head-agrees 3 (omega arith))

  pub agree-behind : AgreeBehind s t (words s 0 2)
  agree-behind = record {
    model = model-unread;
    solvent = λ i l k h. a.same (i + 1) k (low-named (words s) (words s 0 2) i k l h);
    pair = pair-agrees;
  }

-- questions 4 to 9, but for 35
module _ (s t : List ℕ) (n : ℕ) (a : AgreeBehind s t n) where
  pub solvents-alike : all_to (λ i. solvent_right (words s (i + 1)) i) n ≡ all_to (λ i. solvent_right (words t (i + 1)) i) n
  solvents-alike = all_cong n (λ i l. solvent-same (words s (i + 1)) (words t (i + 1)) (a.solvent i l) i)

  pub records-alike : all_to (λ i. records_right (words s (i + 1))) n ≡ all_to (λ i. records_right (words t (i + 1))) n
  records-alike = all_cong n (λ i l. records-same (words s (i + 1)) (words t (i + 1)) (a.solvent i l))

  pub cas-alike : all_to (cas_new (words s)) n ≡ all_to (cas_new (words t)) n
  unfolding cas_new
  cas-alike =
      let cas : (i : ℕ) → i < n → words s (i + 1) 2 ≡ words t (i + 1) 2 = λ i l. a.solvent i l 2 (omega arith) in
      all_cong n (λ i l. all_cong i (λ j m. cas-same (cas j (omega arith)) (cas i l)))
    where
      cas-same : {a b c d : ℕ} → a ≡ b → c ≡ d → not (eqb a c) ≡ not (eqb b d)
      cas-same p q = rw (p, q)

  pub rows_alike : all_to (λ i. row_right (words s) i (row_from n i) (n - i - 1)) n ≡ all_to (λ i. row_right (words t) i (row_from n i) (n - i - 1)) n
  unfolding row_right
  rows_alike = all_cong n (λ i l. all_cong (n - i - 1) (λ d m. pair_same _ _ _ (a.pair (row_from n i + d) (omega (arith, row-above n i))) i (i + 1 + d)))

  pub finite_alike : all_to (λ d. pair_finite (model_of s) (words s (1 + n + d))) (pair_count n)
      ≡ all_to (λ d. pair_finite (model_of s) (words t (1 + n + d))) (pair_count n)
  finite_alike = all_cong (pair_count n) (λ d m. finite_same _ _ _ (a.pair (1 + n + d) (omega arith)))

  pub alphas-alike : all_to (λ d. alphas_equal (model_of s) (words s (1 + n + d))) (pair_count n)
      ≡ all_to (λ d. alphas_equal (model_of s) (words t (1 + n + d))) (pair_count n)
  alphas-alike = all_cong (pair_count n) (λ d m. alphas-same _ _ _ (a.pair (1 + n + d) (omega arith)))

module _ (s t : List ℕ) (a : Agree s t) where
  masses-same : masses_right (words s) (head_in (words s 0)) ≡ masses_right (words t) (head_in (words s 0))
  unfolding masses_right head_in
  masses-same = pick (has_masses (words s 0 1)) refl
    where
      pick : (b : Bool) → has_masses (words s 0 1) ≡ b
          → (not (has_masses (words s 0 1)) || all_to (λ i. positive (molar_mass (words s) i)) (words s 0 2))
          ≡ (not (has_masses (words s 0 1)) || all_to (λ i. positive (molar_mass (words t) i)) (words s 0 2))
      pick true q = rw q (all_cong (words s 0 2) (λ i l. ap positive (mass-agrees s t a i l q)))
      pick false q = rw q

  solvents-same : solvents_of (words s) (head_in (words s 0)) ≡ solvents_of (words t) (head_in (words s 0))
  unfolding solvents_of pairs_of head_in
  solvents-same =
      let n = words s 0 2 in
      let b = agree-behind s t a in
      rw (
        solvents-alike s t n b,
        records-alike s t n b,
        masses-same,
        cas-alike s t n b,
        rows_alike s t n b,
        finite_alike s t n b,
        alphas-alike s t n b,
      )

  head_in_same : head_in (words s 0) ≡ head_in (words t 0)
  unfolding head_in
  head_in_same = rw (head-agrees s t a 1 (omega arith), head-agrees s t a 2 (omega arith), model-unread s t a)

  pub rule-unread : rule_of s ≡ rule_of t
  unfolding rule_in rule_of
  rule-unread = rw (a.size, head-agrees s t a 0 (omega arith), head-agrees s t a 1 (omega arith))

  -- the checks of both are right: then the same is answered
  pub book-unread : all_to (λ k. check_right (rule_of s) (words s k)) (length s / 512) ≡ true
      → all_to (λ k. check_right (rule_of t) (words t k)) (length t / 512) ≡ true → book_of s ≡ book_of t
  unfolding book_of head_of
  book-unread p q =
      let v = version-same (words s 0) (words t 0) (head-agrees s t a) in
      let h = head-same (words s 0) (words t 0) (head-agrees s t a) in
      let n = head-agrees s t a 2 (omega arith) in
      let m = model-same (words s 0) (words t 0) (head-agrees s t a) in
      rw (v, p, q, h, m, solvents-same, head_in_same, a.size, n)
