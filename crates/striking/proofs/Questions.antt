-- The shorter question is accepted where the longer one is (questions 11 to 21 and 36), and asks the same of the solvents kept. Assumes nothing.
use mathlib.Core.Path.{◌≡◌, sym, ap, ◌∙◌, subst}
use Prim.Native.Nat.{ℕ, ◌+◌, ◌≤◌, ◌<◌}
use native.Mathlib.Nat.{le_trans}
use native.Mathlib.Omega.{arith}
use borrow.Author.Tests.{eq-eqb}
use mathlib.Core.Bool.{Bool, true, false, not, ◌||◌, ◌&&◌}
use mathlib.Core.List.{List}
use lib.ListN.{length}
use lib.Dec.{T, eqb, eqb→eq}
use lib.Ieee.{Float, binary64, fits, of_bits, lt}
use lib.Ieee.Bits.{of_bits-fits, is_true}
use lib.Ieee.Fits.{and_i, and_l, and_r, div-fits}
use Rattle.floats.specs.Arithmetic.{◌⊖◌, ◌⊘◌, 0f, 1f}
use Rattle.floats.specs.Small.{is_finite, positive, abs_of, float_of, float}
use Rattle.floats.specs.Fold.{sum_to, all_to}
use Rattle.floats.specs.Vector.{at, vec}
use Rattle.floats.proofs.Fills.{vec-at}
use Rattle.floats.specs.Outcome.{Out}
use Rattle.thermo_types.specs.Composition.{sum_tolerance, all_finite, all_positive, sums_to_one, shares_of, normalize_of}
use Rattle.blocks.specs.Words.{word, check_right}
use Rattle.blocks.specs.declared.Rule.{Rule}
use Rattle.question.specs.Inputs.{is_task, needs_temperature, needs_pressure, needs_options, needs_ratios, if_needed}
use Rattle.book.specs.Book.{has_masses}
use Rattle.question.specs.Asked.{task_in, by_mass, kind_right, moles_of, feed_of, fraction, ratios_of, temperature_right, pressure_right, inputs_finite, ratios_positive, inputs_right, options_right, limits_some, limits_few, limits_right, options_in, question_from, rest_of, question_of}
use Rattle.question.specs.declared.Question.{Question}
use Rattle.zeros.proofs.Congruence.{same}
use Rattle.zeros.proofs.Zero.{Zero, zero_over_lem}
use Rattle.striking.specs.Places.{cnt}
use Rattle.striking.specs.Accepted.{Acc}
use Rattle.striking.specs.Related.{Fractions}
use Rattle.striking.specs.Questions.{kept_in, ShorterQuestion}
use Rattle.striking.proofs.Books.{KeptMasses}
use Rattle.striking.proofs.Acc.{acc_ok, acc_need, acc_bind, acc_if, strike_all}
use Rattle.striking.proofs.Active.{cong2}
use Rattle.striking.proofs.Search.{positive_solid}
use Rattle.striking.proofs.Excess.{is_finite_lem, same_sum, cnt_le}
use Rattle.striking.proofs.Strike.{cnt_lt}
use Rattle.striking.proofs.Vectors.{vec-fits, parts-sum}
use Rattle.striking.proofs.Tasks.{SameFeed, feed-fractions}
use Rattle.striking.proofs.Some.{some-kept}

-- ---- an absent solvent's fraction is a zero
pub absent_zero : (q : List ℕ) (i : ℕ) → T (not (kept_in q i)) → Zero (fraction (word q) i)
unfolding kept_in of_bits
absent_zero q i h = go (eqb (word q (4 + i)) 0) (eqb→eq (word q (4 + i)) 0) (eqb (word q (4 + i)) 0x8000000000000000) (eqb→eq (word q (4 + i)) 0x8000000000000000) h
  where
    go : (a : Bool) → (T a → word q (4 + i) ≡ 0) → (b : Bool) → (T b → word q (4 + i) ≡ 0x8000000000000000) → T (not (not (a || b))) → Zero (float_of (word q (4 + i)))
    go true f b g h = subst (λ (x : ℕ). Zero (float_of x)) (sym (f tt)) tt
    go false f true g h = subst (λ (x : ℕ). Zero (float_of x)) (sym (g tt)) tt
    go false f false g h = absurd h

-- ---- the same question with another feed and other K
unfoldable pub with_feed : Question → List Float → List Float → Question
with_feed q z k = record { task = q.task; temperature = q.temperature; pressure = q.pressure; fractions = z; options = q.options; ratios = k }

-- the kept fractions and K at their new places, all else equal
pub record SameQuestion (keep : ℕ → Bool) (n : ℕ) (a b : Question) : Type 0 where
  pub rest : b ≡ with_feed a b.fractions b.ratios
  pub feed : SameFeed keep n a.fractions b.fractions
  pub ratios : (i : ℕ) → i < n → T (keep i) → at a.ratios i ≡ at b.ratios (cnt keep i)

-- a test that a task needs
needed_to : {b b' : Bool} (t t' : Bool) → b ≡ b' → (T t → T t') → T (if_needed b t) → T (if_needed b' t')
needed_to {b} {b'} t t' e f h = subst (λ (c : Bool). T (if_needed c t')) e (go b h)
  where
    go : (b : Bool) → T (if_needed b t) → T (if_needed b t')
    go true h = f h
    go false h = tt

-- a mass feed that passed 36 has them
masses-there : (k : ℕ) (b : Bool) → T (eqb k 0 || (eqb k 1 && b)) → T (eqb k 1) → b ≡ true
masses-there k b h t = go (eqb→eq k 1 t) h
  where
    go : k ≡ 1 → T (eqb k 0 || (eqb k 1 && b)) → b ≡ true
    go e h = is_true b (subst (λ (j : ℕ). T (eqb j 0 || (eqb j 1 && b))) e h)

-- a zero over what is finite and positive
over-positive : (x m : Float) → Zero x → T (positive m) → Zero (x ⊘ m)
unfolding positive
over-positive x m z p = zero_over_lem binary64 x m z (is_finite_lem m (and_l (is_finite m) _ p)) (positive_solid m (is_true _ (and_r (is_finite m) _ p)))

-- ---- parts that are kept as they stand, over their sum
module _ (keep : ℕ → Bool) (n : ℕ) (small : n ≤ 8) (f f' : ℕ → Float) (fit : (i : ℕ) → T (fits binary64 (f i))) (fit' : (i : ℕ) → T (fits binary64 (f' i)))
    (kept : (i : ℕ) → i < n → T (keep i) → f i ≡ f' (cnt keep i)) (struck : (i : ℕ) → i < n → T (not (keep i)) → Zero (f i)) where
  fewer : cnt keep n ≤ 8
  fewer = le_trans (cnt_le keep n) small

  one-sum : sum_to f n ≡ sum_to f' (cnt keep n)
  one-sum = parts-sum keep n small f f' fit fit' (λ i l t. same (kept i l t)) struck

  shares-feed : T (positive (sum_to f n)) → SameFeed keep n (shares_of f n) (shares_of f' (cnt keep n))
  unfolding shares_of positive
  shares-feed p = record {
    fractions = λ i l t.
        vec-at (λ i. f i ⊘ sum_to f n) n i small l ∙ cong2 (λ (u v : Float). u ⊘ v) (kept i l t) one-sum
        ∙ sym (vec-at (λ i. f' i ⊘ sum_to f' (cnt keep n)) (cnt keep n) (cnt keep i) fewer (cnt_lt keep i n t l));
    absent = λ i l t. subst Zero (sym (vec-at (λ i. f i ⊘ sum_to f n) n i small l)) (zero_share i l t);
    fit = vec-fits (λ i. f i ⊘ sum_to f n) (λ i. div-fits binary64 (f i) (sum_to f n)) n;
    fit' = vec-fits (λ i. f' i ⊘ sum_to f' (cnt keep n)) (λ i. div-fits binary64 (f' i) (sum_to f' (cnt keep n))) (cnt keep n);
  }
    where
      zero_share : (i : ℕ) → i < n → T (not (keep i)) → Zero (f i ⊘ sum_to f n)
      zero_share i l t = over-positive (f i) (sum_to f n) (struck i l t) p

  strike_shares : Acc (SameFeed keep n) (normalize_of f n) (normalize_of f' (cnt keep n))
  unfolding normalize_of
  strike_shares = acc_need _ _ 34 _ _ (λ p. subst (λ (s : Float). T (positive s)) one-sum p) (λ p. acc_ok (shares-feed p))

module _ (keep : ℕ → Bool) (n : ℕ) (small : n ≤ 8) (rule : Rule) (q q' : List ℕ) (h : ShorterQuestion rule keep n q q') where
  abbrev w : ℕ → ℕ
  w = word q

  abbrev v : ℕ → ℕ
  v = word q'

  few : cnt keep n ≤ 8
  few = le_trans (cnt_le keep n) small

  at_head : (k : ℕ) → k < 4 → w k ≡ v k
  at_head = h.head

  option : (k : ℕ) → 12 ≤ k → k < 19 → w k ≡ v k
  option = h.options

  task : w 1 ≡ v 1
  task = at_head 1 (omega arith)

  by-task : (f : ℕ → Bool) → f (w 1) ≡ f (v 1)
  by-task f = ap f task

  -- entries of two arrays, read from words at their places
  entries : (f : ℕ) → ((i : ℕ) → i < n → T (keep i) → w (f + i) ≡ v (f + cnt keep i)) → (i : ℕ) → i < n → T (keep i)
      → at (vec (λ k. float w (f + k)) n) i ≡ at (vec (λ k. float v (f + k)) (cnt keep n)) (cnt keep i)
  entries f e i l t =
      vec-at (λ k. float w (f + k)) n i small l ∙ ap float_of (e i l t) ∙ sym (vec-at (λ k. float v (f + k)) (cnt keep n) (cnt keep i) few (cnt_lt keep i n t l))

  ek : (i : ℕ) → i < n → T (keep i) → at (ratios_of q n) i ≡ at (ratios_of q' (cnt keep n)) (cnt keep i)
  ek = entries 19 h.ratio

  -- the feed in words 4 to 11
  feed-same : ((i : ℕ) → i < n → T (not (keep i)) → Zero (fraction w i)) → SameFeed keep n (feed_of q n) (feed_of q' (cnt keep n))
  feed-same absent = record {
    fractions = entries 4 h.fraction;
    absent = λ i l t. subst Zero (sym (vec-at (fraction w) n i small l)) (absent i l t);
    fit = vec-fits (fraction w) (λ i. of_bits-fits binary64 (w (4 + i))) n;
    fit' = vec-fits (fraction v) (λ i. of_bits-fits binary64 (v (4 + i))) (cnt keep n);
  }

  -- a test of every entry
  each : (f g : ℕ → Float) → ((i : ℕ) → i < n → T (keep i) → f i ≡ g (cnt keep i)) → (p : Float → Bool) → T (all_to (λ i. p (f i)) n) → T (all_to (λ i. p (g i)) (cnt keep n))
  each f g e p = strike_all keep (λ i. p (f i)) (λ i. p (g i)) n (λ i l t. subst (λ (x : Float). T (p x)) (e i l t))

  -- ---- 13 to 18, put to any two feeds that are the same
  module _ (x x' : List Float) (s : SameFeed keep n x x') where
    hz : Fractions keep n (at x) (at x')
    hz = feed-fractions keep n s

    sums : T (all_finite (at x) n) → sums_to_one (at x) n ≡ sums_to_one (at x') (cnt keep n)
    unfolding sums_to_one
    sums f = ap (λ (s : Float). not (lt sum_tolerance (abs_of (s ⊖ 1f)))) (same_sum keep n small (at x) (at x') hz f)

    strike_inputs : {A A' : Type 0} {R : A → A' → Type 0} (o : Out A) (o' : Out A') → (0 < cnt keep n → Acc R o o')
        → Acc R (inputs_right w n x (ratios_of q n) o) (inputs_right v (cnt keep n) x' (ratios_of q' (cnt keep n)) o')
    unfolding inputs_right
    strike_inputs o o' f =
        acc_need (temperature_right w) (temperature_right v) 13 _ _ (needed_to (positive (float w 2)) (positive (float v 2)) (by-task needs_temperature) (subst (λ (k : ℕ). T (positive (float_of k))) (at_head 2 (omega arith)))) (λ h13.
        acc_need (pressure_right w) (pressure_right v) 14 _ _ (needed_to (positive (float w 3)) (positive (float v 3)) (by-task needs_pressure) (subst (λ (k : ℕ). T (positive (float_of k))) (at_head 3 (omega arith)))) (λ h14.
        acc_need (inputs_finite w n x (ratios_of q n)) (inputs_finite v (cnt keep n) x' (ratios_of q' (cnt keep n))) 15 _ _
        (λ t. and_i (all_finite (at x') (cnt keep n)) _ (each (at x) (at x') s.fractions is_finite (and_l (all_finite (at x) n) _ t))
        (needed_to (all_finite (at (ratios_of q n)) n) (all_finite (at (ratios_of q' (cnt keep n))) (cnt keep n)) (by-task needs_ratios) (each (at (ratios_of q n)) (at (ratios_of q' (cnt keep n))) ek is_finite) (and_r (all_finite (at x) n) _ t))) (λ h15.
        acc_need _ _ 16 _ _ (each (at x) (at x') s.fractions (λ y. not (lt y 0f))) (λ h16.
        acc_need (ratios_positive w n (ratios_of q n)) (ratios_positive v (cnt keep n) (ratios_of q' (cnt keep n))) 17 _ _
        (needed_to (all_positive (at (ratios_of q n)) n) (all_positive (at (ratios_of q' (cnt keep n))) (cnt keep n)) (by-task needs_ratios) (each (at (ratios_of q n)) (at (ratios_of q' (cnt keep n))) ek (λ y. lt 0f y))) (λ h17.
        acc_need _ _ 18 _ _ (subst T (sums (and_l (all_finite (at x) n) _ h15))) (λ h18.
        f (some-kept keep n small (at x) (at x') hz (and_l (all_finite (at x) n) _ h15) h18)))))))

  -- ---- 19 to 21
  options-same : options_right w ≡ options_right v
  unfolding options_right
  options-same = rw (option 13 (omega arith) (omega arith), option 15 (omega arith) (omega arith), option 16 (omega arith) (omega arith), option 17 (omega arith) (omega arith), option 18 (omega arith) (omega arith))

  some_same : limits_some w ≡ limits_some v
  some_same = rw (task, option 12 (omega arith) (omega arith), option 14 (omega arith) (omega arith))

  few-same : limits_few w ≡ limits_few v
  few-same = rw (task, option 12 (omega arith) (omega arith), option 14 (omega arith) (omega arith))

  strike_limits : {A A' : Type 0} {R : A → A' → Type 0} (o : Out A) (o' : Out A') → Acc R o o' → Acc R (limits_right w o) (limits_right v o')
  unfolding limits_right
  strike_limits o o' f =
      acc_need _ _ 19 _ _ (needed_to (options_right w) (options_right v) (by-task needs_options) (subst T options-same)) (λ h19.
      acc_need _ _ 20 _ _ (subst T some_same) (λ h20.
      acc_need _ _ 21 _ _ (subst T few-same) (λ h21. f)))

  from_words : (x x' : List Float) → SameFeed keep n x x' → SameQuestion keep n (question_from w x (ratios_of q n)) (question_from v x' (ratios_of q' (cnt keep n)))
  unfolding question_from options_in with_feed
  from_words x x' s = record {
    rest = rw (
      ← task,
      ← at_head 2 (omega arith),
      ← at_head 3 (omega arith),
      ← option 12 (omega arith) (omega arith),
      ← option 13 (omega arith) (omega arith),
      ← option 14 (omega arith) (omega arith),
      ← option 16 (omega arith) (omega arith),
      ← option 17 (omega arith) (omega arith),
      ← option 18 (omega arith) (omega arith),
    );
    feed = s;
    ratios = ek;
  }

  -- ---- block and task
  strike_task_in : Acc (λ (a b : ℕ). a ≡ b) (task_in rule q) (task_in rule q')
  unfolding task_in
  strike_task_in =
      acc_need (eqb (length q) 512) (eqb (length q') 512) 11 _ _ (λ t. subst T (sym (eq-eqb (length q') 512 h.size)) tt) (λ size.
      acc_need (check_right rule w) (check_right rule v) 11 _ _ (λ t. h.check) (λ check.
      acc_need (eqb (w 0) 8) (eqb (v 0) 8) 11 _ _ (subst (λ (x : ℕ). T (eqb x 8)) (at_head 0 (omega arith))) (λ kind.
      acc_need (is_task (w 1)) (is_task (v 1)) 12 _ _ (subst T (by-task is_task)) (λ one. acc_ok task))))

  -- ---- the feed's kind, and mole fractions of it
  kind : w 27 ≡ v 27
  kind = h.unnamed 27 (omega arith) (omega arith)

  module _ (version : ℕ) (m m' : ℕ → Float) (g : KeptMasses keep version n m m') where
    strike_kind : T (kind_right version w) → T (kind_right version v)
    unfolding kind_right
    strike_kind = subst (λ (k : ℕ). T (eqb k 0 || (eqb k 1 && has_masses version))) kind

    strike_moles : T (kind_right version w) → (x x' : List Float) → SameFeed keep n x x' → Acc (SameFeed keep n) (moles_of w m n x) (moles_of v m' (cnt keep n) x')
    unfolding moles_of kind_right
    strike_moles k x x' s =
        acc_if (by_mass w) (by_mass v) _ _ _ _ (ap (λ (z : ℕ). eqb z 1) kind)
        (λ t. let has = masses-there (w 27) (has_masses version) k t in
        strike_shares keep n small (λ i. at x i ⊘ m i) (λ i. at x' i ⊘ m' i) (λ i. div-fits binary64 (at x i) (m i)) (λ i. div-fits binary64 (at x' i) (m' i))
        (λ i l u. cong2 (λ (a b : Float). a ⊘ b) (s.fractions i l u) (g.kept has i l u))
        (λ i l u. over-positive (at x i) (m i) (s.absent i l u) (g.above has i l)))
        (λ t. acc_ok s)

    -- questions 13 to 21 to two feeds that are the same; a feed that passes has a solvent that is kept
    pub strike_rest : T (kind_right version w) → (x x' : List Float) → SameFeed keep n x x'
        → Acc (λ (a b : Question). SameQuestion keep n a b × (0 < cnt keep n)) (rest_of q m n x) (rest_of q' m' (cnt keep n) x')
    unfolding rest_of question_from
    strike_rest k x x' s =
        strike_inputs x x' s _ _ (λ some.
        acc_bind (SameFeed keep n) _ _ _ _ (strike_moles k x x' s) (λ z z' t. strike_limits _ _ (acc_ok (from_words z z' t, some))))

    -- questions 11 to 21 and 36
    pub strike_question : ((i : ℕ) → i < n → T (not (keep i)) → Zero (fraction (word q) i))
        → Acc (λ (a b : Question). SameQuestion keep n a b × (0 < cnt keep n)) (question_of rule q version m n) (question_of rule q' version m' (cnt keep n))
    unfolding question_of
    strike_question absent =
        acc_bind (λ (a b : ℕ). a ≡ b) _ _ _ _ strike_task_in (λ a b e.
        acc_need (kind_right version w) (kind_right version v) 36 _ _ strike_kind (λ k. strike_rest k (feed_of q n) (feed_of q' (cnt keep n)) (feed-same absent)))
