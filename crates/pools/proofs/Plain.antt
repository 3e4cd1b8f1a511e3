-- A pooled call is the plain call on the question with the pool's fractions; and such a question, made. Assumes nothing.
use Prim.Native.Nat.{ℕ, ◌+◌, ◌-◌, ◌*◌, ◌/◌, ◌%◌, ◌≤◌, ◌<◌}
use mathlib.Core.Path.{◌≡◌, refl, sym, ap, ◌∙◌}
use mathlib.Core.Logic.{◌⊎◌, inl, inr}
use mathlib.Core.Bool.{true, cond, ◌&&◌}
use mathlib.Core.List.{List}
use native.Mathlib.Nat.{le_of_eq}
use native.Mathlib.Omega.{arith}
use borrow.Author.Tests.{eq-eqb, ne_eqb, le-leb, lt-leb, lt-ltb, le-ltb}
use lib.Dec.{T, eqb, leb, ltb}
use lib.ListN.{length, get_or, replicate, length-replicate}
use lib.Ieee.{Float}
use lib.Ieee.Bits.{is_true}
use Rattle.floats.specs.Small.{bits_of}
use Rattle.floats.specs.Vector.{at, fill}
use Rattle.floats.specs.Outcome.{Out, ok, no, bind}
use Rattle.floats.proofs.Fills.{fill-at, fill_length}
use Rattle.floats.proofs.Outcomes.{need_inv, need_yes, bind_yes}
use Rattle.blocks.specs.declared.Rule.{Rule}
use Rattle.blocks.specs.Words.{word, sum_by, check_right}
use Rattle.blocks.proofs.Laws.{sum_same}
use Rattle.book.specs.declared.Head.{Head}
use Rattle.book.specs.Places.{words}
use Rattle.book.specs.Book.{molar_mass, book_of, rule_of}
use Rattle.book.proofs.Accepted.{accepted}
use Rattle.question.specs.declared.Question.{Question}
use Rattle.question.specs.Inputs.{is_task}
use Rattle.question.specs.Asked.{task_in, feed_of, rest_of, question_of}
use Rattle.feeds.proofs.Fractions.{fractions-read}
use Rattle.feeds.proofs.Moles.{kind-moles, moles-moles}
use Rattle.feeds.proofs.Rest.{rest_in, rest-alike}
use Rattle.sheet.specs.Sheet.{answer_to, roomy, sheet_from, sheet_of}
use Rattle.striking.specs.Theorem.{Accepted}
use Rattle.pool.specs.Pool.{pool_count, amount, drums_right, total_right, fed_to, drums_to, pooled_from, pooled_of}
use Rattle.pools.specs.Plain.{pool_fractions, WithFractions, PoolAsPlain}
use Rattle.pools.proofs.Fractions.{normal, feed-is}

pub accepted-is : {A : Type 0} (o : Out A) → Accepted o → (a : A) × (o ≡ ok a)
unfolding Accepted
accepted-is (ok a) h = (a, refl)
accepted-is (no r) h = absurd h

-- what passes 11 and 12
pub record TaskPass (rule : Rule) (q : List ℕ) : Type 0 where
  pub size : T (eqb (length q) 512)
  pub check : T (check_right rule (word q))
  pub kind : T (eqb (word q 0) 8)
  pub task : T (is_task (word q 1))

pub task-passed : (rule : Rule) (q : List ℕ) {t : ℕ} → task_in rule q ≡ ok t → TaskPass rule q
unfolding task_in
task-passed rule q e =
    let a = need_inv _ 11 _ e in
    let b = need_inv _ 11 _ a.1 in
    let c = need_inv _ 11 _ b.1 in
    let d = need_inv _ 12 _ c.1 in
    record { size = a.0; check = b.0; kind = c.0; task = d.0 }

module _ {rule : Rule} {n : ℕ} {z : List Float} (q r : List ℕ) (few : n ≤ 8) (a : WithFractions rule n z q r) where
  front : (k : ℕ) → k < 4 → word q k ≡ word r k
  front k h = a.others k (omega arith) (inl h)

  behind : (k : ℕ) → 12 ≤ k → k < 63 → word q k ≡ word r k
  behind k h g = a.others k g (inr h)

  task-alike : {t : ℕ} → task_in rule q ≡ ok t → task_in rule r ≡ ok t
  task-alike e = sym (same (is_true _ (task-passed rule q e).check)) ∙ e
    where
      same : check_right rule (word q) ≡ true → task_in rule q ≡ task_in rule r
      same c = unfold task_in in rw (c, a.check, a.size, front 0 (omega arith), front 1 (omega arith))

  moles-alike : word q 27 ≡ 0 → word r 27 ≡ 0
  moles-alike e = sym (behind 27 (omega arith) (omega arith)) ∙ e

  pub fed-alike : (m : ℕ → Float) (x : List Float) → word q 27 ≡ 0 → rest_of q m n x ≡ rest_of r m n x
  unfolding rest_of rest_in
  fed-alike m x e =
      rw (moles-moles (word q) m n x e, moles-moles (word r) m n x (moles-alike e)) (rest-alike q r n few front (λ k i h. behind k i (omega arith)) x (ok x))

  -- the plain question reads its feed as z, where z is in its words
  pub read_alike : (m : ℕ → Float) (version : ℕ) {t : ℕ} → task_in rule q ≡ ok t → word q 27 ≡ 0 → feed_of r n ≡ z
      → question_of rule r version m n ≡ rest_of q m n z
  unfolding question_of
  read_alike m version t e f =
      bind_yes _ (task-alike t) ∙ need_yes 36 _ (kind-moles version (word r) (moles-alike e)) ∙ ap (rest_of r m n) f ∙ sym (fed-alike m z e)

module _ (book question drums r : List ℕ) (n version room : ℕ) (few : n ≤ 8) {t : ℕ} (task : task_in (rule_of book) question ≡ ok t) (d : drums_right drums ≡ true)
    (s : total_right drums n ≡ true) (e : word question 27 ≡ 0) (w : WithFractions (rule_of book) n (pool_fractions drums n) question r) where
  pooled-fed : bind (task_in (rule_of book) question) (λ task. drums_to book n question drums) ≡ fed_to book n question (pool_fractions drums n)
  unfolding drums_to
  pooled-fed = bind_yes _ task ∙ need_yes 31 _ d ∙ need_yes 32 _ s ∙ need_yes 36 _ (eq-eqb (word question 27) 0 e) ∙ bind_yes _ (feed-is drums n few s)

  feed-read : feed_of r n ≡ pool_fractions drums n
  feed-read = fractions-read (λ i. amount (pool_count drums i)) n few (pool_fractions drums n) (normal drums n few s) (λ i. word r (4 + i)) w.fraction

  from_alike : pooled_from book n question drums room ≡ sheet_from book version n r room
  unfolding pooled_from sheet_from fed_to
  from_alike =
      let o = sym (read_alike question r few w (molar_mass (words book)) version task e feed-read) in
      ap (roomy room) (pooled-fed ∙ ap (λ (o : Out Question). bind o (answer_to book n)) o)

pub pool_as_plain : PoolAsPlain
unfolding pooled_of sheet_of bind
pool_as_plain book question drums r room p w = go (book_of book) refl
  where
    go : (o : Out Head) → book_of book ≡ o → bind o (λ h. pooled_from book h.n question drums room) ≡ bind o (λ h. sheet_from book h.version h.n r room)
    go (no k) e = refl
    go (ok h) e =
        let a = accepted book e in
        from_alike book question drums r h.n h.version room a.few (accepted-is _ p.task).1 p.drums_right
        (rw a.count at p.total_right) p.moles (rw a.count at w)

-- ---- a question with given words: each stands in its lowest byte
spread : (ℕ → ℕ) → List ℕ
spread w = fill (λ j. cond (eqb (j % 8) 0) (w (j / 8)) 0) 512 (replicate 512 0)

module _ (w : ℕ → ℕ) where
  spread_at : (j : ℕ) → j < 512 → get_or (spread w) j 0 ≡ cond (eqb (j % 8) 0) (w (j / 8)) 0
  unfolding spread
  spread_at j l = fill-at (λ j. cond (eqb (j % 8) 0) (w (j / 8)) 0) 512 (replicate 512 0) 0 j (le_of_eq (sym (length-replicate {A = ℕ} 512 0))) l

  spread-first : (k : ℕ) → k < 64 → get_or (spread w) (8 * k) 0 ≡ w k
  spread-first k l =
      let a : 8 * k % 8 ≡ 0 = omega arith in
      let b : 8 * k / 8 ≡ k = omega arith in
      spread_at (8 * k) (omega arith) ∙ rw (a, b) refl

  spread-next : (k i : ℕ) → k < 64 → 0 < i → i < 8 → get_or (spread w) (8 * k + i) 0 ≡ 0
  spread-next k i l p h =
      let a : (8 * k + i) % 8 ≡ i = omega arith in
      spread_at (8 * k + i) (omega arith) ∙ rw (a, ne_eqb i 0 (λ (e : i ≡ 0). omega arith)) refl

  spread-word : (k : ℕ) → k < 64 → word (spread w) k ≡ w k
  unfolding word
  spread-word k l =
      let g : (i : ℕ) → 0 < i → i < 8 → get_or (spread w) (8 * k + i) 0 ≡ 0 = λ i p h. spread-next k i l p h in
      rw (
        spread-first k l,
        g 1 (omega arith) (omega arith),
        g 2 (omega arith) (omega arith),
        g 3 (omega arith) (omega arith),
        g 4 (omega arith) (omega arith),
        g 5 (omega arith) (omega arith),
        g 6 (omega arith) (omega arith),
        g 7 (omega arith) (omega arith),
      ) (omega arith)

module _ (rule : Rule) (n : ℕ) (z : List Float) (q : List ℕ) where
  -- the words of q with z from word 4 on, and their check
  fed : ℕ → ℕ
  fed k = cond (leb 4 k && ltb k (4 + n)) (bits_of (at z (k - 4))) (word q k)

  fed-at : (i : ℕ) → i < n → fed (4 + i) ≡ bits_of (at z i)
  unfolding fed
  fed-at i l = let d : 4 + i - 4 ≡ i = omega arith in rw (le-leb 4 (4 + i) (omega arith), lt-ltb (4 + i) (4 + n) (omega arith), d)

  fed-other : n ≤ 8 → (k : ℕ) → (k < 4) ⊎ (12 ≤ k) → fed k ≡ word q k
  unfolding fed
  fed-other few k (inl h) = rw (lt-leb 4 k h)
  fed-other few k (inr h) = rw (le-leb 4 k (omega arith), le-ltb k (4 + n) (omega arith))

  checked : ℕ → ℕ
  checked k = cond (eqb k 63) (sum_by rule fed) (fed k)

  pub as_plain : List ℕ
  as_plain = spread checked

  read-fed : (k : ℕ) → k < 63 → word as_plain k ≡ fed k
  unfolding as_plain checked
  read-fed k l = spread-word checked k (omega arith) ∙ rw (ne_eqb k 63 (λ (e : k ≡ 63). omega arith)) refl

  read-check : word as_plain 63 ≡ sum_by rule fed
  unfolding as_plain checked
  read-check = spread-word checked 63 (omega arith)

  sized : length as_plain ≡ 512
  unfolding as_plain spread
  sized = fill_length _ 512 (replicate 512 0) ∙ length-replicate {A = ℕ} 512 0

  right : check_right rule (word as_plain) ≡ true
  unfolding check_right
  right = eq-eqb _ _ (sum_same rule (word as_plain) fed read-fed ∙ sym read-check)

  pub as_plain_lem : n ≤ 8 → length q ≡ 512 → WithFractions rule n z q as_plain
  as_plain_lem few e = record {
    size = e ∙ sym sized;
    fraction = λ i l. read-fed (4 + i) (omega arith) ∙ fed-at i l;
    others = λ k l h. sym (read-fed k l ∙ fed-other few k h);
    check = right;
  }
