-- A book and one of another version made of its words are opened alike. Assumes nothing.
use Prim.Native.Nat.{ℕ, ◌+◌, ◌-◌, ◌≤◌, ◌<◌}
use mathlib.Core.Path.{◌≡◌, refl, sym, ◌∙◌}
use mathlib.Core.Bool.{Bool, true, false, ◌&&◌}
use mathlib.Core.List.{List}
use native.Mathlib.Omega.{arith}
use borrow.Author.Tests.{leb-true}
use lib.Dec.{eqb, ltb, leb}
use lib.Ieee.Fits.{and_r}
use lib.Ieee.Bits.{is_true}
use Rattle.floats.specs.Outcome.{Out, no, bind, need}
use Rattle.book.specs.declared.Model.{Model}
use Rattle.book.specs.declared.Model.TheVariants.{Nrtl, Wilson}
use Rattle.book.specs.declared.Head.{Head}
use Rattle.book.specs.Named.{parameters_end}
use Rattle.book.specs.Places.{words}
use Rattle.book.specs.Book.{masses_right, version_right, head_right, head_in, model_right, model_in, model_of, pairs_of, solvents_of, head_of, book_of}
use Rattle.book.proofs.Unread.{AgreeBehind, solvents-alike, records-alike, cas-alike, rows_alike, finite_alike, alphas-alike}
use Rattle.feeds.specs.Feeds.{OfVersions}

-- outcomes in a relation R that holds of equal refusals: tests that agree keep it
module _ {A B : Type 0} (R : Out B → Out B → Type 0) (same : (r : ℕ) → R (no r) (no r)) (g h : A → Out B) where
  need-passed : (b c : Bool) (r : ℕ) (o p : Out A) → b ≡ c → (c ≡ true → R (bind o g) (bind p h)) → R (bind (need b r o) g) (bind (need c r p) h)
  unfolding need bind
  need-passed b true r o p e k = rw e (k refl)
  need-passed b false r o p e k = rw e (same r)

  need-alike : (b c : Bool) (r : ℕ) (o p : Out A) → b ≡ c → R (bind o g) (bind p h) → R (bind (need b r o) g) (bind (need c r p) h)
  need-alike b c r o p e k = need-passed b c r o p e (λ u. k)

-- is a version known (38)?
abbrev known : ℕ → Bool
known v = ltb 0 v && leb v 3

few : (w : ℕ → ℕ) → head_right w ≡ true → w 2 ≤ 8
unfolding head_right
few w e = leb-true (w 2) 8 (is_true _ (and_r (eqb (w 0) 1 && ltb 0 (w 2)) (leb (w 2) 8) (rw e tt)))

-- the words of a pair's parameters end ahead of its check
few-parameters : (m : Model) → parameters_end m ≤ 63
unfolding parameters_end
few-parameters Nrtl = omega arith
few-parameters Wilson = omega arith

module _ {v v' : ℕ} (s t : List ℕ) (a : OfVersions v v' s t) where
  pub count-alike : words s 0 2 ≡ words t 0 2
  count-alike = a.head 2 (omega arith) (λ e. omega arith)

  pub kind-alike : words s 0 0 ≡ words t 0 0
  kind-alike = a.head 0 (omega arith) (λ e. omega arith)

  others : (j k : ℕ) → 0 < j → k < 63 → words s j k ≡ words t j k
  others j k l h = let e : j ≡ j - 1 + 1 = omega arith in rw e (a.others (j - 1) k h)

  model-alike : model_of s ≡ model_of t
  unfolding model_in
  model-alike = rw (a.head 3 (omega arith) (λ e. omega arith))

  pub behind : (n : ℕ) → AgreeBehind s t n
  behind n = record {
    model = model-alike;
    solvent = λ i l k h. a.others i k (omega arith);
    pair = λ j l. record {
      low = λ k h. others j k (omega arith) (omega (arith, few-parameters (model_of s)));
      flag = others j 15 (omega arith) (omega arith);
      inferred = others j 18 (omega arith) (omega arith);
      flagged = λ e k g h. others j k (omega arith) (omega arith);
    };
  }

  head-alike : head_right (words s 0) ≡ head_right (words t 0)
  unfolding head_right
  head-alike = rw (kind-alike, count-alike)

  version-alike : known v ≡ known v' → version_right (words s 0) ≡ version_right (words t 0)
  unfolding version_right
  version-alike e = rw (a.version, a.version', kind-alike, e)

  pub book-alike : {B : Type 0} (R : Out B → Out B → Type 0) → ((r : ℕ) → R (no r) (no r)) → (g h : Head → Out B) → known v ≡ known v' → model_right (words s 0) ≡ model_right (words t 0)
      → masses_right (words s) (head_in (words s 0)) ≡ masses_right (words t) (head_in (words t 0))
      → (words t 0 2 ≤ 8 → R (g (head_in (words s 0))) (h (head_in (words t 0)))) → R (bind (book_of s) g) (bind (book_of t) h)
  unfolding book_of head_of solvents_of pairs_of head_in bind
  book-alike R same g h x y m e =
      let n = words t 0 2 in
      let c = count-alike in
      let b = behind n in
      let f = need-alike R same g h in
      f _ _ 1 _ _ (rw a.size) (f _ _ 1 _ _ (rw a.size) (f _ _ 38 _ _ (version-alike x) (f _ _ 2 _ _ (a.checks ∙ sym a.checks')
      (need-passed R same g h _ _ 3 _ _ head-alike (λ u. f _ _ 3 _ _ (rw (a.size, c)) (f _ _ 37 _ _ y
      (f _ _ 4 _ _ (rw c (solvents-alike s t n b)) (f _ _ 5 _ _ (rw c (records-alike s t n b))
      (f _ _ 35 _ _ m (f _ _ 6 _ _ (rw c (cas-alike s t n b))
      (f _ _ 7 _ _ (rw c (rows_alike s t n b)) (f _ _ 8 _ _ (rw (c, ← model-alike) (finite_alike s t n b))
      (f _ _ 9 _ _ (rw (c, ← model-alike) (alphas-alike s t n b)) (e (few (words t 0) u)))))))))))))))
