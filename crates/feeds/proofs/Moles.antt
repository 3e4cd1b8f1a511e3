-- A question in moles doesn't see the version or the molar masses: book and question are read alike. Assumes nothing.
use Prim.Native.Nat.{ℕ}
use mathlib.Core.Path.{◌≡◌}
use mathlib.Core.Logic.{◌≢◌}
use mathlib.Core.Bool.{true, false}
use mathlib.Core.List.{List}
use native.Mathlib.Omega.{arith}
use borrow.Author.Tests.{ne_eqb}
use lib.Dec.{eqb}
use lib.Ieee.{Float}
use Rattle.floats.specs.Small.{positive}
use Rattle.floats.specs.Fold.{all_to}
use Rattle.floats.specs.Outcome.{ok, choose}
use Rattle.blocks.specs.declared.Rule.{Rule}
use Rattle.blocks.specs.Words.{word}
use Rattle.book.specs.Places.{words}
use Rattle.book.specs.Book.{molar_mass, masses_right, model_right, head_in, rule_in, rule_of}
use Rattle.question.specs.Asked.{kind_right, moles_of, rest_of, question_of}
use Rattle.feeds.specs.Feeds.{OfVersions}
use Rattle.feeds.proofs.Books.{kind-alike}

-- ---- the question
pub kind-moles : (version : ℕ) (w : ℕ → ℕ) → w 27 ≡ 0 → kind_right version w ≡ true
unfolding kind_right
kind-moles version w e = rw e

pub moles-moles : (w : ℕ → ℕ) (m : ℕ → Float) (n : ℕ) (x : List Float) → w 27 ≡ 0 → moles_of w m n x ≡ ok x
unfolding moles_of choose
moles-moles w m n x e = rw e

pub question-moles : (rule : Rule) (q : List ℕ) (version version' : ℕ) (m m' : ℕ → Float) (n : ℕ) → word q 27 ≡ 0
    → question_of rule q version m n ≡ question_of rule q version' m' n
unfolding question_of rest_of
question-moles rule q version version' m m' n e =
    rw (kind-moles version (word q) e, kind-moles version' (word q) e, moles-moles (word q) m n _ e, moles-moles (word q) m' n _ e)

-- ---- the book
module _ (s t : List ℕ) (a : OfVersions 2 1 s t) where
  -- neither is version 3
  pub rule-alike : rule_of s ≡ rule_of t
  unfolding rule_in rule_of
  rule-alike = rw (a.size, a.version, a.version', kind-alike s t a)

  pub model-moles : words s 0 3 ≢ 1 → model_right (words s 0) ≡ model_right (words t 0)
  unfolding model_right
  model-moles h =
      let e : words s 0 3 ≡ words t 0 3 = a.head 3 (omega arith) (λ e. omega arith) in
      let n : eqb (words s 0 3) 1 ≡ false = ne_eqb (words s 0 3) 1 h in
      let n' : eqb (words t 0 3) 1 ≡ false = rw e at n in
      rw (n, n', e)

  pub masses-moles : all_to (λ i. positive (molar_mass (words s) i)) (words s 0 2) ≡ true
      → masses_right (words s) (head_in (words s 0)) ≡ masses_right (words t) (head_in (words t 0))
  unfolding masses_right head_in
  masses-moles p = rw (p, a.version, a.version')
