-- Books of versions 3 and 2 made of the same words, and questions to them, are read alike. Assumes nothing.
use Prim.Native.Nat.{ℕ, ◌+◌, ◌≤◌}
use mathlib.Core.Path.{◌≡◌, refl, ap}
use mathlib.Core.Bool.{Bool, true, false}
use mathlib.Core.List.{List}
use native.Mathlib.Omega.{arith}
use lib.Ieee.{Float}
use Rattle.floats.specs.Arithmetic.{◌⊘◌}
use Rattle.floats.specs.Small.{positive, float_of}
use Rattle.floats.specs.Vector.{at, zeros8}
use Rattle.floats.specs.Outcome.{Out, ok, no, bind, need}
use Rattle.floats.proofs.Folds.{all_cong}
use Rattle.floats.proofs.Fills.{fill_cong}
use Rattle.thermo_types.specs.Composition.{normalize_of}
use Rattle.thermo_types.proofs.Normalizing.{normalize_cong}
use Rattle.blocks.specs.declared.Rule.{Rule}
use Rattle.blocks.specs.Words.{word}
use Rattle.book.specs.Places.{words}
use Rattle.book.specs.Book.{molar_mass, masses_right, model_right, head_in}
use Rattle.question.specs.Asked.{task_in, kind_right, fraction, feed_of, moles_of, rest_of, question_of}
use Rattle.question.specs.declared.Question.{Question}
use Rattle.replies.specs.Blocks.{Answer}
use Rattle.sheet.specs.Sheet.{replied}
use Rattle.feeds.specs.Feeds.{OfVersions, OfRules, OneAnswer}
use Rattle.feeds.proofs.Books.{count-alike}
use Rattle.feeds.proofs.Rest.{rest_in, rest-alike}

-- ---- the book: both versions have molar masses
module _ (s t : List ℕ) (a : OfVersions 3 2 s t) where
  pub model_versions : model_right (words s 0) ≡ model_right (words t 0)
  unfolding model_right
  model_versions = rw (a.version, a.version', a.head 3 (omega arith) (λ e. omega arith))

  pub mass-alike : (i : ℕ) → molar_mass (words s) i ≡ molar_mass (words t) i
  mass-alike i = ap float_of (a.others i 45 (omega arith))

  pub masses-alike : masses_right (words s) (head_in (words s 0)) ≡ masses_right (words t) (head_in (words t 0))
  unfolding masses_right head_in
  masses-alike = rw (a.version, a.version', count-alike s t a) (all_cong (words t 0 2) (λ i l. ap positive (mass-alike i)))

-- ---- the question
moles-same : (w v : ℕ → ℕ) (m m' : ℕ → Float) (n : ℕ) (x : List Float) → w 27 ≡ v 27 → ((i : ℕ) → m i ≡ m' i) → moles_of w m n x ≡ moles_of v m' n x
unfolding moles_of
moles-same w v m m' n x e g =
    let h : normalize_of (λ i. at x i ⊘ m i) n ≡ normalize_of (λ i. at x i ⊘ m' i) n = normalize_cong n (λ i l. ap (λ (y : Float). at x i ⊘ y) (g i)) in
    rw (e, h)

module _ (rule rule' : Rule) (q r : List ℕ) (a : OfRules rule rule' q r) (n : ℕ) (l : n ≤ 8) where
  feed-alike : feed_of q n ≡ feed_of r n
  feed-alike = fill_cong (fraction (word q)) (fraction (word r)) n zeros8 (λ k h. ap float_of (a.same (4 + k) (omega arith)))

  task-alike : task_in rule q ≡ task_in rule' r
  unfolding task_in
  task-alike = rw (a.check, a.check', a.size, a.same 0 (omega arith), a.same 1 (omega arith))

  kind-alike : kind_right 3 (word q) ≡ kind_right 2 (word r)
  unfolding kind_right
  kind-alike = rw (a.same 27 (omega arith))

  pub question-alike : (m m' : ℕ → Float) → ((i : ℕ) → m i ≡ m' i) → question_of rule q 3 m n ≡ question_of rule' r 2 m' n
  unfolding question_of rest_of rest_in
  question-alike m m' g =
      let x = feed_of r n in
      let o = rest-alike q r n l (λ k h. a.same k (omega arith)) (λ k i h. a.same k (omega arith)) x (moles_of (word r) m' n x) in
      rw (task-alike, kind-alike, feed-alike, moles-same (word q) (word r) m m' n x (a.same 27 (omega arith)) g, o)

-- ---- the answer, by two rules
module _ (rule rule' : Rule) where
  pub one-refusal : (r : ℕ) → OneAnswer rule rule' (no r) (no r)
  unfolding bind
  one-refusal r = record { task = 0; answer = no r; left = refl; right = refl }

  pub one_answer : (o : Out Question) (f g : Question → Out Answer) → ((x : Question) → f x ≡ g x)
      → OneAnswer rule rule' (bind o (λ x. replied rule x.task (f x))) (bind o (λ x. replied rule' x.task (g x)))
  unfolding bind
  one_answer (ok x) f g e = record { task = x.task; answer = g x; left = rw (e x); right = refl }
  one_answer (no r) f g e = one-refusal r

  pub one_needed : (b : Bool) (r : ℕ) (o p : Out (List ℕ)) → OneAnswer rule rule' o p → OneAnswer rule rule' (need b r o) (need b r p)
  unfolding need
  one_needed true r o p h = h
  one_needed false r o p h = one-refusal r
