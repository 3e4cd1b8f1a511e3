-- A question in moles doesn't see that a book has molar masses, one by mass is answered as the one in moles, and one to a version 3 book as to the version 2
-- book, but for the sums. Assumes nothing.
use mathlib.Core.Path.{◌≡◌, refl, sym, ap, ◌∙◌}
use mathlib.Core.Bool.{true}
use mathlib.Core.List.{List}
use Prim.Native.Nat.{ℕ}
use lib.Dec.{leb}
use Rattle.floats.specs.Small.{positive}
use Rattle.floats.specs.Fold.{all_to}
use Rattle.floats.specs.Outcome.{Out, bind}
use Rattle.floats.proofs.Outcomes.{bind_yes}
use Rattle.blocks.specs.declared.Rule.{Rule}
use Rattle.book.specs.declared.Head.{Head}
use Rattle.book.specs.Places.{words}
use Rattle.book.specs.Book.{has_masses, molar_mass, masses_right, head_in, rule_of}
use Rattle.book.proofs.Accepted.{accepted, opened-head}
use Rattle.thermo_models.specs.Mixture.{Mixture, mixture_of}
use Rattle.thermo_models.proofs.Unread.{mixture_unread}
use Rattle.question.specs.Asked.{question_of}
use Rattle.question.specs.declared.Question.{Question}
use Rattle.replies.specs.Blocks.{answer_room}
use Rattle.sheet.specs.Tasks.{task_of}
use Rattle.sheet.specs.Sheet.{replied, answer_to, roomy, question_to, sheet_from, sheet_of}
use Rattle.feeds.specs.Feeds.{OneAnswer, MolesAlike, MassAsMoles, VersionsAlike}
use Rattle.feeds.proofs.Books.{count-alike, behind, book-alike}
use Rattle.feeds.proofs.Moles.{question-moles, rule-alike, model-moles, masses-moles}
use Rattle.feeds.proofs.Mass.{question-mass}
use Rattle.feeds.proofs.Versions.{model_versions, mass-alike, masses-alike, question-alike, one-refusal, one_answer, one_needed}

pub moles-alike : MolesAlike
unfolding head_in answer_to sheet_from sheet_of
moles-alike s t question room a w p e =
    let n = words t 0 2 in
    let v = words t 0 1 in
    book-alike s t a ◌≡◌ (λ r. refl) _ _ refl (model-moles s t a w) (masses-moles s t a p) (λ l.
    ap (λ (k : ℕ). sheet_from s (words s 0 1) k question room) (count-alike s t a)
    ∙ ap (λ (o : Out Question). roomy room (bind o (answer_to s n))) (question-moles (rule_of s) question (words s 0 1) v _ (molar_mass (words t)) n e)
    ∙ ap (λ (rule : Rule). roomy room (bind (question_of rule question v (molar_mass (words t)) n) (λ x. replied rule x.task (task_of (mixture_of s n) x)))) (rule-alike s t a)
    ∙ ap (λ (m : Mixture). roomy room (bind (question_to t v n question) (λ x. replied (rule_of t) x.task (task_of m x)))) (mixture_unread s t n (behind s t a n)))

masses : (book : List ℕ) (h : Head) → head_in (words book 0) ≡ h → has_masses h.version ≡ true → masses_right (words book) (head_in (words book 0)) ≡ true
    → all_to (λ i. positive (molar_mass (words book) i)) h.n ≡ true
unfolding masses_right
masses book h e v p = rw (e, v) at p

pub mass_as_moles : MassAsMoles
unfolding sheet_from sheet_of
mass_as_moles book q r room h z e v a c d f g s k =
    let b = accepted book e in
    let p = masses book h (opened-head book e) v b.masses in
    let o = question-mass h.n b.few z q r a (molar_mass (words book)) p k (rule_of book) h.version v c d f g s in
    bind_yes _ e ∙ ap (λ (o : Out Question). roomy room (bind o (answer_to book h.n))) o ∙ sym (bind_yes _ e)

pub versions_alike : VersionsAlike
unfolding head_in answer_to roomy sheet_from sheet_of
versions_alike s t q r room a b =
    let n = words t 0 2 in
    let rule = rule_of s in
    let rule' = rule_of t in
    book-alike s t a (OneAnswer rule rule') (one-refusal rule rule') _ _ refl (model_versions s t a) (masses-alike s t a) (λ l.
    one_needed rule rule' (leb answer_room room) 10 _ _
    (rw (count-alike s t a, a.version, a.version', question-alike rule rule' q r b n l (molar_mass (words s)) (molar_mass (words t)) (mass-alike s t a))
    (one_answer rule rule' (question_to t 2 n r) _ _ (λ x. ap (λ (m : Mixture). task_of m x) (mixture_unread s t n (behind s t a n))))))
