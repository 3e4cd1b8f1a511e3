-- Calls that agree on the named words are answered alike. Assumes nothing.
use mathlib.Core.Path.{◌≡◌, refl, sym, ap, ◌∙◌}
use Rattle.floats.specs.Outcome.{Out, ok, no, bind}
use Rattle.blocks.specs.declared.Rule.{Rule}
use Rattle.book.specs.declared.Head.{Head}
use Rattle.book.specs.Places.{words}
use Rattle.book.specs.Book.{molar_mass, head_in, rule_of, book_of}
use Rattle.book.proofs.Accepted.{accepted, opened-head}
use Rattle.book.proofs.Unread.{AgreeBehind, rule-unread, book-unread, mass-agrees, agree-behind}
use Rattle.thermo_models.proofs.Unread.{mixture_unread}
use Rattle.thermo_models.specs.Mixture.{Mixture, mixture_of}
use Rattle.question.specs.declared.Question.{Question}
use Rattle.question.specs.Asked.{question_of}
use Rattle.question.specs.Named.{AgreeAsked}
use Rattle.question.proofs.Unread.{SameMasses, question-unread}
use Rattle.sheet.specs.Tasks.{task_of}
use Rattle.sheet.specs.Sheet.{replied, answer_to, roomy, question_to, sheet_from, sheet_of}
use Rattle.sheet.specs.Unread.{Unread}

pub unread : Unread
unfolding answer_to roomy sheet_from sheet_of bind head_in
unread s t q r room c = rw (book-unread s t c.books c.checks c.checks') (go (book_of s) refl (book-unread s t c.books c.checks c.checks'))
  where
    opened : (h : Head) → book_of s ≡ ok h → sheet_from s h.version h.n q room ≡ sheet_from t h.version h.n r room
    opened h e =
        let n : words s 0 2 ≡ h.n = (accepted s e).count in
        let v : words s 0 1 ≡ h.version = ap (λ (g : Head). g.version) (opened-head s e) in
        let k : AgreeAsked q r h.n = rw n at c.questions in
        let m : SameMasses h.version h.n (molar_mass (words s)) (molar_mass (words t)) =
        record { mass = λ w i l. mass-agrees s t c.books i (rw n l) (rw v w) } in
        let b : AgreeBehind s t h.n = rw n at (agree-behind s t c.books) in
        ap (λ (o : Out Question). roomy room (bind o (answer_to s h.n))) (question-unread q r h.n k h.version _ _ m (rule_of s) c.check c.check')
        ∙ ap (λ (rule : Rule). roomy room (bind (question_of rule r h.version (molar_mass (words t)) h.n) (λ x. replied rule x.task (task_of (mixture_of s h.n) x)))) (rule-unread s t c.books)
        ∙ ap (λ (m : Mixture). roomy room (bind (question_to t h.version h.n r) (λ x. replied (rule_of t) x.task (task_of m x)))) (mixture_unread s t h.n b)

    go : (o : Out Head) → book_of s ≡ o → o ≡ book_of t
        → bind (book_of t) (λ h. sheet_from s h.version h.n q room) ≡ bind (book_of t) (λ h. sheet_from t h.version h.n r room)
    go (ok h) e f = rw (sym f) (opened h e)
    go (no m) e f = rw (sym f)
