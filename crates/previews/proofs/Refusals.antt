-- Every refusal of a preview is one of the numbers that there are, so the result 0 means an answer. Assumes nothing.
use mathlib.Core.Bool.{true}
use mathlib.Core.Path.{◌≡◌, refl, sym, ap}
use mathlib.Core.List.{List}
use Prim.Native.Nat.{ℕ}
use Rattle.floats.specs.Outcome.{Out, ok, no, bind, need}
use Rattle.blocks.specs.declared.Rule.{Rule}
use Rattle.book.specs.declared.Model.{Model}
use Rattle.book.specs.declared.Model.TheVariants.{Nrtl, Wilson}
use Rattle.book.specs.declared.Head.{Head}
use Rattle.book.specs.Book.{model_of, head_in, alphas_equal, rule_of, book_of, offered_of}
use Rattle.book.proofs.Accepted.{opened-head}
use Rattle.records.specs.Offered.{with_pair}
use Rattle.records.proofs.Offered.{copy-model}
use Rattle.question.specs.Asked.{question_of}
use Rattle.question.specs.declared.Question.{Question}
use Rattle.sheet.specs.Sheet.{answer_to, roomy, sheet_from, number_of}
use Rattle.refusals.specs.Numbered.{has_alphas, Numbered}
use Rattle.refusals.proofs.Laws.{numbers, num_no, num_bind}
use Rattle.refusals.proofs.Theorem.{num_book, num_task_in, num_rest, num_answer}
use Rattle.preview.specs.Preview.{preview_from, preview_of}
use Rattle.previews.specs.Numbered.{PreviewRefusals, ZeroIsPreview}

num_offered : (M : Model) (rule : Rule) (h : Head) (offered : List ℕ) → h.model ≡ M → Numbered M (offered_of rule h offered)
unfolding offered_of alphas_equal has_alphas need
num_offered Nrtl rule h offered e = search numbers depth 8
num_offered Wilson rule h offered e = rw e (search numbers depth 8)

-- the copy has the book's model
num_copy : (book : List ℕ) (n : ℕ) (offered : List ℕ) (q : Question) → Numbered (model_of book) (answer_to (with_pair n book offered) n q)
num_copy book n offered q = rw (copy-model n book offered) at (num_answer {own = true} (with_pair n book offered) n q)

num_from : (book : List ℕ) (h : Head) (offered question : List ℕ) (room : ℕ) → Numbered (model_of book) (preview_from book h offered question room)
unfolding preview_from sheet_from roomy question_of
num_from book h offered question room = search (numbers, num_task_in, num_rest, num_copy) depth 8

num_tried : (book : List ℕ) (h : Head) (offered question : List ℕ) (room : ℕ) → book_of book ≡ ok h
    → Numbered (model_of book) (bind (offered_of (rule_of book) h offered) (λ g. preview_from book g offered question room))
unfolding head_in
num_tried book h offered question room e =
    let model : model_of book ≡ h.model = ap (λ (g : Head). g.model) (opened-head book e) in
    num_bind _ (num_offered (model_of book) (rule_of book) h offered (sym model)) (λ g. num_from book g offered question room)

pub preview_refusals : PreviewRefusals
unfolding preview_of bind
preview_refusals book offered question room = go (book_of book) refl (num_book book)
  where
    go : (o : Out Head) → book_of book ≡ o → Numbered (model_of book) o
        → Numbered (model_of book) (bind o (λ h. bind (offered_of (rule_of book) h offered) (λ g. preview_from book g offered question room)))
    go (ok h) e m = num_tried book h offered question room e
    go (no r) e m = num_no r (m.number r refl)

answered : {M : Model} (o : Out (List ℕ)) → Numbered M o → number_of o ≡ 0 → (bs : List ℕ) × (o ≡ ok bs)
unfolding number_of
answered (ok bs) h e = (bs, refl)
answered (no r) h e = absurd (rw e at (h.number r refl))

pub zero_is_preview : ZeroIsPreview
zero_is_preview book offered question room = answered (preview_of book offered question room) (preview_refusals book offered question room)
