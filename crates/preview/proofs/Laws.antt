-- A question asked of a book is the one asked of the copy that holds the offered pair, and the ways through a call. Assumes nothing.
use Prim.Native.Nat.{ℕ, ◌≤◌}
use mathlib.Core.Path.{◌≡◌, refl, sym, ap, ◌∙◌}
use mathlib.Core.Bool.{Bool, true, false}
use mathlib.Core.List.{List}
use native.Mathlib.Nat.{min-eq_left}
use lib.Dec.{eqb}
use lib.Ieee.{Float}
use lib.ListN.{length}
use Rattle.floats.specs.Outcome.{Out, ok, no, bind, need}
use Rattle.floats.specs.Vector.{places}
use Rattle.floats.proofs.Outcomes.{each-ok, each-need}
use Rattle.blocks.specs.declared.Rule.{Rule}
use Rattle.blocks.specs.Words.{word, check_right}
use Rattle.book.specs.declared.Head.{Head}
use Rattle.book.specs.Places.{words}
use Rattle.book.specs.Book.{molar_mass, book_of, rule_of, offered_of}
use Rattle.book.proofs.Accepted.{accepted}
use Rattle.records.specs.Offered.{with_pair}
use Rattle.records.proofs.Offered.{copy-rule, copy-mass}
use Rattle.question.specs.Asked.{task_in, question_of}
use Rattle.question.proofs.Unread.{SameMasses, question-unread}
use Rattle.sheet.specs.Sheet.{question_to, sheet_from}
use Rattle.preview.specs.Preview.{preview_from, preview_of}

-- a question that fails its check
eleven : {A B : Type 0} (b : Bool) (o : Out A) (k : A → Out B) → bind (need b 11 (need false 11 o)) k ≡ no 11
unfolding need bind
eleven true o k = refl
eleven false o k = refl

-- a question reads the molar masses of the solvents alone
question-masses : (rule : Rule) (q : List ℕ) (version n : ℕ) (m m' : ℕ → Float) → SameMasses version n m m' → question_of rule q version m n ≡ question_of rule q version m' n
unfolding question_of task_in
question-masses rule q version n m m' e = pick (check_right rule (word q)) refl
  where
    pick : (b : Bool) → check_right rule (word q) ≡ b → question_of rule q version m n ≡ question_of rule q version m' n
    pick true c = question-unread q q n (record { size = refl; same = λ k t. refl }) version m m' e rule c c
    pick false c = rw c (eleven (eqb (length q) 512) _ _ ∙ sym (eleven (eqb (length q) 512) _ _))

pub copy-question : (n version : ℕ) (book offered question : List ℕ) → question_to (with_pair n book offered) version n question ≡ question_to book version n question
copy-question n version book offered question =
    ap (λ (rule : Rule). question_of rule question version (molar_mass (words (with_pair n book offered))) n) (copy-rule n book offered)
    ∙ question-masses (rule_of book) question version n _ _ (record { mass = λ v i l. copy-mass n book offered i l })

-- what was answered for an offered block is the book's head
offered_head : (rule : Rule) (h : Head) (offered : List ℕ) {g : Head} → offered_of rule h offered ≡ ok g → h ≡ g
unfolding offered_of
offered_head rule h offered {g} e = let P : Head → Type 0 = λ g. h ≡ g in
    (each-need P _ 1 (each-need P _ 2 (each-need P _ 7 (each-need P _ 8 (each-need P _ 9 (each-ok P refl)))))).each g e

-- past both blocks
pub opened : (book offered question : List ℕ) (room : ℕ) {h g : Head} {rule : Rule} → ok h ≡ book_of book → rule ≡ rule_of book → ok g ≡ offered_of rule h offered
    → preview_of book offered question room ≡ sheet_from (with_pair (places h.n) book offered) h.version (places h.n) question room
unfolding preview_of preview_from bind
opened book offered question room {h} {g} {rule} o u d =
    let m : places h.n ≡ h.n = min-eq_left (accepted book (sym o)).few in
    rw (sym o, ← u, sym d, ← offered_head rule h offered (sym d), m)
