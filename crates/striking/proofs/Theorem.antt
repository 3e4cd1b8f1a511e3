-- Demand 3, proved for the whole call. Assumes nothing.
use Prim.Native.Nat.{ℕ, ◌+◌, ◌≤◌, ◌<◌}
use native.Mathlib.Nat.{le_refl}
use native.Mathlib.Omega.{arith}
use borrow.Author.Tests.{le-leb}
use mathlib.Core.Path.{◌≡◌, refl, sym, ap, ◌∙◌, subst}
use mathlib.Core.Logic.{inl, inr}
use mathlib.Core.Bool.{Bool}
use mathlib.Core.List.{List, ◌++◌}
use lib.ListN.{length, drop, replicate, length-replicate}
use lib.Dec.{leb}
use Rattle.floats.specs.Outcome.{Out, ok, no, bind}
use Rattle.floats.proofs.Outcomes.{need_yes, bind_yes}
use Rattle.blocks.specs.declared.Rule.{Rule}
use Rattle.book.specs.Places.{words}
use Rattle.book.specs.Book.{molar_mass, book_of, rule_of}
use Rattle.book.specs.declared.Head.{Head}
use Rattle.book.proofs.Accepted as open-book
use Rattle.question.specs.Asked.{question_of}
use Rattle.question.specs.declared.Question.{Question}
use Rattle.thermo_models.specs.Mixture.{mixture_of}
use Rattle.replies.specs.Blocks.{answer_room}
use Rattle.sheet.specs.Tasks.{task_of}
use Rattle.sheet.specs.Sheet.{answer_to, roomy, question_to, sheet_from, sheet_of, number_of, written}
use Rattle.refusals.proofs.Theorem.{zero_is-answer}
use Rattle.striking.specs.Places.{cnt}
use Rattle.striking.specs.Accepted.{Acc}
use Rattle.striking.specs.Books.{ShorterBook, shorter_head}
use Rattle.striking.specs.Words.{SameWord}
use Rattle.striking.specs.Questions.{kept_in, ShorterQuestion, solvents, Shorter}
use Rattle.striking.specs.Sheets.{SameEntries, SameHead, SameTrialBlock, SameSheet}
use Rattle.striking.specs.Theorem.{Accepted, Demand3, Calls, Meet, EqualAnswer, EqualTrial, EqualSheet, SameDrum, Worded}
use Rattle.striking.proofs.Acc.{acc_ok, acc_no, acc_bind, acc_passed, accepted}
use Rattle.striking.proofs.Books.{model-same, shorter-solvents, shorter-pairs, strike_book, KeptMasses, strike_masses, rule-same}
use Rattle.striking.proofs.Questions.{absent_zero, with_feed, SameQuestion, strike_question}
use Rattle.striking.proofs.Tasks.{strike_mixture}
use Rattle.striking.proofs.Answers.{SameAnswer, strike_task}
use Rattle.striking.proofs.Sheets.{sheet_same}

-- the bytes of two answers, whatever stands behind them
Alike : (ℕ → Bool) → ℕ → List ℕ → List ℕ → Type 0
Alike keep n bs bs' = (r r' : List ℕ) → SameSheet keep n (bs ++ r) (bs' ++ r')

module _ (book question book' question' : List ℕ) (h : Head) (opened : book_of book ≡ ok h) (hb : ShorterBook (kept_in question) h.n book book')
    (hq : ShorterQuestion (rule_of book') (kept_in question) h.n question question') (room' : ℕ) (enough : answer_room ≤ room') where
  abbrev keep : ℕ → Bool
  keep = kept_in question

  abbrev n : ℕ
  n = h.n

  few : n ≤ 8
  few = (open-book.accepted book opened).few

  -- the shorter call, once its question is read
  opened' : (q' : Question) → 0 < cnt keep n → question_to book' h.version (cnt keep n) question' ≡ ok q' → sheet_of book' question' room' ≡ answer_to book' (cnt keep n) q'
  unfolding sheet_of sheet_from roomy shorter_head
  opened' q' some e = bind_yes _ (strike_book keep h book book' hb some opened) ∙ need_yes 10 _ (le-leb answer_room room' enough) ∙ bind_yes _ e

  answers : (q q' : Question) → SameQuestion keep n q q' → Acc (Alike keep n) (answer_to book n q) (answer_to book' (cnt keep n) q')
  unfolding answer_to Alike with_feed
  answers q q' s =
      acc_bind (SameAnswer keep n) (task_of (mixture_of book n) q) (task_of (mixture_of book' (cnt keep n)) q') _ _
      (strike_task keep n few _ _ (strike_mixture keep n few book book' (model-same keep n book book' hb) (shorter-solvents keep n book book' hb) (shorter-pairs keep n book book' hb)) q q' s) (λ a a' t.
      acc_ok (λ r r'. rw (← rule-same keep h book book' hb opened, ← same-task) (sheet_same keep n few (rule_of book) q.task a a' t r r')))
    where
      same-task : q.task ≡ q'.task
      same-task = sym (ap (λ (x : Question). x.task) s.rest)

  masses : KeptMasses keep h.version n (molar_mass (words book)) (molar_mass (words book'))
  masses = strike_masses keep h book book' hb opened

  asked : Acc (Alike keep n) (bind (question_to book h.version n question) (answer_to book n)) (sheet_of book' question' room')
  unfolding bind
  asked =
      go (question_to book h.version n question)
      (subst (λ (rule : Rule). Acc (λ (a b : Question). SameQuestion keep n a b × (0 < cnt keep n)) (question_of rule question h.version (molar_mass (words book)) n) (question_to book' h.version (cnt keep n) question'))
      (sym (rule-same keep h book book' hb opened)) (strike_question keep n few (rule_of book') question question' hq h.version _ _ masses (λ i l t. absent_zero question i t)))
    where
      go : (o : Out Question) → Acc (λ (a b : Question). SameQuestion keep n a b × (0 < cnt keep n)) o (question_to book' h.version (cnt keep n) question')
          → Acc (Alike keep n) (bind o (answer_to book n)) (sheet_of book' question' room')
      go (no r) h = acc_no _
      go (ok q) h =
          let p = accepted h in
          subst (λ (o : Out (List ℕ)). Acc (Alike keep n) (answer_to book n q) o) (sym (opened' p.0 p.2.1 p.1)) (answers q p.0 p.2.0)

-- the whole call, for any two answer slices
strike_sheet : (book question book' question' : List ℕ) → Shorter book question book' question' → (room room' : ℕ) → answer_room ≤ room'
    → Acc (Alike (kept_in question) (solvents book)) (sheet_of book question room) (sheet_of book' question' room')
unfolding sheet_of sheet_from roomy bind
strike_sheet book question book' question' h room room' enough = go (book_of book) refl
  where
    go : (o : Out Head) → book_of book ≡ o → Acc (Alike (kept_in question) (solvents book)) (bind o (λ g. sheet_from book g.version g.n question room)) (sheet_of book' question' room')
    go (no r) e = acc_no _
    go (ok g) e =
        let c : solvents book ≡ g.n = (open-book.accepted book e).count in
        subst (λ (m : ℕ). Acc (Alike (kept_in question) m) (sheet_from book g.version g.n question room) (sheet_of book' question' room')) (sym c)
        (acc_passed (leb answer_room room) 10 _ _
        (asked book question book' question' g e (subst (λ (m : ℕ). ShorterBook (kept_in question) m book book') c h.of_book)
        (subst (λ (m : ℕ). ShorterQuestion (rule_of book') (kept_in question) m question question') c h.of_question) room' enough))

-- what was written to a slice stands before what stood there
accepted-is : {A : Type 0} (o : Out A) → Accepted o → (a : A) × (o ≡ ok a)
unfolding Accepted
accepted-is (ok a) h = (a, refl)
accepted-is (no r) h = absurd h

pub striking : Demand3
unfolding Alike Accepted written
striking book question book' question' h old old' enough took =
    let p = accepted-is (sheet_of book question (length old)) took in
    let q = accepted (subst (λ (o : Out (List ℕ)). Acc (Alike (kept_in question) (solvents book)) o (sheet_of book' question' (length old'))) p.1 (strike_sheet book question book' question' h (length old) (length old') enough)) in
    rw (p.1, q.1) (tt, q.2 (drop (length p.0) old) (drop (length q.0) old'))

-- 0 means an answer, since every refusal has a number
pub striking_calls : Calls
unfolding Accepted number_of
striking_calls book question book' question' h old new old' new' r' enough a b =
    let p = zero_is-answer book question (length old) (sym a.number) in
    let q = striking book question book' question' h old old' enough (rw p.1 tt) in
    let o = accepted-is (sheet_of book' question' (length old')) q.0 in
    (b.number ∙ rw o.1, rw (a.bytes, b.bytes) q.1)

-- ---- the corollary: both calls against the shorter one
word_sym : {a b : ℕ} → SameWord a b → SameWord b a
word_sym h = elim h.either [
  | inl e ↦ record { either = inl (sym e) }
  | inr z ↦ record { either = inr (z.1, z.0) }
]

word_trans : {a b c : ℕ} → SameWord a b → SameWord b c → SameWord a c
word_trans {a} {b} {c} h g = elim h.either [
  | inl e ↦ subst (λ (x : ℕ). SameWord x c) (sym e) g
  | inr z ↦ elim g.either [
    | inl e ↦ subst (λ (x : ℕ). SameWord a x) e h
    | inr y ↦ record { either = inr (z.0, y.1) }
  ]
]

-- the answers s and s' of the two, u and u' of the shorter
meets : {a b c : ℕ} → SameWord a c → SameWord b c → SameWord a b
meets h g = word_trans h (word_sym g)

module _ (keep : ℕ → Bool) (n : ℕ) (keep' : ℕ → Bool) (n' : ℕ) where
  entries : {f : ℕ} {w w' v : ℕ → ℕ} → SameEntries keep n f w v → SameEntries keep' n' f w' v → (i j : ℕ) → Meet keep n keep' n' i j → SameWord (w (f + i)) (w' (f + j))
  entries {f} {w} {w'} {v} h g i j m =
      meets (h.entry i m.below m.kept) (subst (λ (k : ℕ). SameWord (w' (f + j)) (v (f + k))) (sym m.place) (g.entry j m.below' m.kept'))

  equal-answer : {w w' v : ℕ → ℕ} → SameHead keep n w v → SameHead keep' n' w' v → EqualAnswer keep n keep' n' w w'
  equal-answer h g = record {
    front = λ k l. meets (h.front k l) (g.front k l);
    liquid = entries h.liquid g.liquid;
    vapor = entries h.vapor g.vapor;
    back = λ k l m. meets (h.back k l m) (g.back k l m);
  }

  equal-trial : {w w' v : ℕ → ℕ} → SameTrialBlock keep n w v → SameTrialBlock keep' n' w' v → EqualTrial keep n keep' n' w w'
  equal-trial h g = record {
    kind = meets h.kind g.kind;
    component = record { below = h.below; kept = h.kept; below' = g.below; kept' = g.kept; place = h.component ∙ sym g.component };
    front = λ k l m. meets (h.front k l m) (g.front k l m);
    fractions = entries h.fractions g.fractions;
    back = λ k l m. meets (h.back k l m) (g.back k l m);
  }

  equal_sheet : {s s' u : List ℕ} → SameSheet keep n s u → SameSheet keep' n' s' u → EqualSheet keep n keep' n' s s'
  equal_sheet h g = record {
    answer = equal-answer h.answer g.answer;
    count = h.count ∙ sym g.count;
    trials = λ b l m. equal-trial (h.trials b l m) (g.trials b l (omega (arith, h.count, g.count)));
  }

-- an answer slice that passes question 10
room : List ℕ
room = replicate answer_room 0

enough : answer_room ≤ length room
unfolding room
enough = rw (length-replicate {A = ℕ} answer_room 0) (le_refl answer_room)

pub same-drum : SameDrum
same-drum book question book' question' short ask h g old old' took took' =
    equal_sheet (kept_in question) (solvents book) (kept_in question') (solvents book')
    (striking book question short ask h old room enough took).1
    (striking book' question' short ask g old' room enough took').1

-- demand 3 as the scope words it for bubble temperature, and for dew temperature: the premise isn't used
pub striking_4 : Worded 4
striking_4 tried book question book' question' h task premise = striking book question book' question' h

pub striking_5 : Worded 5
striking_5 tried book question book' question' h task premise = striking book question book' question' h
