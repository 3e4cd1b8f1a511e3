-- Striking carries over to a distance where each refused step that was tried leaves the domain: each step of the shorter call is refused or has the outcome of the longer one's. Assumes nothing.
use Prim.Native.Nat.{ℕ, zero, suc, ◌≤◌, ◌<◌}
use native.Mathlib.Nat.{le_refl}
use native.Mathlib.Omega.{arith}
use mathlib.Core.Path.{◌≡◌, refl, sym, ap, ◌∙◌, subst}
use mathlib.Core.Logic.{◌⊎◌, inl, inr}
use mathlib.Core.Bool.{Bool, true, false, not, cond}
use mathlib.Core.List.{List}
use lib.Dec.{T, eqb}
use lib.Ieee.{Float}
use Rattle.floats.specs.Fold.{fold_to}
use Rattle.floats.specs.Outcome.{Out, ok, no}
use Rattle.floats.proofs.Outcomes.{bind_yes, bind_inv}
use Rattle.thermo_types.specs.Quantities.{positive_of}
use Rattle.blocks.specs.declared.Rule.{Rule}
use Rattle.blocks.specs.Words.{word}
use Rattle.book.specs.declared.Head.{Head}
use Rattle.book.specs.Places.{words}
use Rattle.book.specs.Book.{molar_mass, rule_of}
use Rattle.book.proofs.Accepted as open-book
use Rattle.thermo_models.specs.Model.{pressure_in_domain}
use Rattle.thermo_models.specs.Mixture.{mixture_of, activity}
use Rattle.tp_flash.specs.Tp.{phases_of}
use Rattle.question.specs.declared.Question.{Question}
use Rattle.question.specs.Asked.{question_of}
use Rattle.replies.specs.Blocks.{Answer}
use Rattle.sheet.specs.Tasks.{task_of}
use Rattle.sheet.specs.Sheet.{question_to}
use Rattle.striking.specs.Places.{cnt}
use Rattle.striking.specs.Accepted.{Acc}
use Rattle.striking.specs.Books.{ShorterBook, shorter_head}
use Rattle.striking.specs.Questions.{kept_in, solvents, ShorterQuestion, Shorter}
use Rattle.striking.proofs.Acc.{accepted}
use Rattle.striking.proofs.Books.{model-same, shorter-solvents, shorter-pairs, strike_book, strike_masses, rule-same}
use Rattle.striking.proofs.Questions.{absent_zero, with_feed, SameQuestion, strike_question}
use Rattle.striking.proofs.Tasks.{strike_mixture}
use Rattle.striking.proofs.Answers.{SameAnswer, strike_task}
use Rattle.distance.specs.declared.Distance.TheVariants.{Step, None}
use Rattle.distance.specs.Distance.{step_count, step_word, pressure_at, at_pressure, outcome_at, distance_of}
use Rattle.distance.specs.Steps.{phases_in}
use Rattle.distance.proofs.Central.{outcome, outcome-at}
use Rattle.distances.specs.First.{changes, is_refused, refused_to, First, step_outcome}
use Rattle.distances.specs.Striking.{Leaving, Tried, DistanceStrikes}
use Rattle.distances.proofs.Search.{ends-first, ends-no-step}
use Rattle.distances.proofs.First.{Read, read_of, warm, steps, searches, ends_of}
use Rattle.distances.proofs.Inner.{leaves, in_outcome}

-- ---- two rows of outcomes, alike in every step below k
pub record Alike (x x' : Out ℕ) : Type 0 where
  pub both : ((v : ℕ) × (x ≡ ok v) × (x' ≡ ok v)) ⊎ ((r : ℕ) × (s : ℕ) × (x ≡ no r) × (x' ≡ no s))

changes-alike : (o : ℕ) {x x' : Out ℕ} → Alike x x' → changes o x ≡ changes o x'
unfolding changes
changes-alike o h = elim h.both [
  | inl w ↦ rw (w.1, w.2)
  | inr w ↦ rw (w.2, w.3)
]

refused-alike : {x x' : Out ℕ} → Alike x x' → is_refused x ≡ is_refused x'
unfolding is_refused
refused-alike h = elim h.both [
  | inl w ↦ rw (w.1, w.2)
  | inr w ↦ rw (w.2, w.3)
]

module _ (g g' : ℕ → Out ℕ) (k : ℕ) (alike : (i : ℕ) → i < k → Alike (g i) (g' i)) where
  count-alike : (m : ℕ) → m ≤ k → refused_to g m ≡ refused_to g' m
  unfolding refused_to fold_to
  count-alike zero l = refl
  count-alike (suc m) l = rw (count-alike m (omega arith), refused-alike (alike m (omega arith)))

  first_alike : {o o' : ℕ} → First g o k o' → g' k ≡ ok o' → First g' o k o'
  first_alike {o} f e = record { below = f.below; here = e; other = f.other; before = λ i l. sym (changes-alike o (alike i l)) ∙ f.before i l }

-- ---- the longer call, read at P, and the shorter
module _ (book ask book' ask' : List ℕ) (shorter : Shorter book ask book' ask') (seven : word ask 1 ≡ 7) {o : ℕ} (r : Read book ask o) where
  abbrev keep : ℕ → Bool
  keep = kept_in ask

  abbrev n : ℕ
  n = r.head.n

  few : n ≤ 8
  few = (open-book.accepted book r.opened).few

  count : solvents book ≡ n
  count = (open-book.accepted book r.opened).count

  hb : ShorterBook keep n book book'
  hb = subst (λ (m : ℕ). ShorterBook keep m book book') count shorter.of_book

  hq : ShorterQuestion (rule_of book') keep n ask ask'
  hq = subst (λ (m : ℕ). ShorterQuestion (rule_of book') keep m ask ask') count shorter.of_question

  read' : (q' : Question) × (question_to book' r.head.version (cnt keep n) ask' ≡ ok q') × (SameQuestion keep n r.question q' × (0 < cnt keep n))
  read' =
      accepted
      (subst (λ (x : Out Question). Acc (λ (a b : Question). SameQuestion keep n a b × (0 < cnt keep n)) x (question_to book' r.head.version (cnt keep n) ask')) r.asked
      (subst (λ (rule : Rule). Acc (λ (a b : Question). SameQuestion keep n a b × (0 < cnt keep n)) (question_of rule ask r.head.version (molar_mass (words book)) n) (question_to book' r.head.version (cnt keep n) ask'))
      (sym (rule-same keep r.head book book' hb r.opened))
      (strike_question keep n few (rule_of book') ask ask' hq r.head.version _ _ (strike_masses keep r.head book book' hb r.opened) (λ i l t. absent_zero ask i t))))

  abbrev q' : Question
  q' = read'.0

  alike-question : SameQuestion keep n r.question q'
  alike-question = read'.2.0

  same-pressure : r.question.pressure ≡ q'.pressure
  unfolding with_feed
  same-pressure = sym (ap (λ (x : Question). x.pressure) alike-question.rest)

  same-task : r.question.task ≡ q'.task
  unfolding with_feed
  same-task = sym (ap (λ (x : Question). x.task) alike-question.rest)

  at-alike : (p : Float) → SameQuestion keep n (at_pressure r.question p) (at_pressure q' p)
  unfolding with_feed
  at-alike p = record { rest = ap (λ (x : Question). at_pressure x p) alike-question.rest; feed = alike-question.feed; ratios = alike-question.ratios }

  -- an accepted step is accepted, with the same outcome
  accepts : (p : Float) {v : ℕ} → outcome_at book n r.question p ≡ ok v → outcome_at book' (cnt keep n) q' p ≡ ok v
  unfolding outcome_at
  accepts p {v} e =
      let a = bind_inv (task_of (mixture_of book n) (at_pressure r.question p)) _ e in
      let b = accepted
      (subst (λ (x : Out Answer). Acc (SameAnswer keep n) x (task_of (mixture_of book' (cnt keep n)) (at_pressure q' p))) a.1
      (strike_task keep n few _ _
      (strike_mixture keep n few book book' (model-same keep n book book' hb) (shorter-solvents keep n book book' hb) (shorter-pairs keep n book book' hb))
      (at_pressure r.question p) (at_pressure q' p) (at-alike p))) in
      bind_yes _ b.1 ∙ ap ok (sym b.2.outcome) ∙ a.2

  shorter-read : Read book' ask' o
  unfolding shorter_head
  shorter-read = record {
    head = shorter_head keep r.head;
    opened = strike_book keep r.head book book' hb read'.2.1 r.opened;
    question = q';
    asked = read'.1;
    seven = sym same-task ∙ r.seven;
    outcome = subst (λ (p : Float). outcome_at book' (cnt keep n) q' p ≡ ok o) same-pressure (accepts r.question.pressure r.outcome);
  }

  seven' : word ask' 1 ≡ 7
  seven' = sym (hq.head 1 (omega arith)) ∙ seven

  -- a step that leaves the domain leaves it
  refuses : (p : Float) {s : ℕ} → (s ≡ 14) ⊎ (s ≡ 23) → outcome_at book n r.question p ≡ no s → (i : ℕ) × (outcome_at book' (cnt keep n) q' p ≡ no i)
  unfolding outcome_at outcome shorter_head shorter-read
  refuses p l e =
      let w = warm book ask seven r in
      let w' = warm book' ask' seven' shorter-read in
      let u = outcome-at (mixture_of book n) r.question r.seven w.warm w.inside w.pure p in
      let u' = outcome-at (mixture_of book' (cnt keep n)) q' (sym same-task ∙ r.seven) w'.warm w'.inside w'.pure p in
      let z = leaves (positive_of p 14) pressure_in_domain _
      (λ v. phases_in (phases_of (activity (mixture_of book' (cnt keep n)) w'.t) (cnt keep n) q'.options q'.fractions v w'.ps))
      (in_outcome book n w.t r.question.options r.question.fractions w.ps) l (sym u ∙ e) in
      (z.0, u' ∙ z.1)

  -- ---- the steps
  step-accepts : (j : ℕ) {v : ℕ} → step_outcome book ask j ≡ ok v → step_outcome book' ask' j ≡ ok v
  unfolding shorter_head shorter-read
  step-accepts j e =
      steps book' ask' seven' shorter-read j
      ∙ ap (λ (P : Float). outcome_at book' (cnt keep n) q' (pressure_at P j)) (sym same-pressure)
      ∙ accepts (pressure_at r.question.pressure j) (sym (steps book ask seven r j) ∙ e)

  step-refuses : (j : ℕ) {s : ℕ} → (s ≡ 14) ⊎ (s ≡ 23) → step_outcome book ask j ≡ no s → (i : ℕ) × (step_outcome book' ask' j ≡ no i)
  unfolding shorter_head shorter-read
  step-refuses j l e =
      let z = refuses (pressure_at r.question.pressure j) l (sym (steps book ask seven r j) ∙ e) in
      (z.0, steps book' ask' seven' shorter-read j ∙ ap (λ (P : Float). outcome_at book' (cnt keep n) q' (pressure_at P j)) (sym same-pressure) ∙ z.1)

  module _ (k : ℕ) (leaving : Leaving book ask k) where
    alike : (i : ℕ) → i < k → Alike (step_outcome book ask i) (step_outcome book' ask' i)
    alike i l = go (step_outcome book ask i) refl
      where
        go : (x : Out ℕ) → step_outcome book ask i ≡ x → Alike (step_outcome book ask i) (step_outcome book' ask' i)
        go (ok v) e = record { both = inl (v, e, step-accepts i e) }
        go (no s) e =
            let z = step-refuses i (leaving i s l e) e in
            record { both = inr (s, z.0, e, z.1) }

    strikes : Tried book ask o k → distance_of book ask ≡ distance_of book' ask'
    strikes (inl (o', f)) =
        searches book ask seven r
        ∙ ap ok (ends-first _ o (ends_of book ask seven r) k o' f
        ∙ ap (Step (step_word k) o') (count-alike _ _ k alike k (le_refl k))
        ∙ sym (ends-first _ o (ends_of book' ask' seven' shorter-read) k o' (first_alike _ _ k alike f (step-accepts k f.here))))
        ∙ sym (searches book' ask' seven' shorter-read)
    strikes (inr (e, none)) =
        searches book ask seven r
        ∙ ap ok (ends-no-step _ o (ends_of book ask seven r) none
        ∙ ap None (count-alike _ _ k alike step_count (omega arith))
        ∙ sym (ends-no-step _ o (ends_of book' ask' seven' shorter-read) (λ j l. sym (changes-alike o (alike j (omega arith))) ∙ none j l)))
        ∙ sym (searches book' ask' seven' shorter-read)

pub distance-strikes : DistanceStrikes
distance-strikes book question book' question' o k h seven e tried leaving = strikes book question book' question' h seven (read_of book question seven e) k leaving tried
