-- Every task is struck, up to the words of its answer, for any two mixtures that are the same for the solvents kept. Assumes nothing.
use mathlib.Core.Path.{◌≡◌, refl, sym, ap, ◌∙◌, subst}
use mathlib.Core.Logic.{inl}
use Prim.Native.Nat.{ℕ, zero, suc, ◌≤◌, ◌<◌}
use native.Mathlib.Omega.{arith}
use mathlib.Core.Bool.{Bool}
use mathlib.Core.List.{List, [], ◌∷◌}
use lib.ListN.{get_or}
use lib.Dec.{T}
use lib.Ieee.{Float}
use Rattle.floats.specs.Arithmetic.{0f}
use Rattle.floats.specs.Vector.{at}
use Rattle.floats.specs.Outcome.{ok, no}
use Rattle.counted.specs.Counted.{told, count_word}
use Rattle.thermo_types.specs.Quantities.{positive_of}
use Rattle.blocks.specs.Bytes.{word_at}
use Rattle.excess.specs.State.{Excess}
use Rattle.thermo_models.specs.declared.Assessment.{Assessment}
use Rattle.thermo_models.specs.Mixture.{Mixture, activity}
use Rattle.rachford_rice.specs.declared.RachfordRiceOutcome.{RachfordRiceOutcome}
use Rattle.rachford_rice.specs.declared.RachfordRiceOutcome.TheVariants.{LiquidOnly, VaporOnly, TwoPhase}
use Rattle.rachford_rice.specs.Rachford.{Solution}
use Rattle.saturation.specs.Saturation.{Saturation}
use Rattle.liquid_stability.specs.Stability.{Trials, no_trial, stability_of}
use Rattle.tp_flash.specs.Tp.{Flash, trials_of}
use Rattle.question.specs.declared.Question.{Question}
use Rattle.replies.specs.declared.State.{State}
use Rattle.replies.specs.declared.ModelState.{ModelState}
use Rattle.replies.specs.Blocks.{bit, status_number, state_words, model_words, Answer}
use Rattle.replies.specs.Answers.{excess_block, saturation_block, stability_block, phase_number, flash_block, rice_block}
use Rattle.sheet.specs.Tasks.{alone, excess_found, saturated, task1, task2, task3, task4, task5, task6, task7_counted, task7, task8, task9}
use Rattle.sheet.specs.Tasks.{task_at, task_under, task_split, task_of}
use Rattle.liquid_stability.proofs.Counts.{stability_few}
use Rattle.tp_flash.proofs.Counts.{flash_few}
use Rattle.tp_flash.proofs.Forgets.{flash-outcome}
use Rattle.zeros.specs.Same.{◌≈◌}
use Rattle.zeros.proofs.Congruence.{same, ≈refl}
use Rattle.striking.specs.Places.{cnt}
use Rattle.striking.specs.Accepted.{Acc}
use Rattle.striking.specs.Related.{Fractions, SameExcess}
use Rattle.striking.specs.Results.{SameSolution, SameRice, SameSaturation, SameTrial, SameTrials, SameFlash}
use Rattle.striking.specs.Words.{SameWord}
use Rattle.striking.proofs.Acc.{acc_ok, acc_no, acc_same, acc_bind, acc_then, acc_need, acc_if, acc_known}
use Rattle.striking.proofs.Excess.{is_finite_≈}
use Rattle.striking.proofs.Vectors.{zeros-kept}
use Rattle.striking.proofs.Words.{same_word}
use Rattle.striking.proofs.Questions.{with_feed, SameQuestion}
use Rattle.striking.proofs.Tasks.{SameFeed, SameMixture}
use Rattle.striking.proofs.Tasks as struck

-- ---- words
pub word_same : {a b : ℕ} → a ≡ b → SameWord a b
word_same e = record { either = inl e }

-- lists of words, entry by entry
pub record SameWords (xs ys : List ℕ) : Type 0 where
  pub entry : (k : ℕ) → SameWord (word_at xs k) (word_at ys k)

end : SameWords [] []
end = record { entry = λ k. word_same refl }

same-words : (xs : List ℕ) → SameWords xs xs
same-words xs = record { entry = λ k. word_same refl }

infixr 40 ◌then◌
◌then◌ : {x y : ℕ} {xs ys : List ℕ} → SameWord x y → SameWords xs ys → SameWords (x ∷ xs) (y ∷ ys)
◌then◌ {x} {y} {xs} {ys} p q = record { entry = go }
  where
    go : (k : ℕ) → SameWord (word_at (x ∷ xs) k) (word_at (y ∷ ys) k)
    go zero = p
    go (suc k) = q.entry k

same-state : (s s' : State) → s.temperature ≈ s'.temperature → s.pressure ≈ s'.pressure → s.bubble ≈ s'.bubble → s.dew ≈ s'.dew → s.iterations ≡ s'.iterations
    → s.residual ≈ s'.residual → s.balance ≈ s'.balance → s.vapor_fraction ≈ s'.vapor_fraction → s.trials ≡ s'.trials → s.notes ≡ s'.notes
    → SameWords (state_words s) (state_words s')
unfolding state_words
same-state s s' a b c d e f g h i j =
    same_word a then same_word b then same_word c then same_word d then word_same e then same_word f then same_word g then same_word h then word_same i then word_same j then end

same-model : (m m' : ModelState) → m.reduced ≈ m'.reduced → m.gibbs ≈ m'.gibbs → m.enthalpy ≈ m'.enthalpy → m.entropy ≈ m'.entropy → m.heat_capacity ≈ m'.heat_capacity
    → m.validity ≡ m'.validity → m.inferred ≡ m'.inferred → m.stable ≡ m'.stable → m.evaluations ≡ m'.evaluations
    → SameWords (model_words m) (model_words m')
unfolding model_words
same-model m m' a b c d e f g h i =
    same_word a then same_word b then same_word c then same_word d then same_word e then word_same (ap status_number f) then word_same (ap bit g)
    then word_same (ap bit h) then word_same i then end

-- what two answers have in common
pub record SameAnswer (keep : ℕ → Bool) (n : ℕ) (a b : Answer) : Type 0 where
  pub outcome : a.block.outcome ≡ b.block.outcome
  pub state : SameWords (state_words a.block.state) (state_words b.block.state)
  pub liquid : (i : ℕ) → i < n → T (keep i) → at a.block.liquid i ≈ at b.block.liquid (cnt keep i)
  pub vapor : (i : ℕ) → i < n → T (keep i) → at a.block.vapor i ≈ at b.block.vapor (cnt keep i)
  pub model : SameWords (model_words a.block.model) (model_words b.block.model)
  pub few : a.block.state.trials ≤ n
  pub count : a.block.state.trials ≡ b.block.state.trials
  pub trials : (k : ℕ) → k < a.block.state.trials → SameTrial keep n (get_or a.trials k no_trial) (get_or b.trials k no_trial)

zero_≈ : 0f ≈ 0f
zero_≈ = ≈refl 0f

none : {A : Type 0} (k : ℕ) → k < 0 → A
none k l = absurd (omega arith)

module _ (keep : ℕ → Bool) (n : ℕ) (small : n ≤ 8) where
  excess-answer : (t : Float) (e e' : Excess) (v v' : Assessment) → SameExcess keep n e e' → v ≡ v' → SameAnswer keep n (alone (excess_block t e v)) (alone (excess_block t e' v'))
  excess-answer t e e' v v' s w = record {
    outcome = refl;
    state = same-words _;
    liquid = s.ln_gamma;
    vapor = s.slopes;
    model = same-model _ _ s.reduced s.gibbs s.enthalpy s.entropy s.heat_capacity (ap (λ (x : Assessment). x.status) w)
        (ap (λ (x : Assessment). x.inferred) w) refl refl;
    few = omega arith;
    count = refl;
    trials = λ k h. none k h;
  }

  saturation_answer_lem : (s s' : Saturation) → SameSaturation keep n s s' → SameAnswer keep n (alone (saturation_block s)) (alone (saturation_block s'))
  saturation_answer_lem s s' h = record {
    outcome = refl;
    state = same-state _ _ (same h.temperature) (same h.pressure) zero_≈ zero_≈ h.iterations h.residual zero_≈ zero_≈ refl refl;
    liquid = h.liquid.fraction;
    vapor = h.vapor.fraction;
    model = same-words _;
    few = omega arith;
    count = refl;
    trials = λ k l. none k l;
  }

  rice-answer : (o : RachfordRiceOutcome) (x x' y y' : List Float) → Fractions keep n (at x) (at x') → Fractions keep n (at y) (at y') → SameAnswer keep n (alone (rice_block o x y)) (alone (rice_block o x' y'))
  unfolding rice_block
  rice-answer LiquidOnly x x' y y' p q = record { outcome = refl; state = same-words _; liquid = p.fraction; vapor = q.fraction; model = same-words _; few = omega arith; count = refl; trials = λ k l. none k l }
  rice-answer VaporOnly x x' y y' p q = record { outcome = refl; state = same-words _; liquid = p.fraction; vapor = q.fraction; model = same-words _; few = omega arith; count = refl; trials = λ k l. none k l }
  rice-answer (TwoPhase β r c) x x' y y' p q = record { outcome = refl; state = same-words _; liquid = p.fraction; vapor = q.fraction; model = same-words _; few = omega arith; count = refl; trials = λ k l. none k l }

  -- ---- answers with trials
  stability_answer_lem : (s s' : Trials) → SameTrials keep n s s' → s.count ≤ n
      → SameAnswer keep n (record { block = stability_block s.stable s.count; trials = s.trials }) (record { block = stability_block s'.stable s'.count; trials = s'.trials })
  stability_answer_lem s s' h l = record {
    outcome = refl;
    state = same-state _ _ zero_≈ zero_≈ zero_≈ zero_≈ refl zero_≈ zero_≈ zero_≈ h.count refl;
    liquid = zeros-kept keep n small;
    vapor = zeros-kept keep n small;
    model = same-model _ _ zero_≈ zero_≈ zero_≈ zero_≈ zero_≈ refl refl h.stable refl;
    few = l;
    count = h.count;
    trials = h.trials;
  }

  -- word 38: as many evaluations
  flash_answer_lem : (t p : Float) (f f' : Flash) (k k' : ℕ) → SameFlash keep n f f' → k ≡ k' → (trials_of f).count ≤ n
      → SameAnswer keep n (record { block = flash_block t p f k; trials = (trials_of f).trials })
      (record { block = flash_block t p f' k'; trials = (trials_of f').trials })
  flash_answer_lem t p f f' k k' h e l = record {
    outcome = ap phase_number h.phases;
    state = same-state _ _ (≈refl t) (≈refl p) (same h.bubble) (same h.dew) h.iterations h.residual h.balance (same h.vapor_fraction) h.trials.count h.notes;
    liquid = h.liquid.fraction;
    vapor = h.vapor.fraction;
    model = same-model _ _ zero_≈ zero_≈ zero_≈ zero_≈ zero_≈ refl refl h.tested e;
    few = l;
    count = h.trials.count;
    trials = h.trials.trials;
  }

-- ---- the tasks, for a question a and the same with the shorter feed z' and K k'
module _ (keep : ℕ → Bool) (n : ℕ) (small : n ≤ 8) (m m' : Mixture) (hm : SameMixture keep n m m') (a : Question) (z' k' : List Float) (s : SameFeed keep n a.fractions z')
    (ek : (i : ℕ) → i < n → T (keep i) → at a.ratios i ≡ at k' (cnt keep i)) where
  abbrev z : List Float
  z = a.fractions

  abbrev b : Question
  b = with_feed a z' k'

  fewer : {c : ℕ} → c ≤ m.n → c ≤ n
  fewer l = omega (arith, l, hm.count)

  strike_1 : (t : Float) → Acc (SameAnswer keep n) (task1 m a t) (task1 m' b t)
  unfolding task1 excess_found with_feed
  strike_1 t =
      acc_bind (SameExcess keep n) _ _ _ _ (hm.excess t z z' (struck.feed-fractions keep n s)) (λ e e' h.
      acc_need _ _ 25 _ _ (subst T (is_finite_≈ h.reduced)) (λ f.
      acc_ok (excess-answer keep n small t e e' _ _ h (hm.validity t z z' s))))

  strike_2 : (t : Float) → Acc (SameAnswer keep n) (task2 m a t) (task2 m' b t)
  unfolding task2 saturated with_feed
  strike_2 t = acc_bind (SameSaturation keep n) _ _ _ _ (struck.task2 keep n small m m' hm z z' s t) (λ u u' h. acc_ok (saturation_answer_lem keep n small u u' h))

  strike_3 : (t : Float) → Acc (SameAnswer keep n) (task3 m a t) (task3 m' b t)
  unfolding task3 saturated with_feed
  strike_3 t = acc_bind (SameSaturation keep n) _ _ _ _ (struck.task3 keep n small m m' hm z z' s a.options t) (λ u u' h. acc_ok (saturation_answer_lem keep n small u u' h))

  strike_4 : (p : Float) → Acc (SameAnswer keep n) (task4 m a p) (task4 m' b p)
  unfolding task4 saturated with_feed
  strike_4 p = acc_bind (SameSaturation keep n) _ _ _ _ (struck.task4 keep n small m m' hm z z' s a.options p) (λ u u' h. acc_ok (saturation_answer_lem keep n small u u' h))

  strike_5 : (p : Float) → Acc (SameAnswer keep n) (task5 m a p) (task5 m' b p)
  unfolding task5 saturated with_feed
  strike_5 p = acc_bind (SameSaturation keep n) _ _ _ _ (struck.task5 keep n small m m' hm z z' s a.options p) (λ u u' h. acc_ok (saturation_answer_lem keep n small u u' h))

  strike_6 : (t : Float) → Acc (SameAnswer keep n) (task6 m a t) (task6 m' b t)
  unfolding task6 with_feed
  strike_6 t =
      acc_bind (λ (u u' : Trials). SameTrials keep n u u' × (stability_of (activity m t) m.n a.options z ≡ ok u)) _ _ _ _
      (acc_known (SameTrials keep n) _ _ (struck.task6 keep n small m m' hm z z' s a.options t)) (λ u u' h.
      acc_ok (stability_answer_lem keep n small u u' h.0 (fewer ((stability_few (activity m t) m.n a.options z).each u h.1).count)))

  strike_7 : (t p : Float) → Acc (SameAnswer keep n) (task7 m a t p) (task7 m' b t p)
  unfolding task7 task7_counted told with_feed
  strike_7 t p =
      acc_bind _ _ _ _ _ (acc_known _ _ _ (struck.task7 keep n small m m' hm z z' s a.options t p).counted) (λ f f' h.
      let found = sym (flash-outcome (activity m) m.liquids m.domain m.n a.options t z p) ∙ h.1 in
      let few = (flash_few (activity m) m.liquids m.domain m.n a.options t z p f found).count in
      acc_ok (flash_answer_lem keep n small t p f f' _ _ h.0.0 (ap count_word h.0.1) (fewer few)))

  strike_8 : Acc (SameAnswer keep n) (task8 m a) (task8 m' b)
  unfolding task8 with_feed
  strike_8 =
      acc_bind (SameRice keep n) _ _ _ _ (struck.task8 keep n small m m' hm z z' s a.ratios k' ek a.options.max_iterations) (λ r r' h.
      acc_ok (subst (λ (o : RachfordRiceOutcome). SameAnswer keep n (alone (rice_block r.outcome r.liquid r.vapor)) (alone (rice_block o r'.liquid r'.vapor))) h.outcome
      (rice-answer keep n small r.outcome r.liquid r'.liquid r.vapor r'.vapor h.liquid h.vapor)))

  strike_9 : Acc (SameAnswer keep n) (task9 m a) (task9 m' b)
  unfolding task9 with_feed
  strike_9 =
      acc_bind (SameSolution keep n) _ _ _ _ (struck.task9 keep n small m m' hm z z' s a.ratios k' ek a.options.max_iterations) (λ u u' h.
      acc_ok (subst (λ (o : RachfordRiceOutcome). SameAnswer keep n (alone (rice_block (both u) u.liquid u.vapor)) (alone (rice_block o u'.liquid u'.vapor))) (same-both u u' h)
      (rice-answer keep n small (both u) u.liquid u'.liquid u.vapor u'.vapor h.liquid h.vapor)))
    where
      both : Solution → RachfordRiceOutcome
      both u = TwoPhase u.vapor_fraction u.residual u.iterations

      same-both : (u u' : Solution) → SameSolution keep n u u' → both u ≡ both u'
      same-both u u' h = rw (h.vapor_fraction, h.residual, h.iterations)

  strike_at : (t : Float) → Acc (SameAnswer keep n) (task_at m a t) (task_at m' b t)
  unfolding task_at with_feed
  strike_at t =
      acc_if _ _ _ _ _ _ refl (λ e. strike_1 t) (λ f1.
      acc_if _ _ _ _ _ _ refl (λ e. strike_2 t) (λ f2.
      acc_if _ _ _ _ _ _ refl (λ e. strike_3 t) (λ f3.
      acc_if _ _ _ _ _ _ refl (λ e. strike_6 t) (λ f6.
      acc_then (positive_of a.pressure 14) (positive_of a.pressure 14) _ _ (acc_same (positive_of a.pressure 14)) (λ p. strike_7 t p)))))

  -- by the task's number
  strike_fed : Acc (SameAnswer keep n) (task_of m a) (task_of m' b)
  unfolding task_of task_under task_split with_feed
  strike_fed =
      acc_if _ _ _ _ _ _ refl (λ e. acc_then (positive_of a.temperature 13) (positive_of a.temperature 13) _ _ (acc_same (positive_of a.temperature 13)) strike_at) (λ f.
      acc_if _ _ _ _ _ _ refl (λ e. acc_then (positive_of a.pressure 14) (positive_of a.pressure 14) _ _ (acc_same (positive_of a.pressure 14)) (λ p.
      acc_if _ _ _ _ _ _ refl (λ four. strike_4 p) (λ five. strike_5 p))) (λ g.
      acc_if _ _ _ _ _ _ refl (λ e. strike_8) (λ f8.
      acc_if _ _ _ _ _ _ refl (λ e. strike_9) (λ f9. acc_no (no 12)))))

pub strike_task : (keep : ℕ → Bool) (n : ℕ) → n ≤ 8 → (m m' : Mixture) → SameMixture keep n m m' → (a b : Question) → SameQuestion keep n a b
    → Acc (SameAnswer keep n) (task_of m a) (task_of m' b)
strike_task keep n small m m' hm a b h =
    subst (λ (c : Question). Acc (SameAnswer keep n) (task_of m a) (task_of m' c)) (sym h.rest) (strike_fed keep n small m m' hm a b.fractions b.ratios h.feed h.ratios)
