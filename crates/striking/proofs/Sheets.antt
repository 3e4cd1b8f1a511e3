-- Answers that are alike are written as sheets that are alike, whatever stands behind them. Assumes nothing.
use mathlib.Core.Path.{◌≡◌, refl, sym, ap, ◌∙◌, subst}
use mathlib.Core.Logic.{◌≢◌, inl, inr}
use Prim.Native.Nat.{ℕ, zero, suc, ◌+◌, ◌*◌, ◌≤◌, ◌<◌}
use native.Mathlib.Nat.{le_trans}
use native.Mathlib.Numerals.{add-one}
use native.Mathlib.Omega.{arith}
use mathlib.Core.Bool.{Bool}
use mathlib.Core.List.{List, [], ◌∷◌, ◌++◌, append-nil}
use lib.ListN.{length, get_or, set, replicate}
use lib.Dec.{T}
use Rattle.floats.specs.Small.{bits_of}
use Rattle.floats.specs.Vector.{at, fill_from}
use Rattle.floats.proofs.Fills.{fill_from_length, fill_from-at, fill_from_before}
use Rattle.blocks.specs.Words.{word_from}
use Rattle.blocks.specs.declared.Rule.{Rule}
use Rattle.blocks.specs.Bytes.{bytes, word_at, row_to, block_bytes}
use Rattle.blocks.proofs.Laws.{length_block-bytes, length_row, word_bytes, block_read}
use Rattle.book.specs.Places.{words}
use Rattle.liquid_stability.specs.declared.LiquidStabilityTrial.{LiquidStabilityTrial}
use Rattle.liquid_stability.specs.Stability.{no_trial}
use Rattle.replies.specs.declared.AnswerBlock.{AnswerBlock}
use Rattle.replies.specs.Blocks.{bit, state_words, model_words, Answer, answer_words, trial_words, trial_bytes, answer_bytes}
use Rattle.striking.specs.Places.{cnt}
use Rattle.striking.specs.Results.{SameTrial}
use Rattle.striking.specs.Words.{ZeroWord, SameWord}
use Rattle.striking.specs.Sheets.{SameHead, SameTrialBlock, SameSheet}
use Rattle.striking.proofs.Vectors.{new-below}
use Rattle.striking.proofs.Words.{same_word}
use Rattle.striking.proofs.Written.{Stands, first_of, last_of, inside, in_row, block-is}
use Rattle.striking.proofs.Answers.{word_same, SameAnswer}

-- ---- a word as it is read again: modulo 2^64, so that zeros stay
abbrev again : ℕ → ℕ
again x = word_from (bytes x) 0

zero_again : (x : ℕ) → ZeroWord x → ZeroWord (again x)
unfolding bytes
zero_again x (inl e) = inl (ap again e)
zero_again x (inr e) = inr (ap again e)

same-again : {x y : ℕ} → SameWord x y → SameWord (again x) (again y)
same-again {x} {y} h = elim h.either [
  | inl e ↦ word_same (ap again e)
  | inr z ↦ record { either = inr (zero_again x z.0, zero_again y z.1) }
]

-- ---- word k of two rows filled alike at k
set_same : (k i : ℕ) (l m : List ℕ) (x y : ℕ) → length l ≡ length m → (i ≡ k → SameWord x y) → SameWord (word_at l k) (word_at m k) → SameWord (word_at (set l i x) k) (word_at (set m i y) k)
set_same k i [] [] x y e f h = h
set_same k i [] (b ∷ m) x y e f h = absurd (omega arith)
set_same k i (a ∷ l) [] x y e f h = absurd (omega arith)
set_same zero zero (a ∷ l) (b ∷ m) x y e f h = f refl
set_same (suc k) zero (a ∷ l) (b ∷ m) x y e f h = h
set_same zero (suc i) (a ∷ l) (b ∷ m) x y e f h = h
set_same (suc k) (suc i) (a ∷ l) (b ∷ m) x y e f h = set_same k i l m x y (omega arith) (λ q. f (ap suc q)) h

fill-same : (k : ℕ) (f g : ℕ → ℕ) (b n : ℕ) (l m : List ℕ) → length l ≡ length m → ((j : ℕ) → j < n → b + j ≡ k → SameWord (f j) (g j)) → SameWord (word_at l k) (word_at m k)
    → SameWord (word_at (fill_from f b n l) k) (word_at (fill_from g b n m) k)
unfolding fill_from
fill-same k f g b zero l m e h r = r
fill-same k f g b (suc n) l m e h r =
    set_same k (b + n) (fill_from f b n l) (fill_from g b n m) (f n) (g n) (fill_from_length f b n l ∙ e ∙ sym (fill_from_length g b n m)) (h n (omega arith))
    (fill-same k f g b n l m e (λ j i. h j (omega arith)) r)

-- ---- the answer block
module _ (task : ℕ) (x : AnswerBlock) where
  base : List ℕ
  base = 9 ∷ task ∷ 0 ∷ x.outcome ∷ replicate 60 0

  with-state : List ℕ
  with-state = fill_from (word_at (state_words x.state)) 4 10 base

  with-liquid : List ℕ
  with-liquid = fill_from (λ i. bits_of (at x.liquid i)) 14 8 with-state

  with-vapor : List ℕ
  with-vapor = fill_from (λ i. bits_of (at x.vapor i)) 22 8 with-liquid

  state-long : length with-state ≡ 64
  unfolding with-state base
  state-long = fill_from_length (word_at (state_words x.state)) 4 10 base

  liquid-long : length with-liquid ≡ 64
  unfolding with-liquid
  liquid-long = fill_from_length (λ i. bits_of (at x.liquid i)) 14 8 with-state ∙ state-long

  vapor-long : length with-vapor ≡ 64
  unfolding with-vapor
  vapor-long = fill_from_length (λ i. bits_of (at x.vapor i)) 22 8 with-liquid ∙ liquid-long

  answer-liquid : (i : ℕ) → i < 8 → word_at (answer_words task x) (14 + i) ≡ bits_of (at x.liquid i)
  unfolding answer_words with-vapor with-liquid with-state base
  answer-liquid i l =
      fill_from_before (word_at (model_words x.model)) 30 9 with-vapor 0 (14 + i) (omega arith)
      ∙ fill_from_before (λ i. bits_of (at x.vapor i)) 22 8 with-liquid 0 (14 + i) (omega arith)
      ∙ fill_from-at (λ i. bits_of (at x.liquid i)) 14 8 with-state 0 i (omega (arith, state-long)) l

  answer-vapor : (i : ℕ) → i < 8 → word_at (answer_words task x) (22 + i) ≡ bits_of (at x.vapor i)
  unfolding answer_words with-vapor with-liquid with-state base
  answer-vapor i l =
      fill_from_before (word_at (model_words x.model)) 30 9 with-vapor 0 (22 + i) (omega arith)
      ∙ fill_from-at (λ i. bits_of (at x.vapor i)) 22 8 with-liquid 0 i (omega (arith, liquid-long)) l

  -- word 12
  answer-trials : word_at (answer_words task x) 12 ≡ x.state.trials
  unfolding answer_words state_words with-vapor with-liquid with-state base
  answer-trials =
      fill_from_before (word_at (model_words x.model)) 30 9 with-vapor 0 12 (omega arith)
      ∙ fill_from_before (λ i. bits_of (at x.vapor i)) 22 8 with-liquid 0 12 (omega arith)
      ∙ fill_from_before (λ i. bits_of (at x.liquid i)) 14 8 with-state 0 12 (omega arith)
      ∙ fill_from-at (word_at (state_words x.state)) 4 10 base 0 8 (omega arith) (omega arith)

-- the words of an answer
abbrev head : ℕ → Answer → ℕ → ℕ
head task a = word_at (answer_words task a.block)

module _ (keep : ℕ → Bool) (n : ℕ) (small : n ≤ 8) where
  module _ (task : ℕ) (a b : Answer) (h : SameAnswer keep n a b) where
    -- words 0 to 13 and 30 to 63
    outside : (k : ℕ) → ((j : ℕ) → j < 8 → 14 + j ≡ k → ⊥) → ((j : ℕ) → j < 8 → 22 + j ≡ k → ⊥) → SameWord (head task a k) (head task b k)
    unfolding answer_words with-vapor with-liquid with-state base
    outside k p q =
        fill-same k (word_at (model_words a.block.model)) (word_at (model_words b.block.model)) 30 9 _ _
        (vapor-long task a.block ∙ sym (vapor-long task b.block)) (λ j l e. h.model.entry j)
        (fill-same k (λ i. bits_of (at a.block.vapor i)) (λ i. bits_of (at b.block.vapor i)) 22 8 _ _ (liquid-long task a.block ∙ sym (liquid-long task b.block)) (λ j l e. absurd (q j l e))
        (fill-same k (λ i. bits_of (at a.block.liquid i)) (λ i. bits_of (at b.block.liquid i)) 14 8 _ _ (state-long task a.block ∙ sym (state-long task b.block)) (λ j l e. absurd (p j l e))
        (fill-same k (word_at (state_words a.block.state)) (word_at (state_words b.block.state)) 4 10 _ _ refl (λ j l e. h.state.entry j)
        (word_same (ap (λ (o : ℕ). word_at (9 ∷ task ∷ 0 ∷ o ∷ replicate 60 0) k) h.outcome)))))

    head-same : (w w' : ℕ → ℕ) → ((k : ℕ) → k < 63 → w k ≡ again (head task a k)) → ((k : ℕ) → k < 63 → w' k ≡ again (head task b k)) → SameHead keep n w w'
    head-same w w' e e' = record {
      front = λ k l. reads k k (omega arith) (omega arith) (outside k (λ j m q. omega arith) (λ j m q. omega arith));
      liquid = record {
        entry = λ i l t. reads (14 + i) (14 + cnt keep i) (omega arith) (omega (arith, new-below keep n small i l t))
            (subst (λ (x : ℕ). SameWord x (head task b (14 + cnt keep i))) (sym (answer-liquid task a.block i (omega arith)))
            (subst (λ (x : ℕ). SameWord (bits_of (at a.block.liquid i)) x) (sym (answer-liquid task b.block (cnt keep i) (new-below keep n small i l t))) (same_word (h.liquid i l t))));
      };
      vapor = record {
        entry = λ i l t. reads (22 + i) (22 + cnt keep i) (omega arith) (omega (arith, new-below keep n small i l t))
            (subst (λ (x : ℕ). SameWord x (head task b (22 + cnt keep i))) (sym (answer-vapor task a.block i (omega arith)))
            (subst (λ (x : ℕ). SameWord (bits_of (at a.block.vapor i)) x) (sym (answer-vapor task b.block (cnt keep i) (new-below keep n small i l t))) (same_word (h.vapor i l t))));
      };
      back = λ k l m. reads k k (omega arith) (omega arith) (outside k (λ j u q. omega arith) (λ j u q. omega arith));
    }
      where
        reads : (k k' : ℕ) → k < 63 → k' < 63 → SameWord (head task a k) (head task b k') → SameWord (w k) (w' k')
        reads k k' l l' s = subst (λ (x : ℕ). SameWord x (w' k')) (sym (e k l)) (subst (λ (x : ℕ). SameWord (again (head task a k)) x) (sym (e' k' l')) (same-again s))

-- ---- a trial block
abbrev front : LiquidStabilityTrial → List ℕ
front t = 10 ∷ t.component ∷ bits_of t.distance ∷ t.iterations ∷ bit t.trivial ∷ replicate 59 0

trial-fraction : (t : LiquidStabilityTrial) (i : ℕ) → i < 8 → word_at (trial_words t) (5 + i) ≡ bits_of (at t.composition i)
unfolding trial_words
trial-fraction t i l = fill_from-at (λ i. bits_of (at t.composition i)) 5 8 (front t) 0 i (omega arith) l

trial-component : (t : LiquidStabilityTrial) → word_at (trial_words t) 1 ≡ t.component
unfolding trial_words
trial-component t = fill_from_before (λ i. bits_of (at t.composition i)) 5 8 (front t) 0 1 (omega arith)

module _ (keep : ℕ → Bool) (n : ℕ) (small : n ≤ 8) (t t' : LiquidStabilityTrial) (h : SameTrial keep n t t') where
  front_same : (k : ℕ) → k ≢ 1 → SameWord (word_at (front t) k) (word_at (front t') k)
  front_same zero d = word_same refl
  front_same (suc zero) d = absurd (d refl)
  front_same (suc (suc zero)) d = same_word h.distance
  front_same (suc (suc (suc zero))) d = word_same h.iterations
  front_same (suc (suc (suc (suc zero)))) d = word_same (ap bit h.trivial)
  front_same (suc (suc (suc (suc (suc k))))) d = word_same refl

  -- words 0, 2 to 4, and 13 on
  beside : (k : ℕ) → k ≢ 1 → ((j : ℕ) → j < 8 → 5 + j ≡ k → ⊥) → SameWord (word_at (trial_words t) k) (word_at (trial_words t') k)
  unfolding trial_words
  beside k d p = fill-same k (λ i. bits_of (at t.composition i)) (λ i. bits_of (at t'.composition i)) 5 8 (front t) (front t') refl (λ j l e. absurd (p j l e)) (front_same k d)

  trial-same : (w w' : ℕ → ℕ) → ((k : ℕ) → k < 63 → w k ≡ again (word_at (trial_words t) k)) → ((k : ℕ) → k < 63 → w' k ≡ again (word_at (trial_words t') k)) → SameTrialBlock keep n w w'
  trial-same w w' e e' = record {
    kind = reads 0 0 (omega arith) (omega arith) (beside 0 (λ (z : 0 ≡ 1). omega arith) (λ j l q. omega arith));
    below = subst (λ (x : ℕ). x < n) (sym old) h.below;
    kept = subst (λ (x : ℕ). T (keep x)) (sym old) h.kept;
    component = ap (cnt keep) old ∙ h.component ∙ sym new;
    front = λ k l m. reads k k (omega arith) (omega arith) (beside k (λ (z : k ≡ 1). omega arith) (λ j u q. omega arith));
    fractions = record {
      entry = λ i l q. reads (5 + i) (5 + cnt keep i) (omega arith) (omega (arith, new-below keep n small i l q))
          (subst (λ (x : ℕ). SameWord x (word_at (trial_words t') (5 + cnt keep i))) (sym (trial-fraction t i (omega arith)))
          (subst (λ (x : ℕ). SameWord (bits_of (at t.composition i)) x) (sym (trial-fraction t' (cnt keep i) (new-below keep n small i l q))) (same_word (h.composition.fraction i l q))));
    };
    back = λ k l m. reads k k (omega arith) (omega arith) (beside k (λ (z : k ≡ 1). omega arith) (λ j u q. omega arith));
  }
    where
      reads : (k k' : ℕ) → k < 63 → k' < 63 → SameWord (word_at (trial_words t) k) (word_at (trial_words t') k') → SameWord (w k) (w' k')
      reads k k' l l' s = subst (λ (x : ℕ). SameWord x (w' k')) (sym (e k l)) (subst (λ (x : ℕ). SameWord (again (word_at (trial_words t) k)) x) (sym (e' k' l')) (same-again s))

      fewer : t'.component < 8
      fewer = subst (λ (x : ℕ). x < 8) h.component (new-below keep n small t.component h.below h.kept)

      old : w 1 ≡ t.component
      old = e 1 (omega arith) ∙ ap again (trial-component t) ∙ word_bytes t.component (omega (arith, h.below))

      new : w' 1 ≡ t'.component
      new = e' 1 (omega arith) ∙ ap again (trial-component t') ∙ word_bytes t'.component (omega (arith, fewer))

-- ---- the blocks of an answer, and whatever stands behind them
module _ (rule : Rule) (task : ℕ) (a : Answer) (r : List ℕ) where
  abbrev count : ℕ
  count = a.block.state.trials

  abbrev trial : ℕ → ℕ → ℕ
  trial k = word_at (trial_words (get_or a.trials k no_trial))

  whole : List ℕ
  whole = answer_bytes rule task a ++ r

  head_at : Stands whole (512 * 0) (block_bytes rule (head task a))
  unfolding whole answer_bytes
  head_at = inside (first_of _ r) (first_of (block_bytes rule (head task a)) _) (omega arith)

  trial-at : (k : ℕ) → k < count → Stands whole (512 * (k + 1)) (block_bytes rule (trial k))
  unfolding whole answer_bytes trial_bytes
  trial-at k l =
      inside (first_of _ r) (inside (last_of (block_bytes rule (head task a)) (row_to (trial_bytes rule a.trials) count)) (in_row (trial_bytes rule a.trials) count k l) refl)
      (omega (arith, length_block-bytes rule (head task a), length_row (trial_bytes rule a.trials) 512 k (λ i. length_block-bytes rule (trial i))))

  read_at : (b : ℕ) (w : ℕ → ℕ) → Stands whole (512 * b) (block_bytes rule w) → (k : ℕ) → k < 63 → words whole b k ≡ again (w k)
  read_at b w h k l = rw (block-is rule w whole b h) (rw append-nil at (block_read rule w k [] l))

  head_read : (k : ℕ) → k < 63 → words whole 0 k ≡ again (head task a k)
  head_read = read_at 0 (head task a) head_at

  trial-read : (k : ℕ) → k < count → (f : ℕ) → f < 63 → words whole (k + 1) f ≡ again (trial k f)
  trial-read k l = read_at (k + 1) (trial k) (trial-at k l)

  count-read : count ≤ 8 → words whole 0 12 ≡ count
  count-read l = head_read 12 (omega arith) ∙ ap again (answer-trials task a.block) ∙ word_bytes count (omega arith)

pub sheet_same : (keep : ℕ → Bool) (n : ℕ) → n ≤ 8 → (rule : Rule) (task : ℕ) (a b : Answer) → SameAnswer keep n a b → (r r' : List ℕ)
    → SameSheet keep n (answer_bytes rule task a ++ r) (answer_bytes rule task b ++ r')
unfolding whole
sheet_same keep n small rule task a b h r r' = record {
  answer = head-same keep n small task a b h _ _ (head_read rule task a r) (head_read rule task b r');
  count = longer ∙ h.count ∙ sym (count-read rule task b r' (subst (λ (x : ℕ). x ≤ 8) h.count (le_trans h.few small)));
  trials = trials;
}
  where
    longer : words (answer_bytes rule task a ++ r) 0 12 ≡ a.block.state.trials
    longer = count-read rule task a r (le_trans h.few small)

    trials : (k : ℕ) → 1 ≤ k → k ≤ words (answer_bytes rule task a ++ r) 0 12 → SameTrialBlock keep n (words (answer_bytes rule task a ++ r) k) (words (answer_bytes rule task b ++ r') k)
    trials zero l m = absurd (omega arith)
    trials (suc k) l m =
        let u : k < a.block.state.trials = omega (arith, longer) in
        let v : k < b.block.state.trials = omega (arith, h.count) in
        rw add-one at (trial-same keep n small (get_or a.trials k no_trial) (get_or b.trials k no_trial) (h.trials k u) (words (answer_bytes rule task a ++ r) (k + 1)) (words (answer_bytes rule task b ++ r') (k + 1))
        (trial-read rule task a r k u) (trial-read rule task b r' k v))
