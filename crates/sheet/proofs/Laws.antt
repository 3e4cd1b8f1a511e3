-- Laws of a call that is refused or answered, and of an answer that is written block by block. Assumes nothing.
use mathlib.Core.Path.{◌≡◌, refl, sym, ap, ◌∙◌}
use mathlib.Core.List.{List, [], ◌∷◌, ◌++◌, append_assoc, append-nil}
use Prim.Native.Nat.{ℕ, zero, suc, ◌+◌, ◌*◌, ◌-◌, ◌≤◌, ◌<◌}
use native.Mathlib.Numerals.{add-one}
use native.Mathlib.Omega.{arith}
use lib.ListN.{length, get_or, take, drop, length-append, length-drop, take-append-drop}
use lib.Seq.{length-take-le, take_at, drop-append-add, drop-drop}
use Rattle.std.proofs.lemmas.List.{drop-append-le}
use Rattle.std.specs.Prelude.{Result, Ok, Err}
use Rattle.std.specs.Result.{IsErrAnd}
use Rattle.floats.specs.Outcome.{Out, ok, no}
use Rattle.outcome.specs.Refused.{number, number_by, number_in}
use Rattle.outcome.specs.declared.Refusal.{Refusal}
use Rattle.blocks.specs.declared.Rule.{Rule}
use Rattle.blocks.specs.Bytes.{word_at, put, stored, row_to, block_bytes}
use Rattle.blocks.proofs.Laws.{length_block-bytes, length_row, put-more, stored-fits, stored-front}
use Rattle.liquid_stability.specs.declared.LiquidStabilityTrial.{LiquidStabilityTrial}
use Rattle.liquid_stability.specs.Stability.{no_trial}
use Rattle.replies.specs.declared.AnswerBlock.{AnswerBlock}
use Rattle.replies.specs.Blocks.{answer_room, answer_words, trial_words, trial_bytes, answer_bytes}
use Rattle.sheet.specs.Tasks.{alone}
use Rattle.sheet.specs.Sheet.{Answers, number_of, written}

-- ---- a call's outcome
pub same_as : {o p : Out (List ℕ)} {r : ℕ} {old new : List ℕ} → o ≡ p → Answers p r old new → Answers o r old new
same_as e h = record { number = rw e h.number; bytes = rw e h.bytes }

-- a refusal leaves the slice as it was
pub refuses : {o : Out (List ℕ)} {r : ℕ} {old : List ℕ} → o ≡ no r → Answers o r old old
unfolding number_of written
refuses e = record { number = rw e; bytes = rw e }

module _ {A E : Type 0} {o : Out (List ℕ)} (said : E → ℕ) where
  -- the reason that a `?` met is the one that is returned
  pub quits_reason : (e : E) (r : Result A E) {old : List ℕ} → IsErrAnd r (λ y. y ≡ e) → o ≡ no (said e) → Answers o (number_by said r) old old
  quits_reason e (Err y) h q = refuses (q ∙ ap (λ (x : E). no (said x)) (sym h))
  quits_reason e (Ok a) h q = absurd h

  -- so is one made of a refusal, whose number it says
  pub quits_refusal : {Made : Refusal → E → Type 0} (of_refusal : (e : Refusal) (y : E) → Made e y → said y ≡ number e) (e : Refusal) (r : Result A E) {old : List ℕ}
      → IsErrAnd r (λ y. Made e y) → o ≡ no (number e) → Answers o (number_by said r) old old
  quits_refusal of_refusal e (Err y) h q = refuses (q ∙ ap no (sym (of_refusal e y h)))
  quits_refusal of_refusal e (Ok a) h q = absurd h

-- the refusal, where that is what is returned
pub quits : {A : Type 0} {o : Out (List ℕ)} (e : Refusal) (r : Result A Refusal) {old : List ℕ} → IsErrAnd r (λ y. y ≡ e) → o ≡ no (number e) → Answers o (number_in r) old old
quits e r h q = quits_reason number e r h q

-- ---- an answer in the front of a slice is one in the slice
front : (o : Out (List ℕ)) (old new : List ℕ) (k : ℕ) → k ≤ length old → length new ≡ k → new ≡ written o (take k old) → new ++ drop k old ≡ written o old
unfolding written
front (no r) old new k h l e = rw e (take-append-drop k old)
front (ok bs) old new k h l e =
    let t : length (take k old) ≡ k = length-take-le k old h in
    let m : length bs + (k - length bs) ≡ k = sym (simp (length-append, length-drop, t) at (ap length e)) ∙ l in
    let f : length bs ≤ length (take k old) = omega arith in
    let d : drop (length bs) (take k old) ++ drop k old ≡ drop (length bs) old = sym (drop-append-le (length bs) (take k old) (drop k old) f) ∙ ap (drop (length bs)) (take-append-drop k old) in
    rw e (append_assoc bs (drop (length bs) (take k old)) (drop k old) ∙ ap (λ (l : List ℕ). bs ++ l) d)

pub in_front : {o : Out (List ℕ)} {r : ℕ} {old mid new : List ℕ} (k : ℕ) → k ≤ length old → mid ≡ take k old → length new ≡ k → Answers o r mid new → Answers o r old (new ++ drop k old)
in_front {o} {old = old} {new = new} k h e l a = record { number = a.number; bytes = front o old new k h l (rw e at a.bytes) }

-- ---- the answer block
module _ (rule : Rule) where
  -- an answer without trials is its block
  one_block : (task : ℕ) (b : AnswerBlock) → b.state.trials ≡ 0 → answer_bytes rule task (alone b) ≡ block_bytes rule (word_at (answer_words task b))
  unfolding answer_bytes row_to
  one_block task b z =
      ap (λ (k : ℕ). block_bytes rule (word_at (answer_words task b)) ++ row_to (trial_bytes rule []) k) z ∙ append-nil (block_bytes rule (word_at (answer_words task b)))

  pub alone_yes : (task : ℕ) (b : AnswerBlock) {ws old new : List ℕ} → answer_room ≤ length old → b.state.trials ≡ 0 → ws ≡ answer_words task b
      → new ≡ stored old 0 (block_bytes rule (word_at ws)) → Answers (ok (answer_bytes rule task (alone b))) 0 old new
  unfolding number_of written
  alone_yes task b {old = old} h z w o =
      let l : 512 ≤ length old = omega arith in
      let bs = answer_words task b in
      record { number = refl; bytes = rw (one_block task b z, length_block-bytes rule (word_at bs)) ((rw w at o) ∙ stored-front rule (word_at bs) old l) }

  -- ---- the trials behind it
  pub trial_length : (l : List LiquidStabilityTrial) (k : ℕ) → length (trial_bytes rule l k) ≡ 512
  unfolding trial_bytes
  trial_length l k = length_block-bytes rule (word_at (trial_words (get_or l k no_trial)))

  -- block k + 1 is written
  pub trial-put : (t : LiquidStabilityTrial) (k : ℕ) (old : List ℕ) {ws new : List ℕ} → k < 8 → answer_room ≤ length old → ws ≡ trial_words t
      → new ≡ stored old (512 * (k + 1)) (block_bytes rule (word_at ws)) → new ≡ put old (512 * (k + 1)) (block_bytes rule (word_at (trial_words t)))
  trial-put t k old {ws} h l e o =
      let f : 512 * (k + 1) + 512 ≤ length old = omega arith in
      (rw e at o) ∙ stored-fits old (block_bytes rule (word_at (trial_words t))) (512 * (k + 1)) (length_block-bytes rule (word_at (trial_words t))) f

-- an entry that is there, whatever is read past the end
entry : {A : Type 0} (l : List A) (k : ℕ) (d e : A) → k < length l → get_or l k d ≡ get_or l k e
entry [] k d e h = absurd (omega arith)
entry (x ∷ l) zero d e h = refl
entry (x ∷ l) (suc k) d e h = entry l k d e (omega arith)

front_length : (f : ℕ → List ℕ) (k : ℕ) (mid : List ℕ) → 512 ≤ length mid → ((i : ℕ) → length (f i) ≡ 512) → length (take 512 mid ++ row_to f k) ≡ 512 * (k + 1)
front_length f k mid h e =
    let a : length (take 512 mid) ≡ 512 = length-take-le 512 mid h in
    let b : length (row_to f k) ≡ k * 512 = length_row f 512 k e in
    rw (length-append, a, b) (omega arith)

row_suc : (f : ℕ → List ℕ) (k : ℕ) → row_to f (k + 1) ≡ row_to f k ++ f k
unfolding row_to
row_suc f k = rw add-one

-- the first k trials stand behind the first block, and what was there behind them
pub record Behind (rule : Rule) (l : List LiquidStabilityTrial) (k : ℕ) (mid out : List ℕ) : Type 0 where
  pub room : answer_room ≤ length mid
  pub row : out ≡ (take 512 mid ++ row_to (trial_bytes rule l) k) ++ drop (512 * (k + 1)) mid

pub behind-none : (rule : Rule) (l : List LiquidStabilityTrial) (mid : List ℕ) → answer_room ≤ length mid → Behind rule l 0 mid mid
unfolding row_to
behind-none rule l mid h = record { room = h; row = rw append-nil (sym (take-append-drop 512 mid)) }

pub behind-turn : {rule : Rule} {l : List LiquidStabilityTrial} {k : ℕ} {mid out out' : List ℕ} (d : LiquidStabilityTrial) → Behind rule l k mid out → k < length l
    → out' ≡ put out (512 * (k + 1)) (block_bytes rule (word_at (trial_words (get_or l k d)))) → Behind rule l (k + 1) mid out'
unfolding trial_bytes
behind-turn {rule} {l} {k} {mid} d h j o =
    let b = block_bytes rule (word_at (trial_words (get_or l k no_trial))) in
    let p = take 512 mid ++ row_to (trial_bytes rule l) k in
    let m : 512 * (k + 1) + length b ≡ 512 * (k + 1 + 1) = omega (arith, length_block-bytes rule (word_at (trial_words (get_or l k no_trial)))) in
    let w : 512 ≤ length mid = omega (arith, h.room) in
    let e : put (p ++ drop (512 * (k + 1)) mid) (512 * (k + 1)) b ≡ (p ++ b) ++ drop (512 * (k + 1) + length b) mid =
    put-more p mid b (512 * (k + 1)) (front_length (trial_bytes rule l) k mid w (trial_length rule l)) in
    let s : p ++ b ≡ take 512 mid ++ row_to (trial_bytes rule l) (k + 1) = append_assoc (take 512 mid) (row_to (trial_bytes rule l) k) b ∙ rw (row_suc (trial_bytes rule l) k) in
    record { room = h.room; row = o ∙ rw (entry l k d no_trial j, h.row) (e ∙ ap (λ (i : ℕ). (p ++ b) ++ drop i mid) m ∙ ap (λ (u : List ℕ). u ++ drop (512 * (k + 1 + 1)) mid) s) }

-- the block, then the trials
pub answer_yes : (rule : Rule) (task : ℕ) (b : AnswerBlock) (l : List LiquidStabilityTrial) {ws old mid new : List ℕ} → answer_room ≤ length old
    → ws ≡ answer_words task b → mid ≡ stored old 0 (block_bytes rule (word_at ws))
    → new ≡ (take 512 mid ++ row_to (trial_bytes rule l) b.state.trials) ++ drop (512 * (b.state.trials + 1)) mid
    → Answers (ok (answer_bytes rule task (record { block = b; trials = l }))) 0 old new
unfolding number_of written answer_bytes
answer_yes rule task b l {ws} {old} {mid} h w o p =
    let k = b.state.trials in
    let head = block_bytes rule (word_at (answer_words task b)) in
    let e : length head ≡ 512 = length_block-bytes rule (word_at (answer_words task b)) in
    let g : 512 ≤ length old = omega arith in
    let m : mid ≡ head ++ drop 512 old = (rw w at o) ∙ stored-front rule (word_at (answer_words task b)) old g in
    let a : take 512 mid ≡ head = rw m (take_at head (drop 512 old) 512 e) in
    let s : 512 * (k + 1) ≡ length head + 512 * k = omega arith in
    let d : drop (512 * (k + 1)) mid ≡ drop (512 + 512 * k) old = rw (m, s) (drop-append-add head (drop 512 old) (512 * k) ∙ drop-drop (512 * k) 512 old) in
    let n : length (head ++ row_to (trial_bytes rule l) k) ≡ 512 + 512 * k = rw (length-append, e, length_row (trial_bytes rule l) 512 k (trial_length rule l)) (omega arith) in
    record { number = refl; bytes = rw n (p ∙ rw (a, d)) }
