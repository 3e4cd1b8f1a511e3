-- The lab's part has both sheets, whatever follows it. Assumes nothing.
use Prim.Native.Nat.{ℕ, ◌+◌, ◌*◌, ◌≤◌, ◌<◌}
use mathlib.Core.Path.{◌≡◌, sym, ap, ◌∙◌}
use mathlib.Core.Bool.{true}
use mathlib.Core.List.{List, ◌++◌}
use native.Mathlib.Omega.{arith}
use borrow.Author.Tests.{eq-eqb, le-leb}
use lib.Dec.{eqb, leb→le, eqb→eq}
use lib.Ieee.Bits.{is_true}
use lib.ListN.{length, take, drop, length-append, get_or-append}
use lib.Seq.{length-take-le, get_or-take, get_or-drop, take_at}
use Rattle.floats.specs.Outcome.{ok}
use Rattle.floats.proofs.Folds.{all_cong}
use Rattle.floats.proofs.Outcomes.{need_yes, need_inv, bind_yes, bind_inv}
use Rattle.blocks.specs.Words.{byte, word, word_from, block}
use Rattle.exchanges.proofs.Places.{word-by}
use Rattle.readers.specs.Readers.{part_length, trials_right, part_of, floor_words, floor_of, lab_of}
use Rattle.floors.specs.Behind.{Behind}
use Rattle.floors.proofs.Equal.{equal}

-- the first word of a block
kind_at : (s : List ℕ) (b : ℕ) → word (block s b) 0 ≡ word_from s (512 * b)
unfolding word block
kind_at s b = word-by s (take 512 (drop (512 * b) s)) 0 (512 * b) (λ i l.
    let z : 0 + i ≡ i = omega arith in
    rw z (get_or-take 512 (drop (512 * b) s) i 0 (omega arith) ∙ get_or-drop (512 * b) s i 0))

-- ---- what a slice that is read has passed
pub record Begins (s : List ℕ) (part : List ℕ) : Type 0 where
  pub kind : word s 0 ≡ 9
  pub few : word s 12 ≤ 8
  pub long : part_length (word s 12) ≤ length s
  pub trials : trials_right s (word s 12) ≡ true
  pub is : part ≡ take (part_length (word s 12)) s

pub begins : (s part : List ℕ) → lab_of s ≡ ok part → Begins s part
unfolding lab_of part_of
begins s part e =
    let b = bind_inv (part_of s) (λ n. ok (take n s)) e in
    let k = need_inv _ 1 _ b.1 in
    let c = need_inv _ 1 _ k.1 in
    let l = need_inv _ 1 _ c.1 in
    let t = need_inv _ 1 _ l.1 in
    let n : part_length (word s 12) ≡ b.0 = cc t.1 in
    let p : take b.0 s ≡ part = cc b.2 in
    record {
      kind = eqb→eq (word s 0) 9 k.0;
      few = leb→le (word s 12) 8 c.0;
      long = leb→le _ _ l.0;
      trials = is_true _ t.0;
      is = sym p ∙ ap (λ (m : ℕ). take m s) (sym n);
    }

module _ (s part rest : List ℕ) (g : Begins s part) where
  abbrev n : ℕ
  n = word s 12

  abbrev r : List ℕ
  r = part ++ rest

  pub part-long : length part ≡ part_length n
  part-long = ap length g.is ∙ length-take-le (part_length n) s g.long

  byte-same : (i : ℕ) → i < part_length n → byte r i ≡ byte s i
  byte-same i l =
      get_or-append part rest 0 i (omega (arith, part-long)) ∙ ap (λ (p : List ℕ). byte p i) g.is ∙ get_or-take (part_length n) s i 0 l

  from_same : (at : ℕ) → at + 8 ≤ part_length n → word_from r at ≡ word_from s at
  from_same at l = word-by s r at at (λ i m. byte-same (at + i) (omega arith))

  word_same : (k : ℕ) → k < 64 → word r k ≡ word s k
  unfolding word
  word_same k l = from_same (8 * k) (omega arith)

  trials-same : trials_right r n ≡ trials_right s n
  unfolding trials_right
  trials-same =
      all_cong n (λ k l. ap (λ (w : ℕ). eqb w 10) (kind_at r (1 + k) ∙ from_same (512 * (1 + k)) (omega arith) ∙ sym (kind_at s (1 + k))))

  part_same : part_of r ≡ ok (part_length n)
  unfolding part_of
  part_same =
      need_yes 1 _ (eq-eqb (word r 0) 9 (word_same 0 (omega arith) ∙ g.kind))
      ∙ rw (word_same 12 (omega arith)) (need_yes 1 _ (le-leb n 8 g.few)
      ∙ need_yes 1 _ (le-leb (part_length n) (length r) (rw (length-append, part-long) (omega arith)))
      ∙ need_yes 1 _ (trials-same ∙ g.trials))

  part-is : part_of s ≡ ok (part_length n)
  unfolding part_of
  part-is =
      need_yes 1 _ (eq-eqb (word s 0) 9 g.kind) ∙ need_yes 1 _ (le-leb n 8 g.few) ∙ need_yes 1 _ (le-leb (part_length n) (length s) g.long)
      ∙ need_yes 1 _ g.trials

  floor-same : floor_words r ≡ floor_words s
  floor-same = equal r s (record {
    front = λ k l m. word_same k (omega arith);
    fraction = λ d. word_same 11 (omega arith);
    phases = λ d k l m. word_same k (omega arith);
  })

pub behind : Behind
unfolding lab_of floor_of
behind s part rest e =
    let g = begins s part e in (
      bind_yes (λ m. ok (take m (part ++ rest))) (part_same s part rest g) ∙ ap ok (take_at part rest (part_length (word s 12)) (part-long s part rest g)),
      bind_yes (λ m. ok (floor_words (part ++ rest))) (part_same s part rest g) ∙ ap ok (floor-same s part rest g)
          ∙ sym (bind_yes (λ m. ok (floor_words s)) (part-is s part rest g)),
    )
