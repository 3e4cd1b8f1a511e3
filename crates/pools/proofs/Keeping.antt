-- Two ways to say which of n solvents are kept that agree on all n: the same shorter book, and the same words of an answer. Assumes nothing.
use Prim.Native.Nat.{ℕ, zero, suc, ◌+◌, ◌*◌, ◌≤◌, ◌<◌}
use mathlib.Core.Path.{◌≡◌, refl, sym, ap, ◌∙◌, subst}
use mathlib.Core.Bool.{Bool}
use mathlib.Core.List.{List}
use native.Mathlib.Nat.{le_refl}
use native.Mathlib.Omega.{arith}
use lib.Dec.{T}
use Rattle.floats.specs.Fold.{all_to}
use Rattle.blocks.specs.Words.{check_right}
use Rattle.book.specs.Places.{words, block_count, pair_place}
use Rattle.book.specs.Book.{rule_of}
use Rattle.striking.specs.Places.{cnt}
use Rattle.striking.specs.Books.{ShorterBook}
use Rattle.striking.specs.Words.{SameWord}
use Rattle.striking.specs.Sheets.{SameEntries, SameHead, SameTrialBlock, SameSheet}

module _ (keep keep' : ℕ → Bool) (n : ℕ) (e : (i : ℕ) → i < n → keep i ≡ keep' i) where
  pub places-alike : (k : ℕ) → k ≤ n → cnt keep k ≡ cnt keep' k
  unfolding cnt
  places-alike zero l = refl
  places-alike (suc k) l = let p = places-alike k (omega arith) in rw (e k l, p)

  kept : (i : ℕ) → i < n → T (keep' i) → T (keep i)
  kept i l t = rw (e i l) t

  place : (i : ℕ) → i < n → cnt keep i ≡ cnt keep' i
  place i l = places-alike i (omega arith)

  place_pair : (i j : ℕ) → i < j → j < n → pair_place (cnt keep n) (cnt keep i) (cnt keep j) ≡ pair_place (cnt keep' n) (cnt keep' i) (cnt keep' j)
  place_pair i j l m = rw (places-alike n (le_refl n), place i (omega arith), place j m)

  pub shorter-alike : (s s' : List ℕ) → ShorterBook keep n s s' → ShorterBook keep' n s s'
  shorter-alike s s' h =
      let all = places-alike n (le_refl n) in
      record {
        size = h.size ∙ ap (λ (c : ℕ). 512 * block_count c) all;
        checks = subst (λ (c : ℕ). T (all_to (λ b. check_right (rule_of s') (words s' b)) (block_count c))) all h.checks;
        head = h.head;
        count = h.count ∙ all;
        solvent = λ i l t k u d. h.solvent i l (kept i l t) k u d ∙ ap (λ (c : ℕ). words s' (c + 1) k) (place i l);
        index = λ i l t. subst (λ (c : ℕ). words s' (c + 1) 1 ≡ c) (place i l) (h.index i l (kept i l t));
        pair = λ i j l m p q k u d f.
            h.pair i j l m (kept i (omega arith) p) (kept j m q) k u d f ∙ ap (λ (b : ℕ). words s' b k) (place_pair i j l m);
        pair-i = λ i j l m p q.
            sym (ap (λ (b : ℕ). words s' b 1) (place_pair i j l m)) ∙ h.pair-i i j l m (kept i (omega arith) p) (kept j m q) ∙ place i (omega arith);
        pair-j = λ i j l m p q.
            sym (ap (λ (b : ℕ). words s' b 2) (place_pair i j l m)) ∙ h.pair-j i j l m (kept i (omega arith) p) (kept j m q) ∙ place j m;
      }

  entries-alike : {f : ℕ} {w w' : ℕ → ℕ} → SameEntries keep n f w w' → SameEntries keep' n f w w'
  entries-alike {f} {w} {w'} h = record { entry = λ i l t. subst (λ (c : ℕ). SameWord (w (f + i)) (w' (f + c))) (place i l) (h.entry i l (kept i l t)) }

  head-alike : {w w' : ℕ → ℕ} → SameHead keep n w w' → SameHead keep' n w w'
  head-alike h = record { front = h.front; liquid = entries-alike h.liquid; vapor = entries-alike h.vapor; back = h.back }

  trial-alike : {w w' : ℕ → ℕ} → SameTrialBlock keep n w w' → SameTrialBlock keep' n w w'
  trial-alike {w} {w'} h = record {
    kind = h.kind;
    below = h.below;
    kept = subst T (e (w 1) h.below) h.kept;
    component = sym (place (w 1) h.below) ∙ h.component;
    front = h.front;
    fractions = entries-alike h.fractions;
    back = h.back;
  }

  pub sheet_alike : {s s' : List ℕ} → SameSheet keep n s s' → SameSheet keep' n s s'
  sheet_alike h = record { answer = head-alike h.answer; count = h.count; trials = λ b l m. trial-alike (h.trials b l m) }
