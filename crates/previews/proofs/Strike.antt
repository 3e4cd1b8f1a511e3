-- Demand 3 of previews: both calls are plain ones, on copies of the books, and the one theorem of striking speaks of those. Assumes nothing.
use Prim.Native.Nat.{ℕ, ◌+◌, ◌≤◌, ◌<◌}
use mathlib.Core.Path.{◌≡◌, refl, sym, ap, ◌∙◌, subst}
use mathlib.Core.Logic.{◌≢◌, inl, inr}
use mathlib.Core.Bool.{Bool, true, false, not, ◌&&◌}
use mathlib.Core.List.{List}
use native.Mathlib.Nat.{le_trans}
use native.Mathlib.Omega.{arith}
use borrow.Author.Tests.{eqb-true, eqb-false, ltb-true}
use lib.Dec.{T, eqb, ltb}
use lib.Ieee.Bits.{is_true}
use lib.Ieee.Fits.{and_l, and_r}
use lib.ListN.{length}
use Rattle.floats.specs.Fold.{all_to}
use Rattle.floats.specs.Outcome.{Out, ok, no}
use Rattle.floats.proofs.Outcomes.{need_inv, bind_inv}
use Rattle.blocks.specs.Words.{word, check_right}
use Rattle.book.specs.declared.Head.{Head}
use Rattle.book.specs.Places.{words, block_count, pair_place}
use Rattle.book.specs.Book.{pair_right, rule_of, book_of, offered_of}
use Rattle.book.proofs.Accepted as open-book
use Rattle.records.specs.Offered.{place_named, with_pair}
use Rattle.records.proofs.Offered.{copy_length, copy-words, copy-rule}
use Rattle.replies.specs.Blocks.{answer_room}
use Rattle.sheet.specs.Sheet.{sheet_of}
use Rattle.striking.specs.Places.{cnt}
use Rattle.striking.specs.Books.{ShorterBook, shorter_head}
use Rattle.striking.specs.Questions.{kept_in, solvents, Shorter}
use Rattle.striking.specs.Sheets.{SameSheet}
use Rattle.striking.specs.Theorem.{Accepted, after}
use Rattle.striking.proofs.Strike.{cnt_lt, cnt_inj}
use Rattle.striking.proofs.Acc.{all_at, all_of}
use Rattle.striking.proofs.Books.{strike_book}
use Rattle.striking.proofs.Theorem.{striking}
use Rattle.preview.specs.Preview.{preview_of}
use Rattle.previews.specs.Striking.{after_preview, OfAbsent, AbsentPair, ShorterOffered, KeptPair}
use Rattle.previews.proofs.Places.{same-pair}
use Rattle.previews.proofs.Copy.{Names, names, names-pair, Offer, copy-here, copy_else, as_copy}

accepted-is : {A : Type 0} (o : Out A) → Accepted o → (a : A) × (o ≡ ok a)
unfolding Accepted
accepted-is (ok a) h = (a, refl)
accepted-is (no r) h = absurd h

-- what an accepted preview passed
pub tried : (book offered question : List ℕ) (room : ℕ) → Accepted (preview_of book offered question room) → Offer book offered
unfolding preview_of offered_of
tried book offered question room took =
    let p = bind_inv (book_of book) _ (accepted-is (preview_of book offered question room) took).1 in
    let q = bind_inv (offered_of (rule_of book) p.0 offered) _ p.2 in
    let w = word offered in
    let n = p.0.n in
    let ordered = ltb (w 1) (w 2) in
    let below = ltb (w 2) n in
    let size = need_inv (eqb (length offered) 512) 1 _ q.1 in
    let check = need_inv (check_right (rule_of book) w) 2 _ size.1 in
    let pair = need_inv (ordered && below && pair_right w (w 1) (w 2)) 7 _ check.1 in
    let front = and_l (ordered && below) (pair_right w (w 1) (w 2)) pair.0 in
    record {
      head = p.0;
      opened = p.1;
      named = names-pair n offered (eqb-true (length offered) 512 (is_true _ size.0))
          (ltb-true (w 1) (w 2) (is_true ordered (and_l ordered below front))) (ltb-true (w 2) n (is_true below (and_r ordered below front)));
    }

-- a solvent isn't both kept and absent
not_both : (b : Bool) → T b → T (not b) → ⊥
not_both true p q = q
not_both false p q = p

-- ---- the copy of the longer book, against a shorter one of the book
module _ (keep : ℕ → Bool) (book offered book' : List ℕ) (o : Offer book offered) (hb : ShorterBook keep o.head.n book book') where
  abbrev h : Head
  h = o.head

  abbrev n : ℕ
  n = h.n

  abbrev long : List ℕ
  long = with_pair n book offered

  it : Names n offered
  it = names n offered o.named

  block_0 : words long 0 ≡ words book 0
  block_0 = copy-words n book offered 0 (omega arith)

  head-kept : (k : ℕ) → k < 63 → k ≢ 2 → words long 0 k ≡ words book' 0 k
  head-kept k l d = ap (λ (w : ℕ → ℕ). w k) block_0 ∙ hb.head k l d

  solvent-kept : (i : ℕ) → i < n → T (keep i) → (k : ℕ) → k < 63 → k ≢ 1 → words long (i + 1) k ≡ words book' (cnt keep i + 1) k
  solvent-kept i l t k m d = ap (λ (w : ℕ → ℕ). w k) (copy-words n book offered (i + 1) (omega arith)) ∙ hb.solvent i l t k m d

  -- the pairs of two kept solvents are the book's where one of the offered pair's is absent
  absent-shorter : OfAbsent keep offered → ShorterBook keep n long book'
  absent-shorter gone = record {
    size = hb.size;
    checks = hb.checks;
    head = head-kept;
    count = hb.count;
    solvent = solvent-kept;
    index = hb.index;
    pair = λ i j l m p q k u v w. ap (λ (x : ℕ → ℕ). x k) (copy_else book offered o (pair_place n i j) (other i j l m p q)) ∙ hb.pair i j l m p q k u v w;
    pair-i = hb.pair-i;
    pair-j = hb.pair-j;
  }
    where
      other : (i j : ℕ) → i < j → j < n → T (keep i) → T (keep j) → pair_place n i j ≢ place_named n offered
      other i j l m p q z =
          let s = same-pair n i j (word offered 1) (word offered 2) l m it.ordered it.below z in
          elim gone [
            | inl g ↦ not_both (keep (word offered 1)) (subst (λ (x : ℕ). T (keep x)) s.first p) g
            | inr g ↦ not_both (keep (word offered 2)) (subst (λ (x : ℕ). T (keep x)) s.second q) g
          ]

  -- ---- against a copy of the shorter one
  module _ (offered' : List ℕ) (p : T (keep (word offered 1))) (q : T (keep (word offered 2))) (ho : ShorterOffered (rule_of book') keep offered offered') where
    abbrev n' : ℕ
    n' = cnt keep n

    abbrev short : List ℕ
    short = with_pair n' book' offered'

    opened' : book_of book' ≡ ok (shorter_head keep h)
    opened' = strike_book keep h book book' hb (le_trans (omega arith) (cnt_lt keep (word offered 2) n q it.below)) o.opened

    ordered' : word offered' 1 < word offered' 2
    ordered' = rw (ho.i, ho.j) (cnt_lt keep (word offered 1) (word offered 2) p it.ordered)

    below' : word offered' 2 < n'
    below' = rw ho.j (cnt_lt keep (word offered 2) n q it.below)

    offer' : Offer book' offered'
    unfolding shorter_head
    offer' = record { head = shorter_head keep h; opened = opened'; named = names-pair n' offered' ho.size ordered' below' }

    -- the blocks of that copy
    place-new : place_named n' offered' ≡ pair_place n' (cnt keep (word offered 1)) (cnt keep (word offered 2))
    place-new = rw (ho.i, ho.j)

    short-here : words short (place_named n' offered') ≡ word offered'
    unfolding shorter_head offer'
    short-here = copy-here book' offered' offer'

    short_else : (k : ℕ) → k ≢ place_named n' offered' → words short k ≡ words book' k
    unfolding shorter_head offer'
    short_else = copy_else book' offered' offer'

    short-solvent : (i : ℕ) → i < n → T (keep i) → words short (cnt keep i + 1) ≡ words book' (cnt keep i + 1)
    short-solvent i l t = copy-words n' book' offered' (cnt keep i + 1) (omega (arith, cnt_lt keep i n t l))

    checks-right : T (all_to (λ b. check_right (rule_of short) (words short b)) (block_count n'))
    checks-right =
        rw (copy-rule n' book' offered')
        (all_of (λ b. check_right (rule_of book') (words short b)) (block_count n') (λ b l. pick b l (eqb b (place_named n' offered')) refl))
      where
        pick : (b : ℕ) → b < block_count n' → (c : Bool) → eqb b (place_named n' offered') ≡ c → T (check_right (rule_of book') (words short b))
        pick b l true e = rw (eqb-true b (place_named n' offered') e, short-here) ho.check
        pick b l false e =
            rw (short_else b (eqb-false b (place_named n' offered') e))
            (all_at (λ b. check_right (rule_of book') (words book' b)) (block_count n') b hb.checks l)

    -- the words of a kept pair and of the one at its new place
    record Moves (i j : ℕ) (w v : ℕ → ℕ) : Type 0 where
      others : (k : ℕ) → k < 63 → k ≢ 1 → k ≢ 2 → w k ≡ v k
      first : v 1 ≡ cnt keep i
      second : v 2 ≡ cnt keep j

    abbrev Moved : ℕ → ℕ → Type 0
    Moved i j = Moves i j (words long (pair_place n i j)) (words short (pair_place n' (cnt keep i) (cnt keep j)))

    moved : (i j : ℕ) → i < j → j < n → T (keep i) → T (keep j) → Moved i j
    moved i j l m s t = pick (eqb (pair_place n i j) (place_named n offered)) refl
      where
        pick : (b : Bool) → eqb (pair_place n i j) (place_named n offered) ≡ b → Moved i j
        pick true e =
            let x = same-pair n i j (word offered 1) (word offered 2) l m it.ordered it.below (eqb-true _ _ e) in
            rw (x.first, x.second, ← place-new, short-here, copy-here book offered o)
            (record { others = ho.others; first = ho.i; second = ho.j })
        pick false e =
            let d = eqb-false (pair_place n i j) (place_named n offered) e in
            rw (copy_else book offered o (pair_place n i j) d, short_else (pair_place n' (cnt keep i) (cnt keep j)) (away d))
            (record { others = hb.pair i j l m s t; first = hb.pair-i i j l m s t; second = hb.pair-j i j l m s t })
          where
            away : pair_place n i j ≢ place_named n offered → pair_place n' (cnt keep i) (cnt keep j) ≢ place_named n' offered'
            away d z =
                let x = same-pair n' (cnt keep i) (cnt keep j) _ _ (cnt_lt keep i j s l) (cnt_lt keep j n t m) ordered' below' z in
                let a : i ≡ word offered 1 = cnt_inj keep i (word offered 1) s p (x.first ∙ ho.i) in
                let b : j ≡ word offered 2 = cnt_inj keep j (word offered 2) t q (x.second ∙ ho.j) in
                d (rw (a, b))

    kept-shorter : ShorterBook keep n long short
    kept-shorter = record {
      size = copy_length n' book' offered' ∙ hb.size;
      checks = checks-right;
      head = λ k l d. head-kept k l d ∙ ap (λ (w : ℕ → ℕ). w k) (sym (copy-words n' book' offered' 0 (omega arith)));
      count = ap (λ (w : ℕ → ℕ). w 2) (copy-words n' book' offered' 0 (omega arith)) ∙ hb.count;
      solvent = λ i l t k m d. solvent-kept i l t k m d ∙ ap (λ (w : ℕ → ℕ). w k) (sym (short-solvent i l t));
      index = λ i l t. ap (λ (w : ℕ → ℕ). w 1) (short-solvent i l t) ∙ hb.index i l t;
      pair = λ i j l m s t. (moved i j l m s t).others;
      pair-i = λ i j l m s t. (moved i j l m s t).first;
      pair-j = λ i j l m s t. (moved i j l m s t).second;
    }

-- ---- the theorems
module _ (book offered question book' question' : List ℕ) (s : Shorter book question book' question') (o : Offer book offered) where
  abbrev kept : ℕ → Bool
  kept = kept_in question

  abbrev copied : List ℕ
  copied = with_pair o.head.n book offered

  count : solvents book ≡ o.head.n
  count = (open-book.accepted book o.opened).count

  count-copied : solvents copied ≡ solvents book
  count-copied = ap (λ (w : ℕ → ℕ). w 2) (copy-words o.head.n book offered 0 (omega arith))

  of_book : ShorterBook kept o.head.n book book'
  of_book = rw count at s.of_book

  preview_plain : (room : ℕ) → preview_of book offered question room ≡ sheet_of copied question room
  preview_plain = as_copy book offered o question

  -- from a shorter book of the copy
  shorter-plain : (short : List ℕ) → ShorterBook kept o.head.n copied short → rule_of short ≡ rule_of book' → Shorter copied question short question'
  shorter-plain short h e = record {
    of_book = rw (count-copied, count) h;
    of_question = rw (count-copied, e) s.of_question;
  }

  strike_absent : OfAbsent kept offered → (old old' : List ℕ) → answer_room ≤ length old' → Accepted (preview_of book offered question (length old))
      → Accepted (sheet_of book' question' (length old')) × SameSheet kept (solvents book) (after_preview book offered question old) (after book' question' old')
  strike_absent gone old old' enough took =
      let shorter = shorter-plain book' (absent-shorter kept book offered book' o of_book gone) refl in
      let r = striking copied question book' question' shorter old old' enough (rw (preview_plain (length old)) at took) in
      (r.0, rw (preview_plain (length old), ← count-copied) r.1)

  module _ (offered' : List ℕ) (p : T (kept (word offered 1))) (q : T (kept (word offered 2))) (ho : ShorterOffered (rule_of book') kept offered offered') where
    abbrev short-copy : List ℕ
    short-copy = with_pair (cnt kept o.head.n) book' offered'

    short-plain : (room : ℕ) → preview_of book' offered' question' room ≡ sheet_of short-copy question' room
    unfolding shorter_head offer'
    short-plain = as_copy book' offered' (offer' kept book offered book' o of_book offered' p q ho) question'

    strike_kept : (old old' : List ℕ) → answer_room ≤ length old' → Accepted (preview_of book offered question (length old))
        → Accepted (preview_of book' offered' question' (length old'))
        × SameSheet kept (solvents book) (after_preview book offered question old) (after_preview book' offered' question' old')
    strike_kept old old' enough took =
        let of-copy = kept-shorter kept book offered book' o of_book offered' p q ho in
        let shorter = shorter-plain short-copy of-copy (copy-rule (cnt kept o.head.n) book' offered') in
        let r = striking copied question short-copy question' shorter old old' enough (rw (preview_plain (length old)) at took) in
        rw (preview_plain (length old), short-plain (length old'), ← count-copied) r

pub absent-pair : AbsentPair
absent-pair book offered question book' question' s gone old old' enough took =
    strike_absent book offered question book' question' s (tried book offered question (length old) took) gone old old' enough took

pub kept_pair : KeptPair
kept_pair book offered question book' offered' question' s p q ho old old' enough took =
    strike_kept book offered question book' question' s (tried book offered question (length old) took) offered' p q ho old old' enough took
