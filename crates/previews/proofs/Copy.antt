-- A preview is the call on the copy of the book that holds the offered block: the copy's questions are the offered block's, then both calculate alike.
-- Assumes nothing.
use Rattle.std.specs.Prelude.{Some}
use Prim.Native.Nat.{ℕ, ◌+◌, ◌-◌, ◌*◌, ◌/◌, ◌%◌, ◌≤◌, ◌<◌}
use mathlib.Core.Path.{◌≡◌, refl, sym, ap, ◌∙◌, subst}
use mathlib.Core.Logic.{◌≢◌}
use mathlib.Core.Bool.{Bool, true, not, ◌&&◌}
use mathlib.Core.List.{List}
use native.Mathlib.Omega.{arith}
use borrow.Author.Tests.{eq-eqb, ne_eqb, lt-ltb, le-leb, eqb-true, ltb-true}
use lib.Dec.{eqb, ltb, leb}
use lib.Ieee.Bits.{is_true}
use lib.Ieee.Fits.{and_l, and_r}
use lib.ListN.{length, take, drop, take-append-drop}
use lib.Seq.{take-add}
use Rattle.floats.specs.Small.{positive}
use Rattle.floats.specs.Fold.{all_to}
use Rattle.floats.specs.Outcome.{Out, ok, no, bind, need}
use Rattle.floats.proofs.Folds.{all_at, all_cong}
use Rattle.floats.proofs.Outcomes.{need_yes, bind_yes, Each, each-ok, each-need}
use Rattle.blocks.specs.Words.{word, block, check_right}
use Rattle.blocks.specs.Bytes.{put}
use Rattle.blocks.proofs.Laws.{length_block}
use Rattle.book.specs.declared.Head.{Head}
use Rattle.book.specs.Places.{words, pair_count, block_count, row_from, pair_place}
use Rattle.book.specs.Book.{version_right, head_right, model_right, head_in, solvent_right, records_right, molar_mass, masses_right, cas_new, pair_right, row_right}
use Rattle.book.specs.Book.{pair_finite, alphas_equal, pairs_of, solvents_of, head_of, rule_of, book_of, offered_right, offered_of}
use Rattle.book.proofs.Laws.{place-above, place-within}
use Rattle.book.proofs.Accepted as open-book
use Rattle.records.specs.Offered.{place_named, names_pair, offers, offered_place, with_pair, pair_at}
use Rattle.records.proofs.Offered.{copy_length, copy-block, copy-words, copy-rule, copy-mass}
use Rattle.sheet.specs.Sheet.{sheet_from, sheet_of}
use Rattle.striking.proofs.Books.{so}
use Rattle.preview.specs.Preview.{preview_from, preview_of}
use Rattle.previews.specs.Copy.{copy_of, PreviewAsCopy, OwnPair}
use Rattle.previews.proofs.Places.{all_but, rows_but}

-- what a whole block that names a pair has
pub record Names (n : ℕ) (offered : List ℕ) : Type 0 where
  pub size : length offered ≡ 512
  pub ordered : word offered 1 < word offered 2
  pub below : word offered 2 < n

pub names : (n : ℕ) (offered : List ℕ) → names_pair n offered ≡ true → Names n offered
unfolding names_pair
names n offered e =
    let size = eqb (length offered) 512 in
    let ordered = ltb (word offered 1) (word offered 2) in
    let below = ltb (word offered 2) n in
    let front = and_l (size && ordered) below (so e) in
    record {
      size = eqb-true (length offered) 512 (is_true size (and_l size ordered front));
      ordered = ltb-true (word offered 1) (word offered 2) (is_true ordered (and_r size ordered front));
      below = ltb-true (word offered 2) n (is_true below (and_r (size && ordered) below (so e)));
    }

pub names-pair : (n : ℕ) (offered : List ℕ) → length offered ≡ 512 → word offered 1 < word offered 2 → word offered 2 < n → names_pair n offered ≡ true
unfolding names_pair
names-pair n offered e l m = rw (eq-eqb (length offered) 512 e, lt-ltb (word offered 1) (word offered 2) l, lt-ltb (word offered 2) n m)

need-same : {A : Type 0} (r : ℕ) {b c : Bool} {o p : Out A} → b ≡ c → o ≡ p → need b r o ≡ need c r p
need-same r e q = rw (e, q)

bind-same : {A B : Type 0} (o : Out A) (f g : A → Out B) → ((a : A) → o ≡ ok a → f a ≡ g a) → bind o f ≡ bind o g
unfolding bind
bind-same (ok a) f g e = e a refl
bind-same (no r) f g e = refl

-- a book that passes, and a block that names one of its pairs
pub record Offer (book offered : List ℕ) : Type 0 where
  pub head : Head
  pub opened : book_of book ≡ ok head
  pub named : names_pair head.n offered ≡ true

-- ---- the copy of the book
module _ (book offered : List ℕ) (o : Offer book offered) where
  abbrev h : Head
  h = o.head

  abbrev n : ℕ
  n = h.n

  abbrev copy : List ℕ
  copy = with_pair n book offered

  abbrev place : ℕ
  place = place_named n offered

  of_book : open-book.Accepted book n
  of_book = open-book.accepted book o.opened

  it : Names n offered
  it = names n offered o.named

  within : place < block_count n
  within = place-within n (word offered 1) (word offered 2) of_book.few it.ordered it.below

  offers-it : offers n book offered ≡ true
  unfolding offers
  offers-it = rw (o.named, le-leb (512 * (place + 1)) (length book) (omega (arith, within, of_book.size)))

  with-copy : with_pair n book offered ≡ copy_of n book offered
  unfolding with_pair
  with-copy = rw offers-it

  placed : offered_place n book offered ≡ Some place
  unfolding offered_place
  placed = rw offers-it

  -- its blocks
  pub copy-here : words copy place ≡ word offered
  copy-here =
      let e : block copy place ≡ pair_at book offered (Some place) place = rw placed at (copy-block n book offered place) in
      ap word (e ∙ rw (eq-eqb place place refl))

  pub copy_else : (k : ℕ) → k ≢ place → words copy k ≡ words book k
  copy_else k d =
      let e : block copy k ≡ pair_at book offered (Some place) k = rw placed at (copy-block n book offered k) in
      ap word (e ∙ rw (ne_eqb k place d))

  copy-solvent : (i : ℕ) → i < n → words copy (i + 1) ≡ words book (i + 1)
  copy-solvent i l = copy-words n book offered (i + 1) (omega arith)

  -- a test of the pairs' blocks that the book's pass
  pairs-copy : (q : (ℕ → ℕ) → Bool) → all_to (λ d. q (words book (1 + n + d))) (pair_count n) ≡ true
      → all_to (λ d. q (words copy (1 + n + d))) (pair_count n) ≡ q (word offered)
  pairs-copy q t =
      let above = place-above n (word offered 1) (word offered 2) in
      let e : 1 + n + (place - (1 + n)) ≡ place = omega arith in
      all_but (λ d. q (words copy (1 + n + d))) (pair_count n) (place - (1 + n)) (omega (arith, within)) (λ d l x.
      ap q (copy_else (1 + n + d) (λ z. x (omega arith))) ∙ all_at (λ d. q (words book (1 + n + d))) (pair_count n) d l t)
      ∙ ap (λ (k : ℕ). q (words copy k)) e ∙ ap q copy-here

  -- ---- its questions: 2
  checks-copy : all_to (λ k. check_right (rule_of copy) (words copy k)) (length copy / 512) ≡ check_right (rule_of book) (word offered)
  checks-copy =
      let count : length copy / 512 ≡ block_count n = omega (arith, copy_length n book offered, of_book.size) in
      rw (count, copy-rule n book offered)
      (all_but (λ k. check_right (rule_of book) (words copy k)) (block_count n) place within (λ k l x.
      ap (check_right (rule_of book)) (copy_else k x) ∙ all_at (λ k. check_right (rule_of book) (words book k)) (block_count n) k l of_book.checks)
      ∙ ap (check_right (rule_of book)) copy-here)

  -- 35, 6
  masses-copy : masses_right (words copy) h ≡ true
  unfolding masses_right
  masses-copy =
      let e : all_to (λ i. positive (molar_mass (words copy) i)) n ≡ all_to (λ i. positive (molar_mass (words book) i)) n =
      all_cong n (λ i l. ap positive (copy-mass n book offered i l)) in
      rw e (subst (λ (g : Head). masses_right (words book) g ≡ true) (open-book.opened-head book o.opened) of_book.masses)

  cas-copy : all_to (cas_new (words copy)) n ≡ true
  unfolding cas_new
  cas-copy =
      let cas : (i : ℕ) → i < n → words copy (i + 1) 2 ≡ words book (i + 1) 2 = λ i l. ap (λ (w : ℕ → ℕ). w 2) (copy-solvent i l) in
      all_cong n (λ i l. all_cong i (λ j m. both (cas j (omega arith)) (cas i l))) ∙ of_book.cas
    where
      both : {a b c d : ℕ} → a ≡ b → c ≡ d → not (eqb a c) ≡ not (eqb b d)
      both p q = rw (p, q)

  -- 7
  rows-copy : all_to (λ i. row_right (words copy) i (row_from n i) (n - i - 1)) n ≡ offered_right n (word offered)
  unfolding row_right pair_place
  rows-copy =
      rw (lt-ltb (word offered 1) (word offered 2) it.ordered, lt-ltb (word offered 2) n it.below)
      (all_cong n (λ i l. all_cong (n - i - 1) (λ d m. ap (λ (x : ℕ). pair_right (words copy (row_from n i + x)) i (i + 1 + d)) (back i d)))
      ∙ rows_but (λ a b. pair_right (words copy (pair_place n a b)) a b) n (word offered 1) (word offered 2) it.ordered it.below (λ a b l m x.
      ap (λ (w : ℕ → ℕ). pair_right w a b) (copy_else (pair_place n a b) x) ∙ open-book.pair-stands book n of_book a b l m)
      ∙ ap (λ (w : ℕ → ℕ). pair_right w (word offered 1) (word offered 2)) copy-here)
    where
      back : (i d : ℕ) → d ≡ i + 1 + d - i - 1
      back i d = omega arith

  pairs_open : pairs_of (words copy) h
      ≡ need (offered_right n (word offered)) 7 (need (pair_finite h.model (word offered)) 8 (need (alphas_equal h.model (word offered)) 9 (ok h)))
  unfolding pairs_of head_in
  pairs_open =
      let model = ap (λ (g : Head). g.model) (open-book.opened-head book o.opened) in
      need-same 7 rows-copy
      (need-same 8 (pairs-copy (pair_finite h.model) (rw model at of_book.floats))
      (need-same 9 (pairs-copy (alphas_equal h.model) (rw model at of_book.alphas)) refl))

  solvents_open : solvents_of (words copy) h ≡ pairs_of (words copy) h
  unfolding solvents_of
  solvents_open =
      need_yes 4 _ (all_cong n (λ i l. ap (λ (w : ℕ → ℕ). solvent_right w i) (copy-solvent i l)) ∙ of_book.solvents)
      ∙ need_yes 5 _ (all_cong n (λ i l. ap records_right (copy-solvent i l)) ∙ of_book.records)
      ∙ need_yes 35 _ masses-copy
      ∙ need_yes 6 _ cas-copy

  -- 3 and 37: block 0 is the book's
  head_open : head_of (words copy) (length copy / 512) ≡ solvents_of (words copy) h
  unfolding head_of
  head_open =
      let block_0 = copy-words n book offered 0 (omega arith) in
      let count : length copy / 512 ≡ block_count n = omega (arith, copy_length n book offered, of_book.size) in
      let same : words copy 0 2 ≡ n = ap (λ (w : ℕ → ℕ). w 2) block_0 ∙ of_book.count in
      need_yes 3 _ (ap head_right block_0 ∙ of_book.head)
      ∙ need_yes 3 _ (eq-eqb (length copy / 512) (block_count (words copy 0 2)) (count ∙ ap (λ (x : ℕ). block_count x) (sym same)))
      ∙ need_yes 37 _ (ap model_right block_0 ∙ of_book.model)
      ∙ ap (solvents_of (words copy)) (ap head_in block_0 ∙ open-book.opened-head book o.opened)

  -- the copy's questions are the offered block's
  copy_open : book_of copy ≡ offered_of (rule_of book) h offered
  unfolding book_of offered_of
  copy_open =
      let block_0 = copy-words n book offered 0 (omega arith) in
      let long = copy_length n book offered in
      need_yes 1 _ (eq-eqb (length copy % 512) 0 (omega (arith, long, of_book.size)))
      ∙ need_yes 1 _ (lt-ltb 0 (length copy) (omega (arith, long, of_book.size)))
      ∙ need_yes 38 _ (ap version_right block_0 ∙ of_book.version)
      ∙ need-same 2 checks-copy (head_open ∙ solvents_open ∙ pairs_open)
      ∙ sym (need_yes 1 _ (eq-eqb (length offered) 512 it.size))

  -- they say what block 0 of the book does
  offered_head : Each (λ (g : Head). h ≡ g) (offered_of (rule_of book) h offered)
  unfolding offered_of
  offered_head =
      let P : Head → Type 0 = λ g. h ≡ g in
      each-need P _ 1 (each-need P _ 2 (each-need P _ 7 (each-need P _ 8 (each-need P _ 9 (each-ok P refl)))))

  pub as_copy : (question : List ℕ) (room : ℕ) → preview_of book offered question room ≡ sheet_of copy question room
  unfolding preview_of preview_from sheet_of
  as_copy question room =
      bind_yes _ o.opened
      ∙ bind-same (offered_of (rule_of book) h offered) _ _ (λ g e.
      ap (λ (x : Head). sheet_from (with_pair x.n book offered) g.version g.n question room) (sym (offered_head.each g e)))
      ∙ ap (λ (x : Out Head). bind x (λ g. sheet_from copy g.version g.n question room)) (sym copy_open)

pub preview_as_copy : PreviewAsCopy
preview_as_copy book offered question room h opened named =
    let o : Offer book offered = record { head = h; opened = opened; named = named } in
    as_copy book offered o question room ∙ ap (λ (s : List ℕ). sheet_of s question room) (with-copy book offered o)

-- ---- the book's own block
put-own : (l : List ℕ) (p : ℕ) → 512 * p + 512 ≤ length l → put l (512 * p) (block l p) ≡ l
unfolding block
put-own l p fits =
    let long : length (take 512 (drop (512 * p) l)) ≡ 512 = length_block l p fits in
    rw (long, ← take-add (512 * p) 512 l) (take-append-drop (512 * p + 512) l)

-- what the book's questions say of words 1 and 2 of the pair (i, j)
due : (w : ℕ → ℕ) (i j : ℕ) → pair_right w i j ≡ true → (w 1 ≡ i) × (w 2 ≡ j)
unfolding pair_right
due w i j e =
    let kind = eqb (w 0) 3 in
    let first = eqb (w 1) i in
    let second = eqb (w 2) j in
    let low = leb (w 15) 1 in
    let high = leb (w 18) 1 in
    let a = and_l (kind && first && second) low (and_l (kind && first && second && low) high (so e)) in
    let b = and_l (kind && first) second a in
    (eqb-true (w 1) i (is_true first (and_r kind first b)), eqb-true (w 2) j (is_true second (and_r (kind && first) second a)))

pub own_pair : OwnPair
own_pair book question room i j h opened l m =
    let n = h.n in
    let a = open-book.accepted book opened in
    let place = pair_place n i j in
    let own = block book place in
    let fits : 512 * place + 512 ≤ length book = omega (arith, place-within n i j a.few l m, a.size) in
    let ij = due (word own) i j (open-book.pair-stands book n a i j l m) in
    let named : names_pair n own ≡ true = names-pair n own (length_block book place fits) (omega (arith, ij.0, ij.1)) (omega (arith, ij.1)) in
    let placed : place_named n own ≡ place = rw (ij.0, ij.1) in
    preview_as_copy book own question room h opened named
    ∙ ap (λ (s : List ℕ). sheet_of s question room) (ap (λ (p : ℕ). put book (512 * p) own) placed ∙ put-own book place fits)
