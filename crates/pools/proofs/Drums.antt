-- Drums and their pool: the sum, a drum alone, and any order. Assumes nothing.
use Prim.Native.Nat.{ℕ, zero, suc, ◌+◌, ◌*◌, ◌/◌, ◌<◌, ◌≤◌}
use mathlib.Core.Path.{◌≡◌, refl, sym, ap, ◌∙◌}
use mathlib.Core.Bool.{true}
use mathlib.Core.List.{List, [], ◌∷◌, ◌++◌, flatten, Permᴰ}
use native.Mathlib.Omega.{arith}
use lib.ListN.{length, get_or, length-append, get_or-append}
use lib.Seq.{get_or-append-add}
use Rattle.floats.specs.Fold.{fold_to}
use Rattle.floats.specs.Outcome.{Out, ok, no, bind}
use Rattle.thermo_types.specs.Composition.{normalize_of}
use Rattle.thermo_types.proofs.Normalizing.{normalize_cong}
use Rattle.blocks.specs.Words.{word}
use Rattle.book.specs.declared.Head.{Head}
use Rattle.book.specs.Book.{book_of}
use Rattle.book.proofs.Accepted.{accepted}
use Rattle.striking.specs.Questions.{solvents}
use Rattle.pool.specs.Pool.{total_to, drum_count, count_in, pool_count, pool_total, drums_right, total_right, amount, pool_feed, drums_to, pooled_from, pooled_of}
use Rattle.pool.proofs.Laws.{total_cong}
use Rattle.pools.specs.Drums.{OneTotal, SingleDrum, AsOneDrum, Whole, AnyOrder}

-- ---- two sums in either order
total_zero : (n : ℕ) → total_to (λ k. 0) n ≡ 0
unfolding fold_to
total_zero zero = refl
total_zero (suc n) = let e = total_zero n in omega arith

pub zeros-total : (f : ℕ → ℕ) (n : ℕ) → ((k : ℕ) → k < n → f k ≡ 0) → total_to f n ≡ 0
zeros-total f n e = total_cong f (λ k. 0) n e ∙ total_zero n

total-add : (f g : ℕ → ℕ) (n : ℕ) → total_to (λ k. f k + g k) n ≡ total_to f n + total_to g n
unfolding fold_to
total-add f g zero = refl
total-add f g (suc n) = let e = total-add f g n in omega arith

exchange : (f : ℕ → ℕ → ℕ) (m n : ℕ) → total_to (λ i. total_to (λ d. f d i) m) n ≡ total_to (λ d. total_to (f d) n) m
unfolding fold_to
exchange f zero n = total_zero n
exchange f (suc m) n = total-add (λ i. total_to (λ d. f d i) m) (f m) n ∙ ap (λ (s : ℕ). s + total_to (f m) n) (exchange f m n)

pub one-total : OneTotal
unfolding pool_total pool_count
one-total drums n = exchange (count_in drums) (drum_count drums) n

-- ---- a drum alone
one-term : (f : ℕ → ℕ) → total_to f 1 ≡ f 0
unfolding fold_to
one-term f = omega arith

pub single_drum : SingleDrum
unfolding pool_count
single_drum drum e i = let d : length drum / 64 ≡ 1 = omega arith in rw d (one-term (λ d. count_in drum d i))

-- ---- a call sees of its drums whether they are right, and the pool's counts
pub sized-alike : (drums drums' : List ℕ) → length drums ≡ length drums' → drums_right drums ≡ drums_right drums'
unfolding drums_right
sized-alike drums drums' e = rw e

module _ (drums drums' : List ℕ) (d : drums_right drums ≡ drums_right drums') where
  drums_alike : (book question : List ℕ) (n : ℕ) → ((i : ℕ) → i < n → pool_count drums i ≡ pool_count drums' i)
      → drums_to book n question drums ≡ drums_to book n question drums'
  unfolding drums_to total_right pool_total pool_feed
  drums_alike book question n c =
      let t : total_to (pool_count drums) n ≡ total_to (pool_count drums') n = total_cong (pool_count drums) (pool_count drums') n c in
      let f : normalize_of (λ i. amount (pool_count drums i)) n ≡ normalize_of (λ i. amount (pool_count drums' i)) n =
      normalize_cong n (λ i l. ap amount (c i l)) in
      rw (d, t, f)

  pub pool_alike : (book question : List ℕ) (room : ℕ) → ((i : ℕ) → i < solvents book → i < 8 → pool_count drums i ≡ pool_count drums' i)
      → pooled_of book question drums room ≡ pooled_of book question drums' room
  unfolding pooled_of pooled_from bind
  pool_alike book question room c = go (book_of book) refl
    where
      go : (o : Out Head) → book_of book ≡ o
          → bind o (λ h. pooled_from book h.n question drums room) ≡ bind o (λ h. pooled_from book h.n question drums' room)
      go (no r) e = refl
      go (ok h) e =
          let a = accepted book e in
          rw (drums_alike book question h.n (λ i l. c i (omega (arith, a.count)) (omega (arith, a.few))))

pub as_one-drum : AsOneDrum
as_one-drum book question drums drum room d e c =
    pool_alike drums drum (d ∙ sym one) book question room (λ i l k. sym (c i l) ∙ sym (single_drum drum e i))
  where
    one : drums_right drum ≡ true
    one = unfold drums_right in rw e refl

-- ---- the words of bytes one behind the other
word_first : (s t : List ℕ) (k : ℕ) → 8 * k + 8 ≤ length s → word (s ++ t) k ≡ word s k
unfolding word
word_first s t k l =
    let g : (i : ℕ) → i < 8 → get_or (s ++ t) (8 * k + i) 0 ≡ get_or s (8 * k + i) 0 = λ i h. get_or-append s t 0 (8 * k + i) (omega arith) in
    let z : get_or (s ++ t) (8 * k) 0 ≡ get_or s (8 * k) 0 = get_or-append s t 0 (8 * k) (omega arith) in
    rw (z, g 1 (omega arith), g 2 (omega arith), g 3 (omega arith), g 4 (omega arith), g 5 (omega arith), g 6 (omega arith), g 7 (omega arith))

word-second : (s t : List ℕ) (m k : ℕ) → length s ≡ 8 * m → word (s ++ t) (m + k) ≡ word t k
unfolding word
word-second s t m k e =
    let g : (i : ℕ) → get_or (s ++ t) (8 * (m + k) + i) 0 ≡ get_or t (8 * k + i) 0 = λ i.
    let h : 8 * (m + k) + i ≡ length s + (8 * k + i) = omega arith in rw h (get_or-append-add s t (8 * k + i) 0) in
    let z : get_or (s ++ t) (8 * (m + k)) 0 ≡ get_or t (8 * k) 0 = let h : 8 * (m + k) ≡ length s + 8 * k = omega arith in rw h (get_or-append-add s t (8 * k) 0) in
    rw (z, g 1, g 2, g 3, g 4, g 5, g 6, g 7)

-- ---- the first drum, then the others
total-front : (f : ℕ → ℕ) (n : ℕ) → total_to f (suc n) ≡ f 0 + total_to (λ k. f (suc k)) n
unfolding fold_to
total-front f zero = omega arith
total-front f (suc n) = let e = total-front f n in omega arith

count-front : (s t : List ℕ) (i : ℕ) → length s ≡ 64 → i < 8 → pool_count (s ++ t) i ≡ word s i + pool_count t i
unfolding pool_count
count-front s t i e l =
    let c : length (s ++ t) / 64 ≡ suc (length t / 64) = omega (arith, length-append s t) in
    let first : word (s ++ t) (8 * 0 + i) ≡ word s i = let h : 8 * 0 + i ≡ i = omega arith in rw h (word_first s t i (omega arith)) in
    let others : (d : ℕ) → word (s ++ t) (8 * suc d + i) ≡ word t (8 * d + i) = λ d.
    let h : 8 * suc d + i ≡ 8 + (8 * d + i) = omega arith in rw h (word-second s t 8 (8 * d + i) e) in
    rw c (total-front (λ d. count_in (s ++ t) d i) (length t / 64) ∙ ap (λ (x : ℕ). x + total_to (λ d. count_in (s ++ t) (suc d) i) (length t / 64)) first
    ∙ ap (λ (x : ℕ). word s i + x) (total_cong (λ d. count_in (s ++ t) (suc d) i) (λ d. count_in t d i) (length t / 64) (λ d h. others d)))

-- ---- sums over a list of drums, in any order
unfoldable over : (List ℕ → ℕ) → List (List ℕ) → ℕ
over f [] = 0
over f (d ∷ ds) = f d + over f ds

over_any : (f : List ℕ → ℕ) {ds ds' : List (List ℕ)} → Permᴰ ds ds' → over f ds ≡ over f ds'
unfolding over
over_any f Permᴰ.nil = refl
over_any f (Permᴰ.cons e p) = let h = over_any f p in rw (e, h)
over_any f (Permᴰ.swap {a = a} {b = b} {l = l} e g) = rw (← e, ← g) (omega arith)
over_any f (Permᴰ.trans p q) = over_any f p ∙ over_any f q

whole_any : {ds ds' : List (List ℕ)} → Permᴰ ds ds' → Whole ds → Whole ds'
whole_any Permᴰ.nil w = w
whole_any (Permᴰ.cons e p) w = (rw (← e) w.0, whole_any p w.1)
whole_any (Permᴰ.swap e g) w = (rw (← g) w.1.0, (rw (← e) w.0, w.1.1))
whole_any (Permᴰ.trans p q) w = whole_any q (whole_any p w)

long : (ds : List (List ℕ)) → length (flatten ds) ≡ over length ds
unfolding over flatten
long [] = refl
long (d ∷ ds) = length-append d (flatten ds) ∙ ap (λ (x : ℕ). length d + x) (long ds)

counts : (ds : List (List ℕ)) → Whole ds → (i : ℕ) → i < 8 → pool_count (flatten ds) i ≡ over (λ d. word d i) ds
unfolding over flatten
counts [] w i l = unfold pool_count fold_to in refl
counts (d ∷ ds) w i l = count-front d (flatten ds) i w.0 l ∙ ap (λ (x : ℕ). word d i + x) (counts ds w.1 i l)

pub any_order : AnyOrder
any_order book question room ds ds' w p =
    let e : length (flatten ds) ≡ length (flatten ds') = long ds ∙ over_any length p ∙ sym (long ds') in
    pool_alike (flatten ds) (flatten ds') (sized-alike (flatten ds) (flatten ds') e) book question room (λ i l k.
    counts ds w i k ∙ over_any (λ d. word d i) p ∙ sym (counts ds' (whole_any p w) i k))
