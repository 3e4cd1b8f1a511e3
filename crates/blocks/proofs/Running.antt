-- Check sums and running sums as sums of natural numbers modulo 2^64, and the running sums of a whole block in four lanes. Assumes nothing.
use Rattle.std.proofs.Common.{◌≡◌, ℕ, zero, suc, ◌+◌, ◌*◌, ◌/◌, ◌%◌, ◌^◌, ◌<◌, ◌≤◌, List, length, ⊎_elim, eq-or-lt_of_le, sym, refl, ap, ◌∙◌, add-one, arith}
use lib.ListN.{set, replicate, length-set, get_or-replicate}
use lib.Seq.{get_or-set_same, get_or-set_other}
use Rattle.blocks.specs.Bytes.{word_at}
use Rattle.blocks.specs.Words.{word_from, word, check_sum, running_sum}

-- w 0 to w (n - 1), and the running sums after each
pub total : (ℕ → ℕ) → ℕ → ℕ
total w zero = 0
total w (suc n) = total w n + w n

pub runs : (ℕ → ℕ) → ℕ → ℕ
runs w zero = 0
runs w (suc n) = runs w n + total w (suc n)

carry-left : (a b : ℕ) → (a % 2 ^ 64 + b) % 2 ^ 64 ≡ (a + b) % 2 ^ 64
carry-left a b = omega arith

carry-both : (a b : ℕ) → (a % 2 ^ 64 + b % 2 ^ 64) % 2 ^ 64 ≡ (a + b) % 2 ^ 64
carry-both a b = omega arith

dropped : (a q : ℕ) → (a + 2 ^ 64 * q) % 2 ^ 64 ≡ a % 2 ^ 64
dropped a q = omega arith

pub check-total : (w : ℕ → ℕ) (n : ℕ) → check_sum w n ≡ total w n % 2 ^ 64
unfolding check_sum total
check-total w zero = refl
check-total w (suc n) = rw (check-total w n) (carry-left (total w n) (w n))

pub running-runs : (w : ℕ → ℕ) (n : ℕ) → running_sum w n ≡ runs w n % 2 ^ 64
unfolding running_sum runs
running-runs w zero = refl
running-runs w (suc n) = rw (running-runs w n, check-total w (suc n)) (carry-both (runs w n) (total w (suc n)))

-- lane c after r rows of four words: its sum, and the sum of what that was before each row
pub lane : (ℕ → ℕ) → ℕ → ℕ → ℕ
lane w c zero = 0
lane w c (suc r) = lane w c r + w (4 * r + c)

pub late : (ℕ → ℕ) → ℕ → ℕ → ℕ
late w c zero = 0
late w c (suc r) = late w c r + lane w c r

pub lane-turn : (w : ℕ → ℕ) (c r : ℕ) {a x y : ℕ} → a ≡ lane w c r % 2 ^ 64 → x ≡ w (4 * r + c) → y ≡ (a + x) % 2 ^ 64 → y ≡ lane w c (r + 1) % 2 ^ 64
unfolding lane
lane-turn w c r e v h = rw add-one (h ∙ rw (e, v) (carry-left (lane w c r) (w (4 * r + c))))

pub late-turn : (w : ℕ → ℕ) (c r : ℕ) {a t y : ℕ} → t ≡ late w c r % 2 ^ 64 → a ≡ lane w c r % 2 ^ 64 → y ≡ (t + a) % 2 ^ 64 → y ≡ late w c (r + 1) % 2 ^ 64
unfolding late
late-turn w c r e v h = rw add-one (h ∙ rw (e, v) (carry-both (late w c r) (lane w c r)))

-- four numbers, those before c those of g already, the others of f still
pub record Turning (f g : ℕ → ℕ) (c : ℕ) (l : List ℕ) : Type 0 where
  pub long : length l ≡ 4
  pub turned : (k : ℕ) → k < c → word_at l k ≡ g k % 2 ^ 64
  pub left : (k : ℕ) → c ≤ k → k < 4 → word_at l k ≡ f k % 2 ^ 64

module _ {f g : ℕ → ℕ} {l : List ℕ} where
  turning-next : (c : ℕ) {y : ℕ} → c < 4 → y ≡ g c % 2 ^ 64 → Turning f g c l → Turning f g (c + 1) (set l c y)
  turning-next c {y} h e t = record {
    long = length-set l c y ∙ t.long;
    turned = λ k q. ⊎_elim
        (λ (p : k ≡ c). rw p (get_or-set_same l c y 0 (omega (arith, t.long)) ∙ e))
        (λ (p : k < c). get_or-set_other l c k y 0 (omega arith) ∙ t.turned k p)
        (eq-or-lt_of_le (omega arith));
    left = λ k q r. get_or-set_other l c k y 0 (omega arith) ∙ t.left k (omega arith) r;
  }

  turning-done : {h : ℕ → ℕ} (c : ℕ) → 4 ≤ c → Turning f g c l → Turning g h 0 l
  turning-done c z t = record { long = t.long; turned = λ k q. absurd (omega arith); left = λ k _ q. t.turned k (omega arith) }

-- the eight sums after r rows and c words of the next
pub record Lanes (w : ℕ → ℕ) (r c : ℕ) (a t : List ℕ) : Type 0 where
  pub sums : Turning (λ k. lane w k r) (λ k. lane w k (r + 1)) c a
  pub earlier : Turning (λ k. late w k r) (λ k. late w k (r + 1)) c t

pub lanes_start : (w : ℕ → ℕ) → Lanes w 0 0 (replicate 4 0) (replicate 4 0)
unfolding lane late
lanes_start w = record {
  sums = record { long = refl; turned = λ k q. absurd (omega arith); left = λ k _ q. get_or-replicate 4 k 0 0 q };
  earlier = record { long = refl; turned = λ k q. absurd (omega arith); left = λ k _ q. get_or-replicate 4 k 0 0 q };
}

pub lanes-turn : (w : ℕ → ℕ) (r c : ℕ) {a t : List ℕ} {x y z : ℕ} → c < 4 → x ≡ w (4 * r + c) → y ≡ (word_at t c + word_at a c) % 2 ^ 64 → z ≡ (word_at a c + x) % 2 ^ 64
    → Lanes w r c a t → Lanes w r (c + 1) (set a c z) (set t c y)
lanes-turn w r c h e ey ez l =
    let n : c ≤ c = omega arith in
    record {
      sums = turning-next c h (lane-turn w c r (l.sums.left c n h) e ez) l.sums;
      earlier = turning-next c h (late-turn w c r (l.earlier.left c n h) (l.sums.left c n h) ey) l.earlier;
    }

pub lanes_done : (w : ℕ → ℕ) (r c : ℕ) {a t : List ℕ} → 4 ≤ c → Lanes w r c a t → Lanes w (r + 1) 0 a t
lanes_done w r c h l = record { sums = turning-done c h l.sums; earlier = turning-done c h l.earlier }

pub row_word : (s : List ℕ) (r c : ℕ) {at x : ℕ} → at ≡ 8 * (4 * r + c) → x ≡ word_from s at → x ≡ word s (4 * r + c)
unfolding word
row_word s r c e h = h ∙ rw e

four : (r : ℕ) → 4 * suc r ≡ suc (suc (suc (suc (4 * r))))
four r = omega arith

lanes-total : (w : ℕ → ℕ) (r : ℕ) → total w (4 * r) ≡ lane w 0 r + lane w 1 r + lane w 2 r + lane w 3 r
unfolding lane total
lanes-total w zero = refl
lanes-total w (suc r) =
    let e0 : 4 * r + 0 ≡ 4 * r = omega arith in
    let e1 : 4 * r + 1 ≡ suc (4 * r) = omega arith in
    let e2 : 4 * r + 2 ≡ suc (suc (4 * r)) = omega arith in
    let e3 : 4 * r + 3 ≡ suc (suc (suc (4 * r))) = omega arith in
    rw (four r, e0, e1, e2, e3) (omega (arith, lanes-total w r))

lanes-runs : (w : ℕ → ℕ) (r : ℕ)
    → runs w (4 * r) ≡ 4 * (late w 0 r + late w 1 r + late w 2 r + late w 3 r) + 4 * lane w 0 r + 3 * lane w 1 r + 2 * lane w 2 r + lane w 3 r
unfolding lane late total runs
lanes-runs w zero = refl
lanes-runs w (suc r) =
    let e0 : 4 * r + 0 ≡ 4 * r = omega arith in
    let e1 : 4 * r + 1 ≡ suc (4 * r) = omega arith in
    let e2 : 4 * r + 2 ≡ suc (suc (4 * r)) = omega arith in
    let e3 : 4 * r + 3 ≡ suc (suc (suc (4 * r))) = omega arith in
    rw (four r, e0, e1, e2, e3) (omega (arith, lanes-runs w r, lanes-total w r))

lanes_end : (w : ℕ → ℕ) → runs w 63 ≡ 4 * (late w 0 16 + late w 1 16 + late w 2 16 + late w 3 16) + 3 * lane w 0 16 + 2 * lane w 1 16 + lane w 2 16
unfolding runs
lanes_end w = ends (runs w 63) (total w 64) _ _ _ _ _ (lanes-runs w 16) (lanes-total w 16)
  where
    ends : (x y t a b c d : ℕ) → x + y ≡ 4 * t + 4 * a + 3 * b + 2 * c + d → y ≡ a + b + c + d → x ≡ 4 * t + 3 * a + 2 * b + c
    ends x y t a b c d e h = omega arith

modulo : (x y z u a b c : ℕ) → (4 * (x % 2 ^ 64 + y % 2 ^ 64 + z % 2 ^ 64 + u % 2 ^ 64) + 3 * (a % 2 ^ 64) + 2 * (b % 2 ^ 64) + c % 2 ^ 64) % 2 ^ 64
    ≡ (4 * (x + y + z + u) + 3 * a + 2 * b + c) % 2 ^ 64
modulo x y z u a b c =
    let e : (k : ℕ) → k ≡ k % 2 ^ 64 + 2 ^ 64 * (k / 2 ^ 64) = λ k. omega arith in
    let g : 4 * (x + y + z + u) + 3 * a + 2 * b + c
    ≡ 4 * (x % 2 ^ 64 + y % 2 ^ 64 + z % 2 ^ 64 + u % 2 ^ 64) + 3 * (a % 2 ^ 64) + 2 * (b % 2 ^ 64) + c % 2 ^ 64
    + 2 ^ 64 * (4 * (x / 2 ^ 64 + y / 2 ^ 64 + z / 2 ^ 64 + u / 2 ^ 64) + 3 * (a / 2 ^ 64) + 2 * (b / 2 ^ 64) + c / 2 ^ 64) =
    omega (arith, e x, e y, e z, e u, e a, e b, e c) in
    sym (ap (λ (k : ℕ). k % 2 ^ 64) g ∙ dropped _ _)

pub lanes-sum : (w : ℕ → ℕ) {r v : ℕ} {a t : List ℕ} → Lanes w r 0 a t → r ≡ 16
    → v ≡ (4 * (word_at t 0 + word_at t 1 + word_at t 2 + word_at t 3) + 3 * word_at a 0 + 2 * word_at a 1 + word_at a 2) % 2 ^ 64 → v ≡ running_sum w 63
lanes-sum w {r} l n h =
    let s = λ (k : ℕ) (q : k < 4). l.sums.left k (omega arith) q in
    let e = λ (k : ℕ) (q : k < 4). l.earlier.left k (omega arith) q in
    h ∙ rw (s 0 (omega arith), s 1 (omega arith), s 2 (omega arith), e 0 (omega arith), e 1 (omega arith), e 2 (omega arith), e 3 (omega arith), n, running-runs, lanes_end)
    (modulo (late w 0 16) (late w 1 16) (late w 2 16) (late w 3 16) (lane w 0 16) (lane w 1 16) (lane w 2 16))
