-- Word k counts 63 - k times in the sum of running sums, so an exchange of neighbours changes it by their difference. Assumes nothing.
use Prim.Native.Nat.{ℕ, zero, suc, ◌+◌, ◌%◌, ◌^◌, ◌≤◌, ◌<◌}
use mathlib.Core.Path.{◌≡◌, refl}
use mathlib.Core.Logic.{◌≢◌, ⊎_elim}
use native.Mathlib.Nat.{eq-or-lt_of_le}
use native.Mathlib.Omega.{arith}
use Rattle.blocks.specs.Words.{check_sum, running_sum}

left : (a b : ℕ) → (a % 2 ^ 64 + b) % 2 ^ 64 ≡ (a + b) % 2 ^ 64
left a b = omega arith

right : (a b : ℕ) → (a + b % 2 ^ 64) % 2 ^ 64 ≡ (a + b) % 2 ^ 64
right a b = omega arith

-- c, x and y are sums so far, a and b the two words
turned : (c a b : ℕ) → ((c + b) % 2 ^ 64 + a) % 2 ^ 64 ≡ ((c + a) % 2 ^ 64 + b) % 2 ^ 64
turned c a b = omega arith

moved : (x c a b : ℕ) → ((x + (c + b) % 2 ^ 64) % 2 ^ 64 + a) % 2 ^ 64 ≡ ((x + (c + a) % 2 ^ 64) % 2 ^ 64 + b) % 2 ^ 64
moved x c a b =
    let e : x + (c + b) + a ≡ x + (c + a) + b = omega arith in
    rw (right x (c + b), right x (c + a), left (x + (c + b)) a, left (x + (c + a)) b, e)

more : (x y c a b : ℕ) → (x + a) % 2 ^ 64 ≡ (y + b) % 2 ^ 64 → ((x + c) % 2 ^ 64 + a) % 2 ^ 64 ≡ ((y + c) % 2 ^ 64 + b) % 2 ^ 64
more x y c a b e = omega arith

equal : (x a b : ℕ) → a < 2 ^ 64 → b < 2 ^ 64 → (x + a) % 2 ^ 64 ≡ (x + b) % 2 ^ 64 → a ≡ b
equal x a b p q e = omega arith

module _ (w v : ℕ → ℕ) (k : ℕ) (l : k < 62) (first : v k ≡ w (suc k)) (second : v (suc k) ≡ w k)
    (other : (m : ℕ) → m < 63 → m ≢ k → m ≢ suc k → v m ≡ w m) where
  sum_before : (n : ℕ) → n ≤ k → check_sum v n ≡ check_sum w n
  unfolding check_sum
  sum_before zero h = refl
  sum_before (suc n) h =
      rw (sum_before n (omega arith), other n (omega arith) (λ (z : n ≡ k). omega arith) (λ (z : n ≡ suc k). omega arith))

  sum-behind : (n : ℕ) → suc (suc k) ≤ n → n ≤ 63 → check_sum v n ≡ check_sum w n
  unfolding check_sum
  sum-behind zero h m = absurd (omega arith)
  sum-behind (suc n) h m =
      ⊎_elim
      (λ e. let z : n ≡ suc k = omega arith in rw (z, first, second, sum_before k (omega arith)) (turned (check_sum w k) (w k) (w (suc k))))
      (λ g. rw (sum-behind n (omega arith) (omega arith), other n (omega arith) (λ (z : n ≡ k). omega arith) (λ (z : n ≡ suc k). omega arith)))
      (eq-or-lt_of_le h)

  runs_before : (n : ℕ) → n ≤ k → running_sum v n ≡ running_sum w n
  unfolding running_sum
  runs_before zero h = refl
  runs_before (suc n) h = rw (runs_before n (omega arith), sum_before (suc n) h)

  runs-behind : (n : ℕ) → suc k ≤ n → n ≤ 63 → (running_sum v n + w k) % 2 ^ 64 ≡ (running_sum w n + w (suc k)) % 2 ^ 64
  unfolding check_sum running_sum
  runs-behind zero h m = absurd (omega arith)
  runs-behind (suc n) h m =
      ⊎_elim
      (λ e. let z : n ≡ k = omega arith in
      rw (z, first, runs_before k (omega arith), sum_before k (omega arith)) (moved (running_sum w k) (check_sum w k) (w k) (w (suc k))))
      (λ g. let s : check_sum v (suc n) ≡ check_sum w (suc n) = sum-behind (suc n) (omega arith) m in
      rw s (more (running_sum v n) (running_sum w n) (check_sum w (suc n)) (w k) (w (suc k)) (runs-behind n (omega arith) (omega arith))))
      (eq-or-lt_of_le h)

  -- so equal sums are of equal words
  pub exchange_seen : w k < 2 ^ 64 → w (suc k) < 2 ^ 64 → running_sum v 63 ≡ running_sum w 63 → w k ≡ w (suc k)
  exchange_seen p q e = equal (running_sum w 63) (w k) (w (suc k)) p q (rw e at (runs-behind 63 (omega arith) (omega arith)))
