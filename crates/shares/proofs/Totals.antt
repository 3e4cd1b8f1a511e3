-- Sums of units, exact and rounded at each step, of up to 1024 numbers and of their shares. Nothing here is about floats. Assumes nothing.
use mathlib.Core.Path.{◌≡◌, ap}
use Prim.Native.Nat.{ℕ, zero, suc, ◌+◌, ◌*◌, ◌^◌, ◌<◌, ◌≤◌}
use mathlib.Core.Logic.{⊎_elim}
use native.Mathlib.Nat.{le_trans, le_of_eq, eq-or-lt_of_le, le_of_mul-le-mul_right, mul-le-mul_right, mul-le-mul_left, mul_comm, mul_right_comm, suc-mul, add-mul}
use native.Mathlib.Omega.{arith}
use lib.Dec.{lit≤}
use Rattle.shares.proofs.Rounding.{Near, G, Close, close}

unfoldable pub total : (ℕ → ℕ) → ℕ → ℕ
total x zero = 0
total x (suc k) = total x k + x k

unfoldable pub rounded : (ℕ → ℕ) → ℕ → ℕ
rounded x zero = 0
rounded x (suc k) = G (rounded x k + x k)

-- r is t but for d of 2 ^ 51
abbrev Off : ℕ → ℕ → ℕ → Type 0
Off r t d = (r * 2 ^ 51 ≤ t * 2 ^ 51 + d) × (t * 2 ^ 51 ≤ r * 2 ^ 51 + d)

at_most : (p t y b d : ℕ) → d ≤ 1024 * b → (t + y) * 2 ≤ b → p * 2 ^ 51 ≤ t * 2 ^ 51 + d → p + y ≤ b
at_most p t y b d l h o = omega arith

-- f for 2 ^ 51
one_more : (f p t y r b d : ℕ) → p + y ≤ b → r * f ≤ (p + y) * f + (p + y) → p * f ≤ t * f + d → r * f ≤ (t + y) * f + (d + b)
one_more f p t y r b d l c o = let e = add-mul p y f in rw (add-mul t y f) (omega arith)

one_less : (f p t y r b d : ℕ) → p + y ≤ b → (p + y) * f ≤ r * f + (p + y) → t * f ≤ p * f + d → (t + y) * f ≤ r * f + (d + b)
one_less f p t y r b d l c o = let e = add-mul p y f in rw (add-mul t y f) (omega arith)

next : (p t y r b d : ℕ) → d ≤ 1024 * b → (t + y) * 2 ≤ b → Close r (p + y) → Off p t d → Off r (t + y) (d + b)
next p t y r b d l h c o =
    let a = at_most p t y b d l h o.0 in
    (one_more (2 ^ 51) p t y r b d a c.0 o.0, one_less (2 ^ 51) p t y r b d a c.1 o.1)

off : (x : ℕ → ℕ) (n b : ℕ) → n ≤ 1024 → total x n * 2 ≤ b → Off (rounded x n) (total x n) (n * b)
unfolding total rounded
off x zero b l h = (omega arith, omega arith)
off x (suc n) b l h =
    rw suc-mul
    (next (rounded x n) (total x n) (x n) (rounded x (suc n)) b (n * b) (mul-le-mul_right b (omega arith)) h (close (rounded x n + x n)) (off x n b (omega arith) (omega arith)))

-- r is t but for a part of 2 ^ k
abbrev pub Part : ℕ → ℕ → ℕ → Type 0
Part k r t = (r * 2 ^ k ≤ t * 2 ^ k + t) × (t * 2 ^ k ≤ r * 2 ^ k + t)

part : (r t d : ℕ) → d ≤ 1024 * (t * 2) → Off r t d → Part 40 r t
part r t d l o = (omega arith, omega arith)

pub sum-part : (x : ℕ → ℕ) (n : ℕ) → n ≤ 1024 → Part 40 (rounded x n) (total x n)
sum-part x n l = part (rounded x n) (total x n) (n * (total x n * 2)) (mul-le-mul_right (total x n * 2) l) (off x n (total x n * 2) l (omega arith))

-- ---- shares: y i is x i * w / s but for a part of 2 ^ 52 and one unit
abbrev Sums : ℕ → ℕ → ℕ → Type 0
Sums a b d = (a * 2 ^ 52 ≤ b * 2 ^ 52 + b + d) × (b * 2 ^ 52 ≤ a * 2 ^ 52 + b + d)

both : (a b d p q c : ℕ) → Sums a b d → Sums p q c → Sums (a + p) (b + q) (d + c)
both a b d p q c h k = (omega arith, omega arith)

shares_sum : (x y : ℕ → ℕ) (w s n : ℕ) → ((i : ℕ) → i < n → Near (y i) (x i * w) s) → Sums (total y n * s) (total x n * w) (n * (s * 2 ^ 52))
unfolding total
shares_sum x y w s zero h = (omega arith, omega arith)
shares_sum x y w s (suc n) h =
    rw (add-mul (total y n) (y n) s, add-mul (total x n) (x n) w, suc-mul n (s * 2 ^ 52))
    (both (total y n * s) (total x n * w) (n * (s * 2 ^ 52)) (y n * s) (x n * w) (s * 2 ^ 52) (shares_sum x y w s n (λ i l. h i (omega arith))) (h n (omega arith)))

-- in small steps: `omega` reads numbers of up to 38 digits
twice : (b c : ℕ) → b * 2 ^ 40 ≤ c * 2 ^ 40 + b → b ≤ c * 2
twice b c h = omega arith

narrow : (a b c e : ℕ) → a * 2 ^ 52 ≤ b * 2 ^ 52 + e → e ≤ c * 3 → a * 2 ^ 39 ≤ b * 2 ^ 39 + c
narrow a b c e h l = omega arith

halve : (a b c : ℕ) → a * 2 ^ 40 ≤ b * 2 ^ 40 + c * 2 → a * 2 ^ 39 ≤ b * 2 ^ 39 + c
halve a b c h = omega arith

in_turn : (a b c : ℕ) → a * 2 ^ 39 ≤ b * 2 ^ 39 + c → b * 2 ^ 39 ≤ c * 2 ^ 39 + c → a * 2 ^ 38 ≤ c * 2 ^ 38 + c
in_turn a b c h k = omega arith

in_turn' : (a b c : ℕ) → b * 2 ^ 39 ≤ a * 2 ^ 39 + c → c * 2 ^ 39 ≤ b * 2 ^ 39 + c → c * 2 ^ 38 ≤ a * 2 ^ 38 + c
in_turn' a b c h k = omega arith

-- a = total y * s, b = total x * w, c = s * w
through_sums : (a b c d : ℕ) → d ≤ c → Sums a b d → Part 40 c b → Part 38 a c
through_sums a b c d l h k =
    let t = twice b c k.1 in (
      in_turn a b c (narrow a b c (b + d) (le_trans h.0 (omega arith)) (omega arith)) (halve b c c (le_trans k.1 (omega arith))),
      in_turn' a b c (narrow b a c (b + d) (le_trans h.1 (omega arith)) (omega arith)) (halve c b c (le_trans k.0 (omega arith))),
    )

part-scale : (r t w : ℕ) → Part 40 r t → Part 40 (r * w) (t * w)
part-scale r t w h =
    let p = mul-le-mul_right w h.0 in
    let q = mul-le-mul_right w h.1 in
    let e = add-mul (t * 2 ^ 40) t w in
    let f = add-mul (r * 2 ^ 40) t w in
    let x = mul_right_comm r (2 ^ 40) w in
    let y = mul_right_comm t (2 ^ 40) w in
    (omega arith, omega arith)

part_cancel : (r t s : ℕ) → 0 < s → Part 38 (r * s) (s * t) → Part 38 r t
part_cancel r t s p h =
    let x = mul_right_comm r (2 ^ 38) s in
    let y = mul_right_comm t (2 ^ 38) s in
    let z = mul_comm s t in
    let e = add-mul (t * 2 ^ 38) t s in
    let f = add-mul (r * 2 ^ 38) t s in
    (le_of_mul-le-mul_right (omega arith) p, le_of_mul-le-mul_right (omega arith) p)

room : (s w n : ℕ) → n ≤ 1024 → 2 ^ 62 ≤ w → n * (s * 2 ^ 52) ≤ s * w
room s w n l h = le_trans (mul-le-mul_right (s * 2 ^ 52) l) (le_trans (le_of_eq (omega arith)) (mul-le-mul_left s h))

pub shares-part : (x y : ℕ → ℕ) (w n : ℕ) → n ≤ 1024 → 2 ^ 62 ≤ w → 0 < rounded x n → ((i : ℕ) → i < n → Near (y i) (x i * w) (rounded x n)) → Part 38 (total y n) w
shares-part x y w n l k p h =
    let s = rounded x n in
    part_cancel (total y n) w s p (through_sums (total y n * s) (total x n * w) (s * w) (n * (s * 2 ^ 52)) (room s w n l k) (shares_sum x y w s n h) (part-scale s (total x n) w (sum-part x n l)))

-- ---- the rounded sum of the shares is w but for a part of 2 ^ 37
last : (q t w : ℕ) → q * 2 ^ 39 ≤ t * 2 ^ 39 + w → t * 2 ^ 38 ≤ w * 2 ^ 38 + w → q * 2 ^ 37 ≤ w * 2 ^ 37 + w
last q t w h k = omega arith

last' : (q t w : ℕ) → t * 2 ^ 39 ≤ q * 2 ^ 39 + w → w * 2 ^ 38 ≤ t * 2 ^ 38 + w → w * 2 ^ 37 ≤ q * 2 ^ 37 + w
last' q t w h k = omega arith

pub twice38 : (t w : ℕ) → Part 38 t w → t ≤ w * 2
twice38 t w h = omega (arith, h.0)

pub parts : (q t w : ℕ) → Part 40 q t → Part 38 t w → Part 37 q w
parts q t w h k =
    let z = twice38 t w k in
    (last q t w (halve q t w (le_trans h.0 (omega arith))) k.0, last' q t w (halve t q w (le_trans h.1 (omega arith))) k.1)

-- ---- bounds
pub part-twice : (r t : ℕ) → Part 40 r t → r ≤ t * 2
part-twice r t h = omega (arith, h.0)

pub part-half : (r t : ℕ) → Part 40 r t → t ≤ r * 2
part-half r t h = omega (arith, h.1)

pub total_mono : (x : ℕ → ℕ) (k n : ℕ) → k ≤ n → total x k ≤ total x n
unfolding total
total_mono x k zero l = let e : k ≡ 0 = omega arith in le_of_eq (ap (total x) e)
total_mono x k (suc n) l = ⊎_elim (λ e. le_of_eq (ap (total x) e)) (λ h. le_trans (total_mono x k n (omega arith)) (omega arith)) (eq-or-lt_of_le l)

pub at-total : (x : ℕ → ℕ) (i n : ℕ) → i < n → x i ≤ total x n
at-total x i n l = le_trans {m = total x (suc i)} (unfold total in omega arith) (total_mono x (suc i) n l)

share-size : (a b c e : ℕ) → a * 2 ^ 52 ≤ b * 2 ^ 52 + b + e → b ≤ c * 2 → e ≤ c → a ≤ c * 4
share-size a b c e h k l = omega arith

pub share-most : (y x w s : ℕ) → 2 ^ 62 ≤ w → 0 < s → x ≤ s * 2 → Near y (x * w) s → y ≤ w * 4
share-most y x w s k p l h =
    let b : x * w ≤ s * w * 2 = le_trans (mul-le-mul_right w l) (le_of_eq (mul_right_comm s 2 w)) in
    let e : s * 2 ^ 52 ≤ s * w = mul-le-mul_left s (le_trans (lit≤ tt) k) in
    let m : y * s ≤ s * w * 4 = share-size (y * s) (x * w) (s * w) (s * 2 ^ 52) h.0 b e in
    let c : s * w ≡ w * s = mul_comm s w in
    let r : w * 4 * s ≡ w * s * 4 = mul_right_comm w 4 s in
    le_of_mul-le-mul_right (omega arith) p
