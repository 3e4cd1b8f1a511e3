-- A float is finite exactly where its bits, the sign left out, are below those of an infinity. Assumes nothing.
use Rattle.std.proofs.Common.{◌≡◌, ℕ, zero, suc, ◌+◌, ◌-◌, ◌*◌, ◌/◌, ◌%◌, ◌^◌, ◌<◌, ◌≤◌, Bool, true, false, cond, not, ◌&&◌, eqb, ltb, leb, sym, refl, ◌∙◌, arith, ltb-false, ltb-true, le-ltb, lt-ltb, eq-eqb, ne_eqb}
use lib.Bits.{bit_or, bit_xor, or_add_and, and_le_l, and_le_r, or_lt, xor_lt, xor_block}
use lib.Ieee.{Float, nan, inf, binary64, of_bits, of_fields, odd, prec, low, hid, ones}
use Rattle.floats.specs.Small.{is_finite}

odd_finite : (d : ℕ) (s : Bool) (q k l : ℕ) → is_finite (odd d s q k l) ≡ true
unfolding odd is_finite
odd_finite d s zero k l = refl
odd_finite d s (suc q) k l = refl

field_finite : (a b s : Bool) (v : Float) → is_finite v ≡ true → is_finite (cond a (cond b (inf s) nan) v) ≡ not a
unfolding is_finite
field_finite true true s v h = refl
field_finite true false s v h = refl
field_finite false b s v h = h

fields_finite : (s : Bool) (x t : ℕ) → is_finite (of_fields binary64 s x t) ≡ not (eqb x 2047)
unfolding of_fields
fields_finite s zero t = odd_finite (prec binary64) s t 0 (low binary64)
fields_finite s (suc x) t =
    field_finite (eqb (suc x) (ones binary64)) (eqb t 0) s (odd (prec binary64) s (hid binary64 + t) x (low binary64))
    (odd_finite (prec binary64) s (hid binary64 + t) x (low binary64))

exponent : (r : ℕ) → r < 0x8000000000000000 → not (eqb (r / 4503599627370496) 2047) ≡ ltb r 0x7ff0000000000000
exponent r h = pick (ltb r 0x7ff0000000000000) refl
  where
    pick : (b : Bool) → ltb r 0x7ff0000000000000 ≡ b → not (eqb (r / 4503599627370496) 2047) ≡ b
    pick true q = rw (ne_eqb (r / 4503599627370496) 2047 (λ e. omega (arith, ltb-true r 0x7ff0000000000000 q)))
    pick false q = rw (eq-eqb (r / 4503599627370496) 2047 (omega (arith, ltb-false r 0x7ff0000000000000 q)))

finite_bits : (b : ℕ) → ltb (b % 0x8000000000000000) 0x7ff0000000000000 ≡ is_finite (of_bits binary64 b)
unfolding of_bits
finite_bits b =
    let h : b % 0x8000000000000000 < 0x8000000000000000 = omega arith in
    sym (fields_finite (leb 0x8000000000000000 b) (b % 0x8000000000000000 / 4503599627370496) (b % 4503599627370496) ∙ exponent (b % 0x8000000000000000) h)

-- bit 63 of an or
or_left : (a b : ℕ) → a ≤ bit_or a b
or_left a b = omega (arith, or_add_and a b, and_le_r a b)

or_right : (a b : ℕ) → b ≤ bit_or a b
or_right a b = omega (arith, or_add_and a b, and_le_l a b)

pub or_top : (a b : ℕ) → ltb (bit_or a b) 0x8000000000000000 ≡ (ltb a 0x8000000000000000 && ltb b 0x8000000000000000)
or_top a b = pick (ltb a 0x8000000000000000) (ltb b 0x8000000000000000) refl refl
  where
    pick : (p q : Bool) → ltb a 0x8000000000000000 ≡ p → ltb b 0x8000000000000000 ≡ q → ltb (bit_or a b) 0x8000000000000000 ≡ (p && q)
    pick true true e f = lt-ltb (bit_or a b) 0x8000000000000000 (or_lt 63 a b (ltb-true a 0x8000000000000000 e) (ltb-true b 0x8000000000000000 f))
    pick true false e f = le-ltb (bit_or a b) 0x8000000000000000 (omega (arith, ltb-false b 0x8000000000000000 f, or_right a b))
    pick false q e f = le-ltb (bit_or a b) 0x8000000000000000 (omega (arith, ltb-false a 0x8000000000000000 e, or_left a b))

-- bit 63 of an exclusive or
module _ (x y r s v u : ℕ) (a : r < 0x8000000000000000) (b : s < 0x8000000000000000) where
  parts : v ≡ x * 0x8000000000000000 + r → u ≡ y * 0x8000000000000000 + s → bit_xor v u ≡ bit_xor x y * 0x8000000000000000 + bit_xor r s
  parts e f = rw (e, f) (xor_block 63 x y r s a b)

  stays : v ≡ x * 0x8000000000000000 + r → u ≡ y * 0x8000000000000000 + s → bit_xor x y ≡ 0 → ltb (bit_xor v u) 0x8000000000000000 ≡ true
  stays e f z = lt-ltb (bit_xor v u) 0x8000000000000000 (omega (arith, parts e f, z, xor_lt 63 r s a b))

  turns : v ≡ x * 0x8000000000000000 + r → u ≡ y * 0x8000000000000000 + s → bit_xor x y ≡ 1 → ltb (bit_xor v u) 0x8000000000000000 ≡ false
  turns e f z = le-ltb (bit_xor v u) 0x8000000000000000 (omega (arith, parts e f, z))

carry-turns : (v u : ℕ) → v < 2 ^ 64 → u ≡ (v + 0x0010000000000000) % 2 ^ 64
    → ltb (bit_xor v u) 0x8000000000000000 ≡ ltb (v % 0x8000000000000000) 0x7ff0000000000000
carry-turns v u h e = pick (ltb v 0x8000000000000000) (ltb (v % 0x8000000000000000) 0x7ff0000000000000) refl refl
  where
    pick : (p q : Bool) → ltb v 0x8000000000000000 ≡ p → ltb (v % 0x8000000000000000) 0x7ff0000000000000 ≡ q → ltb (bit_xor v u) 0x8000000000000000 ≡ q
    pick true true f g =
        let l = ltb-true v 0x8000000000000000 f in
        let m = ltb-true (v % 0x8000000000000000) 0x7ff0000000000000 g in
        stays 0 0 v u v u (omega (arith, l)) (omega (arith, l, m)) (omega arith) (omega arith) refl
    pick true false f g =
        let l = ltb-true v 0x8000000000000000 f in
        let m = ltb-false (v % 0x8000000000000000) 0x7ff0000000000000 g in
        turns 0 1 v (u - 0x8000000000000000) v u (omega (arith, l)) (omega (arith, l, m)) (omega arith) (omega (arith, l, m)) refl
    pick false true f g =
        let l = ltb-false v 0x8000000000000000 f in
        let m = ltb-true (v % 0x8000000000000000) 0x7ff0000000000000 g in
        stays 1 1 (v - 0x8000000000000000) (u - 0x8000000000000000) v u (omega (arith, l)) (omega (arith, l, m)) (omega (arith, l)) (omega (arith, l, m)) refl
    pick false false f g =
        let l = ltb-false v 0x8000000000000000 f in
        let m = ltb-false (v % 0x8000000000000000) 0x7ff0000000000000 g in
        turns 1 0 (v - 0x8000000000000000) u v u (omega (arith, l)) (omega (arith, l, m)) (omega (arith, l)) (omega (arith, l, m)) refl

-- one more in the exponent: the carry turns bit 63 where the float is not finite
pub carry_finite : (v u : ℕ) → v < 2 ^ 64 → u ≡ (v + 0x0010000000000000) % 2 ^ 64 → ltb (bit_xor v u) 0x8000000000000000 ≡ is_finite (of_bits binary64 v)
carry_finite v u h e = carry-turns v u h e ∙ finite_bits v
