-- Worked values of the definitions, by computation.
use Rattle.std.proofs.Common.{◌≡◌, refl}
use lib.Ieee.{of_bits, add, sub, mul, div, lt, eq, size, of_int, to_signed, is_nan}
use Rattle.floats.specs.Arithmetic.{#, 0f, 1f, ∞}
use Rattle.numerics.specs.Numerics.{exp_of, ln_of}

exp_zero : exp_of 0f ≡ 1f
unfolding exp_of of_bits lt is_nan add sub mul div of_int to_signed
exp_zero = refl

exp_710 : exp_of (# 0x4086300000000000) ≡ ∞
unfolding exp_of of_bits lt is_nan add sub mul div of_int to_signed
exp_710 = refl

ln-one : ln_of 1f ≡ 0f
unfolding ln_of of_bits lt eq is_nan add sub mul div of_int size
ln-one = refl

v0 : exp_of (# 0x3ff0000000000000) ≡ # 0x4005bf0a8b14576a
unfolding exp_of ln_of of_bits lt eq is_nan add sub mul div of_int to_signed size
v0 = refl

v1 : exp_of (# 0xbff0000000000000) ≡ # 0x3fd78b56362cef38
unfolding exp_of ln_of of_bits lt eq is_nan add sub mul div of_int to_signed size
v1 = refl

v2 : exp_of (# 0x40862d999999999a) ≡ # 0x7fed75ae7a50ee14
unfolding exp_of ln_of of_bits lt eq is_nan add sub mul div of_int to_signed size
v2 = refl

v3 : exp_of (# 0xc087480000000000) ≡ # 0x0000000000000001
unfolding exp_of ln_of of_bits lt eq is_nan add sub mul div of_int to_signed size
v3 = refl

v4 : exp_of (# 0x3fb999999999999a) ≡ # 0x3ff1aec7b35a00d4
unfolding exp_of ln_of of_bits lt eq is_nan add sub mul div of_int to_signed size
v4 = refl

v5 : exp_of (# 0xc085e40000000000) ≡ # 0x00c4ff475c68ca02
unfolding exp_of ln_of of_bits lt eq is_nan add sub mul div of_int to_signed size
v5 = refl

v6 : ln_of (# 0x4024000000000000) ≡ # 0x40026bb1bbb55516
unfolding exp_of ln_of of_bits lt eq is_nan add sub mul div of_int to_signed size
v6 = refl

v7 : ln_of (# 0x3fe0000000000000) ≡ # 0xbfe62e42fefa39ef
unfolding exp_of ln_of of_bits lt eq is_nan add sub mul div of_int to_signed size
v7 = refl

v8 : ln_of (# 0x7e37e43c8800759c) ≡ # 0x4085963447f87fb5
unfolding exp_of ln_of of_bits lt eq is_nan add sub mul div of_int to_signed size
v8 = refl

v9 : ln_of (# 0x0000000000000001) ≡ # 0xc0874385446d71c3
unfolding exp_of ln_of of_bits lt eq is_nan add sub mul div of_int to_signed size
v9 = refl

v10 : ln_of (# 0x00003739a252b281) ≡ # 0xc086459f44103e87
unfolding exp_of ln_of of_bits lt eq is_nan add sub mul div of_int to_signed size
v10 = refl

v11 : ln_of (# 0x3ff8000000000000) ≡ # 0x3fd9f323ecbf984c
unfolding exp_of ln_of of_bits lt eq is_nan add sub mul div of_int to_signed size
v11 = refl

-- the two zeros have one exponential
exp-zeros : exp_of (# 0x8000000000000000) ≡ exp_of (# 0)
unfolding exp_of of_bits lt is_nan add sub mul div of_int to_signed
exp-zeros = refl
