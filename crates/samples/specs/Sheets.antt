-- Books, questions and answers from their words, in the order of docs/FORMAT.md. Floats stand as their bits; words that aren't given are 0. Assumes nothing.
use Rattle.std.specs.Prelude.{ℕ, List, [], ◌∷◌, ◌++◌}
use Rattle.blocks.specs.declared.Rule.{Rule}
use Rattle.blocks.specs.declared.Rule.TheVariants.{Plain}
use Rattle.blocks.specs.Bytes.{word_at, row_to, block_bytes}

-- a block from its first words, with its check by a rule, and summed the plain way
abbrev pub block_by : Rule → List ℕ → List ℕ
block_by rule ws = block_bytes rule (word_at ws)

abbrev pub block_of : List ℕ → List ℕ
block_of = block_by Plain

-- eight words: those given, and 0
abbrev pub eight : List ℕ → List ℕ
eight ws = row_to (λ k. word_at ws k ∷ []) 8

-- ---- floats by their bits
abbrev pub ⅓ : ℕ
⅓ = 0x3fd5555555555555

abbrev pub ½ : ℕ
½ = 0x3fe0000000000000

abbrev pub ⅔ : ℕ
⅔ = 0x3fe5555555555555

abbrev pub one : ℕ
one = 0x3ff0000000000000

abbrev pub two : ℕ
two = 0x4000000000000000

abbrev pub -zero : ℕ
-zero = 0x8000000000000000

-- 0.3 and 1e-10
abbrev pub 3/10 : ℕ
3/10 = 0x3fd3333333333333

abbrev pub ε : ℕ
ε = 0x3ddb7cdfd9d7bdbb

-- 200, 273.16, 300, 350, 450 and 500 K
abbrev pub 200K : ℕ
200K = 0x4069000000000000

abbrev pub 273K : ℕ
273K = 0x4071128f5c28f5c3

abbrev pub 300K : ℕ
300K = 0x4072c00000000000

abbrev pub 350K : ℕ
350K = 0x4075e00000000000

abbrev pub 450K : ℕ
450K = 0x407c200000000000

abbrev pub 500K : ℕ
500K = 0x407f400000000000

-- 100 kPa, 1 MPa and 4 MPa
abbrev pub 100kPa : ℕ
100kPa = 0x40f86a0000000000

abbrev pub 1MPa : ℕ
1MPa = 0x412e848000000000

abbrev pub 4MPa : ℕ
4MPa = 0x414e848000000000

-- ---- a book

-- block 0 of n solvents
abbrev pub head : ℕ → List ℕ
head n = block_of (1 ∷ 1 ∷ n ∷ [])

-- a correlation with t_r = 600 K, from lo to hi, and one term -7 θ; of a vapor pressure: ln p = ln r - 7 (600 K / T - 1), r its reducing value
abbrev pub correlation : ℕ → ℕ → ℕ → List ℕ
correlation lo hi r = (0x4082c00000000000 ∷ r ∷ lo ∷ hi ∷ 1 ∷ []) ++ eight (0xc01c000000000000 ∷ []) ++ eight (one ∷ [])

-- solvent i with its CAS number and its reducing pressure, both ranges from lo to hi; its density record has the reducing value 9000
abbrev pub ranged : ℕ → ℕ → ℕ → ℕ → ℕ → List ℕ
ranged lo hi i cas p = block_of ((2 ∷ i ∷ cas ∷ []) ++ correlation lo hi p ++ correlation lo hi 0x40c1940000000000)

-- from 273.16 to 450 K
abbrev pub solvent : ℕ → ℕ → ℕ → List ℕ
solvent i cas p = ranged 273K 450K i cas p

-- the pair (i, j) with constant τ_ij and τ_ji, α = 0.3, and no regression interval
abbrev pub pair : ℕ → ℕ → ℕ → ℕ → List ℕ
pair i j τij τji = block_of (3 ∷ i ∷ j ∷ τij ∷ 0 ∷ 0 ∷ 0 ∷ τji ∷ 0 ∷ 0 ∷ 0 ∷ 3/10 ∷ 0 ∷ 3/10 ∷ 0 ∷ [])

-- one solvent; two that mix ideally
abbrev pub book1 : List ℕ
book1 = head 1 ++ solvent 0 101 4MPa

abbrev pub book2 : List ℕ
book2 = head 2 ++ solvent 0 101 4MPa ++ solvent 1 102 1MPa ++ pair 0 1 0 0

-- as book2, with ranges from 200 to 500 K, wider than the model's domain
abbrev pub wide : List ℕ
wide = head 2 ++ ranged 200K 500K 0 101 4MPa ++ ranged 200K 500K 1 102 1MPa ++ pair 0 1 0 0

-- solvent i as of version 2 on, with its molar mass (kg/mol)
abbrev pub weighed : Rule → ℕ → ℕ → ℕ → ℕ → List ℕ
weighed rule i cas p mass = block_by rule ((2 ∷ i ∷ cas ∷ []) ++ correlation 273K 450K p ++ correlation 273K 450K 0x40c1940000000000 ++ mass ∷ [])

-- book2 as of version 2, with its molar masses
abbrev pub book2-weighed : ℕ → ℕ → List ℕ
book2-weighed m₀ m₁ = block_of (1 ∷ 2 ∷ 2 ∷ []) ++ weighed Plain 0 101 4MPa m₀ ++ weighed Plain 1 102 1MPa m₁ ++ pair 0 1 0 0

-- book1 with its molar mass, checked by a rule, as of a version
abbrev pub book1_of : Rule → ℕ → List ℕ
book1_of rule version = block_by rule (1 ∷ version ∷ 1 ∷ []) ++ weighed rule 0 101 4MPa ½

-- book1 with its molar mass and book2 with both as of a version, of Wilson's model; the pair has a_ij, b_ij, a_ji, b_ji 0
abbrev pub wilson1 : ℕ → List ℕ
wilson1 version = block_of (1 ∷ version ∷ 1 ∷ 1 ∷ []) ++ weighed Plain 0 101 4MPa ½

abbrev pub wilson2 : ℕ → List ℕ
wilson2 version = block_of (1 ∷ version ∷ 2 ∷ 1 ∷ []) ++ weighed Plain 0 101 4MPa ½ ++ weighed Plain 1 102 1MPa ½ ++ block_of (3 ∷ 0 ∷ 1 ∷ [])

-- ---- a question: task, T, p, fractions, M, K; 200 outer iterations, tolerances 1e-10, threshold -1e-8, the whole bracket
abbrev pub question_by : Rule → ℕ → ℕ → ℕ → List ℕ → ℕ → List ℕ → List ℕ
question_by rule task t p x m k =
    block_by rule ((8 ∷ task ∷ t ∷ p ∷ []) ++ eight x ++ (m ∷ ε ∷ 200 ∷ ε ∷ 0xbe45798ee2308c3a ∷ 273K ∷ 450K ∷ []) ++ k)

abbrev pub question : ℕ → ℕ → ℕ → List ℕ → ℕ → List ℕ → List ℕ
question = question_by Plain

-- by mass: word 27 is 1
abbrev pub by_mass : List ℕ → List ℕ
by_mass k = eight k ++ 1 ∷ []

-- ---- an answer

-- words 3, 4 to 13 (T, P, bubble, dew, iterations, residual, balance, vapor fraction, trials, notes), 14 to 21, 22 to 29, 30 and on
abbrev pub answer_by : Rule → ℕ → ℕ → List ℕ → List ℕ → List ℕ → List ℕ → List ℕ
answer_by rule task outcome state liquid vapor model = block_by rule ((9 ∷ task ∷ 0 ∷ outcome ∷ state) ++ eight liquid ++ eight vapor ++ model)

abbrev pub answer : ℕ → ℕ → List ℕ → List ℕ → List ℕ → List ℕ → List ℕ
answer = answer_by Plain

-- component, distance, iterations, trivial, fractions
abbrev pub trial : ℕ → ℕ → ℕ → ℕ → List ℕ → List ℕ
trial component distance iterations trivial w = block_of (10 ∷ component ∷ distance ∷ iterations ∷ trivial ∷ w)
