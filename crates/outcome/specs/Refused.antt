-- A refusal's number, and the code's results read as outcomes. Assumes nothing.
use Rattle.std.specs.Prelude.{ℕ, Result, Ok, Err}
use Rattle.floats.specs.Outcome.{Out, ok, no}
use Rattle.outcome.specs.declared.Refusal.{Refusal}
use Rattle.outcome.specs.declared.Refusal.TheVariants.{BookLength, BookCheck, BookHead, SolventBlock, SolventNumber, SolventTwice, PairBlock, PairNumber, PairAlphas, AnswerShort, QuestionBlock, Task, Temperature, Pressure, NotFinite, FractionNegative, KNotPositive, FractionSum, Options, LimitZero, LimitHigh, TemperatureOutside, PressureOutside, AlphaNotPositive, ResultNotFinite, NotBracketed, NotConverged, KOneSided, LiquidUnstable, VaporFractionOutside, DrumsLength, DrumsTotal, FeedsLength, NotNormalizable, MolarMass, FeedKind, BookModel, BookVersion, QueueQuestions}

-- docs/FORMAT.md, "Refusals"
abbrev pub number : Refusal → ℕ
number BookLength = 1
number BookCheck = 2
number BookHead = 3
number SolventBlock = 4
number SolventNumber = 5
number SolventTwice = 6
number PairBlock = 7
number PairNumber = 8
number PairAlphas = 9
number AnswerShort = 10
number QuestionBlock = 11
number Task = 12
number Temperature = 13
number Pressure = 14
number NotFinite = 15
number FractionNegative = 16
number KNotPositive = 17
number FractionSum = 18
number Options = 19
number LimitZero = 20
number LimitHigh = 21
number TemperatureOutside = 22
number PressureOutside = 23
number AlphaNotPositive = 24
number ResultNotFinite = 25
number NotBracketed = 26
number NotConverged = 27
number KOneSided = 28
number LiquidUnstable = 29
number VaporFractionOutside = 30
number DrumsLength = 31
number DrumsTotal = 32
number FeedsLength = 33
number NotNormalizable = 34
number MolarMass = 35
number FeedKind = 36
number BookModel = 37
number BookVersion = 38
number QueueQuestions = 39

-- a result as an outcome, its no by the number that it says
abbrev pub outcome_by : {A E : Type 0} → (E → ℕ) → Result A E → Out A
outcome_by said (Ok a) = ok a
outcome_by said (Err e) = no (said e)

abbrev pub outcome_of : {A : Type 0} → Result A Refusal → Out A
outcome_of r = outcome_by number r

-- what a call gives in C: 0, or the number
abbrev pub number_by : {A E : Type 0} → (E → ℕ) → Result A E → ℕ
number_by said (Ok a) = 0
number_by said (Err e) = said e

abbrev pub number_in : {A : Type 0} → Result A Refusal → ℕ
number_in r = number_by number r
