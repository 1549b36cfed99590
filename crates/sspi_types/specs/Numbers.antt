-- What reading a number gives, by a table of numbers.
use Rattle.std.specs.Prelude.{◌≡◌, ◌≢◌, ◌==◌, ℕ, Bool, List, map, Option, Some, IfSome, IfNone}

-- What reading a number gives, where each value of K has a number: the value that has it, or `None`
-- if none has it.
pub record ReadsNumber {K : Type 0} (number_of : K → ℕ) (number : ℕ) (read : Option K) : Type 0
  where
    pub found : IfSome read (λ value. number_of value ≡ number)
    pub each : (value : K) → number_of value ≡ number → read ≡ Some value
    pub none : IfNone read ((value : K) → number_of value ≢ number)

-- no two values have the same number
abbrev pub AreDistinct : {K : Type 0} → (K → ℕ) → Type 0
AreDistinct {K} number_of = (a b : K) → number_of a ≡ number_of b → a ≡ b

-- a comparison is that of the numbers
abbrev pub ComparesNumbers : {K : Type 0} → (K → K → Bool) → (K → ℕ) → Type 0
ComparesNumbers {K} eq number_of = (a b : K) → eq a b ≡ (number_of a == number_of b)

-- what is read from the number of a value is that value
abbrev pub AreReadBack : {K : Type 0} → (K → ℕ) → Type 0
AreReadBack {K} number_of = (value : K) (read : Option K) →
    ReadsNumber number_of (number_of value) read → read ≡ Some value

-- the numbers of a table of names and numbers, in its order
abbrev pub numbers_of : List (List ℕ × ℕ) → List ℕ
numbers_of table = map (λ row. row.1) table
