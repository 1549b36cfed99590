-- The pieces of BER, as relations between bytes and what they represent (X.690 8.1.3, 8.3, 8.7),
-- and the one limit of all lengths.
use Rattle.std.specs.Prelude.{ℕ, ◌≡◌, ◌+◌, ◌*◌, ◌<◌, ◌≤◌, Bool, ◌||◌, ◌==◌, IsTrue, List, [], ◌∷◌}
use Rattle.std.specs.Prelude.{◌++◌, length, fold, Option, None, Some}

-- the most bytes that the content of an element may have
abbrev pub max_content : ℕ
max_content = 1048576

-- the most octets that a length may have after its first: the number that the limit needs
abbrev pub max_length_octets : ℕ
max_length_octets = 3

-- the number that bytes represent, the most significant byte first
abbrev pub big_endian : List ℕ → ℕ
big_endian bytes = fold (λ high byte. high * 256 + byte) 0 bytes

-- The long form of a length (X.690 8.1.3.5): the low seven bits of its first octet count the octets
-- after it, and these represent the length.
pub record IsLongLength (first : ℕ) (octets : List ℕ) (n : ℕ) : Type 0 where
  pub counted : first ≡ 0x80 + length octets
  pub few : length octets ≤ max_length_octets
  pub stands_for : n ≡ big_endian octets
  pub limited : n ≤ max_content

-- A length: one octet below 0x80, or a long form, which need not be the shortest. An octet 0x80
-- alone, which is the indefinite form (X.690 8.1.3.6), is no length here.
abbrev pub IsLength : List ℕ → ℕ → Type 0
IsLength [] n = ⊥
IsLength (first ∷ []) n = (first < 0x80) × (n ≡ first)
IsLength (first ∷ high ∷ more) n = IsLongLength first (high ∷ more) n

-- a tag and a length
pub record IsHeader (tag : ℕ) (text : List ℕ) (n : ℕ) : Type 0 where
  pub len : List ℕ
  pub spelled : text ≡ tag ∷ len
  pub measured : IsLength len n

-- a tag, the length of the content, and the content
pub record IsElement (tag : ℕ) (text content : List ℕ) : Type 0 where
  pub len : List ℕ
  pub spelled : text ≡ tag ∷ (len ++ content)
  pub measured : IsLength len (length content)

-- a tag, a length of any value, which is not compared, and something inside
pub record IsTagged (tag : ℕ) (text inner : List ℕ) : Type 0 where
  pub len : List ℕ
  pub number : ℕ
  pub spelled : text ≡ tag ∷ (len ++ inner)
  pub measured : IsLength len number

-- content bytes that represent a nonnegative number: the highest bit, the sign, is clear
-- (X.690 8.3.3)
abbrev pub IsNotNegative : List ℕ → Type 0
IsNotNegative [] = ⊥
IsNotNegative (high ∷ rest) = high < 0x80

-- how many content bytes an integer may have
abbrev pub is_integer_size : ℕ → Bool
is_integer_size n = n == 1 || n == 2 || n == 3 || n == 4 || n == 8

-- an unsigned INTEGER
pub record IsInteger (text : List ℕ) (value : ℕ) : Type 0 where
  pub content : List ℕ
  pub element : IsElement 0x02 text content
  pub sized : IsTrue (is_integer_size (length content))
  pub stands_for : value ≡ big_endian content

-- these bytes do not begin with this tag
abbrev pub IsNotNext : ℕ → List ℕ → Type 0
IsNotNext tag [] = Unit {0}
IsNotNext tag (byte ∷ rest) = byte ≡ tag → ⊥

-- a tag, a length that is not compared, and something of this form inside
abbrev pub IsWrapped : {A : Type 0} → ℕ → (List ℕ → A → Type 0) → List ℕ → A → Type 0
IsWrapped tag Inner text x = (inner : List ℕ) × IsTagged tag text inner × Inner inner x

-- An optional field, with what follows it. An absent field has no bytes, and its tag does not come
-- next.
abbrev pub IsField : {A : Type 0} → ℕ → (List ℕ → A → Type 0) → List ℕ → Option A → List ℕ → Type 0
IsField tag Inner text None following = (text ≡ []) × IsNotNext tag following
IsField tag Inner text (Some x) following = IsWrapped tag Inner text x
