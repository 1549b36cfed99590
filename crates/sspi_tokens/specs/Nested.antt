-- Forms inside forms: what is inside an element is read from its content alone, and what is left
-- over there is ignored. A form relates the text, the value and what follows the text.
use Rattle.std.specs.Prelude.{◌≡◌, ℕ, List, [], ◌++◌, Option, None, Some}
use Rattle.sspi_ber.specs.Forms.{IsElement, IsNotNext}

-- the bytes begin with a text of this form
pub record Begins {A : Type 0} (Form : List ℕ → A → List ℕ → Type 0) (bytes : List ℕ) (x : A) : Type
    0 where
  pub text : List ℕ
  pub rest : List ℕ
  pub parts : bytes ≡ text ++ rest
  pub form : Form text x rest

-- an element whose content begins with a text of this form
pub record IsAround {A : Type 0} (tag : ℕ) (Form : List ℕ → A → List ℕ →
    Type 0) (text : List ℕ) (x : A) (following : List ℕ) : Type 0 where
  pub content : List ℕ
  pub element : IsElement tag text content
  pub inside : Begins Form content x

-- an element, with its content as the value
abbrev pub IsWhole : ℕ → List ℕ → List ℕ → List ℕ → Type 0
IsWhole tag text content following = IsElement tag text content

-- An optional text, which begins with this tag if it is present. If it is absent, that tag does not
-- come next.
abbrev pub IsOptional : {A : Type 0} → ℕ → (List ℕ → A → List ℕ → Type 0) → List ℕ → Option A →
    List ℕ → Type 0
IsOptional tag Form text None following = (text ≡ []) × IsNotNext tag following
IsOptional tag Form text (Some x) following = Form text x following

-- four optional elements in this order
pub record InOrder {A B C D : Type 0} (F : List ℕ → Option A → List ℕ → Type 0) (G : List ℕ →
    Option B → List ℕ → Type 0)
    (H : List ℕ → Option C → List ℕ → Type 0) (K : List ℕ → Option D → List ℕ → Type 0)
    (text : List ℕ) (a : Option A) (b : Option B) (c : Option C) (d : Option D)
    (following : List ℕ) : Type 0 where
  pub first : List ℕ
  pub second : List ℕ
  pub third : List ℕ
  pub fourth : List ℕ
  pub parts : text ≡ first ++ (second ++ (third ++ fourth))
  pub first_is : F first a (second ++ (third ++ (fourth ++ following)))
  pub second_is : G second b (third ++ (fourth ++ following))
  pub third_is : H third c (fourth ++ following)
  pub fourth_is : K fourth d following
