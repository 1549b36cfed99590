-- What is asked of a context, by the buffers that were found.
use Rattle.std.proofs.Common.{◌≡◌, ◌∙◌, ◌≢◌, ℕ, List, ◌++◌, Option, Some, None, Result, Ok, Err, OnErr, option_map, sym, ap, refl, arith}
use Rattle.sspi_types.specs.declared.buffer.SecurityBuffer.{SecurityBuffer}
use Rattle.sspi_types.specs.declared.buffer_type.BufferType.TheVariants.{Data, Token, Stream}
use Rattle.sspi_types.specs.BufferTypes.{buffer_type_number}
use Rattle.sspi_messages.specs.Buffers.{first_unflagged, bytes_in, pair_of}
use Rattle.sspi_messages.specs.Messages.{blob_of, blob_in}

pub token_data : buffer_type_number Token ≢ buffer_type_number Data
token_data = λ e. omega arith

pub stream_data : buffer_type_number Stream ≢ buffer_type_number Data
stream_data = λ e. omega arith

pub on_err : {T E : Type 0} (r : Result T E) (P : Type 0) → P → OnErr r P
on_err (Ok x) P p = tt
on_err (Err e) P p = p

same : {X : Type 0} (x y : X) → Some x ≡ Some y → x ≡ y
same x y e = cc

-- both things of a pair are there
pub both_found : {A B : Type 0} (o : Option A) (p : Option B) (a : A) (b : B) → Some (a, b) ≡ pair_of o p → (o ≡ Some a) × (p ≡ Some b)
both_found None p a b e = cc
both_found (Some x) None a b e = cc
both_found {A} {B} (Some x) (Some y) a b e =
    let pair : (a, b) ≡ (x, y) = same (a, b) (x, y) e in
    (ap (λ (z : A × B). Some z.0) (sym pair), ap (λ (z : A × B). Some z.1) (sym pair))

-- the second of an incomplete pair is there, so the first is not
pub first_is_lacking : {A B : Type 0} (o : Option A) (p : Option B) (b : B) → p ≡ Some b → None ≡ pair_of o p → o ≡ None
first_is_lacking None p b there e = refl
first_is_lacking (Some x) None b there e = cc
first_is_lacking (Some x) (Some y) b there e = cc

abbrev content : Option SecurityBuffer → Option (List ℕ)
content o = option_map (λ (x : SecurityBuffer). x.buffer) o

module _ (xs : List SecurityBuffer) (a b : SecurityBuffer) (has_data : first_unflagged Data xs ≡ Some b) where
  pub asked_of : {X : Type 0} (f : List ℕ × List ℕ → X) → first_unflagged Token xs ≡ Some a →
      option_map f (pair_of (bytes_in Token xs) (bytes_in Data xs)) ≡ Some (f (a.buffer, b.buffer))
  asked_of f has_token = ap (λ (o : Option SecurityBuffer). option_map f (pair_of (content o) (bytes_in Data xs))) has_token
      ∙ ap (λ (o : Option SecurityBuffer). option_map f (pair_of (Some a.buffer) (content o))) has_data

  pub stream_taken : first_unflagged Stream xs ≡ Some a → blob_in xs ≡ Some a.buffer
  stream_taken has_stream = ap (λ (o : Option SecurityBuffer). blob_of (content o) (bytes_in Token xs) (bytes_in Data xs)) has_stream
      ∙ ap (λ (o : Option SecurityBuffer). blob_of (Some a.buffer) (bytes_in Token xs) (content o)) has_data

  pub parts_taken : first_unflagged Stream xs ≡ None → first_unflagged Token xs ≡ Some a → blob_in xs ≡ Some (a.buffer ++ b.buffer)
  parts_taken no_stream has_token = ap (λ (o : Option SecurityBuffer). blob_of (content o) (bytes_in Token xs) (bytes_in Data xs)) no_stream
      ∙ ap (λ (o : Option SecurityBuffer). blob_of None (content o) (bytes_in Data xs)) has_token
      ∙ ap (λ (o : Option SecurityBuffer). blob_of None (Some a.buffer) (content o)) has_data
