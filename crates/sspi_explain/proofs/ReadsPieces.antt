-- A walk reads what the reader's own pieces read.
use Rattle.std.proofs.Common.{◌≡◌, ℕ, List, length, Ok, Err, refl, ap, ◌∙◌}
use Rattle.sspi_ber.specs.Pieces.{Fault, Read, header_at, bytes_at, element_at}
use Rattle.sspi_explain.specs.declared.field.Field.{Field}
use Rattle.sspi_explain.specs.Page.{Sheet}
use Rattle.sspi_explain.specs.Pieces.{header_told, bytes_told, element_told, refused_as}
use Rattle.sspi_explain.specs.Told.{Spot, At, Told, Goes, Ends, told, read_of, ◌>>=◌}
use Rattle.sspi_explain.proofs.ReadThen.{read_then}

pub told_read : {A : Type 0} (page : Sheet) (place : Spot) (refuse : Fault → Sheet) (r : Read A) →
    read_of (told page place refuse r) ≡ r
told_read page place refuse (Ok x) = refl
told_read page place refuse (Err fault) = refl

pub bind_read : {A B : Type 0} (t : Told A) (next : At A → Told B) (behind : A × List ℕ → Read B)
    → ((at : At A) → read_of (next at) ≡ behind (at.value, at.place.rest)) →
    read_of (t >>= next) ≡ read_then (read_of t) behind
bind_read (Goes at) next behind same = same at
bind_read (Ends page fault) next behind same = refl

pub header_read : (tag : ℕ) (field : Field) (page : Sheet) (place : Spot) →
    read_of (header_told tag field page place) ≡ header_at tag place.rest
unfolding header_told
header_read tag field page place = told_read page place _ (header_at tag place.rest)

pub bytes_read : (n : ℕ) (field : Field) (page : Sheet) (place : Spot) →
    read_of (bytes_told n field page place) ≡ bytes_at n place.rest
unfolding bytes_told
bytes_read n field page place = told_read page place _ (bytes_at n place.rest)

pub element_read : (tag : ℕ) (field : Field) (page : Sheet) (place : Spot) →
    read_of (element_told tag field page place) ≡ element_at tag place.rest
unfolding element_told element_at
element_read tag field page place =
    bind_read (header_told tag field page place) (λ n. bytes_told n.value field n.page n.place)
    (λ n. bytes_at n.0 n.1)
    (λ at. bytes_read at.value field at.page at.place)
    ∙ ap (λ (r : Read ℕ). read_then r (λ n. bytes_at n.0 n.1)) (header_read tag field page place)
