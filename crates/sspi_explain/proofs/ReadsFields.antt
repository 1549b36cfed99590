-- A walk through fields reads what the reader's own fields read.
use Rattle.std.proofs.Common.{◌≡◌, ℕ, ◌-◌, Bool, true, false, cond, nat_eq, List, length, Option}
use Rattle.std.proofs.Common.{None, Some, Ok, Err, refl, ap, ◌∙◌}
use Rattle.sspi_ber.specs.Pieces as pieces
use Rattle.sspi_ber.specs.Pieces.{Fault, Ended, Invalid, Read, header_at, bytes_at}
use Rattle.sspi_ber.specs.Pieces.{tag_or_absent_at, present_at, field_at, tagged_at}
use Rattle.sspi_tsreq.specs.Reading.{low_at, nonce_at, looked_at}
use Rattle.sspi_explain.specs.declared.field.Field.{Field}
use Rattle.sspi_explain.specs.declared.found.Found.TheVariants.{Nonce}
use Rattle.sspi_explain.specs.Page.{Sheet}
use Rattle.sspi_explain.specs.Pieces.{header_told, bytes_told, there_told, low_told, nonce_told}
use Rattle.sspi_explain.specs.Pieces.{nonce_content, refused_as, if_there, present}
use Rattle.sspi_explain.specs.Request.{looked_told, as_ended}
use Rattle.sspi_explain.specs.Told.{Spot, At, Told, Goes, Ends, told, read_of, ◌>>=◌}
use Rattle.sspi_explain.proofs.ReadThen.{read_then}
use Rattle.sspi_explain.proofs.ReadsPieces.{told_read, bind_read, header_read, bytes_read}

-- what is on the page does not change what is read
pub kept_read : {A : Type 0} (t : Told A) (page : At A → Sheet)
    → read_of (t >>= λ x. Goes
    (record { page = page x; value = x.value; place = x.place })) ≡ read_of t
kept_read (Goes at) page = refl
kept_read (Ends told fault) page = refl

pub cond_read : {A : Type 0} (b : Bool) (x y : Told A) (r s : Read A) → read_of x ≡ r →
    read_of y ≡ s → read_of (cond b x y) ≡ cond b r s
cond_read true x y r s e f = e
cond_read false x y r s e f = f

pub ended_read : {A : Type 0} (t : Told A) → read_of (as_ended t) ≡ pieces.as_ended (read_of t)
ended_read (Goes at) = refl
ended_read (Ends page fault) = refl

pub there_read : (tag : ℕ) (field : Field) (page : Sheet) (place : Spot)
    → read_of (there_told tag field page place) ≡ tag_or_absent_at tag place.rest
unfolding there_told
there_read tag field page place = told_read page place _ (tag_or_absent_at tag place.rest)

pub low_read : (field : Field) (page : Sheet) (place : Spot) →
    read_of (low_told field page place) ≡ low_at place.rest
unfolding low_told
low_read field page place = told_read page place _ (low_at place.rest)

pub nonce_read : (field : Field) (page : Sheet) (place : Spot) →
    read_of (nonce_told field page place) ≡ nonce_at place.rest
unfolding nonce_told nonce_at
nonce_read field page place =
    bind_read (header_told 0x04 field page place) (nonce_content field (length place.rest - 1))
    (λ n. cond (nat_eq n.0 32) (bytes_at n.0 n.1) (Err Invalid)) (λ at.
    cond_read (nat_eq at.value 32) (bytes_told at.value field at.page at.place)
    (Ends (refused_as at.page at.place.end field (
      length place.rest - 1,
      Nonce at.value,
    ) Invalid) Invalid)
    (bytes_at at.value at.place.rest) (Err Invalid)
    (bytes_read at.value field at.page at.place) refl)
    ∙ ap (λ (r : Read ℕ). read_then r (λ n. cond (nat_eq n.0 32) (bytes_at n.0 n.1) (Err Invalid)))
    (header_read 0x04 field page place)

-- after a tag whose length is not compared
pub tagged_read : {A : Type 0} (tag : ℕ) (field : Field) (next : At ℕ → Told A) (inner : List ℕ →
    Read A)
    → ((at : At ℕ) → read_of (next at) ≡ inner at.place.rest) → (page : Sheet) (place : Spot)
    → read_of (header_told tag field page place >>= next) ≡ tagged_at tag inner place.rest
unfolding tagged_at
tagged_read tag field next inner same page place =
    bind_read (header_told tag field page place) next (λ n. inner n.1) same
    ∙ ap (λ (r : Read ℕ). read_then r (λ n. inner n.1)) (header_read tag field page place)

present_read : {A : Type 0} (n : Option ℕ) (at : At (Option ℕ)) (inside : Sheet → Spot →
    Told A) (inner : List ℕ → Read A)
    → ((page : Sheet) (place : Spot) → read_of (inside page place) ≡ inner place.rest)
    → read_of (present n at inside) ≡ present_at inner n at.place.rest
present_read None at inside inner same = refl
present_read (Some n) at inside inner same =
    bind_read (inside at.page at.place)
    (λ x. Goes (record { page = x.page; value = Some x.value; place = x.place }))
    (λ x. Ok (Some x.0, x.1)) (λ x. refl)
    ∙ ap (λ r. read_then r (λ x. Ok (Some x.0, x.1))) (same at.page at.place)

-- an optional field
pub field_read : {A : Type 0} (tag : ℕ) (field : Field) (inside : Sheet → Spot →
    Told A) (inner : List ℕ → Read A)
    → ((page : Sheet) (place : Spot) → read_of (inside page place) ≡ inner place.rest) →
    (page : Sheet) (place : Spot)
    → read_of (there_told tag field page place >>= λ there. if_there there inside) ≡ field_at tag inner place.rest
unfolding field_at
field_read tag field inside inner same page place =
    bind_read (there_told tag field page place) (λ there. if_there there inside)
    (λ n. present_at inner n.0 n.1)
    (λ at. present_read at.value at inside inner same)
    ∙ ap (λ (r : Read (Option ℕ)). read_then r (λ n. present_at inner n.0 n.1))
    (there_read tag field page place)

-- a field that only some versions look for
pub looked_read : {A : Type 0} (looked : Bool) (field : Sheet → Spot →
    Told (Option A)) (reader : List ℕ → Read (Option A))
    → ((page : Sheet) (place : Spot) → read_of (field page place) ≡ reader place.rest) →
    (page : Sheet) (place : Spot)
    → read_of (looked_told looked field page place) ≡ looked_at looked reader place.rest
looked_read true field reader same page place = same page place
looked_read false field reader same page place = refl
