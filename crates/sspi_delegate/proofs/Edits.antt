-- Edits before one that gives a text of its own have no effect, if no edit fails.
use Rattle.std.proofs.Common.{◌≡◌, refl, sym, ◌∙◌, ap, subst, inl, inr, ℕ, zero, suc, ◌==◌, ◌&&◌, if◌then◌else◌, Bool, true, false}
use Rattle.std.proofs.Common.{List, [], ◌∷◌, ◌++◌, length, take, drop, slice_get, slice_set, Option, None, Some, option_and_then}
use Rattle.std.proofs.lemmas.Bool.{or_parts, or_cases}
use Rattle.sspi_delegate.specs.declared.edit.Edit.{Edit}
use Rattle.sspi_delegate.specs.declared.edit.EditKind.{EditKind}
use Rattle.sspi_delegate.specs.declared.edit.EditKind.TheVariants.{Drop, Cut, Set, Add, Give, Again, Fail}
use Rattle.sspi_delegate.specs.Edits.{fails, gives_whole, is_fail, is_failing, is_whole}
use Rattle.sspi_delegate.specs.Link.{edited, edited_once, text_at}

once_whole : (here : Bool) (kind : EditKind) (earlier : List (List ℕ)) (text text2 : List ℕ) → (here && is_whole kind) ≡ true →
    (if here then edited_once kind earlier text2 else Some text2) ≡ (if here then edited_once kind earlier text else Some text)
once_whole true Drop earlier text text2 whole = refl
once_whole true (Cut count) earlier text text2 whole = absurd (cc whole)
once_whole true (Set place byte) earlier text text2 whole = absurd (cc whole)
once_whole true (Add more) earlier text text2 whole = absurd (cc whole)
once_whole true (Give bytes) earlier text text2 whole = refl
once_whole true (Again entry) earlier text text2 whole = refl
once_whole true Fail earlier text text2 whole = absurd (cc whole)
once_whole false kind earlier text text2 whole = absurd (cc whole)

once_passes : (here : Bool) (kind : EditKind) (earlier : List (List ℕ)) (text : List ℕ) → (here && is_fail kind) ≡ false →
    (text2 : List ℕ) × ((if here then edited_once kind earlier text else Some text) ≡ Some text2)
once_passes true Drop earlier text none = ([], refl)
once_passes true (Cut count) earlier text none = (take count text, refl)
once_passes true (Set place byte) earlier text none = (slice_set text place byte, refl)
once_passes true (Add more) earlier text none = (text ++ more, refl)
once_passes true (Give bytes) earlier text none = (bytes, refl)
once_passes true (Again entry) earlier text none = (text_at earlier entry, refl)
once_passes true Fail earlier text none = absurd (cc none)
once_passes false kind earlier text none = (text, refl)

pub skipped : (edits : List Edit) (place : ℕ) (edit : Edit) (earlier : List (List ℕ)) (text text2 : List ℕ) →
    slice_get edits place ≡ Some edit → gives_whole (length earlier) edit ≡ true → fails (length earlier) edits ≡ false →
    edited (drop place edits) earlier text2 ≡ edited edits earlier text
skipped [] zero edit earlier text text2 got whole none = absurd (cc got)
skipped [] (suc n) edit earlier text text2 got whole none = absurd (cc got)
skipped (e ∷ edits) zero edit earlier text text2 got whole none =
    let same : e ≡ edit = cc got in
    let e_whole = subst (λ (x : Edit). gives_whole (length earlier) x ≡ true) (sym same) whole in
    ap (λ (o : Option (List ℕ)). option_and_then (edited edits earlier) o)
    (once_whole (e.entry == length earlier) e.kind earlier text text2 e_whole)
skipped (e ∷ edits) (suc n) edit earlier text text2 got whole none =
    let parts = or_parts (is_failing (length earlier) e) (fails (length earlier) edits) none in
    let next = once_passes (e.entry == length earlier) e.kind earlier text parts.0 in
    skipped edits n edit earlier next.0 text2 got whole parts.1 ∙
    ap (λ (o : Option (List ℕ)). option_and_then (edited edits earlier) o) (sym next.1)

-- if no edit fails, none of the edits left does, and none at any place
pub none_left : (entry place : ℕ) (edits : List Edit) → fails entry edits ≡ false → fails entry (drop place edits) ≡ false
none_left entry zero edits none = none
none_left entry (suc n) [] none = none
none_left entry (suc n) (e ∷ edits) none = none_left entry n edits (or_parts (is_failing entry e) (fails entry edits) none).1

none_at : (entry place : ℕ) (edits : List Edit) (edit : Edit) → slice_get edits place ≡ Some edit → fails entry edits ≡ false →
    is_failing entry edit ≡ false
none_at entry place [] edit got none = absurd (cc got)
none_at entry zero (e ∷ edits) edit got none =
    let same : e ≡ edit = cc got in
    subst (λ (x : Edit). is_failing entry x ≡ false) same (or_parts (is_failing entry e) (fails entry edits) none).0
none_at entry (suc n) (e ∷ edits) edit got none =
    none_at entry n edits edit got (or_parts (is_failing entry e) (fails entry edits) none).1

passes : (here failing : Bool) → here ≡ true → here && failing ≡ false → failing ≡ false
passes true failing is none = none
passes false failing is none = absurd (cc is)

pub passes_at : (entry place : ℕ) (edits : List Edit) (edit : Edit) → slice_get edits place ≡ Some edit → fails entry edits ≡ false →
    (edit.entry == entry) ≡ true → is_fail edit.kind ≡ false
passes_at entry place edits edit got none here =
    passes (edit.entry == entry) (is_fail edit.kind) here (none_at entry place edits edit got none)

-- one edit was applied
pub applied : (edits : List Edit) (place next : ℕ) (edit : Edit) (earlier : List (List ℕ)) (text text2 : List ℕ) →
    next ≡ suc place → slice_get edits place ≡ Some edit →
    (if edit.entry == length earlier then edited_once edit.kind earlier text else Some text) ≡ Some text2 →
    edited (drop next edits) earlier text2 ≡ edited (drop place edits) earlier text
applied edits place next edit earlier text text2 is got once = rw is (applied_at edits place got)
  where
    applied_at : (edits : List Edit) (place : ℕ) → slice_get edits place ≡ Some edit →
        edited (drop (suc place) edits) earlier text2 ≡ edited (drop place edits) earlier text
    applied_at [] place got = absurd (cc got)
    applied_at (e ∷ edits) zero got =
        let same : e ≡ edit = cc got in
        ap (λ (o : Option (List ℕ)). option_and_then (edited edits earlier) o) (sym (subst (λ (x : Edit).
        (if x.entry == length earlier then edited_once x.kind earlier text else Some text) ≡ Some text2) (sym same) once))
    applied_at (e ∷ edits) (suc n) got = applied_at edits n got

once_fails : (here : Bool) (kind : EditKind) (earlier : List (List ℕ)) (text : List ℕ) → (here && is_fail kind) ≡ true →
    (if here then edited_once kind earlier text else Some text) ≡ None
once_fails true Drop earlier text failing = absurd (cc failing)
once_fails true (Cut count) earlier text failing = absurd (cc failing)
once_fails true (Set place byte) earlier text failing = absurd (cc failing)
once_fails true (Add more) earlier text failing = absurd (cc failing)
once_fails true (Give bytes) earlier text failing = absurd (cc failing)
once_fails true (Again entry) earlier text failing = absurd (cc failing)
once_fails true Fail earlier text failing = refl
once_fails false kind earlier text failing = absurd (cc failing)

none_then : {A B : Type 0} (f : A → Option B) (o : Option A) → ((x : A) → f x ≡ None) → option_and_then f o ≡ None
none_then f None never = refl
none_then f (Some x) never = never x

pub failed : (edits : List Edit) (earlier : List (List ℕ)) (text : List ℕ) → fails (length earlier) edits ≡ true →
    edited edits earlier text ≡ None
failed [] earlier text some = absurd (cc some)
failed (e ∷ edits) earlier text some = elim (or_cases (is_failing (length earlier) e) (fails (length earlier) edits) some) [
  | inl here ↦ ap (λ (o : Option (List ℕ)). option_and_then (edited edits earlier) o)
      (once_fails (e.entry == length earlier) e.kind earlier text here)
  | inr later ↦ none_then (edited edits earlier) (if e.entry == length earlier then edited_once e.kind earlier text else Some text)
      (λ t. failed edits earlier t later)
]
