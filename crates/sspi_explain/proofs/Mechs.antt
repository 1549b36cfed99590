-- The loop that explains mechanisms one after another.
use Rattle.std.proofs.Common.{◌≡◌, ℕ, ◌<◌, ◌≤◌, Bool, true, false, cond, List, [], ◌∷◌, ◌++◌}
use Rattle.std.proofs.Common.{length, Ok, Err, refl, sym, ap, ◌∙◌}
use Rattle.std.proofs.Common.{append_assoc, arith}
use Prim.Native.Nat.{zero, suc}
use Rattle.std.proofs.lemmas.List.{append-nil}
use Rattle.sspi_ber.specs.Pieces.{Fault, Read, element_at}
use Rattle.sspi_tokens.specs.Reading.{is_next}
use Rattle.sspi_tokens.proofs.OidsLoop as oids
use Rattle.sspi_explain.specs.declared.field.Field.TheVariants.{MechTypes}
use Rattle.sspi_explain.specs.declared.stop.Fault as stop
use Rattle.sspi_explain.specs.declared.stop.Stop.{Stop}
use Rattle.sspi_explain.specs.declared.stop.Stop.TheVariants.{Refused, OutOfMemory}
use Rattle.sspi_explain.specs.Page.{Sheet, deeper, with_line}
use Rattle.sspi_explain.specs.Pieces.{element_told}
use Rattle.sspi_explain.specs.Identifier.{identifier_text}
use Rattle.sspi_explain.specs.Token.{mech_told, mechs_up_to, mechs_told}
use Rattle.sspi_explain.specs.Told.{Spot, spot, offset, At, Told, Goes, Ends, read_of, fault_of}
use Rattle.sspi_explain.specs.Told.{Tells, TellsSome, ◌>>=◌}
use Rattle.sspi_explain.proofs.ReadsPieces.{element_read}

pub mech_read : (page : Sheet) (list : Spot) →
    read_of (mech_told page list) ≡ element_at 0x06 list.rest
unfolding mech_told
mech_read page list = same (element_told 0x06 MechTypes page list) ∙
    element_read 0x06 MechTypes page list where
      same : (t : Told (List ℕ)) → read_of (t >>= λ mech. Goes (record {
        page = with_line (deeper mech.page.depth) (offset list) (identifier_text mech.value) mech.page;
        value = mech.value;
        place = mech.place;
      })) ≡ read_of t
      same (Goes at) = refl
      same (Ends told fault) = refl

-- what has been explained so far, before what is still to be explained
abbrev pub before : List (List ℕ) → At (List (List ℕ)) → Told (List (List ℕ))
before mechs more = Goes
    (record { page = more.page; value = mechs ++ more.value; place = more.place })

pub record Telling (first : Sheet) (list : Spot) (page : Sheet) (left : Spot) : Type 0 where
  pub mechs : List (List ℕ)
  pub told : mechs_told first list ≡ (mechs_told page left >>= before mechs)

nothing_before : (t : Told (List (List ℕ))) → t ≡ (t >>= before [])
nothing_before (Goes at) = refl
nothing_before (Ends page fault) = refl

pub telling_start : (page : Sheet) (list : Spot) → Telling page list page list
telling_start page list = record { mechs = []; told = nothing_before (mechs_told page list) }

-- a mechanism takes at least one byte
pub shorter : (page : Sheet) (left : Spot) (at : At (List ℕ)) → mech_told page left ≡ Goes at →
    length at.place.rest < length left.rest
shorter page left at e =
    oids.shorter left.rest at.value at.place.rest
    (sym (mech_read page left) ∙ ap (λ (t : Told (List ℕ)). read_of t) e)

abbrev pub one_more : List ℕ → At (List (List ℕ)) → Told (List (List ℕ))
one_more mech more =
    Goes (record { page = more.page; value = mech ∷ more.value; place = more.place })

-- one mechanism, and then at most this many more
abbrev pub then_told : ℕ → At (List ℕ) → Told (List (List ℕ))
then_told most mech = mechs_up_to most mech.page mech.place >>= one_more mech.value

abbrev pub none_told : Sheet → Spot → Told (List (List ℕ))
none_told page left = Goes (record { page = page; value = []; place = left })

then_same : (n m : ℕ) (t : Told (List ℕ)) →
    ((at : At (List ℕ)) → t ≡ Goes at →
    mechs_up_to n at.page at.place ≡ mechs_up_to m at.page at.place)
    → (t >>= then_told n) ≡ (t >>= then_told m)
then_same n m (Goes at) same =
    ap (λ (q : Told (List (List ℕ))). q >>= one_more at.value) (same at refl)
then_same n m (Ends page fault) same = refl

-- more room than bytes changes nothing
room : (n m : ℕ) (page : Sheet) (rest : List ℕ) (end : ℕ) → length rest ≤ n → length rest ≤ m
    → mechs_up_to n page (spot rest end) ≡ mechs_up_to m page (spot rest end)
room zero zero page rest end le le2 = refl
room zero (suc m) page [] end le le2 = refl
room zero (suc m) page (byte ∷ rest) end le le2 = absurd (omega arith)
room (suc n) zero page [] end le le2 = refl
room (suc n) zero page (byte ∷ rest) end le le2 = absurd (omega arith)
room (suc n) (suc m) page rest end le le2 =
    ap (λ (z : Told (List (List ℕ))). cond (is_next 0x06 rest) z (none_told page (spot rest end)))
    (then_same n m (mech_told page (spot rest end)) (λ at e.
    room n m at.page at.place.rest at.place.end (omega (arith, shorter page (spot rest end) at e))
    (omega (arith, shorter page (spot rest end) at e))))

next_at : (page : Sheet) (rest : List ℕ) (end : ℕ) (at : At (List ℕ)) → is_next 0x06 rest ≡ true →
    mech_told page (spot rest end) ≡ Goes at
    → mechs_told page (spot rest end) ≡ (mechs_told at.page at.place >>= one_more at.value)
unfolding mechs_told
next_at page [] end at next e = absurd (let f : false ≡ true = next in cc)
next_at page (byte ∷ rest) end at next e =
    ap (λ (b : Bool). cond b (mech_told page (spot (byte ∷ rest) end) >>= then_told (length rest))
    (none_told page (spot (byte ∷ rest) end))) next
    ∙ ap (λ (t : Told (List ℕ)). t >>= then_told (length rest)) e
    ∙ ap (λ (r : Told (List (List ℕ))). r >>= one_more at.value)
    (room (length rest) (length at.place.rest) at.page at.place.rest at.place.end
    (omega (arith, shorter page (spot (byte ∷ rest) end) at e)) (omega arith))

none_at : (page : Sheet) (rest : List ℕ) (end : ℕ) → is_next 0x06 rest ≡ false
    → mechs_told page (spot rest end) ≡ none_told page (spot rest end)
unfolding mechs_told
none_at page [] end next = refl
none_at page (byte ∷ rest) end next =
    ap (λ (b : Bool). cond b (mech_told page (spot (byte ∷ rest) end) >>= then_told (length rest))
    (none_told page (spot (byte ∷ rest) end))) next

fault_at : (page : Sheet) (rest : List ℕ) (end : ℕ) (told : Sheet) (fault : Fault) →
    is_next 0x06 rest ≡ true
    → mech_told page (spot rest end) ≡ Ends told fault →
    mechs_told page (spot rest end) ≡ Ends told fault
unfolding mechs_told
fault_at page [] end told fault next e = absurd (let f : false ≡ true = next in cc)
fault_at page (byte ∷ rest) end told fault next e =
    ap (λ (b : Bool). cond b (mech_told page (spot (byte ∷ rest) end) >>= then_told (length rest))
    (none_told page (spot (byte ∷ rest) end))) next
    ∙ ap (λ (t : Told (List ℕ)). t >>= then_told (length rest)) e

before_more : (mechs : List (List ℕ)) (mech : List ℕ) (t : Told (List (List ℕ)))
    → ((t >>= one_more mech) >>= before mechs) ≡ (t >>= before (mechs ++ mech ∷ []))
before_more mechs mech (Goes more) =
    ap (λ (l : List (List ℕ)). Goes (record { page = more.page; value = l; place = more.place }))
    (sym (append_assoc mechs (mech ∷ []) more.value))
before_more mechs mech (Ends page fault) = refl

pub telling_step : {first page : Sheet} {list left : Spot} (at : At (List ℕ)) →
    Telling first list page left → is_next 0x06 left.rest ≡ true
    → mech_told page left ≡ Goes at → Telling first list at.page at.place
telling_step {first} {page} {list} {left} at telling next e = record {
  mechs = telling.mechs ++ at.value ∷ [];
  told = telling.told
      ∙ ap (λ (t : Told (List (List ℕ))). t >>= before telling.mechs)
      (next_at page left.rest left.end at next e)
      ∙ before_more telling.mechs at.value (mechs_told at.page at.place);
}

pub telling_end : {first page : Sheet} {list left : Spot} → Telling first list page left →
    is_next 0x06 left.rest ≡ false
    → (mechs : List (List ℕ)) ×
    (mechs_told first list ≡ Goes (record { page = page; value = mechs; place = left }))
telling_end {first} {page} {list} {left} telling next = (
  telling.mechs,
  telling.told ∙ ap (λ (t : Told (List (List ℕ))). t >>= before telling.mechs)
      (none_at page left.rest left.end next)
      ∙ ap (λ (l : List (List ℕ)). Goes (record { page = page; value = l; place = left }))
      (append-nil telling.mechs),
)

pub telling_fault : {first page : Sheet} {list left : Spot} (told : Sheet) (fault : Fault) →
    Telling first list page left
    → is_next 0x06 left.rest ≡ true → mech_told page left ≡ Ends told fault →
    mechs_told first list ≡ Ends told fault
telling_fault {first} {page} {list} {left} told fault telling next e =
    telling.told ∙ ap (λ (t : Told (List (List ℕ))). t >>= before telling.mechs)
    (fault_at page left.rest left.end told fault next e)

-- a refusal is passed on, whatever the value would have been
pub refusal_given : (stop : Stop) (page : Sheet) (place : Spot) (walk : Told (List ℕ))
    (whole : Told (List (List ℕ)))
    → ((told : Sheet) (fault : Fault) → walk ≡ Ends told fault → whole ≡ Ends told fault)
    → Tells {X = List ℕ} (λ x. x) page place (Err stop) walk →
    TellsSome {X = List ℕ} page place (Err stop) whole
refusal_given (Refused fault) page place walk whole on given = on page (fault_of fault) given
refusal_given OutOfMemory page place walk whole on given = tt
