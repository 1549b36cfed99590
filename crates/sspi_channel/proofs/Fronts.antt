-- An early result, read from the front of what a source has left.
use Rattle.std.proofs.Common.{◌≡◌, ◌<◌, ◌⊎◌, inl, inr, ℕ, List, [], ◌++◌, length, take, Option, None, Some}
use Rattle.std.proofs.Common.{Result, Ok, Err, refl, sym, ap, ◌∙◌, append-nil, arith}
use Rattle.std.proofs.lemmas.Bool.{cases_lt}
use Rattle.std.proofs.lemmas.List.{length-append, length-take-le, take_at, drop_at}
use Rattle.sspi_ber.specs.Outside.{Answers, Reads}
use Rattle.sspi_ber.specs.Pieces.{Ended, Read, Fault}
use Rattle.sspi_ber.specs.declared.wire_kind.WireKind.{WireKind}
use Rattle.sspi_ber.specs.declared.wire_kind.WireKind.TheVariants.{UnexpectedEof, InvalidData, ReadFault, WriteFault, InsufficientMemory}
use Rattle.sspi_tsreq.specs.declared.early.EarlyUserAuthResult.{EarlyUserAuthResult}
use Rattle.sspi_tsreq.specs.Early.{early_result_at, little_endian, result_of, result_or_invalid}
use Rattle.sspi_tsreq.proofs.Blocks.{short, whole}
use Rattle.sspi_channel.specs.Front.{TakesFront}

abbrev Wire : Type 0
Wire = Result EarlyUserAuthResult WireKind

abbrev Gave : Option (List ℕ) → Wire → Read EarlyUserAuthResult → Type 0
Gave after wire read = Answers {X = EarlyUserAuthResult} {A = EarlyUserAuthResult} (λ r. r) after wire read

short_at : (bytes : List ℕ) → length bytes < 4 → early_result_at bytes ≡ Err Ended
unfolding early_result_at
short_at bytes few = rw (short bytes 4 few) refl

whole_at : (octets rest : List ℕ) → length octets ≡ 4 →
    early_result_at (octets ++ rest) ≡ result_or_invalid (result_of (little_endian octets)) rest
unfolding early_result_at
whole_at octets rest four = rw (
  whole (octets ++ rest) 4 (omega (arith, length-append octets rest)),
  take_at octets rest 4 four,
  drop_at octets rest 4 four,
) refl

-- a fault does not depend on what is left
fault_again : (a b : Option (List ℕ)) (wire : Wire) (fault : Fault) → Gave a wire (Err fault) → Gave b wire (Err fault)
fault_again a b (Ok r) fault gave = gave
fault_again a b (Err UnexpectedEof) fault gave = gave
fault_again a b (Err InvalidData) fault gave = gave
fault_again a b (Err ReadFault) fault gave = gave
fault_again a b (Err WriteFault) fault gave = gave
fault_again a b (Err InsufficientMemory) fault gave = gave

found_again : (left rest : List ℕ) (wire : Wire) (found : Option EarlyUserAuthResult) → Gave (Some left) wire (result_or_invalid found []) →
    Gave (Some rest) wire (result_or_invalid found rest)
found_again left rest wire None gave = fault_again (Some left) (Some rest) wire _ gave
found_again left rest (Ok r) (Some found) gave = (gave.0, refl)
found_again left rest (Err UnexpectedEof) (Some found) gave = cc
found_again left rest (Err InvalidData) (Some found) gave = cc
found_again left rest (Err ReadFault) (Some found) gave = gave
found_again left rest (Err WriteFault) (Some found) gave = gave
found_again left rest (Err InsufficientMemory) (Some found) gave = gave

-- the front was short, and then the source is at its end; or it was whole
front_by : (bytes rest left octets : List ℕ) (wire : Wire) → bytes ≡ octets ++ rest →
    (length octets ≡ 4) ⊎ ((length octets < 4) × (rest ≡ [])) → Gave (Some left) wire (early_result_at octets) →
    Gave (Some rest) wire (early_result_at bytes)
front_by bytes rest left octets wire parts (inl four) gave =
    let alone = ap early_result_at (sym (append-nil octets)) ∙ whole_at octets [] four in
    rw (parts, whole_at octets rest four) (found_again left rest wire (result_of (little_endian octets)) (rw alone at gave))
front_by bytes rest left octets wire parts (inr few) gave =
    let all : bytes ≡ octets = parts ∙ ap (λ l. octets ++ l) few.1 ∙ append-nil octets in
    rw (all, short_at octets few.0) (fault_again (Some left) (Some rest) wire Ended (rw (short_at octets few.0) at gave))

pub front_read : (before after : Option (List ℕ)) (left into : List ℕ) (count : ℕ) (wire : Wire) → length into ≡ 4 →
    TakesFront before after into count → Gave (Some left) wire (early_result_at (take count into)) →
    Reads {X = EarlyUserAuthResult} {A = EarlyUserAuthResult} (λ r. r) before after wire early_result_at
front_read None after left into count wire size front gave = tt
front_read (Some bytes) None left into count wire size front gave = absurd front.consumed
front_read (Some bytes) (Some rest) left into count wire size front gave =
    let long = length-take-le count into front.within in
    front_by bytes rest left (take count into) wire front.consumed
    (elim (cases_lt count 4) [
      | inl few ↦ inr (omega (arith, few, long), front.all (omega (arith, few, size)))
      | inr full ↦ inl (omega (arith, full, long, front.within, size))
    ]) gave
