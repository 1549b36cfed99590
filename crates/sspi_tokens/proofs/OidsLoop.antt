-- The loop that reads object identifiers one after the other.
use Rattle.std.proofs.Common.{◌≡◌, ℕ, ◌<◌, ◌≤◌, Bool, true, false, cond, List, [], ◌∷◌, ◌++◌}
use Rattle.std.proofs.Common.{length, Ok, Err, refl, sym, ap, ◌∙◌, append_assoc, arith}
use Prim.Native.Nat.{zero, suc}
use Rattle.std.proofs.lemmas.List.{append-nil, length-append}
use Rattle.sspi_ber.specs.Pieces.{Fault, Ended, Invalid, Read, ◌>>=◌, element_at}
use Rattle.sspi_ber.specs.Outside.{Gives}
use Rattle.sspi_ber.specs.declared.wire_kind.WireKind.{WireKind}
use Rattle.sspi_ber.specs.declared.wire_kind.WireKind.TheVariants.{UnexpectedEof, InvalidData, ReadFault, WriteFault, InsufficientMemory}
use Rattle.sspi_ber.proofs.PiecesMatch.{element_match}
use Rattle.sspi_ber.proofs.Match.{read_of}
use Rattle.sspi_tokens.specs.Parts.{list_or_none, oids_in}
use Rattle.sspi_tokens.specs.Reading.{is_next, oids_up_to, oids_at}

-- what was read so far, before what is still to be read
abbrev pub before : List (List ℕ) → List (List ℕ) × List ℕ → Read (List (List ℕ))
before oids more = Ok (oids ++ more.0, more.1)

pub record Reading (bytes : List ℕ) (oids : List (List ℕ)) (left : List ℕ) : Type 0 where
  pub read : oids_at bytes ≡ (oids_at left >>= before oids)

nothing_before : (r : Read (List (List ℕ))) → r ≡ (r >>= before [])
nothing_before (Ok x) = refl
nothing_before (Err fault) = refl

pub reading_start : (bytes : List ℕ) → Reading bytes [] bytes
reading_start bytes = record { read = nothing_before (oids_at bytes) }

-- an element takes at least one byte
pub shorter : (bytes content rest : List ℕ) → element_at 0x06 bytes ≡ Ok (content, rest) → length rest < length bytes
shorter bytes content rest e =
    let t = (element_match 0x06).takes bytes content rest e in
    omega (arith, ap length t.2 ∙ length-append t.0 rest, ap length t.1.spelled)

-- one identifier, and then at most the given number more
abbrev then_at : ℕ → List ℕ × List ℕ → Read (List (List ℕ))
then_at most oid = oids_up_to most oid.1 >>= λ oids. Ok (oid.0 ∷ oids.0, oids.1)

then_same : (n m : ℕ) (r : Read (List ℕ)) →
    ((content rest : List ℕ) → r ≡ Ok (content, rest) → oids_up_to n rest ≡ oids_up_to m rest) → (r >>= then_at n) ≡ (r >>= then_at m)
then_same n m (Ok oid) same = ap (λ (q : Read (List (List ℕ))). q >>= λ oids. Ok (oid.0 ∷ oids.0, oids.1)) (same oid.0 oid.1 refl)
then_same n m (Err fault) same = refl

-- a limit at or above the number of bytes changes nothing
room : (n m : ℕ) (bytes : List ℕ) → length bytes ≤ n → length bytes ≤ m → oids_up_to n bytes ≡ oids_up_to m bytes
room zero zero bytes le le2 = refl
room zero (suc m) [] le le2 = refl
room zero (suc m) (byte ∷ bytes) le le2 = absurd (omega arith)
room (suc n) zero [] le le2 = refl
room (suc n) zero (byte ∷ bytes) le le2 = absurd (omega arith)
room (suc n) (suc m) bytes le le2 =
    ap (λ (z : Read (List (List ℕ))). cond (is_next 0x06 bytes) z (Ok ([], bytes)))
    (then_same n m (element_at 0x06 bytes) (λ content rest e. room n m rest (omega (arith, shorter bytes content rest e))
    (omega (arith, shorter bytes content rest e))))

next_oid : (left content rest : List ℕ) → is_next 0x06 left ≡ true → element_at 0x06 left ≡ Ok (content, rest) →
    oids_at left ≡ (oids_at rest >>= λ more. Ok (content ∷ more.0, more.1))
unfolding oids_at
next_oid [] content rest next e = absurd (let f : false ≡ true = next in cc)
next_oid (byte ∷ left) content rest next e =
    ap (λ (b : Bool). cond b (element_at 0x06 (byte ∷ left) >>= then_at (length left)) (Ok ([], byte ∷ left))) next
    ∙ ap (λ (r : Read (List ℕ)). r >>= then_at (length left)) e
    ∙ ap (λ (r : Read (List (List ℕ))). r >>= λ oids. Ok (content ∷ oids.0, oids.1))
    (room (length left) (length rest) rest (omega (arith, shorter (byte ∷ left) content rest e)) (omega arith))

no_oid : (left : List ℕ) → is_next 0x06 left ≡ false → oids_at left ≡ Ok ([], left)
unfolding oids_at
no_oid [] next = refl
no_oid (byte ∷ left) next = ap (λ (b : Bool). cond b (element_at 0x06 (byte ∷ left) >>= then_at (length left)) (Ok ([], byte ∷ left))) next

bad_oid : (left : List ℕ) (fault : Fault) → is_next 0x06 left ≡ true → element_at 0x06 left ≡ Err fault → oids_at left ≡ Err fault
unfolding oids_at
bad_oid [] fault next e = absurd (let f : false ≡ true = next in cc)
bad_oid (byte ∷ left) fault next e =
    ap (λ (b : Bool). cond b (element_at 0x06 (byte ∷ left) >>= then_at (length left)) (Ok ([], byte ∷ left))) next
    ∙ ap (λ (r : Read (List ℕ)). r >>= then_at (length left)) e

before_more : (oids : List (List ℕ)) (content : List ℕ) (r : Read (List (List ℕ))) →
    ((r >>= λ more. Ok (content ∷ more.0, more.1)) >>= before oids) ≡ (r >>= before (oids ++ content ∷ []))
before_more oids content (Ok more) = ap (λ (l : List (List ℕ)). read_of l more.1) (sym (append_assoc oids (content ∷ []) more.0))
before_more oids content (Err fault) = refl

pub reading_step : {bytes : List ℕ} {oids : List (List ℕ)} {left : List ℕ} (content rest : List ℕ) → Reading bytes oids left →
    is_next 0x06 left ≡ true → element_at 0x06 left ≡ Ok (content, rest)
    → Reading bytes (oids ++ content ∷ []) rest
reading_step {bytes} {oids} {left} content rest reading next e = record {
  read = reading.read ∙ ap (λ (r : Read (List (List ℕ))). r >>= before oids) (next_oid left content rest next e)
      ∙ before_more oids content (oids_at rest);
}

pub reading_end : {bytes : List ℕ} {oids : List (List ℕ)} {left : List ℕ} → Reading bytes oids left → is_next 0x06 left ≡ false →
    oids_at bytes ≡ Ok (oids, left)
reading_end {bytes} {oids} {left} reading next =
    reading.read ∙ ap (λ (r : Read (List (List ℕ))). r >>= before oids) (no_oid left next)
    ∙ ap (λ (l : List (List ℕ)). read_of l left) (append-nil oids)

pub reading_fault : {bytes : List ℕ} {oids : List (List ℕ)} {left : List ℕ} (fault : Fault) → Reading bytes oids left →
    is_next 0x06 left ≡ true → element_at 0x06 left ≡ Err fault → oids_at bytes ≡ Err fault
reading_fault {bytes} {oids} {left} fault reading next e = reading.read ∙ ap (λ (r : Read (List (List ℕ))). r >>= before oids)
    (bad_oid left fault next e)

-- the same, without keeping what was read so far
pub record Passed (bytes left : List ℕ) : Type 0 where
  pub oids : List (List ℕ)
  pub reading : Reading bytes oids left

pub passed_start : (bytes : List ℕ) → Passed bytes bytes
passed_start bytes = record { oids = []; reading = reading_start bytes }

pub passed_step : {bytes left : List ℕ} (content rest : List ℕ) → Passed bytes left → is_next 0x06 left ≡ true →
    element_at 0x06 left ≡ Ok (content, rest) → Passed bytes rest
passed_step content rest passed next e = record {
  oids = passed.oids ++ content ∷ [];
  reading = reading_step content rest passed.reading next e;
}

pub passed_end : {bytes left : List ℕ} → Passed bytes left → is_next 0x06 left ≡ false → oids_at bytes ≡ Ok (oids_in bytes, left)
passed_end {bytes} {left} passed next =
    let e = reading_end passed.reading next in
    e ∙ ap (λ (l : List (List ℕ)). read_of l left) (sym (ap list_or_none e))

-- a fault is passed on, whatever the value would have been
pub fault_given : (kind : WireKind) (read : Read (List ℕ)) (read2 : Read (List (List ℕ))) →
    ((fault : Fault) → read ≡ Err fault → read2 ≡ Err fault)
    → Gives {X = List ℕ} (λ x. x) [] (Err kind) read → Gives {X = List (List ℕ)} (λ x. x) [] (Err kind) read2
fault_given UnexpectedEof read read2 on given = on Ended given
fault_given InvalidData read read2 on given = on Invalid given
fault_given ReadFault read read2 on given = given
fault_given WriteFault read read2 on given = given
fault_given InsufficientMemory read read2 on given = tt
