-- What the bytes that a header bounds are read as.
use Rattle.std.proofs.Common.{◌≡◌, ℕ, List, [], ◌∷◌, ◌++◌, length, Option, None}
use Rattle.std.proofs.Common.{Some, inl, inr, Result, Ok, Err, refl, sym, ap, ◌∙◌, subst, append_assoc, arith}
use Rattle.std.proofs.lemmas.List.{append-nil, length-append}
use Rattle.std.specs.Io.KnownBytes.{Consumes}
use Rattle.sspi_ber.specs.Pieces.{header_at}
use Rattle.sspi_ber.specs.declared.wire_kind.WireKind.{WireKind}
use Rattle.sspi_ber.specs.declared.wire_kind.WireKind.TheVariants as kinds
use Rattle.sspi_ber.proofs.Match.{both_are}
use Rattle.sspi_ber.proofs.PiecesMatch.{header_match}
use Rattle.sspi_tsreq.specs.declared.request.TsRequest.{TsRequest}
use Rattle.sspi_tsreq.specs.Answer.{IsAnswer}
use Rattle.sspi_tsreq.specs.Grammar.{IsRequest}
use Rattle.sspi_tsreq.specs.Reading.{fault}
use Rattle.sspi_tsreq.proofs.Faults.{framed}
use Rattle.sspi_framing.specs.Front.{IsText}
use Rattle.sspi_framing.specs.Parts.{HasFault, IsReadAs}
use Rattle.sspi_framing.specs.Taking.{GivesNext, HasCopies, IsBad, IsWhole, ShowsFault, TakesRequest, TakesToFault}
use Rattle.sspi_framing.proofs.Wanted.{whole_shown, whole_wanted}

-- the request takes all of them
pub is_text : (bytes : List ℕ) (r : TsRequest) (count : ℕ) → IsWhole bytes → IsRequest bytes r count → IsText bytes r
is_text bytes r count w t =
    let first : header_at 0x30 bytes ≡ Ok (length w.body, w.body) =
    ap (header_at 0x30) w.parts ∙ (header_match 0x30).again (0x30 ∷ w.len) (length w.body) w.body
    (record { len = w.len; spelled = refl; measured = w.measured }) in
    let second : header_at 0x30 bytes ≡ Ok (length t.body, t.body ++ t.after) =
    ap (header_at 0x30) t.parts ∙ (header_match 0x30).again (0x30 ∷ t.len) (length t.body) (t.body ++ t.after)
    (record { len = t.len; spelled = refl; measured = t.measured }) in
    let same = both_are (length w.body) (length t.body) w.body (t.body ++ t.after) (sym first ∙ second) in
    let none : length t.after ≡ 0 = omega (arith, same.0, ap length same.1, length-append t.body t.after) in
    let all : length bytes ≡ count =
    omega (
      arith,
      ap length t.parts,
      length-append (0x30 ∷ t.len) (t.body ++ t.after),
      length-append t.body t.after,
      none,
      t.taken,
      length-append (0x30 ∷ t.len) t.body,
    ) in
    subst (λ (k : ℕ). IsRequest bytes r k) (sym all) t

-- ---- no request

-- these bytes alone determine the fault
same_fault : (bytes more : List ℕ) → IsWhole bytes → fault (bytes ++ more) ≡ fault bytes
same_fault bytes more w =
    let longer : bytes ++ more ≡ (0x30 ∷ w.len) ++ (w.body ++ more) =
    ap (λ (l : List ℕ). l ++ more) w.parts ∙ append_assoc (0x30 ∷ w.len) w.body more in
    let alone : bytes ≡ (0x30 ∷ w.len) ++ (w.body ++ []) =
    w.parts ∙ ap (λ (l : List ℕ). (0x30 ∷ w.len) ++ l) (sym (append-nil w.body)) in
    ap fault longer ∙ framed w.len w.body more w.measured ∙ sym (ap fault alone ∙ framed w.len w.body [] w.measured)

whole_some : (bytes more : List ℕ) → IsWhole bytes → bytes ++ more ≡ [] → ⊥
whole_some bytes more w e =
    let f : ((0x30 ∷ w.len) ++ w.body) ++ more ≡ [] = ap (λ (l : List ℕ). l ++ more) (sym w.parts) ∙ e in absurd cc

pub is_bad : (left after : Option (List ℕ)) (bytes : List ℕ) (kind : WireKind) → Consumes left after bytes → IsWhole bytes →
    HasFault bytes kind →
    IsBad left kind
is_bad None after bytes kinds.UnexpectedEof c w f = tt
is_bad (Some all) None bytes kinds.UnexpectedEof c w f = absurd c
is_bad (Some all) (Some more) bytes kinds.UnexpectedEof c w f =
    (λ e. whole_some bytes more w (sym c ∙ e), ap fault c ∙ same_fault bytes more w ∙ f)
is_bad None after bytes kinds.InvalidData c w f = tt
is_bad (Some all) None bytes kinds.InvalidData c w f = absurd c
is_bad (Some all) (Some more) bytes kinds.InvalidData c w f =
    (λ e. whole_some bytes more w (sym c ∙ e), ap fault c ∙ same_fault bytes more w ∙ f)
is_bad left after bytes kinds.ReadFault c w f = absurd f
is_bad left after bytes kinds.WriteFault c w f = absurd f
is_bad left after bytes kinds.InsufficientMemory c w f = absurd f

shows : (bytes : List ℕ) (after : Option (List ℕ)) (kind : WireKind) → IsWhole bytes → HasFault bytes kind → ShowsFault bytes after kind
shows bytes after kinds.UnexpectedEof w f = λ u. absurd (whole_shown bytes w u)
shows bytes after kinds.InvalidData w f = w
shows bytes after kinds.ReadFault w f = absurd f
shows bytes after kinds.WriteFault w f = absurd f
shows bytes after kinds.InsufficientMemory w f = absurd f

pub to_fault : (before after : Option (List ℕ)) (bytes : List ℕ) (kind : WireKind) → Consumes before after bytes → IsWhole bytes →
    HasFault bytes kind →
    TakesToFault kind before after
to_fault before after bytes kind c w f =
    record { taken = record { text = bytes; taken = c; wanted = whole_wanted bytes w }; shows = shows bytes after kind w f }

-- a request that was taken whole, but could not be read
pub taken_not_read : (before after : Option (List ℕ)) (bytes seen : List ℕ) (kind : WireKind) → Consumes before after bytes →
    IsWhole bytes → seen ≡ bytes → IsReadAs seen (Err kind) → GivesNext before after (Err kind)
taken_not_read before after bytes seen kinds.UnexpectedEof c w e f =
    let g : HasFault bytes kinds.UnexpectedEof = subst (λ (l : List ℕ). HasFault l kinds.UnexpectedEof) e f in
    (is_bad before after bytes kinds.UnexpectedEof c w g, to_fault before after bytes kinds.UnexpectedEof c w g)
taken_not_read before after bytes seen kinds.InvalidData c w e f =
    let g : HasFault bytes kinds.InvalidData = subst (λ (l : List ℕ). HasFault l kinds.InvalidData) e f in
    (is_bad before after bytes kinds.InvalidData c w g, to_fault before after bytes kinds.InvalidData c w g)
taken_not_read before after bytes seen kinds.ReadFault c w e f = absurd f
taken_not_read before after bytes seen kinds.WriteFault c w e f = absurd f
taken_not_read before after bytes seen kinds.InsufficientMemory c w e f = record {
  taken = record { text = bytes; taken = c; wanted = whole_wanted bytes w };
  needy = inr (subst (λ (l : List ℕ). HasCopies l) e f);
}

pub not_taken : {X : Type 0} (view : X → List ℕ) (before after : Option (List ℕ)) (kind : WireKind) →
    TakesRequest view before after (Err kind) → GivesNext before after (Err kind)
not_taken view before after kinds.UnexpectedEof t = t
not_taken view before after kinds.InvalidData t = absurd t
not_taken view before after kinds.ReadFault t = t
not_taken view before after kinds.WriteFault t = absurd t
not_taken view before after kinds.InsufficientMemory t = record { taken = t.taken; needy = inl t.needy }

pub read_as : (bytes : List ℕ) (result : Result TsRequest WireKind) → IsWhole bytes → IsAnswer bytes result → IsReadAs bytes result
read_as bytes (Ok r) w a = is_text bytes r a.0.0 w a.0.1
read_as bytes (Err kinds.UnexpectedEof) w a = a
read_as bytes (Err kinds.InvalidData) w a = a
read_as bytes (Err kinds.ReadFault) w a = absurd a
read_as bytes (Err kinds.WriteFault) w a = absurd a
read_as bytes (Err kinds.InsufficientMemory) w a = (a.0, is_text bytes a.0 a.1 w a.2, a.3)
