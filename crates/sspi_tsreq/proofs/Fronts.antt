-- What is left of a request that is cut short, and what follows one.
use Rattle.std.proofs.Common.{◌≡◌, ℕ, ◌+◌, ◌<◌, List, [], ◌∷◌, ◌++◌, length, take, drop, Some, Ok, refl, sym, ap, ◌∙◌, append_assoc, arith}
use Rattle.std.proofs.lemmas.List.{append-nil, length-append, length-take, take-append-drop, take_at}
use Rattle.sspi_ber.specs.Pieces.{Ended, header_at}
use Rattle.sspi_ber.specs.Forms.{IsLength}
use Rattle.sspi_ber.proofs.Match.{both_are}
use Rattle.sspi_ber.proofs.PiecesMatch.{header_match}
use Rattle.sspi_tsreq.specs.declared.request.TsRequest.{TsRequest}
use Rattle.sspi_tsreq.specs.Reading.{fault}
use Rattle.sspi_tsreq.specs.Grammar.{IsRequest}
use Rattle.sspi_tsreq.proofs.Faults.{unframed}

-- a request is read from its own bytes alone
pub alone_request : (bytes : List ℕ) (r : TsRequest) (count : ℕ) → IsRequest bytes r count → IsRequest (take count bytes) r count
alone_request bytes r count t = record {
  len = t.len;
  body = t.body;
  after = [];
  parts =
      ap (take count) (t.parts ∙ sym (append_assoc (0x30 ∷ t.len) t.body t.after))
      ∙ take_at ((0x30 ∷ t.len) ++ t.body) t.after count (sym t.taken)
      ∙ ap (λ (l : List ℕ). (0x30 ∷ t.len) ++ l) (sym (append-nil t.body));
  measured = t.measured;
  body_is = t.body_is;
  taken = t.taken;
}

-- what the header of bytes reads as, when they are a SEQUENCE and its content
header_is : (bytes len body after : List ℕ) → IsLength len (length body) → bytes ≡ (0x30 ∷ len) ++ (body ++ after) →
    header_at 0x30 bytes ≡ Ok (length body, body ++ after)
header_is bytes len body after m e =
    ap (header_at 0x30) e ∙ (header_match 0x30).again (0x30 ∷ len) (length body) (body ++ after)
    (record { len = len; spelled = refl; measured = m })

whole_length : (len body after : List ℕ) → length ((0x30 ∷ len) ++ (body ++ after)) ≡ length ((0x30 ∷ len) ++ body) + length after
whole_length len body after = ap length (sym (append_assoc (0x30 ∷ len) body after)) ∙ length-append ((0x30 ∷ len) ++ body) after

-- bytes are a SEQUENCE and its content in only one way
one_frame : (bytes len body after other content behind : List ℕ) → IsLength len (length body) → bytes ≡ (0x30 ∷ len) ++ (body ++ after)
    → IsLength other (length content) → bytes ≡ (0x30 ∷ other) ++ (content ++ behind) →
    length ((0x30 ∷ len) ++ body) ≡ length ((0x30 ∷ other) ++ content)
one_frame bytes len body after other content behind m e n f =
    let same = both_are (length body) (length content) (body ++ after) (content ++ behind)
    (sym (header_is bytes len body after m e) ∙ header_is bytes other content behind n f) in
    omega (
      arith,
      same.0,
      ap length same.1,
      ap length (sym e ∙ f),
      whole_length len body after,
      whole_length other content behind,
      length-append body after,
      length-append content behind,
    )

-- a request that is cut short is no SEQUENCE with its whole content
cut_unframed : (bytes : List ℕ) (r : TsRequest) (count j : ℕ) → IsRequest bytes r count → j < count
    → (len body after : List ℕ) → IsLength len (length body) → take j bytes ≡ (0x30 ∷ len) ++ (body ++ after) → ⊥
cut_unframed bytes r count j t lt len body after m e =
    let longer : bytes ≡ (0x30 ∷ len) ++ (body ++ (after ++ drop j bytes)) =
    sym (take-append-drop j bytes)
    ∙ ap (λ (l : List ℕ). l ++ drop j bytes) e
    ∙ append_assoc (0x30 ∷ len) (body ++ after) (drop j bytes)
    ∙ ap (λ (l : List ℕ). (0x30 ∷ len) ++ l) (append_assoc body after (drop j bytes)) in
    let same = one_frame bytes t.len t.body t.after len body (after ++ drop j bytes) t.measured t.parts m longer in
    omega (arith, lt, t.taken, same, ap length e, whole_length len body after, length-take j bytes)

pub cut_ended : (bytes : List ℕ) (r : TsRequest) (count j : ℕ) → IsRequest bytes r count → j < count → fault (take j bytes) ≡ Some Ended
cut_ended bytes r count j t lt = unframed (take j bytes) (cut_unframed bytes r count j t lt)
