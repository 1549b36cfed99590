-- The content of a request, piece by piece.
use Rattle.std.proofs.Common.{◌≡◌, ℕ, ◌+◌, ◌<◌, List, [], ◌∷◌, ◌++◌, length, Option}
use Rattle.std.proofs.Common.{None, Some, ◌⊎◌, inl, inr, Ok, Err, refl, sym, ap, ◌∙◌, append_assoc, arith}
use Rattle.std.proofs.lemmas.Bool.{lt-ltb}
use Rattle.std.proofs.lemmas.List.{append-nil, length-append}
use Rattle.std.proofs.KnownBytes.{Consumes-kept, Consumes-trans}
use Rattle.std.specs.Io.KnownBytes.{Consumes, IsAtEnd, Keeps}
use Rattle.sspi_ber.specs.Pieces.{Ended, bytes_at, header_at}
use Rattle.sspi_ber.specs.declared.wire_kind.WireKind.{WireKind}
use Rattle.sspi_ber.specs.declared.wire_kind.WireKind.TheVariants.{UnexpectedEof, InvalidData, ReadFault, WriteFault, InsufficientMemory}
use Rattle.sspi_ber.proofs.PiecesMatch.{header_match}
use Rattle.sspi_tsreq.specs.Reading.{fault}
use Rattle.sspi_tsreq.specs.Reading.{request_at}
use Rattle.sspi_framing.specs.Taking.{IsBad, IsBegun, IsWhole, TakesNeedy, TakesToFault, TakesWanted, TakesRequest}
use Rattle.sspi_framing.specs.Parts.{IsHeaderOf, TakesBytes, TakesBody, TakesCut, TakesLess, TakesPart}
use Rattle.sspi_framing.proofs.Headers.{none_taken}
use Rattle.sspi_framing.proofs.Wanted.{part_wanted}

-- part of the content was taken, and `missing` bytes of it are still missing
pub record BodySoFar (size missing : ℕ) (before now : Option (List ℕ)) (old new : List ℕ) : Type 0 where
  pub body : List ℕ
  pub sized : length body + missing ≡ size
  pub taken : Consumes before now body
  pub put : new ≡ old ++ body

pub none_so_far : (size : ℕ) (left : Option (List ℕ)) (bytes : List ℕ) → BodySoFar size size left left bytes bytes
none_so_far size None bytes = record { body = []; sized = omega arith; taken = tt; put = sym (append-nil bytes) }
none_so_far size (Some left) bytes = record { body = []; sized = omega arith; taken = refl; put = sym (append-nil bytes) }

pub piece_on : (size missing count now_missing : ℕ) (before mid after : Option (List ℕ)) (old new newer piece : List ℕ) →
    BodySoFar size missing before mid old new → Consumes mid after piece → length piece ≡ count → now_missing + count ≡ missing →
    newer ≡ new ++ piece → BodySoFar size now_missing before after old newer
piece_on size missing count now_missing before mid after old new newer piece s c l m e = record {
  body = s.body ++ piece;
  sized = omega (arith, length-append s.body piece, l, m, s.sized);
  taken = Consumes-trans before mid after s.body piece s.taken c;
  put = e ∙ ap (λ (t : List ℕ). t ++ piece) s.put ∙ append_assoc old s.body piece;
}

pub body_done : (size missing : ℕ) (before now : Option (List ℕ)) (old new : List ℕ) → BodySoFar size missing before now old new →
    missing ≡ 0 →
    TakesBytes size before now old new
body_done size missing before now old new s e = record { body = s.body; sized = omega (arith, s.sized, e); taken = s.taken; put = s.put }

-- the source failed
pub body_kept : (size missing : ℕ) (before mid after : Option (List ℕ)) (old new : List ℕ) → BodySoFar size missing before mid old new →
    Keeps mid after → TakesPart size before after
body_kept size missing before mid after old new s k =
    record { body = s.body; sized = omega (arith, s.sized); taken = Consumes-kept before mid after s.body s.taken k }

-- there was no memory for the next piece
pub body_short : {S : Type 0} (left : S → Option (List ℕ)) (size missing : ℕ) (before now : S) (old new : List ℕ) →
    BodySoFar size missing (left before) (left now) old new → 0 < missing → (missing ≡ size → now ≡ before) →
    TakesLess left size before now
body_short left size missing before now old new s lt unasked = record {
  body = s.body;
  sized = omega (arith, s.sized, lt);
  taken = s.taken;
  unasked = λ e. unasked (omega (arith, s.sized, ap length e));
}

-- the source ended before the content did
pub body_cut : (size missing : ℕ) (before mid after : Option (List ℕ)) (old new : List ℕ) → BodySoFar size missing before mid old new →
    Consumes mid after [] → IsAtEnd after → 0 < missing → TakesCut size before after
body_cut size missing before mid after old new s c end lt = record {
  body = s.body ++ [];
  sized = omega (arith, length-append s.body [], s.sized, lt);
  taken = Consumes-trans before mid after s.body [] s.taken c;
  at_end = end;
}

-- ---- header and content together

pub whole : (size : ℕ) (before mid after : Option (List ℕ)) (header bytes : List ℕ) → Consumes before mid header → IsHeaderOf size header →
    TakesBytes size mid after header bytes → Consumes before after bytes × IsWhole bytes
whole size before mid after header bytes c h t = (
  rw t.put (Consumes-trans before mid after header t.body c t.taken),
  record { len = h.len; body = t.body; parts = t.put ∙ ap (λ (l : List ℕ). l ++ t.body) h.spelled; measured = rw t.sized h.measured },
)

cut_fault : (size : ℕ) (header rest : List ℕ) → IsHeaderOf size header → length rest < size → fault (header ++ rest) ≡ Some Ended
unfolding request_at bytes_at
cut_fault size header rest h lt =
    let read : header_at 0x30 (header ++ rest) ≡ Ok (size, rest) =
    (header_match 0x30).again header size rest (record { len = h.len; spelled = h.spelled; measured = h.measured }) in
    rw (read, lt-ltb (length rest) size lt) refl

header_some : (size : ℕ) (header rest : List ℕ) → IsHeaderOf size header → header ++ rest ≡ [] → ⊥
header_some size header rest h e =
    let f : (0x30 ∷ h.len) ++ rest ≡ [] = ap (λ (l : List ℕ). l ++ rest) (sym h.spelled) ∙ e in absurd cc

part_behind : (size : ℕ) (before mid after : Option (List ℕ)) (header : List ℕ) → Consumes before mid header → IsHeaderOf size header →
    TakesPart size mid after → TakesWanted before after
part_behind size before mid after header c h part = record {
  text = header ++ part.body;
  taken = Consumes-trans before mid after header part.body c part.taken;
  wanted = part_wanted size header part.body h part.sized;
}

cut_is_bad : (size : ℕ) (before mid after : Option (List ℕ)) (header : List ℕ) → Consumes before mid header → IsHeaderOf size header →
    TakesCut size mid after → IsBad before UnexpectedEof
cut_is_bad size None mid after header c h cut = tt
cut_is_bad size (Some bytes) None after header c h cut = absurd c
cut_is_bad size (Some bytes) (Some left) None header c h cut = absurd cut.taken
cut_is_bad size (Some bytes) (Some left) (Some last) header c h cut =
    let short : length left < size = omega (arith, ap length cut.taken, length-append cut.body last, ap length cut.at_end, cut.sized) in
    (λ e. header_some size header left h (sym c ∙ e), ap fault c ∙ cut_fault size header left h short)

cut_content : (size : ℕ) (before mid after : Option (List ℕ)) (header : List ℕ) → Consumes before mid header → IsHeaderOf size header →
    TakesCut size mid after → IsBad before UnexpectedEof × TakesToFault UnexpectedEof before after
cut_content size before mid after header c h cut =
    let part : TakesPart size mid after = record { body = cut.body; sized = omega (arith, cut.sized); taken = cut.taken } in (
      cut_is_bad size before mid after header c h cut,
      record { taken = part_behind size before mid after header c h part; shows = λ u. cut.at_end },
    )

begun : (size : ℕ) (before mid after : Option (List ℕ)) (header : List ℕ) → Consumes before mid header → IsHeaderOf size header →
    (part : TakesPart size mid after) → (part.body ≡ []) ⊎ (length part.body < size) → TakesNeedy IsBegun before after
unfolding part_behind
begun size before mid after header c h part less = record {
  taken = part_behind size before mid after header c h part;
  needy = record {
    size = size;
    len = h.len;
    body = part.body;
    parts = ap (λ (l : List ℕ). l ++ part.body) h.spelled;
    measured = h.measured;
    part = less;
  };
}

-- there was no memory for the header
pub header_begun : (size : ℕ) (before after : Option (List ℕ)) (header : List ℕ) → Consumes before after header → IsHeaderOf size header →
    TakesNeedy IsBegun before after
header_begun size before after header c h =
    begun size before after after header c h (record { body = []; sized = omega arith; taken = none_taken after [] refl }) (inl refl)

pub refused_content : {S Y : Type 0} (left : S → Option (List ℕ)) (view : Y → List ℕ) (size : ℕ) (before : Option (List ℕ)) (mid after : S)
    (header old new : List ℕ) (kind : WireKind) →
    Consumes before (left mid) header → IsHeaderOf size header → TakesBody left size mid after old new (Err kind) →
    TakesRequest view before (left after) (Err kind)
refused_content left view size before mid after header old new UnexpectedEof c h t = cut_content size before (left mid) (left after) header c h t
refused_content left view size before mid after header old new InvalidData c h t = absurd t
refused_content left view size before mid after header old new ReadFault c h t = part_behind size before (left mid) (left after) header c h t
refused_content left view size before mid after header old new WriteFault c h t = absurd t
refused_content left view size before mid after header old new InsufficientMemory c h t =
    begun size before (left mid) (left after) header c h (record { body = t.body; sized = omega (arith, t.sized); taken = t.taken })
    (inr t.sized)
