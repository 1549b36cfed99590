-- Copying the content of an element from a source, piece by piece.
use Rattle.std.proofs.Common.{◌≡◌, ℕ, ◌+◌, ◌<◌, ◌≤◌, List, [], ◌++◌, length, Option, None, Some, Ok, Err, refl, sym, ap, ◌∙◌, arith}
use Rattle.std.proofs.Common.{◌⊎◌, inl, inr, Vec, Global}
use Rattle.std.specs.Io.KnownBytes.{Consumes}
use Rattle.std.proofs.lemmas.Bool.{cases_lt}
use Rattle.std.proofs.lemmas.List.{append_assoc, length-append, take_at, drop_at}
use Rattle.sspi_ber.specs.declared.wire_kind.WireKind.{WireKind}
use Rattle.sspi_ber.specs.declared.wire_kind.WireKind.TheVariants.{UnexpectedEof, InvalidData, ReadFault, WriteFault, InsufficientMemory}
use Rattle.sspi_ber.specs.Pieces.{Ended, Invalid, Read, bytes_at}
use Rattle.sspi_ber.specs.Outside.{Answers, Reads, LeavesRest}
use Rattle.sspi_ber.proofs.PiecesMatch.{bytes_match}
use Rattle.sspi_ber.proofs.Rest.{rest_then}
use Rattle.sspi_tsreq.specs.Filled.{WantsForContent}
use Rattle.sspi_tsreq.proofs.Blocks.{short, whole}

-- this content was copied from the source
pub record Copied (before now : Option (List ℕ)) (content : List ℕ) : Type 0 where
  pub consumed : Consumes before now content

pub copied_start : (known : Option (List ℕ)) → Copied known known []
copied_start None = record { consumed = tt }
copied_start (Some x) = record { consumed = refl }

piece_is : (mid after : List ℕ) (piece : List ℕ) (size : ℕ) → Answers (λ b. b) (Some after) (Ok piece) (bytes_at size mid) →
    mid ≡ piece ++ after
piece_is mid after piece size h = by_read (bytes_at size mid) refl h
  where
    by_read : (read : Read (List ℕ)) → bytes_at size mid ≡ read → Answers (λ b. b) (Some after) (Ok piece) read → mid ≡ piece ++ after
    by_read (Ok r) e h =
        let t = (bytes_match size).takes mid r.0 r.1 e in
        t.2 ∙ ap (λ l. l ++ r.1) (t.1.0 ∙ sym h.0) ∙ ap (λ l. piece ++ l)
        (let same : Some after ≡ Some r.1 = h.1 in let rest : r.1 ≡ after = cc in rest)
    by_read (Err fault) e h = absurd h

no_rest : (piece : List ℕ) (read : Read (List ℕ)) → Answers (λ b. b) None (Ok piece) read → ⊥
no_rest piece (Ok r) h = let e = h.1 in cc
no_rest piece (Err fault) h = h

pub copied_step : (before mid after : Option (List ℕ)) (content piece : List ℕ) (size : ℕ) → Copied before mid content
    → Reads {X = List ℕ} (λ b. b) mid after (Ok piece) (bytes_at size) → Copied before after (content ++ piece)
copied_step None mid after content piece size c h = record { consumed = tt }
copied_step (Some x) None after content piece size c h = absurd c.consumed
copied_step (Some x) (Some y) None content piece size c h = absurd (no_rest piece (bytes_at size y) h)
copied_step (Some x) (Some y) (Some z) content piece size c h =
    record { consumed = c.consumed ∙ ap (λ l. content ++ l) (piece_is y z piece size h) ∙ sym (append_assoc content piece z) }

pub copied_rest : (before mid after : Option (List ℕ)) (content : List ℕ) → Copied before mid content → LeavesRest mid after →
    LeavesRest before after
copied_rest before mid after content c r = rest_then (record { taken = content; consumed = c.consumed }) r

-- ---- a piece that is not there

ended_at : (x y content : List ℕ) (n size : ℕ) → x ≡ content ++ y → length content + n ≤ size → bytes_at n y ≡ Err Ended →
    bytes_at size x ≡ Err Ended
ended_at x y content n size parts within e = by_length (cases_lt (length y) n)
  where
    by_length : (length y < n) ⊎ (n ≤ length y) → bytes_at size x ≡ Err Ended
    by_length (inl lt) = short x size (omega (arith, ap length parts, length-append content y, lt, within))
    by_length (inr le) = absurd (let f = whole y n le in (cc))

never_invalid : (n : ℕ) (y : List ℕ) → bytes_at n y ≡ Err Invalid → ⊥
never_invalid n y e = by_length (cases_lt (length y) n)
  where
    by_length : (length y < n) ⊎ (n ≤ length y) → ⊥
    by_length (inl lt) = let f = short y n lt in cc
    by_length (inr le) = let f = whole y n le in cc

stopped_at : (x y : List ℕ) (after : Option (List ℕ)) (content : List ℕ) (n size : ℕ) (kind : WireKind) → x ≡ content ++ y →
    length content + n ≤ size
    → Answers {X = List ℕ} (λ b. b) after (Err kind) (bytes_at n y) → Answers {X = List ℕ} (λ b. b) after (Err kind) (bytes_at size x)
stopped_at x y after content n size UnexpectedEof parts within h = ended_at x y content n size parts within h
stopped_at x y after content n size InvalidData parts within h = absurd (never_invalid n y h)
stopped_at x y after content n size ReadFault parts within h = tt
stopped_at x y after content n size WriteFault parts within h = tt
stopped_at x y after content n size InsufficientMemory parts within h = tt

as_block : (x : List ℕ) (after : Option (List ℕ)) (size : ℕ) (kind : WireKind) →
    Answers {X = List ℕ} (λ b. b) after (Err kind) (bytes_at size x)
    → Answers {X = Vec ℕ Global} (λ content. content.items) after (Err kind) (bytes_at size x)
as_block x after size UnexpectedEof h = h
as_block x after size InvalidData h = h
as_block x after size ReadFault h = tt
as_block x after size WriteFault h = tt
as_block x after size InsufficientMemory h = tt

pub copied_stopped : (before mid after : Option (List ℕ)) (content : List ℕ) (n size : ℕ) (kind : WireKind) → Copied before mid content →
    length content + n ≤ size
    → Reads {X = List ℕ} (λ b. b) mid after (Err kind) (bytes_at n) →
    Reads {X = Vec ℕ Global} (λ content. content.items) before after (Err kind) (bytes_at size)
copied_stopped None mid after content n size kind c within h = tt
copied_stopped (Some x) None after content n size kind c within h = absurd c.consumed
copied_stopped (Some x) (Some y) after content n size kind c within h =
    as_block x after size kind (stopped_at x y after content n size kind c.consumed within h)

-- ---- the whole content

pub copied_whole : (before now : Option (List ℕ)) (content : Vec ℕ Global) (size : ℕ) → Copied before now content.items →
    length content.items ≡ size
    → Reads {X = Vec ℕ Global} (λ content. content.items) before now (Ok content) (bytes_at size)
copied_whole None now content size c same = tt
copied_whole (Some x) None content size c same = absurd c.consumed
copied_whole (Some x) (Some y) content size c same =
    rw (
      c.consumed,
      whole (content.items ++ y) size (omega (arith, same, length-append content.items y)),
      take_at content.items y size same,
      drop_at content.items y size same,
    ) (refl, refl)

-- ---- memory is allocated only for bytes that arrived

pub copied_wants : (X : Type 0) (before mid after : Option (List ℕ)) (content piece : List ℕ) (n : ℕ) (kind : WireKind) →
    Copied before mid content → 0 < n
    → length piece ≡ n → Reads {X = List ℕ} (λ b. b) mid after (Ok piece) (bytes_at n) → WantsForContent {X = X} before (Err kind)
copied_wants X None mid after content piece n kind c some size h = tt
copied_wants X (Some x) None after content piece n kind c some size h = absurd c.consumed
copied_wants X (Some x) (Some y) None content piece n kind c some size h = absurd (no_rest piece (bytes_at n y) h)
copied_wants X (Some x) (Some y) (Some z) content piece n kind c some size h =
    by_kind kind (λ none. let parts = c.consumed ∙ ap (λ l. content ++ l) (piece_is y z piece n h) in
    let empty : length x ≡ 0 = ap length none in omega (
      arith,
      ap length parts,
      empty,
      length-append content (piece ++ z),
      length-append piece z,
      size,
      some,
    ))
  where
    by_kind : (kind : WireKind) → (x ≡ [] → ⊥) → WantsForContent {X = X} (Some x) (Err kind)
    by_kind UnexpectedEof there = tt
    by_kind InvalidData there = tt
    by_kind ReadFault there = tt
    by_kind WriteFault there = tt
    by_kind InsufficientMemory there = there
