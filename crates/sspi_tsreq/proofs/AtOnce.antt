-- A request that is whole in one piece.
use Rattle.std.proofs.Common.{◌≡◌, ◌≤◌, ℕ, List, [], ◌∷◌, ◌++◌, length, Option, None, Some, Result, Ok, Err}
use Rattle.std.proofs.Common.{inl, inr, refl, sym, ap, ◌∙◌, subst, arith}
use Rattle.std.proofs.lemmas.List.{append-nil, length-append, take_at}
use Rattle.std.specs.Option.{IsSome}
use Rattle.sspi_ber.specs.declared.wire_kind.WireKind.{WireKind}
use Rattle.sspi_ber.specs.declared.wire_kind.WireKind.TheVariants.{InsufficientMemory}
use Rattle.sspi_ber.specs.Forms.{IsField, IsWrapped}
use Rattle.sspi_ber.specs.Pieces.{header_at}
use Rattle.sspi_ber.proofs.PiecesMatch.{header_match}
use Rattle.sspi_tsreq.specs.declared.request.TsRequest.{TsRequest}
use Rattle.sspi_tsreq.specs.declared.place.Place.{Place}
use Rattle.sspi_tsreq.specs.declared.place.Place.TheVariants.{Whole}
use Rattle.sspi_tsreq.specs.declared.place.Stage.{Stage}
use Rattle.sspi_tsreq.specs.declared.place.Stage.TheVariants.{OuterTag, Content}
use Rattle.sspi_tsreq.specs.declared.reader.TsReader.{TsReader}
use Rattle.sspi_tsreq.specs.Answer.{IsAnswer}
use Rattle.sspi_tsreq.specs.Feeding.{IsPastReading, Stands, StandsAt, StandsInside}
use Rattle.sspi_tsreq.specs.Walks.{EndsAs}
use Rattle.sspi_tsreq.specs.Grammar.{IsOctets, IsRequest, IsToken}
use Rattle.sspi_tsreq.specs.Quiet.{HasOctets, IsWithout}
use Rattle.sspi_tsreq.specs.Places.{answered, rest_at}
use Rattle.sspi_tsreq.specs.Reading.{body_at}
use Rattle.sspi_tsreq.proofs.BodyMatch.{body_again}
use Rattle.sspi_tsreq.proofs.Feeding.{last_answer, last_only, never, stage_past, without_parts}

-- ---- the reader is after it

whole_header : (bytes : List ℕ) (r : TsRequest) (count : ℕ) (t : IsRequest bytes r count)
    → header_at 0x30 bytes ≡ Ok (length t.body, t.body ++ t.after)
whole_header bytes r count t =
    ap (header_at 0x30) t.parts ∙ (header_match 0x30).again (0x30 ∷ t.len) (length t.body) (t.body ++ t.after)
    (record { len = t.len; spelled = refl; measured = t.measured })

nothing_more : (body more : List ℕ) (r : TsRequest) → length more ≤ 0 → answered (body_at body) ≡ Ok r
    → answered (body_at (body ++ more)) ≡ Ok r
nothing_more body [] r le e = ap (λ (l : List ℕ). answered (body_at l)) (append-nil body) ∙ e
nothing_more body (byte ∷ more) r le e = absurd (omega (arith, le))

request_stands : (nonce bytes : List ℕ) (r : TsRequest) (count : ℕ) → IsRequest bytes r count → StandsInside nonce 0 Whole r bytes
request_stands nonce bytes r count t = record {
  size = length t.body;
  body = t.body ++ t.after;
  header = whole_header bytes r count t;
  counted = omega (arith, length-append t.body t.after);
  goes = λ more le. ap (λ (l : List ℕ). answered (body_at (l ++ more))) (take_at t.body t.after (length t.body) refl)
      ∙ nothing_more t.body more r le (ap answered (body_again t.body r t.body_is).1);
  quiet = λ without opened. opened;
}

-- ---- an OCTET STRING has its tag among the bytes

abbrev Marked : {A : Type 0} → (List ℕ → A → Type 0) → Type 0
Marked {A} F = (text : List ℕ) (x : A) → F text x → IsWithout 0x04 text → ⊥

octets_marked : Marked IsOctets
octets_marked text x e without = (subst (λ (l : List ℕ). IsWithout 0x04 l) e.spelled without).0 refl

wrapped_marked : {A : Type 0} (tag : ℕ) (F : List ℕ → A → Type 0) → Marked F → Marked (IsWrapped tag F)
wrapped_marked tag F marked text x w without =
    marked w.0 x w.2 (without_parts 0x04 w.1.len w.0 (subst (λ (l : List ℕ). IsWithout 0x04 l) w.1.spelled without).1).1

field_marked : {A : Type 0} (tag : ℕ) (F : List ℕ → A → Type 0) → Marked F → (text following : List ℕ) (x : Option A)
    → IsField tag F text x following → IsSome x → IsWithout 0x04 text → ⊥
field_marked tag F marked text following None f some without = never some
field_marked tag F marked text following (Some x) f some without = wrapped_marked tag F marked text x f without

token_marked : Marked IsToken
token_marked = wrapped_marked 0x30 _ (wrapped_marked 0x30 _ (wrapped_marked 0xA0 _ octets_marked))

request_marked : (bytes : List ℕ) (r : TsRequest) (count : ℕ) → IsRequest bytes r count → HasOctets r → IsWithout 0x04 bytes → ⊥
request_marked bytes r count t octets without =
    let b = t.body_is in
    let inside = (without_parts 0x04 (0x30 ∷ t.len) (t.body ++ t.after) (subst (λ (l : List ℕ). IsWithout 0x04 l) t.parts without)).1 in
    let body = subst (λ (l : List ℕ). IsWithout 0x04 l) b.parts (without_parts 0x04 t.body t.after inside).0 in
    let nego = without_parts 0x04 b.nego _ (without_parts 0x04 b.version _ body).1 in
    let auth = without_parts 0x04 b.auth _ nego.1 in
    let key = without_parts 0x04 b.key _ auth.1 in
    elim octets [
      | inl some ↦ field_marked 0xA1 IsToken token_marked b.nego _ r.nego_tokens b.nego_is some nego.0
      | inr more ↦ elim more [
        | inl some ↦ field_marked 0xA2 IsOctets octets_marked b.auth _ r.auth_info b.auth_is some auth.0
        | inr some ↦ field_marked 0xA3 IsOctets octets_marked b.key _ r.pub_key_auth b.key_is some key.0
      ]
    ]

-- ---- a reader that was fed nothing

nothing_fed : (reader : TsReader) (bytes : List ℕ) → reader.stage ≡ OuterTag → Stands reader bytes → bytes ≡ []
nothing_fed reader bytes e s = subst (λ (g : Stage). StandsAt reader.nonce g reader.request bytes) e s.at

pub kept_stands : (before : TsReader) (piece : List ℕ) (r : TsRequest) → IsAnswer piece (Ok r)
    → Stands (record before { stage = Content 0 Whole; request = r }) piece
kept_stands before piece r h = record { at = request_stands before.nonce piece r h.0.0 h.0.1 }

pub unkept_marked : (bytes piece : List ℕ) → IsAnswer piece (Err InsufficientMemory) → IsWithout 0x04 (bytes ++ piece) → ⊥
unkept_marked bytes piece (r, count, t, octets) without =
    request_marked piece r count t octets (without_parts 0x04 bytes piece without).1

pub unfed_past : (reader : TsReader) (bytes : List ℕ) → reader.stage ≡ OuterTag → Stands reader bytes → IsPastReading bytes → ⊥
unfed_past reader bytes e s past = stage_past reader.nonce OuterTag reader.request bytes (nothing_fed reader bytes e s) past

-- ---- the answer

kept_ends : (nonce : List ℕ) (place : Place) (r : TsRequest) → place ≡ Whole → EndsAs (answered (rest_at nonce place r [])) (Ok r)
kept_ends nonce place r is = subst (λ (p : Place). EndsAs (answered (rest_at nonce p r [])) (Ok r)) (sym is) refl

pub kept_answers : (reader : TsReader) (left : ℕ) (place : Place) (bytes : List ℕ) → reader.stage ≡ Content left place → left ≡ 0
    → place ≡ Whole → Stands reader bytes → IsAnswer bytes (Ok reader.request)
kept_answers reader left place bytes e none is s =
    last_answer reader left place bytes (Ok reader.request) e (omega (arith, none)) (kept_ends reader.nonce place reader.request is) s

pub kept_alone : (reader : TsReader) (left : ℕ) (place : Place) (bytes : List ℕ) → reader.stage ≡ Content left place → left ≡ 0
    → place ≡ Whole → Stands reader bytes → (r : TsRequest) (count : ℕ) → IsRequest bytes r count
    → ◌≡◌ {A = Result TsRequest WireKind} (Ok reader.request) (Ok r)
kept_alone reader left place bytes e none is s =
    last_only reader left place bytes (Ok reader.request) e (omega (arith, none)) (kept_ends reader.nonce place reader.request is) s
