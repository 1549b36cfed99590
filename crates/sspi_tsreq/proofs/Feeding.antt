-- The effect of a piece on a reader, and what a reader answers.
use Rattle.std.proofs.Common.{◌≡◌, ℕ, ◌+◌, ◌-◌, ◌<◌, ◌≤◌, min, true, false, cond, eqb, List, [], ◌∷◌, ◌++◌, length, take, drop, get_or}
use Rattle.std.proofs.Common.{Option, Result, Ok, Err, refl, sym, ap, ◌∙◌, subst, inl, inr, append_assoc, arith}
use Rattle.std.proofs.lemmas.Bool.{cases_lt, eq-eqb, ne_eqb}
use Rattle.std.proofs.lemmas.List.{length-append, length-drop, append-nil, take-append-le, take-append-drop}
use Rattle.std.proofs.lemmas.List.{length-take-le, take_all, take_more, take_min}
use Rattle.std.proofs.Math.Seq.{take-nil, take-append-add}
use Rattle.sspi_ber.specs.declared.wire_kind.WireKind.{WireKind}
use Rattle.sspi_ber.specs.declared.wire_kind.WireKind.TheVariants.{UnexpectedEof, InvalidData, ReadFault, WriteFault, InsufficientMemory}
use Rattle.sspi_ber.specs.Pieces.{Fault, Ended, Invalid, Read, ◌>>=◌, as_ended, fault_of, bytes_at, length_at, header_at}
use Rattle.sspi_ber.proofs.Match.{both_are}
use Rattle.sspi_ber.proofs.Steady.{header_steady}
use Rattle.sspi_tsreq.specs.declared.request.TsRequest.{TsRequest}
use Rattle.sspi_tsreq.specs.declared.reader.TsReader.{TsReader}
use Rattle.sspi_tsreq.specs.declared.place.LengthPart.{LengthPart}
use Rattle.sspi_tsreq.specs.declared.place.LengthPart.TheVariants.{First}
use Rattle.sspi_tsreq.specs.declared.place.LengthStep.{LengthStep}
use Rattle.sspi_tsreq.specs.declared.place.LengthStep.TheVariants.{Part, Known, Bad}
use Rattle.sspi_tsreq.specs.declared.place.Text.TheVariants.{NegoTokens, AuthInfo, PubKeyAuth}
use Rattle.sspi_tsreq.specs.declared.place.Place.{Place}
use Rattle.sspi_tsreq.specs.declared.place.Place.TheVariants.{AtTag, InLength, InVersion, InCode, InText, InNonce, Whole, Faulty}
use Rattle.sspi_tsreq.specs.declared.place.Stage.{Stage}
use Rattle.sspi_tsreq.specs.declared.place.Stage.TheVariants.{OuterTag, OuterLength, Content, Refused}
use Rattle.sspi_tsreq.specs.Answer.{IsAnswer}
use Rattle.sspi_tsreq.specs.Grammar.{IsRequest}
use Rattle.sspi_tsreq.specs.Feeding.{IsPastReading, Stands, StandsAt, StandsInside}
use Rattle.sspi_tsreq.specs.Walks.{WentOn, EndsAs, IsPast, lengthened, numbered, stage_of, LengthSteps, filled, goes_on, slot}
use Rattle.sspi_tsreq.specs.Places.{answered, length_rest, rest_at}
use Rattle.sspi_tsreq.specs.declared.walk.Walk.{Walk}
use Rattle.sspi_tsreq.specs.Reading.{body_at, request_at}
use Rattle.sspi_tsreq.specs.Quiet.{IsWithout, Opened}
use Rattle.sspi_tsreq.proofs.FromBuffer.{kept_answer}
use Rattle.sspi_tsreq.proofs.Numbers.{bytes_short, bytes_there}
use Rattle.sspi_tsreq.proofs.Ends.{part_end}
use Rattle.sspi_tsreq.proofs.RequestMatch.{request_again}

-- ---- bytes without a value

pub without_parts : (value : ℕ) (first second : List ℕ) → IsWithout value (first ++ second) → IsWithout value first × IsWithout value second
without_parts value [] second w = (tt, w)
without_parts value (byte ∷ first) second w = let parts = without_parts value first second w.1 in ((w.0, parts.0), parts.1)

pub without_front : (value n : ℕ) (bytes : List ℕ) → IsWithout value bytes → IsWithout value (take n bytes)
without_front value n bytes w = (without_parts value (take n bytes) (drop n bytes)
    (subst (λ (l : List ℕ). IsWithout value l) (sym (take-append-drop n bytes)) w)).0

pub without_back : (value n : ℕ) (bytes : List ℕ) → IsWithout value bytes → IsWithout value (drop n bytes)
without_back value n bytes w = (without_parts value (take n bytes) (drop n bytes)
    (subst (λ (l : List ℕ). IsWithout value l) (sym (take-append-drop n bytes)) w)).1

-- ---- the outer header

header_by : (byte : ℕ) (more : List ℕ) → header_at 0x30 (byte ∷ more) ≡ cond (eqb byte 0x30) (length_at more) (Err Invalid)
unfolding header_at
header_by byte more = refl

pub outer_begins : (bytes : List ℕ) (byte : ℕ) → bytes ≡ [] → byte ≡ 0x30 → (more : List ℕ) →
    header_at 0x30 ((bytes ++ byte ∷ []) ++ more) ≡ length_rest First more
outer_begins bytes byte e is more = rw e (header_by byte more ∙ rw (eq-eqb byte 0x30 is) refl)

pub outer_refused : (bytes : List ℕ) (byte : ℕ) → bytes ≡ [] → (byte ≡ 0x30 → ⊥) → header_at 0x30 (bytes ++ byte ∷ []) ≡ Err Invalid
outer_refused bytes byte e other = rw e (header_by byte [] ∙ rw (ne_eqb byte 0x30 other) refl)

pub outer_stays : (bytes : List ℕ) (byte : ℕ) → header_at 0x30 bytes ≡ Err Invalid → header_at 0x30 (bytes ++ byte ∷ []) ≡ Err Invalid
outer_stays bytes byte h = (header_steady 0x30).stays bytes (byte ∷ []) h

pub outer_steps : (nonce : List ℕ) (r : TsRequest) (bytes : List ℕ) (part : LengthPart) (byte : ℕ) (step : LengthStep)
    → ((more : List ℕ) → LengthSteps (length_rest part (byte ∷ more)) step more)
    → ((more : List ℕ) → header_at 0x30 (bytes ++ more) ≡ length_rest part more)
    → StandsAt nonce (stage_of step) r (bytes ++ byte ∷ [])
outer_steps nonce r bytes part byte (Part next) s h = λ more. ap (header_at 0x30) (append_assoc bytes (byte ∷ []) more) ∙ h
    (byte ∷ more) ∙ s more
outer_steps nonce r bytes part byte (Known n) s h = record {
  size = n;
  body = [];
  header = h (byte ∷ []) ∙ s [];
  counted = omega arith;
  goes = λ more le. ap (λ (l : List ℕ). answered (body_at (l ++ more))) (take-nil {A = ℕ} n);
  quiet = λ without opened. opened;
}
outer_steps nonce r bytes part byte Bad s h = h (byte ∷ []) ∙ s []

-- i bytes of the piece, and one more
pub one_taken : (bytes piece : List ℕ) (i : ℕ) → i < length piece → (bytes ++ take i piece) ++ get_or piece i 0 ∷
    [] ≡ bytes ++ take (i + 1) piece
one_taken bytes piece i lt = append_assoc bytes (take i piece) (get_or piece i 0 ∷ []) ∙ ap (λ (l : List ℕ). bytes ++ l)
    (sym (take_more piece i 0 lt))

-- ---- inside the content

take_both : (size : ℕ) (body more : List ℕ) → take size (body ++ more) ≡ take size body ++ take (size - length body) more
take_both size body more =
    elim (cases_lt size (length body)) [
      | inl lt ↦
          let none : 0 ≡ size - length body = omega (arith, lt) in
          take-append-le size body more (omega (arith, lt)) ∙ sym (append-nil (take size body)) ∙ ap
          (λ (n : ℕ). take size body ++ take n more) none
      | inr le ↦
          let parts : size ≡ length body + (size - length body) = omega (arith, le) in
          ap (λ (n : ℕ). take n (body ++ more)) parts
          ∙ take-append-add body more (size - length body)
          ∙ ap (λ (l : List ℕ). l ++ take (size - length body) more) (sym (take_all size body le))
    ]

some_taken : (size left len : ℕ) (body behind : List ℕ) → left ≡ size - length body → len ≡ min (length behind) left →
    take (size - length body) behind ≡ take len behind
some_taken size left len body behind a b = ap (λ (n : ℕ). take n behind) (sym a) ∙ sym (take_min left behind) ∙ ap
    (λ (n : ℕ). take n behind) (omega (arith, b))

pub inside_on : (nonce : List ℕ) (left len : ℕ) (place : Place) (r : TsRequest) (bytes behind : List ℕ) (reader : TsReader) →
    StandsInside nonce left place r bytes
    → len ≡ min (length behind) left → WentOn nonce place r (take len behind) (left - len) reader → Stands reader (bytes ++ behind)
inside_on nonce left len place r bytes behind reader s e w = record {
  at = subst (λ (stage : Stage). StandsAt reader.nonce stage reader.request (bytes ++ behind)) (sym w.stage)
      (record {
        size = s.size;
        body = s.body ++ behind;
        header = (header_steady 0x30).goes bytes s.size s.body behind s.header;
        counted = omega (arith, e, s.counted, length-append s.body behind);
        goes = λ more le.
            ap (λ (l : List ℕ). answered (body_at (l ++ more)))
            (take_both s.size s.body behind ∙ ap (λ (l : List ℕ). take s.size s.body ++ l)
            (some_taken s.size left len s.body behind s.counted e))
            ∙ ap (λ (l : List ℕ). answered (body_at l)) (append_assoc (take s.size s.body) (take len behind) more)
            ∙ s.goes (take len behind ++ more)
            (omega (arith, le, e, length-append (take len behind) more, length-take-le len behind (omega (arith, e))))
            ∙ w.goes more;
        quiet = λ without. let parts = without_parts 0x04 bytes behind without in w.quiet (s.quiet parts.0)
            (without_front 0x04 len behind parts.1);
      });
}

-- when nothing of the piece is consumed
pub inside_still : (nonce : List ℕ) (left : ℕ) (place : Place) (r : TsRequest) (bytes behind : List ℕ) (reader : TsReader) →
    min (length behind) left ≡ 0
    → reader.stage ≡ Content left place → reader.nonce ≡ nonce → reader.request ≡ r → StandsInside nonce left place r bytes →
    Stands reader (bytes ++ behind)
inside_still nonce left place r bytes behind reader e stage-is nonce-is request-is s =
    let same : left ≡ left - 0 = omega arith in
    inside_on nonce left 0 place r bytes behind reader s (sym e)
    (record {
      now = place;
      stage = stage-is ∙ ap (λ (n : ℕ). Content n place) same;
      goes = λ more.
          ap (λ (n : List ℕ). answered (rest_at n place r more)) (sym nonce-is) ∙ ap
          (λ (q : TsRequest). answered (rest_at reader.nonce place q more)) (sym request-is);
      quiet = λ closed without. closed;
    })

same_numbers : (place : Place) (r : TsRequest) (octets : List ℕ) → numbered r (lengthened place r octets) ≡ lengthened place r octets
same_numbers (AtTag element) r octets = refl
same_numbers (InLength element part) r octets = refl
same_numbers (InVersion more value) r octets = refl
same_numbers (InCode more value) r octets = refl
same_numbers (InText NegoTokens more) r octets = refl
same_numbers (InText AuthInfo more) r octets = refl
same_numbers (InText PubKeyAuth more) r octets = refl
same_numbers (InNonce have) r octets = refl
same_numbers Whole r octets = refl
same_numbers Faulty r octets = refl

-- the octets of the current field, and a walk after them
pub content_on : (nonce : List ℕ) (left : ℕ) (place first : Place) (r : TsRequest) (body octets : List ℕ) (begun walked : Walk)
    (reader : TsReader)
    → octets ≡ take (length octets) body
    → ((n more : List ℕ) (s : TsRequest) → rest_at n place s (octets ++ more) ≡ rest_at n first (lengthened place s octets) more)
    → begun.place ≡ first → begun.nonce ≡ nonce → ((base : TsRequest) → filled base begun ≡ numbered r base)
    → ((base : TsRequest) (more : List ℕ) → goes_on begun base (drop (length octets) body ++ more) ≡ goes_on walked base more)
    → ((Opened place → ⊥) → IsWithout 0x04 body → Opened walked.place → ⊥)
    → reader.stage ≡ Content left walked.place → reader.nonce ≡ walked.nonce → reader.request ≡ filled (lengthened place r octets) walked
    → WentOn nonce place r body left reader
content_on nonce left place first r body octets begun walked reader front goes place-is nonce-is fields advanced quiet stage-is last
    last-request = record {
      now = walked.place;
      stage = stage-is;
      goes = λ more.
          let base = lengthened place r octets in
          let behind = drop (length octets) body ++ more in
          ap (λ (l : List ℕ). answered (rest_at nonce place r (l ++ more)))
          (sym (take-append-drop (length octets) body) ∙ ap (λ (l : List ℕ). l ++ drop (length octets) body) (sym front))
          ∙ ap (λ (l : List ℕ). answered (rest_at nonce place r l)) (append_assoc octets (drop (length octets) body) more)
          ∙ ap answered (goes nonce behind r)
          ∙ sym (ap (λ (n : List ℕ). answered (rest_at n begun.place (filled base begun) behind)) nonce-is
          ∙ ap (λ (p : Place). answered (rest_at nonce p (filled base begun) behind)) place-is
          ∙ ap (λ (q : TsRequest). answered (rest_at nonce first q behind)) (fields base ∙ same_numbers place r octets))
          ∙ advanced base more
          ∙ ap (λ (n : List ℕ). answered (rest_at n walked.place (filled base walked) more)) (sym last)
          ∙ ap (λ (q : TsRequest). answered (rest_at reader.nonce walked.place q more)) (sym last-request);
      quiet = quiet;
    }

pub settled : (base : TsRequest) (walk : Walk) (nego auth key : Option (List ℕ)) → nego ≡ slot walk.nego_tokens base.nego_tokens →
    auth ≡ slot walk.auth_info base.auth_info
    → key ≡ slot walk.pub_key_auth base.pub_key_auth
    → record {
      version = walk.version;
      nego_tokens = nego;
      auth_info = auth;
      pub_key_auth = key;
      error_code = walk.error_code;
      client_nonce = walk.client_nonce;
    } ≡ filled base walk
settled base walk nego auth key a b c =
    ap (λ (n : Option (List ℕ)). record (filled base walk) { nego_tokens = n; auth_info = auth; pub_key_auth = key }) a
    ∙ ap (λ (n : Option (List ℕ)). record (filled base walk) { auth_info = n; pub_key_auth = key }) b
    ∙ ap (λ (n : Option (List ℕ)). record (filled base walk) { pub_key_auth = n }) c

-- ---- a piece

pub range_back : (n : ℕ) (l : List ℕ) → take (length l - n) (drop n l) ≡ drop n l
range_back n l = take_all (length l - n) (drop n l) (omega (arith, length-drop n l))

fed : (bytes piece : List ℕ) (n : ℕ) → (bytes ++ take n piece) ++ drop n piece ≡ bytes ++ piece
fed bytes piece n = append_assoc bytes (take n piece) (drop n piece) ∙ ap (λ (l : List ℕ). bytes ++ l) (take-append-drop n piece)

pub fed_closed : (reader : TsReader) (stage : Stage) (left : ℕ) (place : Place) (bytes piece : List ℕ) (n : ℕ)
    → StandsAt reader.nonce stage reader.request (bytes ++ take n piece) → stage ≡ Content left place → IsWithout 0x04 (bytes ++ piece) →
    Opened place → ⊥
fed_closed reader stage left place bytes piece n s e without =
    let inside = subst (λ (g : Stage). StandsAt reader.nonce g reader.request (bytes ++ take n piece)) e s in
    inside.quiet (without_parts 0x04 (bytes ++ take n piece) (drop n piece)
    (subst (λ (l : List ℕ). IsWithout 0x04 l) (sym (fed bytes piece n)) without)).0

pub fed_behind : (bytes piece : List ℕ) (n : ℕ) → IsWithout 0x04 (bytes ++ piece) → IsWithout 0x04 (take (length piece - n) (drop n piece))
fed_behind bytes piece n without = subst (λ (l : List ℕ). IsWithout 0x04 l) (sym (range_back n piece))
    (without_back 0x04 n piece (without_parts 0x04 bytes piece without).1)

pub past_content : (stage : Stage) (left : ℕ) (place : Place) → stage ≡ Content left place → IsPast stage → left ≡ 0
past_content stage left place e past = subst (λ (g : Stage). IsPast g) e past

pub never : false ≡ true → ⊥
never e = cc

-- ---- the answer

abbrev done : TsRequest → Result TsRequest Fault
done r = Ok r

same_done : (r s : TsRequest) → done r ≡ done s → r ≡ s
same_done r s e = cc

abbrev behind_all : List ℕ → TsRequest × List ℕ → Read TsRequest
behind_all rest q = Ok (q.0, rest)

outcome : (bytes rest : List ℕ) (z : Read TsRequest) (result : Result TsRequest WireKind) → EndsAs (answered z) result →
    request_at bytes ≡ (z >>= behind_all rest) → IsAnswer bytes result
outcome bytes rest (Ok q) (Ok r) h e = kept_answer bytes rest r q.0 e (sym (same_done q.0 r h))
outcome bytes rest (Ok q) (Err UnexpectedEof) h e = absurd cc
outcome bytes rest (Ok q) (Err InvalidData) h e = absurd cc
outcome bytes rest (Ok q) (Err ReadFault) h e = h
outcome bytes rest (Ok q) (Err WriteFault) h e = h
outcome bytes rest (Ok q) (Err InsufficientMemory) h e = absurd h
outcome bytes rest (Err fault) (Ok r) h e = absurd cc
outcome bytes rest (Err Ended) (Err UnexpectedEof) h e = ap (λ (x : Read TsRequest). fault_of x) e
outcome bytes rest (Err Invalid) (Err UnexpectedEof) h e = absurd cc
outcome bytes rest (Err Ended) (Err InvalidData) h e = absurd cc
outcome bytes rest (Err Invalid) (Err InvalidData) h e = ap (λ (x : Read TsRequest). fault_of x) e
outcome bytes rest (Err fault) (Err ReadFault) h e = h
outcome bytes rest (Err fault) (Err WriteFault) h e = h
outcome bytes rest (Err fault) (Err InsufficientMemory) h e = absurd h

not_both : (z : Read TsRequest) (fault : Fault) (x : TsRequest × List ℕ) → z ≡ Err fault → z ≡ Ok x → ⊥
not_both z fault x e f = cc

only_outcome : (bytes rest : List ℕ) (z : Read TsRequest) (result : Result TsRequest WireKind) → EndsAs (answered z) result →
    request_at bytes ≡ (z >>= behind_all rest)
    → (r : TsRequest) (count : ℕ) → IsRequest bytes r count → result ≡ Ok r
only_outcome bytes rest (Ok q) (Ok s) h e r count t =
    ap (λ (x : TsRequest). Ok x) (sym (same_done q.0 s h) ∙ (both_are q.0 r rest (drop count bytes)
    (sym e ∙ request_again bytes r count t)).0)
only_outcome bytes rest (Ok q) (Err UnexpectedEof) h e r count t = absurd cc
only_outcome bytes rest (Ok q) (Err InvalidData) h e r count t = absurd cc
only_outcome bytes rest (Ok q) (Err ReadFault) h e r count t = absurd h
only_outcome bytes rest (Ok q) (Err WriteFault) h e r count t = absurd h
only_outcome bytes rest (Ok q) (Err InsufficientMemory) h e r count t = absurd h
only_outcome bytes rest (Err fault) result h e r count t = absurd (not_both (request_at bytes) fault _ e (request_again bytes r count t))

-- the request in a content of n.0 bytes, and the bytes after the content
abbrev content_of : ℕ × List ℕ → Read TsRequest
content_of n = bytes_at n.0 n.1 >>= λ body. (body_at body.0 >>= behind_all body.1)

request_by : (bytes : List ℕ) → request_at bytes ≡ (as_ended (header_at 0x30 bytes) >>= content_of)
unfolding request_at
request_by bytes = refl

unheaded : (bytes : List ℕ) (fault : Fault) → header_at 0x30 bytes ≡ Err fault → request_at bytes ≡ Err Ended
unheaded bytes fault e = request_by bytes ∙ rw e refl

headed : (bytes : List ℕ) (size : ℕ) (body : List ℕ) → header_at 0x30 bytes ≡ Ok (size, body) → request_at bytes ≡ content_of (size, body)
headed bytes size body e = request_by bytes ∙ rw e refl

unended : (nonce : List ℕ) (left : ℕ) (place : Place) (r : TsRequest) (bytes : List ℕ) → StandsInside nonce left place r bytes →
    0 < left → request_at bytes ≡ Err Ended
unended nonce left place r bytes s lt =
    headed bytes s.size s.body s.header
    ∙ ap (λ (z : Read (List ℕ)). z >>= λ body. (body_at body.0 >>= behind_all body.1))
    (bytes_short s.size s.body (omega (arith, lt, s.counted)))

whole : (nonce : List ℕ) (left : ℕ) (place : Place) (r : TsRequest) (bytes : List ℕ) (s : StandsInside nonce left place r bytes) → left ≤ 0
    → request_at bytes ≡ (body_at (take s.size s.body) >>= behind_all (drop s.size s.body))
whole nonce left place r bytes s le =
    headed bytes s.size s.body s.header
    ∙ ap (λ (z : Read (List ℕ)). z >>= λ body. (body_at body.0 >>= behind_all body.1))
    (bytes_there s.size s.body (omega (arith, le, s.counted)))

ended_answer : (bytes : List ℕ) → request_at bytes ≡ Err Ended → IsAnswer bytes (Err UnexpectedEof)
ended_answer bytes e = ap (λ (x : Read TsRequest). fault_of x) e

ended_only : (bytes : List ℕ) → request_at bytes ≡ Err Ended → (result : Result TsRequest WireKind) (r : TsRequest) (count : ℕ) →
    IsRequest bytes r count → result ≡ Ok r
ended_only bytes e result r count t = absurd (not_both (request_at bytes) Ended _ e (request_again bytes r count t))

outer_ended : (part : LengthPart) (bytes : List ℕ) → ((more : List ℕ) → header_at 0x30 (bytes ++ more) ≡ length_rest part more) →
    request_at bytes ≡ Err Ended
outer_ended part bytes h = unheaded bytes Ended (ap (header_at 0x30) (sym (append-nil bytes)) ∙ h [] ∙ part_end part)

nothing_ended : (bytes : List ℕ) → bytes ≡ [] → header_at 0x30 bytes ≡ Err Ended
unfolding header_at
nothing_ended bytes e = rw e refl

-- the reader is where no fault but the end can be reported
abbrev IsUnended : Stage → Type 0
IsUnended OuterTag = Unit {0}
IsUnended (OuterLength part) = Unit {0}
IsUnended (Content left place) = 0 < left
IsUnended Refused = Unit {0}

pub stage_ended : (nonce : List ℕ) (stage : Stage) (r : TsRequest) (bytes : List ℕ) → IsUnended stage → StandsAt nonce stage r bytes →
    request_at bytes ≡ Err Ended
stage_ended nonce OuterTag r bytes u s = unheaded bytes Ended (nothing_ended bytes s)
stage_ended nonce (OuterLength part) r bytes u s = outer_ended part bytes s
stage_ended nonce (Content left place) r bytes u s = unended nonce left place r bytes s u
stage_ended nonce Refused r bytes u s = unheaded bytes Invalid s

pub early_answer : (reader : TsReader) (stage : Stage) (bytes : List ℕ) → reader.stage ≡ stage → IsUnended stage → Stands reader bytes →
    IsAnswer bytes (Err UnexpectedEof)
early_answer reader stage bytes e u s =
    ended_answer bytes (stage_ended reader.nonce stage reader.request bytes u
    (subst (λ (g : Stage). StandsAt reader.nonce g reader.request bytes) e s.at))

pub early_only : (reader : TsReader) (stage : Stage) (bytes : List ℕ) (result : Result TsRequest WireKind) → reader.stage ≡ stage →
    IsUnended stage → Stands reader bytes
    → (r : TsRequest) (count : ℕ) → IsRequest bytes r count → result ≡ Ok r
early_only reader stage bytes result e u s =
    ended_only bytes (stage_ended reader.nonce stage reader.request bytes u
    (subst (λ (g : Stage). StandsAt reader.nonce g reader.request bytes) e s.at)) result

at_end : (nonce : List ℕ) (left : ℕ) (place : Place) (r : TsRequest) (bytes : List ℕ) (s : StandsInside nonce left place r bytes)
    (result : Result TsRequest WireKind)
    → EndsAs (answered (rest_at nonce place r [])) result → EndsAs (answered (body_at (take s.size s.body))) result
at_end nonce left place r bytes s result h =
    subst (λ (z : Result TsRequest Fault). EndsAs z result)
    (sym (ap (λ (l : List ℕ). answered (body_at l)) (sym (append-nil (take s.size s.body))) ∙ s.goes [] (omega arith))) h

pub inside : (reader : TsReader) (left : ℕ) (place : Place) (bytes : List ℕ) → reader.stage ≡ Content left place → Stands reader bytes
    → StandsInside reader.nonce left place reader.request bytes
inside reader left place bytes e s = subst (λ (g : Stage). StandsAt reader.nonce g reader.request bytes) e s.at

pub last_answer : (reader : TsReader) (left : ℕ) (place : Place) (bytes : List ℕ) (result : Result TsRequest WireKind) →
    reader.stage ≡ Content left place → left ≤ 0
    → EndsAs (answered (rest_at reader.nonce place reader.request [])) result → Stands reader bytes → IsAnswer bytes result
last_answer reader left place bytes result e le h s =
    let i = inside reader left place bytes e s in
    outcome bytes (drop i.size i.body) (body_at (take i.size i.body)) result (at_end _ left place _ bytes i result h)
    (whole _ left place _ bytes i le)

pub last_only : (reader : TsReader) (left : ℕ) (place : Place) (bytes : List ℕ) (result : Result TsRequest WireKind) →
    reader.stage ≡ Content left place → left ≤ 0
    → EndsAs (answered (rest_at reader.nonce place reader.request [])) result → Stands reader bytes → (r : TsRequest) (count : ℕ) →
    IsRequest bytes r count → result ≡ Ok r
last_only reader left place bytes result e le h s =
    let i = inside reader left place bytes e s in
    only_outcome bytes (drop i.size i.body) (body_at (take i.size i.body)) result (at_end _ left place _ bytes i result h)
    (whole _ left place _ bytes i le)

-- ---- the reader is past reading

not_invalid : (z : Read ℕ) (x : ℕ × List ℕ) → z ≡ Ok x → z ≡ Err Invalid → ⊥
not_invalid z x e f = cc

not_end : (z : Read ℕ) (x : ℕ × List ℕ) → z ≡ Err Ended → z ≡ Ok x → ⊥
not_end z x e f = cc

not_bad : (z : Read ℕ) → z ≡ Err Ended → z ≡ Err Invalid → ⊥
not_bad z e f = cc

-- a header that ended too early is neither whole nor bad
early_past : (bytes : List ℕ) → header_at 0x30 bytes ≡ Err Ended → IsPastReading bytes → ⊥
early_past bytes e (inl framed) = not_end (header_at 0x30 bytes) _ e framed.header
early_past bytes e (inr bad) = not_bad (header_at 0x30 bytes) e bad

inside_past : (nonce : List ℕ) (left : ℕ) (place : Place) (r : TsRequest) (bytes : List ℕ) → StandsInside nonce left place r bytes →
    IsPastReading bytes → left ≡ 0
inside_past nonce left place r bytes s (inl framed) =
    let same = both_are s.size framed.size s.body framed.body (sym s.header ∙ framed.header) in
    omega (arith, s.counted, same.0, ap length same.1, framed.whole)
inside_past nonce left place r bytes s (inr bad) = absurd (not_invalid (header_at 0x30 bytes) _ s.header bad)

pub stage_past : (nonce : List ℕ) (stage : Stage) (r : TsRequest) (bytes : List ℕ) → StandsAt nonce stage r bytes → IsPastReading bytes →
    IsPast stage
stage_past nonce OuterTag r bytes s p = early_past bytes (nothing_ended bytes s) p
stage_past nonce (OuterLength part) r bytes s p = early_past bytes (ap (header_at 0x30) (sym (append-nil bytes)) ∙ s [] ∙ part_end part) p
stage_past nonce (Content left place) r bytes s p = inside_past nonce left place r bytes s p
stage_past nonce Refused r bytes s p = tt
