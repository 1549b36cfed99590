-- Requests one after the other, and the bytes that they take.
use Rattle.std.proofs.Common.{◌≡◌, ℕ, ◌≤◌, List, [], ◌∷◌, ◌++◌, length, take, drop, refl, sym, ap, ◌∙◌, subst, append_assoc, arith}
use Rattle.std.proofs.lemmas.List.{drop_at, length-append, length-take-le, take-append-drop}
use Rattle.sspi_tsreq.specs.declared.request.TsRequest.{TsRequest}
use Rattle.sspi_tsreq.specs.Grammar.{IsRequest}
use Rattle.sspi_tsreq.proofs.Fronts.{alone_request}
use Rattle.sspi_tsreq.proofs.RoundTrip.{more_request, one_request}
use Rattle.sspi_framing.specs.Front.{AreRequests, GivesFirst, IsText}

-- a request takes no more bytes than there are
within : (bytes : List ℕ) (r : TsRequest) (count : ℕ) → IsRequest bytes r count → count ≤ length bytes
within bytes r count t =
    let whole : bytes ≡ ((0x30 ∷ t.len) ++ t.body) ++ t.after = t.parts ∙ sym (append_assoc (0x30 ∷ t.len) t.body t.after) in
    omega (arith, ap length whole, length-append ((0x30 ∷ t.len) ++ t.body) t.after, t.taken)

some_bytes : (text : List ℕ) (r : TsRequest) → IsText text r → 1 ≤ length text
some_bytes text r t = omega (arith, t.taken, length-append (0x30 ∷ t.len) t.body)

pub given_first : (front more : List ℕ) (requests : List TsRequest) → AreRequests front requests → GivesFirst (front ++ more) requests more
given_first front more [] e = ap (λ (l : List ℕ). l ++ more) e
given_first front more (r ∷ later) (text, rest, parts, is, later_are) =
    let whole : front ++ more ≡ text ++ (rest ++ more) = ap (λ (l : List ℕ). l ++ more) parts ∙ append_assoc text rest more in
    let behind : drop (length text) (front ++ more) ≡ rest ++ more =
    ap (drop (length text)) whole ∙ drop_at text (rest ++ more) (length text) refl in (
      length text,
      subst (λ (l : List ℕ). IsRequest l r (length text)) (sym whole) (more_request text r (length text) (rest ++ more) is),
      subst (λ (l : List ℕ). GivesFirst l later more) (sym behind) (given_first rest more later later_are),
    )

taken_text : (stream : List ℕ) (r : TsRequest) (count : ℕ) → IsRequest stream r count → IsText (take count stream) r
taken_text stream r count is =
    subst (λ (k : ℕ). IsRequest (take count stream) r k) (sym (length-take-le count stream (within stream r count is)))
    (alone_request stream r count is)

pub front_of : (stream rest : List ℕ) (requests : List TsRequest) → GivesFirst stream requests rest →
    (front : List ℕ) × (stream ≡ front ++ rest) × AreRequests front requests
front_of stream rest [] e = ([], e, refl)
front_of stream rest (r ∷ later) (count, is, gives) =
    let tail = front_of (drop count stream) rest later gives in (
      take count stream ++ tail.0,
      sym (take-append-drop count stream) ∙ ap (λ (l : List ℕ). take count stream ++ l) tail.1
          ∙ sym (append_assoc (take count stream) tail.0 rest),
      (take count stream, tail.0, refl, taken_text stream r count is, tail.2),
    )

pub one_front : (stream x y : List ℕ) (requests others : List TsRequest) → GivesFirst stream requests x → GivesFirst stream others y →
    length requests ≡ length others → (requests ≡ others) × (x ≡ y)
one_front stream x y [] [] e f l = (refl, sym e ∙ f)
one_front stream x y [] (q ∷ others) e f l = let no : ⊥ = omega (arith, l) in absurd no
one_front stream x y (p ∷ requests) [] e f l = let no : ⊥ = omega (arith, l) in absurd no
one_front stream x y (p ∷ requests) (q ∷ others) (count, is, gives) (number, also, more) l =
    let same = one_request stream p q count number is also in
    let moved : GivesFirst (drop count stream) others y = subst (λ (k : ℕ). GivesFirst (drop k stream) others y) (sym same.1) more in
    let rest = one_front (drop count stream) x y requests others gives moved (omega (arith, l)) in
    (ap (λ (r : TsRequest). r ∷ requests) same.0 ∙ ap (λ (rs : List TsRequest). q ∷ rs) rest.0, rest.1)

pub each_takes_bytes : (front : List ℕ) (requests : List TsRequest) → AreRequests front requests → length requests ≤ length front
each_takes_bytes front [] e = omega arith
each_takes_bytes front (r ∷ later) (text, rest, parts, is, later_are) =
    let more = each_takes_bytes rest later later_are in
    let some = some_bytes text r is in
    omega (arith, more, some, ap length parts, length-append text rest)

pub joined : (front more : List ℕ) (requests others : List TsRequest) → AreRequests front requests → AreRequests more others →
    AreRequests (front ++ more) (requests ++ others)
joined front more [] others e others_are = rw e others_are
joined front more (r ∷ later) others (text, rest, parts, is, later_are) others_are = (
  text,
  rest ++ more,
  ap (λ (l : List ℕ). l ++ more) parts ∙ append_assoc text rest more,
  is,
  joined rest more later others later_are others_are,
)
