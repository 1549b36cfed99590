-- Two relays of the same streams come to the same answer, if no stream fails and they have memory.
use Rattle.std.proofs.Common.{◌≡◌, inl, inr, ℕ, ◌+◌, ◌<◌, ◌≤◌, List, [], ◌∷◌, ◌++◌, length, drop, Option, None}
use Rattle.std.proofs.Common.{Some, Result, Ok, Err, refl, sym, ap, ◌∙◌, subst, append_assoc, get_or, arith}
use Rattle.std.proofs.lemmas.Bool.{cases_lt}
use Rattle.std.proofs.lemmas.List.{get_or_append_left, get_or_at, length-append, length_push, same_from_push}
use Rattle.std.proofs.lemmas.List.Elements.{All-get_or}
use Rattle.std.specs.Io.KnownBytes.{Consumes, IsAtEnd}
use Rattle.sspi_types.specs.declared.nstatus.NStatusCode.{NStatusCode}
use Rattle.sspi_ber.specs.Pieces.{Read, fault_of}
use Rattle.sspi_ber.specs.declared.wire_kind.WireKind.{WireKind}
use Rattle.sspi_ber.specs.declared.wire_kind.WireKind.TheVariants as kinds
use Rattle.sspi_credssp.specs.declared.turn.End.{End}
use Rattle.sspi_credssp.specs.declared.turn.End.TheVariants.{Client, Server}
use Rattle.sspi_tsreq.specs.declared.request.TsRequest.{TsRequest}
use Rattle.sspi_tsreq.specs.Reading.{fault}
use Rattle.sspi_tsreq.specs.Grammar.{IsRequest}
use Rattle.sspi_tsreq.proofs.RequestMatch.{request_again}
use Rattle.sspi_tsreq.proofs.RoundTrip.{more_request, one_request}
use Rattle.sspi_gate.specs.declared.answer.Close.{Close}
use Rattle.sspi_gate.specs.declared.answer.Close.TheVariants as closes
use Rattle.sspi_gate.specs.declared.answer.GateError.{GateError}
use Rattle.sspi_gate.specs.declared.answer.GateFault.{GateFault}
use Rattle.sspi_gate.specs.declared.answer.GateFault.TheVariants.{Bad, Version, ReadFault, WriteFault, TurnsSpent, InsufficientMemory}
use Rattle.sspi_gate.specs.declared.answer.Relayed.{Relayed}
use Rattle.sspi_gate.specs.Decided.{IsDecided, IsOfRequests}
use Rattle.sspi_framing.specs.Front.{AreRequests, GivesFirst, IsText}
use Rattle.sspi_gate.specs.Front.{AreCalm, HaveOneVersion, MaySend, first_version, refusal}
use Rattle.sspi_framing.specs.Taking.{IsBad}
use Rattle.sspi_framing.specs.Parts.{HasFault}
use Rattle.sspi_gate.specs.Relay.{Closes, GivesUp, GoesOn, IsRefused, IsRelay, IsSpent, Stops, of}
use Rattle.sspi_gate.specs.Way.{HandsOn, Way}
use Rattle.sspi_framing.proofs.Fronts.{given_first, one_front}

-- ---- a relay on known streams

-- what is next of the end whose request is due, if it is not handed on
data Next : Type 0 where
  NoBytes : Next
  Faulty : WireKind → Next
  Other : Next

abbrev IsNext : Option ℕ → List ℕ → Next → Type 0
IsNext first bytes NoBytes = bytes ≡ []
IsNext first bytes (Faulty kind) = (bytes ≡ [] → ⊥) × HasFault bytes kind
IsNext first bytes Other = (r : TsRequest) × (count : ℕ) × IsRequest bytes r count × (MaySend first r.version → ⊥)

-- why it stopped
data Verdict : Type 0 where
  Due : End → Next → Verdict
  Spent : Verdict
  Refusing : NStatusCode → Verdict

abbrev IsVerdict : ℕ → List TsRequest → List TsRequest → List ℕ → List ℕ → Verdict → Type 0
IsVerdict limit sent answered c s (Due end next) =
    GoesOn limit end sent answered × IsNext (first_version (of end sent answered)) (of end c s) next
IsVerdict limit sent answered c s Spent = IsSpent limit sent answered
IsVerdict limit sent answered c s (Refusing code) = IsRefused limit code sent answered

answer_of : ℕ → Verdict → Result Relayed GateError
answer_of passed (Due end NoBytes) = Ok (record { passed = passed; how = closes.Ended end })
answer_of passed (Due end (Faulty kind)) = Err (record { passed = passed; why = Bad end kind })
answer_of passed (Due end Other) = Err (record { passed = passed; why = Version end })
answer_of passed Spent = Err (record { passed = passed; why = TurnsSpent })
answer_of passed (Refusing code) = Ok (record { passed = passed; how = closes.Refused code })

-- a relay that stopped so, after it handed on these requests
record Stopped (limit : ℕ) (client server : List ℕ) (answer : Result Relayed GateError) : Type 0 where
  sent : List TsRequest
  answered : List TsRequest
  c : List ℕ
  s : List ℕ
  verdict : Verdict
  from_client : GivesFirst client sent c
  from_server : GivesFirst server answered s
  client_version : HaveOneVersion sent
  server_version : HaveOneVersion answered
  verdict_is : IsVerdict limit sent answered c s verdict
  answer_is : answer ≡ answer_of (length sent + length answered) verdict

some_same : (x y : List ℕ) → Some x ≡ Some y → x ≡ y
some_same x y e = cc

told_by : (left last : Option (List ℕ)) (front stream : List ℕ) (requests : List TsRequest) → left ≡ Some stream →
    Consumes left last front →
    AreRequests front requests → (rest : List ℕ) × (last ≡ Some rest) × GivesFirst stream requests rest
told_by None last front stream requests e c are = absurd cc
told_by (Some x) None front stream requests e c are = absurd c
told_by (Some x) (Some rest) front stream requests e c are =
    let parts : front ++ rest ≡ stream = sym c ∙ some_same x stream e in
    (rest, refl, subst (λ (l : List ℕ). GivesFirst l requests rest) parts (given_first front rest requests are))

told : (way last : Way) (stream : List ℕ) (requests : List TsRequest) → way.left ≡ Some stream → HandsOn way last requests →
    (rest : List ℕ) × (last.left ≡ Some rest) × GivesFirst stream requests rest
told way last stream requests e h = told_by way.left last.left h.front stream requests e h.taken h.requests_are

of_left : (end : End) (up down : Way) (c s : List ℕ) → up.left ≡ Some c → down.left ≡ Some s → (of end up down).left ≡ Some (of end c s)
of_left Client up down c s e f = e
of_left Server up down c s e f = f

bad_told : (left : Option (List ℕ)) (bytes : List ℕ) (kind : WireKind) → left ≡ Some bytes → IsBad left kind →
    ((bytes ≡ [] → ⊥) × HasFault bytes kind)
bad_told left bytes kinds.UnexpectedEof e b = subst (λ (l : Option (List ℕ)). IsBad l kinds.UnexpectedEof) e b
bad_told left bytes kinds.InvalidData e b = subst (λ (l : Option (List ℕ)). IsBad l kinds.InvalidData) e b
bad_told left bytes kinds.ReadFault e b = absurd b
bad_told left bytes kinds.WriteFault e b = absurd b
bad_told left bytes kinds.InsufficientMemory e b = absurd b

text_told : (left after : Option (List ℕ)) (text bytes : List ℕ) (r : TsRequest) → left ≡ Some bytes → Consumes left after text →
    IsText text r →
    IsRequest bytes r (length text)
text_told None after text bytes r e c t = absurd cc
text_told (Some x) None text bytes r e c t = absurd c
text_told (Some x) (Some more) text bytes r e c t =
    let parts : text ++ more ≡ bytes = sym c ∙ some_same x bytes e in
    subst (λ (l : List ℕ). IsRequest l r (length text)) parts (more_request text r (length text) more t)

close_verdict : (limit : ℕ) (sent answered : List TsRequest) (up down : Way) (c s : List ℕ) (how : Close) → up.left ≡ Some c →
    down.left ≡ Some s →
    Closes limit sent answered up down how →
    (v : Verdict) × IsVerdict limit sent answered c s v × ((passed : ℕ) → Ok (record { passed = passed; how = how }) ≡ answer_of passed v)
unfolding answer_of
close_verdict limit sent answered up down c s (closes.Ended end) e f (goes, at_end) =
    (Due end NoBytes, (goes, subst IsAtEnd (of_left end up down c s e f) at_end), λ passed. refl)
close_verdict limit sent answered up down c s (closes.Refused code) e f is = (Refusing code, is, λ passed. refl)

fault_verdict : (limit : ℕ) (sent answered : List TsRequest) (up down up_after down_after : Way) (c s : List ℕ) (why : GateFault) →
    up.left ≡ Some c → down.left ≡ Some s →
    GivesUp limit sent answered up down up_after down_after why → IsOfRequests why →
    (v : Verdict) × IsVerdict limit sent answered c s v × ((passed : ℕ) → Err (record { passed = passed; why = why }) ≡ answer_of passed v)
unfolding answer_of
fault_verdict limit sent answered up down up_after down_after c s (Bad end kind) e f b ok = (
  Due b.end (Faulty kind),
  (b.goes_on, bad_told (of b.end up down).left (of b.end c s) kind (of_left b.end up down c s e f) b.fails.1),
  λ passed. ap (λ (who : End). Err (record { passed = passed; why = Bad who kind })) b.fails.0,
)
fault_verdict limit sent answered up down up_after down_after c s (Version end) e f b ok =
    let t = b.fails.1 in (
      Due b.end Other,
      (
        b.goes_on,
        (
          t.request,
          length t.text,
          text_told (of b.end up down).left (of b.end up_after down_after).left t.text (of b.end c s) t.request
              (of_left b.end up down c s e f) t.taken
              t.is_request,
          t.differs,
        ),
      ),
      λ passed. ap (λ (who : End). Err (record { passed = passed; why = Version who })) b.fails.0,
    )
fault_verdict limit sent answered up down up_after down_after c s (ReadFault end) e f b ok = absurd ok
fault_verdict limit sent answered up down up_after down_after c s (WriteFault end) e f b ok = absurd ok
fault_verdict limit sent answered up down up_after down_after c s TurnsSpent e f b ok = (Spent, b.0, λ passed. refl)
fault_verdict limit sent answered up down up_after down_after c s InsufficientMemory e f b ok = absurd ok

judged : (limit : ℕ) (sent answered : List TsRequest) (up down up_after down_after : Way) (c s : List ℕ)
    (answer : Result Relayed GateError) →
    up.left ≡ Some c → down.left ≡ Some s →
    Stops limit sent answered up down up_after down_after answer → IsDecided answer →
    (v : Verdict) × IsVerdict limit sent answered c s v × (answer ≡ answer_of (length sent + length answered) v)
judged limit sent answered up down up_after down_after c s (Ok relayed) e f stops ok =
    let v = close_verdict limit sent answered up down c s relayed.how e f stops.1 in
    (v.0, v.1, ap (λ (n : ℕ). Ok (record { passed = n; how = relayed.how })) stops.0 ∙ v.2 (length sent + length answered))
judged limit sent answered up down up_after down_after c s (Err error) e f stops ok =
    let v = fault_verdict limit sent answered up down up_after down_after c s error.why e f stops.1 ok in
    (v.0, v.1, ap (λ (n : ℕ). Err (record { passed = n; why = error.why })) stops.0 ∙ v.2 (length sent + length answered))

stopped : (limit : ℕ) (up down up_after down_after : Way) (client server : List ℕ) (answer : Result Relayed GateError) →
    up.left ≡ Some client → down.left ≡ Some server → IsRelay limit up down up_after down_after answer → IsDecided answer →
    Stopped limit client server answer
stopped limit up down up_after down_after client server answer e f r ok =
    let c = told up r.up_last client r.sent e r.passed.from_client in
    let s = told down r.down_last server r.answered f r.passed.from_server in
    let v = judged limit r.sent r.answered r.up_last r.down_last up_after down_after c.0 s.0 answer c.1 s.1 r.stops ok in
    record {
      sent = r.sent;
      answered = r.answered;
      c = c.0;
      s = s.0;
      verdict = v.0;
      from_client = c.2;
      from_server = s.2;
      client_version = r.passed.client_version;
      server_version = r.passed.server_version;
      verdict_is = v.1;
      answer_is = v.2;
    }

-- ---- a relay that stopped cannot have gone on

record Placed (limit : ℕ) (sent answered : List TsRequest) : Type 0 where
  within : length answered ≤ length sent
  next : length sent ≤ length answered + 1
  all : length sent ≤ limit

placed : (limit : ℕ) (sent answered : List TsRequest) (c s : List ℕ) (v : Verdict) → IsVerdict limit sent answered c s v →
    Placed limit sent answered
placed limit sent answered c s (Due Client next) (goes, is) =
    let due = goes.due in let lt = goes.within in record {
      within = omega (arith, due);
      next = omega (arith, due);
      all = omega (arith, due, lt);
    }
placed limit sent answered c s (Due Server next) (goes, is) =
    let due = goes.due in let lt = goes.within in record {
      within = omega (arith, due);
      next = omega (arith, due);
      all = omega (arith, due, lt);
    }
placed limit sent answered c s Spent is =
    let a = is.all_sent in let b = is.all_answered in record {
      within = omega (arith, a, b);
      next = omega (arith, a, b);
      all = omega (arith, a);
    }
placed limit sent answered c s (Refusing code) is =
    let a = is.all_answered in let b = is.within in record { within = omega (arith, a); next = omega (arith, a); all = omega (arith, a, b) }

-- an answer that is not the last of all does not refuse
calm_at : (answered before : List TsRequest) (r : TsRequest) (more : List TsRequest) → answered ≡ before ++ r ∷ more →
    AreCalm answered → refusal r ≡ None
calm_at answered before r more e calm =
    let at : get_or answered (length before) r ≡ r = ap (λ (l : List TsRequest). get_or l (length before) r) e
    ∙ get_or_at before r more r (length before) refl in
    let lt : length before < length answered = omega (arith, ap length e, length-append before (r ∷ more)) in
    subst (λ (q : TsRequest). refusal q ≡ None) at (All-get_or (λ (q : TsRequest). refusal q ≡ None) answered (length before) r lt calm)

calm_early : (answered earlier : List TsRequest) (last : TsRequest) (before : List TsRequest) (r : TsRequest) (more : List TsRequest) →
    answered ≡ earlier ++ last ∷ [] → answered ≡ before ++ r ∷ more → length before + 1 < length answered → AreCalm earlier →
    refusal r ≡ None
calm_early answered earlier last before r more e f lt calm =
    let short : length before < length earlier = omega (arith, ap length e, length_push earlier last, lt) in
    let at : get_or answered (length before) r ≡ r = ap (λ (l : List TsRequest). get_or l (length before) r) f
    ∙ get_or_at before r more r (length before) refl in
    let inside : get_or answered (length before) r ≡ get_or earlier (length before) r =
    ap (λ (l : List TsRequest). get_or l (length before) r) e ∙ get_or_append_left earlier (last ∷ []) r (length before) short in
    subst (λ (q : TsRequest). refusal q ≡ None) (sym inside ∙ at)
    (All-get_or (λ (q : TsRequest). refusal q ≡ None) earlier (length before) r short calm)

calm_before : (limit : ℕ) (sent answered : List TsRequest) (c s : List ℕ) (v : Verdict) (before : List TsRequest) (r : TsRequest)
    (more : List TsRequest) →
    IsVerdict limit sent answered c s v → answered ≡ before ++ r ∷ more → length before + 1 < length sent → refusal r ≡ None
calm_before limit sent answered c s (Due end next) before r more is e lt = calm_at answered before r more e is.0.calm
calm_before limit sent answered c s Spent before r more is e lt = calm_at answered before r more e is.calm
calm_before limit sent answered c s (Refusing code) before r more is e lt =
    calm_early answered is.earlier is.last before r more is.parts e (omega (arith, lt, is.all_answered)) is.calm

no_request : (r : TsRequest) (count : ℕ) → IsRequest [] r count → ⊥
no_request r count t = let l = length-append (0x30 ∷ t.len) (t.body ++ t.after) in omega (arith, ap length t.parts, l)

read_none : (bytes : List ℕ) (r : TsRequest) (count : ℕ) → IsRequest bytes r count → fault bytes ≡ None
read_none bytes r count t = ap (λ (x : Read TsRequest). fault_of x) (request_again bytes r count t)

unread : (bytes : List ℕ) (r : TsRequest) (count : ℕ) (kind : WireKind) → IsRequest bytes r count → HasFault bytes kind → ⊥
unread bytes r count kinds.UnexpectedEof t h = let no = sym (read_none bytes r count t) ∙ h in absurd cc
unread bytes r count kinds.InvalidData t h = let no = sym (read_none bytes r count t) ∙ h in absurd cc
unread bytes r count kinds.ReadFault t h = absurd h
unread bytes r count kinds.WriteFault t h = absurd h
unread bytes r count kinds.InsufficientMemory t h = absurd h

not_next : (first : Option ℕ) (bytes : List ℕ) (next : Next) (r : TsRequest) (count : ℕ) → IsNext first bytes next →
    IsRequest bytes r count →
    MaySend first r.version → ⊥
not_next first bytes NoBytes r count is t may = no_request r count (subst (λ (l : List ℕ). IsRequest l r count) is t)
not_next first bytes (Faulty kind) r count is t may = unread bytes r count kind t is.1
not_next first bytes Other r count (q, number, u, differs) t may =
    differs (subst (λ (z : TsRequest). MaySend first z.version) (one_request bytes r q count number t u).0 may)

-- the version of a request after others of one version
may_follow : (before : List TsRequest) (r : TsRequest) (more : List TsRequest) → HaveOneVersion (before ++ r ∷ more) →
    MaySend (first_version before) r.version
may_follow [] r more one = tt
may_follow (first ∷ before) r more one =
    let all = before ++ r ∷ more in
    let at : get_or all (length before) r ≡ r = get_or_at before r more r (length before) refl in
    let lt : length before < length all = omega (arith, length-append before (r ∷ more)) in
    subst (λ (q : TsRequest). q.version ≡ first.version) at (All-get_or (λ (q : TsRequest). q.version ≡ first.version) all
    (length before) r lt one)

-- what a stream gives beyond these requests
beyond : (stream x y : List ℕ) (requests others : List TsRequest) → GivesFirst stream requests x → GivesFirst stream others y →
    length requests ≤ length others → (more : List TsRequest) × (others ≡ requests ++ more) × GivesFirst x more y
beyond stream x y [] others e f l = (others, refl, subst (λ (z : List ℕ). GivesFirst z others y) e f)
beyond stream x y (p ∷ requests) [] e f l = let no : ⊥ = omega (arith, l) in absurd no
beyond stream x y (p ∷ requests) (q ∷ others) (count, is, gives) (number, also, rest) l =
    let same = one_request stream p q count number is also in
    let moved : GivesFirst (drop count stream) others y = subst (λ (k : ℕ). GivesFirst (drop k stream) others y) (sym same.1) rest in
    let tail = beyond (drop count stream) x y requests others gives moved (omega (arith, l)) in
    (tail.0, ap (λ (r : TsRequest). r ∷ others) (sym same.0) ∙ ap (λ (rs : List TsRequest). p ∷ rs) tail.1, tail.2)

-- a request that is due and not handed on is not given beyond the others
no_more : (stream x y : List ℕ) (requests others : List TsRequest) (next : Next) → GivesFirst stream requests x →
    GivesFirst stream others y →
    HaveOneVersion others → IsNext (first_version requests) x next → length requests < length others → ⊥
no_more stream x y requests others next e f one is lt = refuted (beyond stream x y requests others e f (omega (arith, lt)))
  where
    refuted : (more : List TsRequest) × (others ≡ requests ++ more) × GivesFirst x more y → ⊥
    refuted ([], parts, gives) = omega (arith, lt, ap length parts, length-append requests [])
    refuted (r ∷ more, parts, (count, t, rest)) =
        not_next (first_version requests) x next r count is t (may_follow requests r more (subst HaveOneVersion parts one))

not_both : (code : NStatusCode) (r : TsRequest) → refusal r ≡ None → refusal r ≡ Some code → ⊥
not_both code r e f = let no : None ≡ Some code = sym e ∙ f in absurd cc

no_later : (limit : ℕ) (client server : List ℕ) (a b : Result Relayed GateError) (x : Stopped limit client server a)
    (y : Stopped limit client server b)
    (v : Verdict) → x.verdict ≡ v → length x.sent + length x.answered < length y.sent + length y.answered → ⊥
no_later limit client server a b x y v e lt = stuck v (subst (IsVerdict limit x.sent x.answered x.c x.s) e x.verdict_is)
  where
    q : Placed limit y.sent y.answered
    q = placed limit y.sent y.answered y.c y.s y.verdict y.verdict_is

    stuck : (v : Verdict) → IsVerdict limit x.sent x.answered x.c x.s v → ⊥
    stuck (Due Client next) (goes, is) =
        no_more client x.c y.c x.sent y.sent next x.from_client y.from_client y.client_version is (omega (arith, goes.due, q.within, lt))
    stuck (Due Server next) (goes, is) =
        no_more server x.s y.s x.answered y.answered next x.from_server y.from_server y.server_version is
        (omega (arith, goes.due, q.next, lt))
    stuck Spent is = omega (arith, is.all_sent, is.all_answered, q.within, q.all, lt)
    stuck (Refusing code) is =
        let more = beyond server x.s y.s x.answered y.answered x.from_server y.from_server
        (omega (arith, is.all_answered, q.within, q.next, lt)) in
        let parts : y.answered ≡ is.earlier ++ is.last ∷ more.0 =
        more.1 ∙ ap (λ (l : List TsRequest). l ++ more.0) is.parts ∙ append_assoc is.earlier (is.last ∷ []) more.0 in
        let early : length is.earlier + 1 < length y.sent =
        omega (arith, ap length is.parts, length_push is.earlier is.last, is.all_answered, q.within, q.next, lt) in
        not_both code is.last (calm_before limit y.sent y.answered y.c y.s y.verdict is.earlier is.last more.0 y.verdict_is parts
        early) is.refused

-- ---- relays that came equally far

one_kind : (bytes : List ℕ) (kind other : WireKind) → HasFault bytes kind → HasFault bytes other → kind ≡ other
one_kind bytes kinds.UnexpectedEof kinds.UnexpectedEof h i = refl
one_kind bytes kinds.InvalidData kinds.InvalidData h i = refl
one_kind bytes kinds.UnexpectedEof kinds.InvalidData h i = let no = sym h ∙ i in absurd cc
one_kind bytes kinds.InvalidData kinds.UnexpectedEof h i = let no = sym h ∙ i in absurd cc
one_kind bytes kinds.ReadFault other h i = absurd h
one_kind bytes kinds.WriteFault other h i = absurd h
one_kind bytes kinds.InsufficientMemory other h i = absurd h
one_kind bytes kinds.UnexpectedEof kinds.ReadFault h i = absurd i
one_kind bytes kinds.UnexpectedEof kinds.WriteFault h i = absurd i
one_kind bytes kinds.UnexpectedEof kinds.InsufficientMemory h i = absurd i
one_kind bytes kinds.InvalidData kinds.ReadFault h i = absurd i
one_kind bytes kinds.InvalidData kinds.WriteFault h i = absurd i
one_kind bytes kinds.InvalidData kinds.InsufficientMemory h i = absurd i

next_one : (first : Option ℕ) (bytes : List ℕ) (n m : Next) → IsNext first bytes n → IsNext first bytes m → n ≡ m
next_one first bytes NoBytes NoBytes is also = refl
next_one first bytes NoBytes (Faulty kind) is also = absurd (also.0 is)
next_one first bytes NoBytes Other is (r, count, t, differs) = absurd
    (no_request r count (subst (λ (l : List ℕ). IsRequest l r count) is t))
next_one first bytes (Faulty kind) NoBytes is also = absurd (is.0 also)
next_one first bytes (Faulty kind) (Faulty other) is also = ap (λ (k : WireKind). Faulty k) (one_kind bytes kind other is.1 also.1)
next_one first bytes (Faulty kind) Other is (r, count, t, differs) = absurd (unread bytes r count kind t is.1)
next_one first bytes Other NoBytes (r, count, t, differs) also = absurd
    (no_request r count (subst (λ (l : List ℕ). IsRequest l r count) also t))
next_one first bytes Other (Faulty kind) (r, count, t, differs) also = absurd (unread bytes r count kind t also.1)
next_one first bytes Other Other is also = refl

one_due : (limit : ℕ) (e f : End) (sent answered : List TsRequest) → GoesOn limit e sent answered → GoesOn limit f sent answered → e ≡ f
one_due limit Client Client sent answered g h = refl
one_due limit Server Server sent answered g h = refl
one_due limit Client Server sent answered g h = let no : ⊥ = omega (arith, g.due, h.due) in absurd no
one_due limit Server Client sent answered g h = let no : ⊥ = omega (arith, g.due, h.due) in absurd no

calm_refused : (limit : ℕ) (code : NStatusCode) (sent answered : List TsRequest) → AreCalm answered → IsRefused limit code sent answered → ⊥
calm_refused limit code sent answered calm is = not_both code is.last (calm_at answered is.earlier is.last [] is.parts calm) is.refused

same_code : (r : TsRequest) (a b : NStatusCode) → refusal r ≡ Some a → refusal r ≡ Some b → a ≡ b
same_code r a b e f = let same : Some a ≡ Some b = sym e ∙ f in cc

one_code : (limit : ℕ) (a b : NStatusCode) (sent answered : List TsRequest) → IsRefused limit a sent answered →
    IsRefused limit b sent answered → a ≡ b
one_code limit a b sent answered is also =
    let last = same_from_push is.earlier also.earlier is.last also.last (sym is.parts ∙ also.parts) in
    same_code is.last a b is.refused (subst (λ (r : TsRequest). refusal r ≡ Some b) (sym last.1) also.refused)

one_verdict : (limit : ℕ) (sent answered : List TsRequest) (c s : List ℕ) (v w : Verdict) → IsVerdict limit sent answered c s v →
    IsVerdict limit sent answered c s w → v ≡ w
one_verdict limit sent answered c s (Due e n) (Due f m) is also = due (one_due limit e f sent answered is.0 also.0) is.1
  where
    due : e ≡ f → IsNext (first_version (of e sent answered)) (of e c s) n → Due e n ≡ Due f m
    due same next =
        let moved : IsNext (first_version (of f sent answered)) (of f c s) n =
        subst (λ (z : End). IsNext (first_version (of z sent answered)) (of z c s) n) same next in
        ap (λ (z : End). Due z n) same
        ∙ ap (λ (z : Next). Due f z) (next_one (first_version (of f sent answered)) (of f c s) n m moved also.1)
one_verdict limit sent answered c s (Due e n) Spent is also = let no : ⊥ = omega (arith, is.0.within, also.all_answered) in absurd no
one_verdict limit sent answered c s (Due e n) (Refusing code) is also = absurd (calm_refused limit code sent answered is.0.calm also)
one_verdict limit sent answered c s Spent (Due f m) is also = let no : ⊥ = omega (arith, also.0.within, is.all_answered) in absurd no
one_verdict limit sent answered c s Spent Spent is also = refl
one_verdict limit sent answered c s Spent (Refusing code) is also = absurd (calm_refused limit code sent answered is.calm also)
one_verdict limit sent answered c s (Refusing code) (Due f m) is also = absurd (calm_refused limit code sent answered also.0.calm is)
one_verdict limit sent answered c s (Refusing code) Spent is also = absurd (calm_refused limit code sent answered also.calm is)
one_verdict limit sent answered c s (Refusing a) (Refusing b) is also = ap (λ (z : NStatusCode). Refusing z)
    (one_code limit a b sent answered is also)

same_place : (limit : ℕ) (sent answered : List TsRequest) (c s : List ℕ) (v : Verdict) (others replies : List TsRequest) (x y : List ℕ) →
    others ≡ sent → replies ≡ answered → x ≡ c → y ≡ s → IsVerdict limit others replies x y v → IsVerdict limit sent answered c s v
same_place limit sent answered c s v others replies x y e f g h is =
    subst (λ (l : List TsRequest). IsVerdict limit l answered c s v) e (subst (λ (l : List TsRequest). IsVerdict limit others l c s v) f
    (subst (λ (l : List ℕ). IsVerdict limit others replies l s v) g (subst (λ (l : List ℕ). IsVerdict limit others replies x l v) h is)))

equally_far : (limit : ℕ) (client server : List ℕ) (a b : Result Relayed GateError) (x : Stopped limit client server a)
    (y : Stopped limit client server b) →
    length x.sent + length x.answered ≡ length y.sent + length y.answered → a ≡ b
equally_far limit client server a b x y e =
    let p = placed limit x.sent x.answered x.c x.s x.verdict x.verdict_is in
    let q = placed limit y.sent y.answered y.c y.s y.verdict y.verdict_is in
    let sent = one_front client x.c y.c x.sent y.sent x.from_client y.from_client (omega (arith, e, p.within, p.next, q.within, q.next)) in
    let answered = one_front server x.s y.s x.answered y.answered x.from_server y.from_server
    (omega (arith, e, p.within, p.next, q.within, q.next)) in
    let moved = same_place limit x.sent x.answered x.c x.s y.verdict y.sent y.answered y.c y.s (sym sent.0) (sym answered.0)
    (sym sent.1) (sym answered.1)
    y.verdict_is in
    let same = one_verdict limit x.sent x.answered x.c x.s x.verdict y.verdict x.verdict_is moved in
    x.answer_is ∙ ap (λ (v : Verdict). answer_of (length x.sent + length x.answered) v) same
    ∙ ap (λ (n : ℕ). answer_of n y.verdict) e ∙ sym y.answer_is

one_answer : (limit : ℕ) (client server : List ℕ) (a b : Result Relayed GateError) → Stopped limit client server a →
    Stopped limit client server b → a ≡ b
one_answer limit client server a b x y =
    elim (cases_lt (length x.sent + length x.answered) (length y.sent + length y.answered)) [
      | inl lt ↦ absurd (no_later limit client server a b x y x.verdict refl lt)
      | inr le ↦ elim (cases_lt (length y.sent + length y.answered) (length x.sent + length x.answered)) [
        | inl lt ↦ absurd (no_later limit client server b a y x y.verdict refl lt)
        | inr ge ↦ equally_far limit client server a b x y (omega (arith, le, ge))
      ]
    ]

pub streams_decide : (limit : ℕ) (up down up_first down_first up_second down_second : Way) (client server : List ℕ)
    (first second : Result Relayed GateError) → up.left ≡ Some client → down.left ≡ Some server →
    IsRelay limit up down up_first down_first first → IsRelay limit up down up_second down_second second →
    IsDecided first → IsDecided second → first ≡ second
streams_decide limit up down up_first down_first up_second down_second client server first second e f r q ok also =
    one_answer limit client server first second (stopped limit up down up_first down_first client server first e f r ok)
    (stopped limit up down up_second down_second client server second e f q also)
