-- What an undisturbed link delivers: the whole of each message, which is read as what is carried of it.
use Rattle.std.proofs.Common.{◌≡◌, ℕ, ◌≤◌, Bool, true, false, ◌||◌, List, [], ◌∷◌, length, take, Option, None, Some, refl, ap, sym}
use Rattle.std.proofs.Common.{◌∙◌, subst, arith, nat_le}
use Rattle.std.proofs.lemmas.Bool.{leb-true}
use Rattle.std.proofs.lemmas.List.{take_all}
use Rattle.sspi_ber.specs.declared.wire_kind.WireKind.{WireKind}
use Rattle.sspi_ber.specs.declared.wire_kind.WireKind.TheVariants.{UnexpectedEof, InvalidData, ReadFault, WriteFault, InsufficientMemory}
use Rattle.sspi_ber.specs.Pieces.{Ended, Invalid, fault_of}
use Rattle.sspi_ber.specs.Forms.{max_content}
use Rattle.sspi_ber.proofs.Written.{size_below}
use Rattle.sspi_tsreq.specs.declared.request.TsRequest.{TsRequest}
use Rattle.sspi_tsreq.specs.Reading.{fault}
use Rattle.sspi_tsreq.specs.Grammar.{IsRequest, IsRequestValue}
use Rattle.sspi_tsreq.specs.Spelling.{carried, fields, fits, spelled}
use Rattle.sspi_tsreq.proofs.Capped.{spelled_length}
use Rattle.sspi_tsreq.proofs.RequestMatch.{request_again}
use Rattle.sspi_tsreq.proofs.RoundTrip.{spelled_whole, one_request}
use Rattle.sspi_delegate.specs.declared.carried.Carried.{Carried}
use Rattle.sspi_credssp.specs.declared.turn.Turn.{Turn}
use Rattle.sspi_delegate.specs.Log.{NewestFits, MessageFits}
use Rattle.sspi_delegate.specs.Log.{delivery_limit, is_taken, IsRead, IsFault, IsDelivered, IsSent, IsEntry, Logged, IsUnreadable}
use Rattle.sspi_delegate.specs.Link.{Delivers}
use Rattle.sspi_credssp.specs.Turn.{message_of}
use Rattle.sspi_completeness.specs.Matching.{AreWholePast}

spelled_short : (r : TsRequest) → fits r ≡ true → length (spelled r) ≤ delivery_limit
spelled_short r fit =
    let le : length (fields (carried r)) ≤ max_content = leb-true (length (fields (carried r))) max_content fit in
    let whole = spelled_length r in
    let more = size_below (length (fields (carried r))) in
    omega arith

taken_at : (ended : Bool) (delivered sent : List ℕ) → length sent ≤ delivery_limit → delivered ≡ take (length delivered) sent →
    (ended ≡ true → delivered ≡ sent) →
    ended || nat_le delivery_limit (length delivered) ≡ true → delivered ≡ sent
taken_at true delivered sent short front whole taken = whole refl
taken_at false delivered sent short front whole taken =
    let far : delivery_limit ≤ length delivered = leb-true delivery_limit (length delivered) taken in
    front ∙ take_all (length delivered) sent (omega (arith, far, short))

-- a message that fits is delivered whole
pub delivered_whole : (e : Carried) (r : TsRequest) → fits r ≡ true → e.sent ≡ spelled r → Delivers (Some e.sent) e → is_taken e ≡ true →
    e.delivered ≡ spelled r
delivered_whole e r fit is delivers taken =
    taken_at e.ended e.delivered e.sent (omega (arith, ap length is, spelled_short r fit)) delivers.0 delivers.1 taken ∙ is

sent_is : (message : Option TsRequest) (r : TsRequest) (sent : List ℕ) → message ≡ Some r → IsSent message sent → (fits r ≡ true) ×
    (sent ≡ spelled r)
sent_is message r sent is h = subst (λ (m : Option TsRequest). IsSent m sent) is h

head_whole : (t : Turn) (e : Carried) (r : TsRequest) → message_of t.outcome ≡ Some r → IsEntry t e →
    Delivers (Some e.sent) e → is_taken e ≡ true →
    (fits r ≡ true) × (e.delivered ≡ spelled r)
head_whole t e r is entry whole taken =
    let sent = sent_is (message_of t.outcome) r e.sent is entry.1 in (sent.0, delivered_whole e r sent.0 sent.1 whole taken)

-- and is read as what is carried of it
pub request_is : (t : Turn) (past : List Turn) (e : Carried) (log : List Carried) (r request : TsRequest) →
    message_of t.outcome ≡ Some r → IsRequestValue r → IsEntry t e →
    Delivers (Some e.sent) e → IsDelivered (t ∷ past) (e ∷ log) request → request ≡ carried r
request_is t past e log r request is value entry delivers delivered =
    let whole = head_whole t e r is entry delivers delivered.0 in
    let read = subst (λ (bytes : List ℕ). IsRead bytes request) whole.1 delivered.1 in
    (one_request (spelled r) request (carried r) read.0 (length (spelled r)) read.1 (spelled_whole r value whole.0)).0

no_fault : (bytes : List ℕ) (r : TsRequest) (count : ℕ) → IsRequest bytes r count → fault bytes ≡ None
no_fault bytes r count is = ap fault_of (request_again bytes r count is)

fault_never : (bytes : List ℕ) (kind : WireKind) → fault bytes ≡ None → IsFault bytes kind → ⊥
fault_never bytes UnexpectedEof none h = let e : None ≡ Some Ended = sym none ∙ h in cc
fault_never bytes InvalidData none h = let e : None ≡ Some Invalid = sym none ∙ h in cc
fault_never bytes ReadFault none h = h
fault_never bytes WriteFault none h = h
fault_never bytes InsufficientMemory none h = h

-- so it is never unreadable
pub never_unreadable : (t : Turn) (past : List Turn) (e : Carried) (log : List Carried) (r : TsRequest) (kind : WireKind) →
    message_of t.outcome ≡ Some r → IsRequestValue r →
    IsEntry t e → Delivers (Some e.sent) e → IsUnreadable (t ∷ past) (e ∷ log) kind → ⊥
never_unreadable t past e log r kind is value entry delivers unreadable =
    let whole = head_whole t e r is entry delivers unreadable.0 in
    let bad = subst (λ (bytes : List ℕ). IsFault bytes kind) whole.1 unreadable.1 in
    fault_never (spelled r) kind (no_fault (spelled r) (carried r) (length (spelled r)) (spelled_whole r value whole.0)) bad

pub never_too_long : (t : Turn) (past : List Turn) (r : TsRequest) → message_of t.outcome ≡ Some r → fits r ≡ true →
    NewestFits (t ∷ past) false → ⊥
never_too_long t past r is fit unfit =
    let at : fits r ≡ false = subst (λ (m : Option TsRequest). MessageFits m false) is unfit in cc

-- a log has an entry for each turn, after the earlier ones
pub logged_behind : (base : List Carried) (turns : List Turn) (log : List Carried) → Logged base turns log → length base ≤ length log
logged_behind base [] log entries = omega (arith, ap length entries)
logged_behind base (t ∷ past) [] entries = absurd entries
logged_behind base (t ∷ past) (e ∷ log) entries =
    let before = logged_behind base past log entries.2 in omega (arith, before)

-- the request of a turn after a message
pub next_request : (base : List Carried) (t : Turn) (past : List Turn) (log : List Carried) (r request : TsRequest) →
    message_of t.outcome ≡ Some r → IsRequestValue r →
    Logged base (t ∷ past) log → AreWholePast (length base) log → IsDelivered (t ∷ past) log request → request ≡ carried r
next_request base t past [] r request is value entries whole delivered = absurd entries
next_request base t past (e ∷ log) r request is value entries whole delivered =
    request_is t past e log r request is value entries.0 (whole.0 (logged_behind base past log entries.2)) delivered

pub always_readable : (base : List Carried) (t : Turn) (past : List Turn) (log : List Carried) (r : TsRequest) (kind : WireKind) →
    message_of t.outcome ≡ Some r → IsRequestValue r →
    Logged base (t ∷ past) log → AreWholePast (length base) log → IsUnreadable (t ∷ past) log kind → ⊥
always_readable base t past [] r kind is value entries whole unreadable = absurd entries
always_readable base t past (e ∷ log) r kind is value entries whole unreadable =
    never_unreadable t past e log r kind is value entries.0 (whole.0 (logged_behind base past log entries.2)) unreadable
