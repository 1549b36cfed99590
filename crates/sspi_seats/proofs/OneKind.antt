-- The kind of outcome that turns, calls and answers show, found from them alone.
use Rattle.std.proofs.Common.{◌≡◌, ℕ, ◌+◌, List, [], ◌∷◌, length, Option, None, Some, Result, Ok, Err, refl, sym, ap, ◌∙◌, arith}
use Rattle.std.specs.Prelude.{◌==◌, if◌then◌else◌}
use Rattle.std.proofs.lemmas.Bool.{eq-eqb, ne_eqb}
use Rattle.sspi_types.specs.declared.error.Error.{Error}
use Rattle.sspi_types.specs.declared.error_kind.ErrorKind.{ErrorKind}
use Rattle.sspi_ber.specs.Pieces.{Fault, Read, fault_of}
use Rattle.sspi_ber.specs.declared.wire_kind.WireKind.{WireKind}
use Rattle.sspi_ber.specs.declared.wire_kind.WireKind.TheVariants as wire
use Rattle.sspi_tsreq.proofs.RequestMatch.{request_again}
use Rattle.sspi_tsreq.specs.Reading.{fault}
use Rattle.sspi_tsreq.specs.declared.request.TsRequest.{TsRequest}
use Rattle.sspi_credssp.specs.declared.turn.End.TheVariants.{Client, Server}
use Rattle.sspi_credssp.specs.declared.turn.Outcome.{Outcome}
use Rattle.sspi_credssp.specs.declared.turn.Outcome.TheVariants as outcome
use Rattle.sspi_credssp.specs.declared.turn.Turn.{Turn}
use Rattle.sspi_delegate.specs.Log.{IsClientRefusal, NewestIs}
use Rattle.sspi_delegate.specs.Log.{IsRead}
use Rattle.sspi_delegate.specs.Turns.{GoesOn}
use Rattle.sspi_desk.specs.Call.{HasFault}
use Rattle.sspi_desk.specs.declared.answer.DeskError.{DeskError}
use Rattle.sspi_desk.specs.declared.answer.DeskError.TheVariants.{NoSession, Unread, Refused, TooLong, InsufficientMemory}
use Rattle.sspi_desk.specs.declared.answer.Served.{Served}
use Rattle.sspi_desk.specs.declared.answer.Served.TheVariants.{Answer, Finished}
use Rattle.sspi_seats.specs.Messages.{AreServed, IsNext, AreServedButLast}
use Rattle.sspi_seats.specs.Outcomes.{Shows, NewestAnswer, IsRefusedWith, IsUnreadable, kind_of}
use Rattle.sspi_seats.proofs.Leaving.{served_count}
use Rattle.sspi_seats.specs.declared.seat.SeatOutcome.{SeatOutcome}
use Rattle.sspi_seats.specs.declared.seat.SeatOutcome.TheVariants as seats

-- of bytes: not a request, or one
abbrev read_kind : Option Fault → ℕ
read_kind None = 7
read_kind (Some f) = 3

-- of the newest answer, if every turn was served
abbrev kind_by : Result Served DeskError → ℕ
kind_by (Ok (Answer text)) = read_kind (fault text)
kind_by (Ok (Finished identity)) = 0
kind_by (Err NoSession) = 8
kind_by (Err (Unread kind)) = 4
kind_by (Err (Refused error text)) = 2
kind_by (Err TooLong) = 6
kind_by (Err InsufficientMemory) = 8

abbrev answer_kind : List (Result Served DeskError) → ℕ
answer_kind [] = 7
answer_kind (answer ∷ past) = kind_by answer

-- of the newest turn, if it was not served
abbrev refused_kind : Outcome → ℕ
refused_kind (outcome.Reply reply) = 5
refused_kind (outcome.Final reply) = 5
refused_kind outcome.Finished = 8
refused_kind (outcome.Refused kind reply) = 1

abbrev turn_kind : List Turn → ℕ
turn_kind [] = 8
turn_kind (t ∷ past) = refused_kind t.outcome

abbrev shown_kind : List Turn → List (List ℕ) → List (Result Served DeskError) → ℕ
shown_kind turns calls answers = if length turns == length calls then answer_kind answers else turn_kind turns

read_none : (bytes : List ℕ) (request : TsRequest) → IsRead bytes request → fault bytes ≡ None
read_none bytes request read = ap (λ (x : Read TsRequest). fault_of x) (request_again bytes request read.0 read.1)

fault_kind : (kind : WireKind) (text : List ℕ) → HasFault text kind → 3 ≡ read_kind (fault text)
fault_kind wire.UnexpectedEof text has = rw has refl
fault_kind wire.InvalidData text has = rw has refl
fault_kind wire.ReadFault text has = absurd has
fault_kind wire.WriteFault text has = absurd has
fault_kind wire.InsufficientMemory text has = absurd has

-- ---- by the newest answer

next_kind : (answers : List (Result Served DeskError)) (request : TsRequest) → IsNext answers request → 7 ≡ answer_kind answers
next_kind [] request next = refl
next_kind (Ok (Answer text) ∷ past) request next = rw (read_none text request next) refl
next_kind (Ok (Finished identity) ∷ past) request next = absurd next
next_kind (Err error ∷ past) request next = absurd next

unreadable_kind : (kind : WireKind) (answers : List (Result Served DeskError)) → NewestAnswer (IsUnreadable kind) answers →
    3 ≡ answer_kind answers
unreadable_kind kind [] is = absurd is
unreadable_kind kind (Ok (Answer text) ∷ past) is = fault_kind kind text is
unreadable_kind kind (Ok (Finished identity) ∷ past) is = absurd is
unreadable_kind kind (Err error ∷ past) is = absurd is

refused_with_kind : (error : Error) (answers : List (Result Served DeskError)) → NewestAnswer (IsRefusedWith error) answers →
    2 ≡ answer_kind answers
refused_with_kind error [] is = absurd is
refused_with_kind error (answer ∷ past) is = rw is.1 refl

newest_kind : (answer : Result Served DeskError) (answers : List (Result Served DeskError)) → NewestAnswer (λ a. a ≡ answer) answers →
    kind_by answer ≡ answer_kind answers
newest_kind answer [] is = absurd is
newest_kind answer (a ∷ past) is = ap kind_by (sym is)

-- ---- by the newest turn

refused_is : (kind : ErrorKind) (out : Outcome) → IsClientRefusal kind out → 1 ≡ refused_kind out
refused_is kind (outcome.Reply reply) is = absurd is
refused_is kind (outcome.Final reply) is = absurd is
refused_is kind outcome.Finished is = absurd is
refused_is kind (outcome.Refused refused reply) is = refl

long_is : (out : Outcome) → GoesOn out → 5 ≡ refused_kind out
long_is (outcome.Reply reply) goes = refl
long_is (outcome.Final reply) goes = refl
long_is outcome.Finished goes = absurd goes
long_is (outcome.Refused kind reply) goes = absurd goes

long_kind : (turns : List Turn) → NewestIs Client GoesOn turns → 5 ≡ turn_kind turns
long_kind [] is = absurd is
long_kind (t ∷ past) is = long_is t.outcome is.1

refusal_kind : (kind : ErrorKind) (turns : List Turn) → NewestIs Client (IsClientRefusal kind) turns → 1 ≡ turn_kind turns
refusal_kind kind [] is = absurd is
refusal_kind kind (t ∷ past) is = refused_is kind t.outcome is.1

-- ---- whether every turn was served

served_kind : (turns : List Turn) (calls : List (List ℕ)) (answers : List (Result Served DeskError)) → AreServed turns calls answers →
    answer_kind answers ≡ shown_kind turns calls answers
served_kind turns calls answers served = rw (eq-eqb (length turns) (length calls) (sym (served_count turns calls answers served))) refl

last_count : (turns : List Turn) (calls : List (List ℕ)) (answers : List (Result Served DeskError)) → AreServedButLast turns calls answers →
    length turns ≡ length calls + 1
last_count [] calls answers served = absurd served
last_count (t ∷ turns) calls answers served = let count = served_count turns calls answers served.1 in omega (arith, count)

last_kind : (turns : List Turn) (calls : List (List ℕ)) (answers : List (Result Served DeskError)) → AreServedButLast turns calls answers →
    turn_kind turns ≡ shown_kind turns calls answers
last_kind turns calls answers served =
    let count = last_count turns calls answers served in
    rw (ne_eqb (length turns) (length calls) (λ same. absurd (omega (arith, count, same)))) refl

kind_shown : (limit : ℕ) (out : SeatOutcome) (turns : List Turn) (calls : List (List ℕ)) (answers : List (Result Served DeskError)) →
    Shows limit out turns calls answers → kind_of out ≡ shown_kind turns calls answers
kind_shown limit (seats.Ok n identity) turns calls answers shows =
    newest_kind (Ok (Finished identity)) answers shows.1 ∙ served_kind turns calls answers shows.0
kind_shown limit (seats.Client error) turns calls answers shows =
    refusal_kind error.error_type turns shows.1 ∙ last_kind turns calls answers shows.0
kind_shown limit (seats.Server error) turns calls answers shows =
    refused_with_kind error answers shows.1 ∙ served_kind turns calls answers shows.0
kind_shown limit (seats.Read Client kind) turns calls answers shows =
    unreadable_kind kind answers shows.1 ∙ served_kind turns calls answers shows.0
kind_shown limit (seats.Read Server kind) turns calls answers shows =
    newest_kind (Err (Unread kind)) answers shows.1 ∙ served_kind turns calls answers shows.0
kind_shown limit (seats.Write Client) turns calls answers shows = long_kind turns shows.1 ∙ last_kind turns calls answers shows.0
kind_shown limit (seats.Write Server) turns calls answers shows =
    newest_kind (Err TooLong) answers shows.1 ∙ served_kind turns calls answers shows.0
kind_shown limit seats.TurnsSpent turns calls answers shows =
    next_kind answers shows.2 shows.3 ∙ served_kind turns calls answers shows.0

pub one_kind : (limit : ℕ) (out other : SeatOutcome) (turns : List Turn) (calls : List (List ℕ))
    (answers : List (Result Served DeskError)) →
    Shows limit out turns calls answers → Shows limit other turns calls answers → kind_of out ≡ kind_of other
one_kind limit out other turns calls answers shows shows2 =
    kind_shown limit out turns calls answers shows ∙ sym (kind_shown limit other turns calls answers shows2)
