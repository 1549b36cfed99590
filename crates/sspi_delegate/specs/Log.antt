-- The log of a link: its entries, newest first; how the newest delivery is read; how the turns of
-- an exchange match the entries that it added; what they show about its answer; and when each
-- answer must come.
use Rattle.std.specs.Prelude.{◌≡◌, ℕ, ◌==◌, ◌&&◌, ◌||◌, nat_lt, Bool, true, false, List, [], ◌∷◌}
use Rattle.std.specs.Prelude.{◌++◌, length, take, ◌+◌, ◌≤◌, nat_le, ◌⊎◌}
use Rattle.std.specs.Prelude.{Option, None, Some, ◌≢◌, ◌<◌, Result, Ok, Err, IsOk}
use Rattle.sspi_ber.specs.declared.wire_kind.WireKind.{WireKind}
use Rattle.sspi_ber.specs.declared.wire_kind.WireKind.TheVariants.{UnexpectedEof, InvalidData}
use Rattle.sspi_ber.specs.Forms.{max_content}
use Rattle.sspi_ber.specs.Pieces.{Ended, Invalid}
use Rattle.sspi_tsreq.specs.declared.request.TsRequest.{TsRequest}
use Rattle.sspi_tsreq.specs.Grammar.{IsRequest, first_request}
use Rattle.sspi_tsreq.specs.Reading.{fault}
use Rattle.sspi_tsreq.specs.Spelling.{fits, spelled}
use Rattle.sspi_credssp.specs.declared.turn.End.{End}
use Rattle.sspi_credssp.specs.declared.turn.Turn.{Turn}
use Rattle.sspi_credssp.specs.Turn.{message_of}
use Rattle.sspi_delegate.specs.declared.carried.Carried.{Carried}
use Rattle.sspi_types.specs.declared.error_kind.ErrorKind.{ErrorKind}
use Rattle.sspi_types.specs.declared.error_kind.ErrorKind.TheVariants as kinds
use Rattle.sspi_types.specs.Counting.{Counts}
use Rattle.sspi_credssp.specs.declared.turn.End.TheVariants.{Client, Server}
use Rattle.sspi_credssp.specs.declared.turn.Outcome.{Outcome}
use Rattle.sspi_credssp.specs.declared.turn.Outcome.TheVariants.{Finished, Refused}
use Rattle.sspi_delegate.specs.declared.answer.DelegateError.{DelegateError}
use Rattle.sspi_delegate.specs.declared.answer.DelegateError.TheVariants as errors
use Rattle.sspi_delegate.specs.declared.answer.Delegation.{Delegation}
use Rattle.sspi_delegate.specs.Turns.{other, next_end, AllGoOn, Alternates}

-- the entry of a message whose delivery begins
abbrev pub begun : End → List ℕ → Carried
begun from sent = record { from = from; sent = sent; delivered = []; ended = false }

-- whether a delivery has ended, once n bytes came when `asked` were asked for: 0, if any were asked
-- for, is its end
abbrev pub ended_by : Bool → ℕ → ℕ → Bool
ended_by ended n asked = ended || ((n == 0) && nat_lt 0 asked)

-- the entry after the first n bytes of `into`, which was to be filled, were written
abbrev pub grown : Carried → ℕ → List ℕ → Carried
grown e n into = record e {
  delivered = e.delivered ++ take n into;
  ended = ended_by e.ended n (length into);
}

-- the newest delivery went on by the first n bytes of `into`; one that has ended gives no more
abbrev pub Grows : List Carried → List Carried → ℕ → List ℕ → Type 0
Grows [] new n into = (n ≡ 0) × (new ≡ [])
Grows (e ∷ log) new n into = (e.ended ≡ true → n ≡ 0) × (new ≡ grown e n into ∷ log)

-- a link over a carrier: its log, the newest entry first, and the carrier
pub record KeptLinkView (R : Type 0) : Type 0 where
  pub log : List Carried
  pub carrier : R

-- ---- How the newest delivery of a log is read.

-- the most bytes of one delivery that are read: the longest message, whose header has five
abbrev pub delivery_limit : ℕ
delivery_limit = 5 + max_content

-- nothing of the newest delivery was asked for
abbrev pub IsUnread : List Carried → Type 0
IsUnread [] = ⊥
IsUnread (e ∷ log) = (e.delivered ≡ []) × (e.ended ≡ false)

-- a delivery was taken: to its end, or to the limit
abbrev pub is_taken : Carried → Bool
is_taken e = e.ended || nat_le delivery_limit (length e.delivered)

-- no more of the newest delivery was taken than the limit
abbrev pub HeadWithin : List Carried → Type 0
HeadWithin [] = ⊥
HeadWithin (e ∷ log) = length e.delivered ≤ delivery_limit

-- if there are turns, no more of the newest delivery was taken than the limit
abbrev pub WithinFor : List Turn → List Carried → Type 0
WithinFor [] log = Unit {0}
WithinFor (t ∷ past) log = HeadWithin log

abbrev pub HeadOpen : List Carried → Type 0
HeadOpen [] = ⊥
HeadOpen (e ∷ log) = is_taken e ≡ false

-- ---- How the turns of an exchange match the entries of its log. Both are lists, newest first; the
-- entries are those that the exchange added to the log that it found.

-- the bytes begin with this request
abbrev pub IsRead : List ℕ → TsRequest → Type 0
IsRead bytes request = (taken : ℕ) × IsRequest bytes request taken

-- the bytes do not begin with a request, for this reason
abbrev pub IsFault : List ℕ → WireKind → Type 0
IsFault bytes UnexpectedEof = fault bytes ≡ Some Ended
IsFault bytes InvalidData = fault bytes ≡ Some Invalid
IsFault bytes other = ⊥

-- a turn after these is given this request: its own if it is the first, otherwise what the newest
-- entry delivered, taken to its end or limit
abbrev pub IsDelivered : List Turn → List Carried → TsRequest → Type 0
IsDelivered [] log request = request ≡ first_request
IsDelivered (t ∷ past) [] request = ⊥
IsDelivered (t ∷ past) (e ∷ log) request = (is_taken e ≡ true) × IsRead e.delivered request ×
    (length e.delivered ≤ delivery_limit)

-- what was sent is the encoding of the message, which fits
abbrev pub IsSent : Option TsRequest → List ℕ → Type 0
IsSent None sent = ⊥
IsSent (Some message) sent = (fits message ≡ true) × (sent ≡ spelled message)

-- the entry is that of this turn's message
abbrev pub IsEntry : Turn → Carried → Type 0
IsEntry t e = (e.from ≡ t.end) × IsSent (message_of t.outcome) e.sent

module _ (base : List Carried) where
  -- each turn has its entry, and was given what the entry before delivered
  abbrev pub Logged : List Turn → List Carried → Type 0
  Logged [] log = log ≡ base
  Logged (t ∷ past) [] = ⊥
  Logged (t ∷ past) (e ∷ log) = IsEntry t e × IsDelivered past log t.delivered × Logged past log

  -- the next turn is this end's, and is given this request: those before it went on, and each has
  -- its entry
  abbrev pub IsDue : End → List Turn → List Carried → TsRequest → Type 0
  IsDue end turns log request = AllGoOn turns × (next_end turns ≡ end) × Logged turns log ×
      IsDelivered turns log request

  -- the same as `Logged`, except for the newest turn, which has no entry
  abbrev pub LoggedButLast : List Turn → List Carried → Type 0
  LoggedButLast [] log = ⊥
  LoggedButLast (t ∷ past) log = IsDelivered past log t.delivered × Logged past log

  -- an entry for each turn, or for each but the newest
  abbrev pub HasLog : List Turn → List Carried → Type 0
  HasLog turns log = Logged turns log ⊎ LoggedButLast turns log

-- if there are turns, nothing of the newest delivery was asked for
abbrev pub UnreadFor : List Turn → List Carried → Type 0
UnreadFor [] log = Unit {0}
UnreadFor (t ∷ past) log = IsUnread log

-- there are turns, and the newest delivery was not taken whole
abbrev pub OpenFor : List Turn → List Carried → Type 0
OpenFor [] log = ⊥
OpenFor (t ∷ past) log = HeadOpen log

-- there are turns, and the newest delivery was taken whole and is not a request, for this reason
abbrev pub IsUnreadable : List Turn → List Carried → WireKind → Type 0
IsUnreadable (t ∷ past) (e ∷ log) kind = (is_taken e ≡ true) × IsFault e.delivered kind
IsUnreadable turns log kind = ⊥

-- how many turns an end has made
abbrev pub one_of : End → End → ℕ
one_of Client Client = 1
one_of Server Server = 1
one_of end one = 0

abbrev pub turns_of : End → List Turn → ℕ
turns_of end [] = 0
turns_of end (t ∷ past) = turns_of end past + one_of end t.end

-- the newest turn is this end's, and has such an outcome
abbrev pub NewestIs : End → (Outcome → Type 0) → List Turn → Type 0
NewestIs end P [] = ⊥
NewestIs end P (t ∷ past) = (t.end ≡ end) × P t.outcome

-- a client's refusal has no message
abbrev pub IsClientRefusal : ErrorKind → Outcome → Type 0
IsClientRefusal kind (Refused refused None) = refused ≡ kind
IsClientRefusal kind outcome = ⊥

-- a server's refusal has the message that informs the client
abbrev pub IsServerRefusal : ErrorKind → Outcome → Type 0
IsServerRefusal kind (Refused refused (Some reply)) = refused ≡ kind
IsServerRefusal kind outcome = ⊥

abbrev pub IsFinished : Outcome → Type 0
IsFinished Finished = Unit {0}
IsFinished outcome = ⊥

-- there is a message, and `fit` says whether it fits
abbrev pub MessageFits : Option TsRequest → Bool → Type 0
MessageFits None fit = ⊥
MessageFits (Some message) fit = fits message ≡ fit

abbrev pub NewestFits : List Turn → Bool → Type 0
NewestFits [] fit = ⊥
NewestFits (t ∷ past) fit = MessageFits (message_of t.outcome) fit

-- a client whose turn is next has not made all the turns that it may make
abbrev pub TurnLeft : ℕ → List Turn → Type 0
TurnLeft limit turns = next_end turns ≡ Client → turns_of Client turns < limit

-- base: the log before the exchange; start: the link's count of faults then, to which only a
-- failure of the link adds, and it adds one
module _ (base : List Carried) (start : ℕ) where
  -- the server has the credentials
  pub record Finishes (turns : List Turn) (log : List Carried) (now : ℕ) : Type 0 where
    pub order : Alternates turns
    pub newest : NewestIs Server IsFinished turns
    pub entries : LoggedButLast base turns log
    pub calm : now ≡ start

  -- The result of giving the newest turn's message to the link: an unread entry, or none. The
  -- message is measured before memory is allocated.
  pub data Given (turns : List Turn) (log : List Carried) (now : ℕ) : Type 0 where
    carried : Logged base turns log → UnreadFor turns log → now ≡ start → Given turns log now
    too_long : LoggedButLast base turns log → NewestFits turns false → now ≡ start →
        Given turns log now
    link_failed : LoggedButLast base turns log → NewestFits turns true → Counts start now →
        Given turns log now
    no_memory : LoggedButLast base turns log → NewestFits turns true → now ≡ start →
        Given turns log now

  -- When memory ran out. The link may have failed to carry the message of a server that was refused
  -- for that; otherwise it did not fail.
  pub data Lacks (limit : ℕ) (turns : List Turn) (log : List Carried) (now : ℕ) : Type 0 where
    for_a_turn : AllGoOn turns → TurnLeft limit turns → Logged base turns log →
        WithinFor turns log → now ≡ start →
        Lacks limit turns log now
    for_a_message : AllGoOn turns → LoggedButLast base turns log → NewestFits turns true →
        now ≡ start → Lacks limit turns log now
    by_the_client : NewestIs Client (IsClientRefusal kinds.InsufficientMemory) turns →
        LoggedButLast base turns log → now ≡ start →
        Lacks limit turns log now
    by_the_server : NewestIs Server (IsServerRefusal kinds.InsufficientMemory) turns →
        Given turns log now → Lacks limit turns log now

  -- what an error shows; limit: how many turns the client may make
  abbrev pub Cause : ℕ → DelegateError → List Turn → List Carried → ℕ → Type 0
  Cause limit (errors.Client error) turns log now =
      (error.error_type ≢ kinds.InsufficientMemory) ×
      NewestIs Client (IsClientRefusal error.error_type) turns
      × LoggedButLast base turns log × (now ≡ start)
  Cause limit (errors.Server error) turns log now =
      (error.error_type ≢ kinds.InsufficientMemory) ×
      NewestIs Server (IsServerRefusal error.error_type) turns × Given turns log now
  Cause limit (errors.Read end kind) turns log now =
      AllGoOn turns × (next_end turns ≡ end) × TurnLeft limit turns × Logged base turns log ×
      IsUnreadable turns log kind
      × HeadWithin log × (now ≡ start)
  Cause limit (errors.Write end) turns log now =
      AllGoOn turns × (next_end turns ≡ other end) × LoggedButLast base turns log ×
      NewestFits turns false × (now ≡ start)
  Cause limit errors.LinkFault turns log now =
      AllGoOn turns × Counts start now
      × ((Logged base turns log × OpenFor turns log × TurnLeft limit turns) ⊎
      (LoggedButLast base turns log × NewestFits turns true))
  Cause limit errors.TurnsSpent turns log now =
      AllGoOn turns × (next_end turns ≡ Client) × (turns_of Client turns ≡ limit) ×
      Logged base turns log
      × UnreadFor turns log × (now ≡ start)
  Cause limit errors.InsufficientMemory turns log now = Lacks limit turns log now

  pub record Stopped (limit : ℕ) (error : DelegateError) (turns : List Turn) (log : List Carried)
      (now : ℕ) : Type 0 where
    pub order : Alternates turns
    pub cause : Cause limit error turns log now

  -- the result of the exchange
  abbrev pub RunEnds : ℕ → Result Delegation DelegateError → List Turn → List Carried → ℕ → Type 0
  RunEnds limit (Ok delegation) turns log now = Finishes turns log now ×
      (delegation.rounds ≡ turns_of Client turns)
  RunEnds limit (Err error) turns log now = Stopped limit error turns log now

-- ---- When each answer of an exchange must come: what the turns and the log show allows no other,
-- except out of memory, whose place is given by `Cause`.

-- the answer is an error of which this holds, or memory ran out
abbrev pub IsOnly : (DelegateError → Type 0) → Result Delegation DelegateError → Type 0
IsOnly P (Ok delegation) = ⊥
IsOnly P (Err errors.InsufficientMemory) = Unit {0}
IsOnly P (Err error) = P error

-- the answer to a refusal of this kind is an error of which this holds, and out of memory only if
-- that is the kind
abbrev pub IsAnswerOf : ErrorKind → (DelegateError → Type 0) → Result Delegation DelegateError →
    Type 0
IsAnswerOf kind P (Ok delegation) = ⊥
IsAnswerOf kind P (Err errors.InsufficientMemory) = kind ≡ kinds.InsufficientMemory
IsAnswerOf kind P (Err error) = P error

abbrev pub IsClientError : ErrorKind → DelegateError → Type 0
IsClientError kind (errors.Client error) = error.error_type ≡ kind
IsClientError kind error = ⊥

abbrev pub IsServerError : ErrorKind → DelegateError → Type 0
IsServerError kind (errors.Server error) = error.error_type ≡ kind
IsServerError kind error = ⊥

-- base: the log before the exchange; limit: how many turns the client may make
pub record Exactly (base : List Carried) (limit : ℕ) (result : Result Delegation DelegateError)
    (turns : List Turn)
    (log : List Carried) : Type 0 where
  pub ok : NewestIs Server IsFinished turns → IsOk result
  pub client : (kind : ErrorKind) → NewestIs Client (IsClientRefusal kind) turns →
      IsAnswerOf kind (IsClientError kind) result
  pub server : (kind : ErrorKind) → NewestIs Server (IsServerRefusal kind) turns →
      IsAnswerOf kind (IsServerError kind) result
  pub read : (kind : WireKind) → AllGoOn turns → Logged base turns log →
      IsUnreadable turns log kind →
      IsOnly (λ error. error ≡ errors.Read (next_end turns) kind) result
  pub write : (end : End) → NewestIs end (λ outcome. Unit {0}) turns → AllGoOn turns →
      LoggedButLast base turns log →
      NewestFits turns false → result ≡ Err (errors.Write end)
  pub carry : AllGoOn turns → LoggedButLast base turns log → NewestFits turns true →
      IsOnly (λ error. error ≡ errors.LinkFault) result
  pub piece : AllGoOn turns → Logged base turns log → OpenFor turns log → TurnLeft limit turns →
      IsOnly (λ error. error ≡ errors.LinkFault) result
  pub spent : AllGoOn turns → Logged base turns log → next_end turns ≡ Client →
      turns_of Client turns ≡ limit →
      result ≡ Err errors.TurnsSpent
