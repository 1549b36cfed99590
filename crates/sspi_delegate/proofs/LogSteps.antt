-- One more turn, and what it does to the log of an exchange.
use Rattle.std.proofs.Common.{◌≡◌, ℕ, ◌≤◌, ◌<◌, inl, inr, List, [], ◌∷◌, length, sym, ◌∙◌, ap, subst, refl, None, Some, IsSome}
use Rattle.std.proofs.Common.{Ok, Err, slice_get}
use Rattle.sspi_types.specs.declared.error.Error.{Error}
use Rattle.sspi_types.specs.declared.error_kind.ErrorKind.{ErrorKind}
use Rattle.sspi_types.specs.declared.error_kind.ErrorKind.TheVariants as kinds
use Rattle.sspi_ber.specs.declared.wire_kind.WireKind.{WireKind}
use Rattle.sspi_ber.specs.declared.wire_kind.WireKind.TheVariants.{UnexpectedEof, InvalidData, ReadFault, WriteFault, InsufficientMemory}
use Rattle.sspi_ber.specs.Outside.{NeedsNoMemory}
use Rattle.sspi_tsreq.specs.declared.reader.TsReader.{TsReader}
use Rattle.sspi_tsreq.specs.declared.request.TsRequest.{TsRequest}
use Rattle.sspi_tsreq.specs.Answer.{IsAnswer}
use Rattle.sspi_tsreq.specs.Feeding.{Stands}
use Rattle.sspi_delegate.specs.declared.answer.DelegateError.{DelegateError}
use Rattle.sspi_delegate.specs.declared.answer.DelegateError.TheVariants as errors
use Rattle.sspi_delegate.specs.declared.carried.Carried.{Carried}
use Rattle.sspi_credssp.specs.declared.turn.End.{End}
use Rattle.sspi_credssp.specs.declared.turn.End.TheVariants.{Client, Server}
use Rattle.sspi_credssp.specs.declared.turn.Outcome.{Outcome}
use Rattle.sspi_credssp.specs.declared.turn.Outcome.TheVariants.{Reply, Final, Finished, Refused}
use Rattle.sspi_credssp.specs.declared.turn.Turn.{Turn}
use Rattle.sspi_delegate.specs.Log.{Finishes, Stopped, NewestIs, IsClientRefusal, IsServerRefusal}
use Rattle.sspi_delegate.specs.Halves.{Between, Asked, Turned, IsAnswerTo, HasMessage}
use Rattle.sspi_delegate.specs.Log.{IsFinished, TurnLeft, Given, carried, too_long, link_failed, no_memory, turns_of}
use Rattle.sspi_delegate.specs.Log.{Lacks, for_a_turn, for_a_message, by_the_client, by_the_server}
use Rattle.sspi_delegate.specs.Log.{delivery_limit, IsUnread, HeadWithin, Logged, LoggedButLast, HasLog, IsDelivered, IsRead, IsSent}
use Rattle.sspi_delegate.specs.Log.{IsFault, IsUnreadable, WithinFor}
use Rattle.sspi_delegate.specs.Readers.{Fed, HeadTaken, TakesIn}
use Rattle.sspi_delegate.specs.Recorded.{PushedSuch}
use Rattle.sspi_delegate.specs.Turns.{next_end, GoesOn, Alternates}
use Rattle.sspi_credssp.specs.Turn.{message_of}

pub newest_such : (end : End) (d : TsRequest) (P : Outcome → Type 0) (old new : List Turn) →
    PushedSuch end d P old new → NewestIs end P new
newest_such end d P old [] pushed = absurd pushed
newest_such end d P old (t ∷ past) pushed = (pushed.1, pushed.3)

-- a newest turn that was refused with a kind was refused with any kind equal to it
pub refused_as : (end : End) (P : ErrorKind → Outcome → Type 0) (kind other : ErrorKind) (turns : List Turn) → kind ≡ other →
    NewestIs end (P kind) turns → NewestIs end (P other) turns
refused_as end P kind other turns same newest = subst (λ (k : ErrorKind). NewestIs end (P k) turns) same newest

refusal_message : (kind : ErrorKind) (outcome : Outcome) → IsServerRefusal kind outcome → IsSome (message_of outcome)
refusal_message kind (Reply reply) refusal = absurd refusal
refusal_message kind (Final reply) refusal = absurd refusal
refusal_message kind Finished refusal = absurd refusal
refusal_message kind (Refused refused None) refusal = absurd refusal
refusal_message kind (Refused refused (Some reply)) refusal = refl

-- a server that refused has a message for its client
pub refusal_has_message : (d : TsRequest) (kind : ErrorKind) (old new : List Turn) → PushedSuch Server d (IsServerRefusal kind) old new →
    HasMessage new
refusal_has_message d kind old [] pushed = absurd pushed
refusal_has_message d kind old (t ∷ past) pushed = refusal_message kind t.outcome pushed.3

-- reading changes only what was delivered of an entry
fed_logged : (base : List Carried) (t : Turn) (past : List Turn) (log log2 : List Carried) → Fed log log2 → Logged base (t ∷ past) log →
    Logged base (t ∷ past) log2
fed_logged base t past [] log2 fed entries = absurd entries
fed_logged base t past (e ∷ log) [] fed entries = absurd fed
fed_logged base t past (e ∷ log) (f ∷ more) fed entries = (
  (fed.0 ∙ entries.0.0, subst (λ (sent : List ℕ). IsSent (message_of t.outcome) sent) (sym fed.1) entries.0.1),
  subst (λ (rest : List Carried). IsDelivered past rest t.delivered) (sym fed.2) entries.1,
  subst (λ (rest : List Carried). Logged base past rest) (sym fed.2) entries.2,
)

head_delivered : (t : Turn) (past : List Turn) (log : List Carried) (text : List ℕ) (request : TsRequest) → HeadTaken log text →
    IsRead text request →
    IsDelivered (t ∷ past) log request
head_delivered t past [] text request head read = absurd head
head_delivered t past (e ∷ log) text request head read = (
  head.0,
  subst (λ (bytes : List ℕ). IsRead bytes request) (sym head.1) read,
  subst (λ (bytes : List ℕ). length bytes ≤ delivery_limit) (sym head.1) head.2,
)

module _ (base : List Carried) (start : ℕ) where
  abbrev asked_by : (d : TsRequest) (old past : List Turn) (log : List Carried) (now : ℕ) → past ≡ old →
      Asked base start old log now d → Asked base start past log now d
  asked_by d old past log now same w = subst (λ (turns : List Turn). Asked base start turns log now d) (sym same) w

  -- a turn that was made on the request that was read has no entry yet
  pub but_last : (end : End) (d : TsRequest) (P : Outcome → Type 0) (old new : List Turn) (log : List Carried) (now : ℕ) →
      Asked base start old log now d → PushedSuch end d P old new → LoggedButLast base new log
  but_last end d P old [] log now w pushed = absurd pushed
  but_last end d P old (t ∷ past) log now w pushed =
      let v = asked_by d old past log now pushed.0 w in
      (subst (λ (it : TsRequest). IsDelivered past log it) (sym pushed.2) v.delivered, v.entries)

  pub in_order : (end : End) (d : TsRequest) (P : Outcome → Type 0) (old new : List Turn) (log : List Carried) (now : ℕ) →
      next_end old ≡ end → Asked base start old log now d → PushedSuch end d P old new → Alternates new
  in_order end d P old [] log now next w pushed = absurd pushed
  in_order end d P old (t ∷ past) log now next w pushed =
      let v = asked_by d old past log now pushed.0 w in
      (pushed.1 ∙ sym next ∙ ap next_end (sym pushed.0), v.going, v.order)

  pub turned : (end : End) (d : TsRequest) (old new : List Turn) (log : List Carried) (now : ℕ) →
      next_end old ≡ end → Asked base start old log now d → PushedSuch end d GoesOn old new → Turned base start new log now
  turned end d old [] log now next w pushed = absurd pushed
  turned end d old (t ∷ past) log now next w pushed = record {
    order = in_order end d GoesOn old (t ∷ past) log now next w pushed;
    going = (pushed.3, (asked_by d old past log now pushed.0 w).going);
    entries = but_last end d GoesOn old (t ∷ past) log now w pushed;
    calm = w.calm;
  }

  pub finishes : (d : TsRequest) (old new : List Turn) (log : List Carried) (now : ℕ) →
      next_end old ≡ Server → Asked base start old log now d → PushedSuch Server d IsFinished old new → Finishes base start new log now
  finishes d old new log now next w pushed = record {
    order = in_order Server d IsFinished old new log now next w pushed;
    newest = newest_such Server d IsFinished old new pushed;
    entries = but_last Server d IsFinished old new log now w pushed;
    calm = w.calm;
  }

  delivered_within : (turns : List Turn) (log : List Carried) (d : TsRequest) → IsDelivered turns log d → WithinFor turns log
  delivered_within [] log d delivered = tt
  delivered_within (t ∷ past) [] d delivered = absurd delivered
  delivered_within (t ∷ past) (e ∷ log) d delivered = delivered.2

  pub lost : (limit : ℕ) (d : TsRequest) (old new : List Turn) (log : List Carried) (now : ℕ) → TurnLeft limit old →
      Asked base start old log now d → new ≡ old → Stopped base start limit errors.InsufficientMemory new log now
  lost limit d old new log now left w same =
      let v = asked_by d old new log now same w in
      let left_now = subst (λ (turns : List Turn). TurnLeft limit turns) (sym same) left in
      record { order = v.order; cause = for_a_turn v.going left_now v.entries (delivered_within new log d v.delivered) v.calm }

  pub client_refused : (limit : ℕ) (error : Error) (answer : DelegateError) (d : TsRequest) (old new : List Turn) (log : List Carried)
      (now : ℕ) →
      next_end old ≡ Client → Asked base start old log now d → PushedSuch Client d (IsClientRefusal error.error_type) old new →
      IsAnswerTo error.error_type (errors.Client error) answer → Stopped base start limit answer new log now
  client_refused limit error answer d old new log now next w pushed (inl memory) = rw memory.1 (record {
    order = in_order Client d (IsClientRefusal error.error_type) old new log now next w pushed;
    cause = by_the_client
        (refused_as Client IsClientRefusal error.error_type kinds.InsufficientMemory new memory.0
        (newest_such Client d (IsClientRefusal error.error_type) old new pushed))
        (but_last Client d (IsClientRefusal error.error_type) old new log now w pushed)
        w.calm;
  })
  client_refused limit error answer d old new log now next w pushed (inr refusal) = rw refusal.1 (record {
    order = in_order Client d (IsClientRefusal error.error_type) old new log now next w pushed;
    cause = (
      refusal.0,
      newest_such Client d (IsClientRefusal error.error_type) old new pushed,
      but_last Client d (IsClientRefusal error.error_type) old new log now w pushed,
      w.calm,
    );
  })

  pub given_log : (turns : List Turn) (log : List Carried) (now : ℕ) → Given base start turns log now → HasLog base turns log
  given_log turns log now (carried entries unread calm) = inl entries
  given_log turns log now (too_long entries long calm) = inr entries
  given_log turns log now (link_failed entries fit counted) = inr entries
  given_log turns log now (no_memory entries fit calm) = inr entries

  pub lacking_log : (limit : ℕ) (turns : List Turn) (log : List Carried) (now : ℕ) → Lacks base start limit turns log now →
      HasLog base turns log
  lacking_log limit turns log now (for_a_turn going left entries within calm) = inl entries
  lacking_log limit turns log now (for_a_message going entries fit calm) = inr entries
  lacking_log limit turns log now (by_the_client newest entries calm) = inr entries
  lacking_log limit turns log now (by_the_server newest given) = given_log turns log now given

  pub server_refused : (limit : ℕ) (error : Error) (answer : DelegateError) (d : TsRequest) (old new : List Turn)
      (log log2 : List Carried) (now now2 : ℕ) →
      next_end old ≡ Server → Asked base start old log now d → PushedSuch Server d (IsServerRefusal error.error_type) old new →
      IsAnswerTo error.error_type (errors.Server error) answer → Given base start new log2 now2 →
      Stopped base start limit answer new log2 now2
  server_refused limit error answer d old new log log2 now now2 next w pushed (inl memory) sent = rw memory.1 (record {
    order = in_order Server d (IsServerRefusal error.error_type) old new log now next w pushed;
    cause = by_the_server
        (refused_as Server IsServerRefusal error.error_type kinds.InsufficientMemory new memory.0
        (newest_such Server d (IsServerRefusal error.error_type) old new pushed))
        sent;
  })
  server_refused limit error answer d old new log log2 now now2 next w pushed (inr refusal) sent = rw refusal.1 (record {
    order = in_order Server d (IsServerRefusal error.error_type) old new log now next w pushed;
    cause = (refusal.0, newest_such Server d (IsServerRefusal error.error_type) old new pushed, sent);
  })

-- a client that has made fewer turns has one left, and so has any server
pub server_left : (limit : ℕ) (turns : List Turn) → next_end turns ≡ Server → TurnLeft limit turns
server_left limit turns next client = absurd (cc (next, client))

-- the client's next turn, once it has made `turn` turns and all were answered
pub record IsAtTurn (base : List Carried) (start : ℕ) (turns : List Turn) (log : List Carried) (now turn : ℕ) : Type 0 where
  pub between : Between base start turns log now
  pub next : next_end turns ≡ Client
  pub made : turns_of Client turns ≡ turn

pub at_first : (base : List Carried) (start : ℕ) (turns : List Turn) → turns ≡ [] → IsAtTurn base start turns base start 0
at_first base start turns empty = rw empty (record {
  between = record { order = tt; going = tt; entries = refl; unread = tt; calm = refl };
  next = refl;
  made = refl;
})

pub left_at : (base : List Carried) (start : ℕ) (turns : List Turn) (log : List Carried) (now turn limit : ℕ) →
    IsAtTurn base start turns log now turn →
    turn < limit → TurnLeft limit turns
left_at base start turns log now turn limit at left client = rw at.made left

-- all turns that the client may make were made and answered
pub spent : (base : List Carried) (start : ℕ) (turns : List Turn) (log : List Carried) (now turn limit : ℕ) →
    IsAtTurn base start turns log now turn →
    turn ≡ limit → Stopped base start limit errors.TurnsSpent turns log now
spent base start turns log now turn limit at all = record {
  order = at.between.order;
  cause = (at.between.going, at.next, at.made ∙ all, at.between.entries, at.between.unread, at.between.calm);
}

-- the request that was read from the newest delivery
pub read_asked : (base : List Carried) (start : ℕ) (turns : List Turn) (log log2 : List Carried) (now now2 : ℕ) (reader : TsReader)
    (request : TsRequest) (newest : Turn) →
    Some newest ≡ slice_get turns 0 → Between base start turns log now → (IsUnread log → TakesIn log log2 (Ok reader)) → now2 ≡ now →
    ((bytes : List ℕ) → Stands reader bytes → IsAnswer bytes (Ok request)) →
    Asked base start turns log2 now2 request
read_asked base start [] log log2 now now2 reader request newest there between takes later answer = absurd (cc (there))
read_asked base start (t ∷ past) log log2 now now2 reader request newest there between takes later answer =
    let took = takes between.unread in record {
      order = between.order;
      going = between.going;
      entries = fed_logged base t past log log2 took.1.0 between.entries;
      delivered = head_delivered t past log2 took.0 request took.1.1 (answer took.0 took.2).0;
      calm = later ∙ between.calm;
    }

-- a reader never reports out of memory, so what it reports is the fault of the bytes
told_fault : (bytes : List ℕ) (kind : WireKind) → IsAnswer bytes (Err kind) → NeedsNoMemory {X = TsRequest} (Err kind) → IsFault bytes kind
told_fault bytes UnexpectedEof answer memory = answer
told_fault bytes InvalidData answer memory = answer
told_fault bytes ReadFault answer memory = answer
told_fault bytes WriteFault answer memory = answer
told_fault bytes InsufficientMemory answer memory = memory

head_unreadable : (t : Turn) (past : List Turn) (log : List Carried) (text : List ℕ) (kind : WireKind) → HeadTaken log text →
    IsFault text kind → IsUnreadable (t ∷ past) log kind
head_unreadable t past [] text kind head fault = absurd head
head_unreadable t past (e ∷ log) text kind head fault = (
  head.0,
  subst (λ (bytes : List ℕ). IsFault bytes kind) (sym head.1) fault,
)

head_within : (log : List Carried) (text : List ℕ) → HeadTaken log text → HeadWithin log
head_within [] text head = head
head_within (e ∷ log) text head = subst (λ (bytes : List ℕ). length bytes ≤ delivery_limit) (sym head.1) head.2

-- the newest delivery is not a request
pub read_fails : (base : List Carried) (start limit : ℕ) (turns : List Turn) (log log2 : List Carried) (now now2 : ℕ) (reader : TsReader)
    (to : End) (kind : WireKind) (newest : Turn) →
    Some newest ≡ slice_get turns 0 → next_end turns ≡ to → TurnLeft limit turns → Between base start turns log now →
    (IsUnread log → TakesIn log log2 (Ok reader)) → now2 ≡ now →
    ((bytes : List ℕ) → Stands reader bytes → IsAnswer bytes (Err kind)) → NeedsNoMemory {X = TsRequest} (Err kind) →
    Stopped base start limit (errors.Read to kind) turns log2 now2
read_fails base start limit [] log log2 now now2 reader to kind newest there next left between takes later answer memory =
    absurd (cc (there))
read_fails base start limit (t ∷ past) log log2 now now2 reader to kind newest there next left between takes later answer memory =
    let took = takes between.unread in record {
      order = between.order;
      cause = (
        between.going,
        next,
        left,
        fed_logged base t past log log2 took.1.0 between.entries,
        head_unreadable t past log2 took.0 kind took.1.1 (told_fault took.0 kind (answer took.0 took.2) memory),
        head_within log2 took.0 took.1.1,
        later ∙ between.calm,
      );
    }
