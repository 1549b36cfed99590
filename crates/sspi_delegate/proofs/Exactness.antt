-- The turns and the log of an exchange allow only one answer.
use Rattle.std.proofs.Common.{◌≡◌, ℕ, ◌+◌, inl, inr, true, false, List, [], ◌∷◌, length, sym, ◌∙◌, ap, refl, arith, Option, None, Some}
use Rattle.std.proofs.Common.{Result, Ok, Err, IsOk}
use Rattle.sspi_types.specs.declared.error_kind.ErrorKind.{ErrorKind}
use Rattle.sspi_types.specs.declared.error_kind.ErrorKind.TheVariants as kinds
use Rattle.sspi_ber.specs.declared.wire_kind.WireKind.{WireKind}
use Rattle.sspi_ber.specs.declared.wire_kind.WireKind.TheVariants.{UnexpectedEof, InvalidData, ReadFault, WriteFault, InsufficientMemory}
use Rattle.sspi_tsreq.specs.declared.request.TsRequest.{TsRequest}
use Rattle.sspi_delegate.specs.declared.answer.Delegation.{Delegation}
use Rattle.sspi_delegate.specs.declared.answer.DelegateError.{DelegateError}
use Rattle.sspi_delegate.specs.declared.answer.DelegateError.TheVariants as errors
use Rattle.sspi_delegate.specs.declared.carried.Carried.{Carried}
use Rattle.sspi_credssp.specs.declared.turn.End.{End}
use Rattle.sspi_credssp.specs.declared.turn.End.TheVariants.{Client, Server}
use Rattle.sspi_credssp.specs.declared.turn.Outcome.{Outcome}
use Rattle.sspi_credssp.specs.declared.turn.Outcome.TheVariants.{Reply, Final, Finished, Refused}
use Rattle.sspi_credssp.specs.declared.turn.Turn.{Turn}
use Rattle.sspi_delegate.specs.Log.{NewestIs, IsClientRefusal, IsServerRefusal, IsFinished, MessageFits, NewestFits, TurnLeft, turns_of}
use Rattle.sspi_delegate.specs.Log.{for_a_turn, for_a_message, by_the_client, by_the_server}
use Rattle.sspi_delegate.specs.Log.{RunEnds, IsOnly, IsAnswerOf, IsClientError, IsServerError, Exactly}
use Rattle.sspi_delegate.specs.Log.{is_taken, Logged, LoggedButLast, OpenFor, UnreadFor, IsUnreadable, IsFault}
use Rattle.sspi_delegate.specs.Turns.{other, next_end, GoesOn, AllGoOn}
use Rattle.sspi_credssp.specs.Turn.{message_of}

-- ---- the log has an entry for each turn, or for each but the newest

logged_length : (base : List Carried) (turns : List Turn) (log : List Carried) → Logged base turns log →
    length log ≡ length turns + length base
logged_length base [] log entries = ap length entries ∙ omega arith
logged_length base (t ∷ past) [] entries = absurd entries
logged_length base (t ∷ past) (e ∷ log) entries = omega (arith, logged_length base past log entries.2)

but_last_length : (base : List Carried) (turns : List Turn) (log : List Carried) → LoggedButLast base turns log →
    length log + 1 ≡ length turns + length base
but_last_length base [] log entries = absurd entries
but_last_length base (t ∷ past) log entries = omega (arith, logged_length base past log entries.1)

logged_apart : (base : List Carried) (turns : List Turn) (log : List Carried) → Logged base turns log → LoggedButLast base turns log → ⊥
logged_apart base turns log whole rest = absurd (omega (arith, logged_length base turns log whole, but_last_length base turns log rest))

-- ---- the newest turn went on, was refused, or is the server's last one

client_refusal_goes : (kind : ErrorKind) (outcome : Outcome) → IsClientRefusal kind outcome → GoesOn outcome → ⊥
client_refusal_goes kind (Reply reply) refusal goes = refusal
client_refusal_goes kind (Final reply) refusal goes = refusal
client_refusal_goes kind Finished refusal goes = refusal
client_refusal_goes kind (Refused refused reply) refusal goes = goes

server_refusal_goes : (kind : ErrorKind) (outcome : Outcome) → IsServerRefusal kind outcome → GoesOn outcome → ⊥
server_refusal_goes kind (Reply reply) refusal goes = refusal
server_refusal_goes kind (Final reply) refusal goes = refusal
server_refusal_goes kind Finished refusal goes = refusal
server_refusal_goes kind (Refused refused reply) refusal goes = goes

finished_goes : (outcome : Outcome) → IsFinished outcome → GoesOn outcome → ⊥
finished_goes (Reply reply) finished goes = finished
finished_goes (Final reply) finished goes = finished
finished_goes Finished finished goes = goes
finished_goes (Refused refused reply) finished goes = finished

server_refusal_finished : (kind : ErrorKind) (outcome : Outcome) → IsServerRefusal kind outcome → IsFinished outcome → ⊥
server_refusal_finished kind (Reply reply) refusal finished = finished
server_refusal_finished kind (Final reply) refusal finished = finished
server_refusal_finished kind Finished refusal finished = refusal
server_refusal_finished kind (Refused refused reply) refusal finished = finished

one_client_refusal : (k j : ErrorKind) (outcome : Outcome) → IsClientRefusal k outcome → IsClientRefusal j outcome → k ≡ j
one_client_refusal k j (Reply reply) a b = absurd a
one_client_refusal k j (Final reply) a b = absurd a
one_client_refusal k j Finished a b = absurd a
one_client_refusal k j (Refused kind None) a b = sym a ∙ b
one_client_refusal k j (Refused kind (Some reply)) a b = absurd a

one_server_refusal : (k j : ErrorKind) (outcome : Outcome) → IsServerRefusal k outcome → IsServerRefusal j outcome → k ≡ j
one_server_refusal k j (Reply reply) a b = absurd a
one_server_refusal k j (Final reply) a b = absurd a
one_server_refusal k j Finished a b = absurd a
one_server_refusal k j (Refused kind None) a b = absurd a
one_server_refusal k j (Refused kind (Some reply)) a b = sym a ∙ b

-- two facts of the newest turn that exclude each other
newest_apart : (end : End) (P Q : Outcome → Type 0) → ((outcome : Outcome) → P outcome → Q outcome → ⊥) → (turns : List Turn) →
    NewestIs end P turns → NewestIs end Q turns → ⊥
newest_apart end P Q apart [] a b = a
newest_apart end P Q apart (t ∷ past) a b = apart t.outcome a.1 b.1

newest_goes_apart : (end : End) (P : Outcome → Type 0) → ((outcome : Outcome) → P outcome → GoesOn outcome → ⊥) → (turns : List Turn) →
    NewestIs end P turns → AllGoOn turns → ⊥
newest_goes_apart end P apart [] a going = a
newest_goes_apart end P apart (t ∷ past) a going = apart t.outcome a.1 going.0

newest_ends : (P Q : Outcome → Type 0) (turns : List Turn) → NewestIs Client P turns → NewestIs Server Q turns → ⊥
newest_ends P Q [] a b = a
newest_ends P Q (t ∷ past) a b = absurd (cc (a.0, b.0))

newest_one : (end : End) (P Q : Outcome → Type 0) (A : Type 0) → ((outcome : Outcome) → P outcome → Q outcome → A) → (turns : List Turn) →
    NewestIs end P turns → NewestIs end Q turns → A
newest_one end P Q A both [] a b = absurd a
newest_one end P Q A both (t ∷ past) a b = both t.outcome a.1 b.1

message_apart : (message : Option TsRequest) → MessageFits message true → MessageFits message false → ⊥
message_apart None a b = a
message_apart (Some message) a b = absurd (cc (a, b))

fits_apart : (turns : List Turn) → NewestFits turns true → NewestFits turns false → ⊥
fits_apart [] a b = a
fits_apart (t ∷ past) a b = message_apart (message_of t.outcome) a b

other_one : (a b : End) → other a ≡ other b → a ≡ b
other_one Client Client same = refl
other_one Client Server same = absurd (cc (same))
other_one Server Client same = absurd (cc (same))
other_one Server Server same = refl

written_by : (end named : End) (turns : List Turn) → NewestIs end (λ outcome. Unit {0}) turns → next_end turns ≡ other named → named ≡ end
written_by end named [] newest next = absurd newest
written_by end named (t ∷ past) newest next = sym (other_one t.end named next) ∙ newest.0

-- ---- the newest delivery

one_fault : (bytes : List ℕ) (k j : WireKind) → IsFault bytes k → IsFault bytes j → k ≡ j
one_fault bytes UnexpectedEof UnexpectedEof a b = refl
one_fault bytes UnexpectedEof InvalidData a b = absurd (cc (a, b))
one_fault bytes UnexpectedEof ReadFault a b = absurd b
one_fault bytes UnexpectedEof WriteFault a b = absurd b
one_fault bytes UnexpectedEof InsufficientMemory a b = absurd b
one_fault bytes InvalidData UnexpectedEof a b = absurd (cc (a, b))
one_fault bytes InvalidData InvalidData a b = refl
one_fault bytes InvalidData ReadFault a b = absurd b
one_fault bytes InvalidData WriteFault a b = absurd b
one_fault bytes InvalidData InsufficientMemory a b = absurd b
one_fault bytes ReadFault j a b = absurd a
one_fault bytes WriteFault j a b = absurd a
one_fault bytes InsufficientMemory j a b = absurd a

one_unreadable : (turns : List Turn) (log : List Carried) (k j : WireKind) → IsUnreadable turns log k → IsUnreadable turns log j → k ≡ j
one_unreadable [] log k j a b = absurd a
one_unreadable (t ∷ past) [] k j a b = absurd a
one_unreadable (t ∷ past) (e ∷ log) k j a b = one_fault e.delivered k j a.1 b.1

taken_open : (turns : List Turn) (log : List Carried) (k : WireKind) → IsUnreadable turns log k → OpenFor turns log → ⊥
taken_open [] log k a open_ = a
taken_open (t ∷ past) [] k a open_ = a
taken_open (t ∷ past) (e ∷ log) k a open_ = absurd (cc (a.0, open_))

unread_is_open : (e : Carried) → e.delivered ≡ [] → e.ended ≡ false → is_taken e ≡ false
unread_is_open e empty going = rw (empty, going) refl

taken_unread : (turns : List Turn) (log : List Carried) (k : WireKind) → IsUnreadable turns log k → UnreadFor turns log → ⊥
taken_unread [] log k a unread = a
taken_unread (t ∷ past) [] k a unread = a
taken_unread (t ∷ past) (e ∷ log) k a unread =
    let not_taken : is_taken e ≡ false = unread_is_open e unread.0 unread.1 in absurd (cc (a.0, not_taken))

spent_apart : (limit : ℕ) (turns : List Turn) → next_end turns ≡ Client → turns_of Client turns ≡ limit → TurnLeft limit turns → ⊥
spent_apart limit turns next spent left = absurd (omega (arith, spent, left next))

-- ---- the answers

module _ (base : List Carried) (start limit : ℕ) where
  never_err : (error : DelegateError) (turns : List Turn) (log : List Carried) (now : ℕ) →
      RunEnds base start limit (Err error) turns log now → NewestIs Server IsFinished turns → ⊥
  never_err (errors.Client error) turns log now ends newest =
      newest_ends (IsClientRefusal error.error_type) IsFinished turns ends.cause.1 newest
  never_err (errors.Server error) turns log now ends newest =
      newest_apart Server (IsServerRefusal error.error_type) IsFinished (server_refusal_finished error.error_type) turns ends.cause.1 newest
  never_err (errors.Read end kind) turns log now ends newest =
      newest_goes_apart Server IsFinished finished_goes turns newest ends.cause.0
  never_err (errors.Write end) turns log now ends newest = newest_goes_apart Server IsFinished finished_goes turns newest ends.cause.0
  never_err errors.LinkFault turns log now ends newest = newest_goes_apart Server IsFinished finished_goes turns newest ends.cause.0
  never_err errors.TurnsSpent turns log now ends newest = newest_goes_apart Server IsFinished finished_goes turns newest ends.cause.0
  never_err errors.InsufficientMemory turns log now ends newest = elim ends.cause [
    | for_a_turn going left entries within calm ↦ newest_goes_apart Server IsFinished finished_goes turns newest going
    | for_a_message going entries fit calm ↦ newest_goes_apart Server IsFinished finished_goes turns newest going
    | by_the_client refusal entries calm ↦ newest_ends (IsClientRefusal kinds.InsufficientMemory) IsFinished turns refusal newest
    | by_the_server refusal given ↦
        newest_apart Server (IsServerRefusal kinds.InsufficientMemory) IsFinished (server_refusal_finished kinds.InsufficientMemory) turns
        refusal newest
  ]

  only_ok : (result : Result Delegation DelegateError) (turns : List Turn) (log : List Carried) (now : ℕ) →
      RunEnds base start limit result turns log now → NewestIs Server IsFinished turns → IsOk result
  only_ok (Ok delegation) turns log now ends newest = refl
  only_ok (Err error) turns log now ends newest = absurd (never_err error turns log now ends newest)

  refused_client_goes : (kind : ErrorKind) (turns : List Turn) → NewestIs Client (IsClientRefusal kind) turns → AllGoOn turns → ⊥
  refused_client_goes kind turns newest going = newest_goes_apart Client (IsClientRefusal kind) (client_refusal_goes kind) turns
      newest going

  only_client : (kind : ErrorKind) (result : Result Delegation DelegateError) (turns : List Turn) (log : List Carried) (now : ℕ) →
      RunEnds base start limit result turns log now → NewestIs Client (IsClientRefusal kind) turns →
      IsAnswerOf kind (IsClientError kind) result
  only_client kind (Ok delegation) turns log now ends newest = newest_ends (IsClientRefusal kind) IsFinished turns newest ends.0.newest
  only_client kind (Err (errors.Client error)) turns log now ends newest =
      newest_one Client (IsClientRefusal error.error_type) (IsClientRefusal kind) (error.error_type ≡ kind)
      (one_client_refusal error.error_type kind) turns ends.cause.1 newest
  only_client kind (Err (errors.Server error)) turns log now ends newest =
      newest_ends (IsClientRefusal kind) (IsServerRefusal error.error_type) turns newest ends.cause.1
  only_client kind (Err (errors.Read end wire)) turns log now ends newest = refused_client_goes kind turns newest ends.cause.0
  only_client kind (Err (errors.Write end)) turns log now ends newest = refused_client_goes kind turns newest ends.cause.0
  only_client kind (Err errors.LinkFault) turns log now ends newest = refused_client_goes kind turns newest ends.cause.0
  only_client kind (Err errors.TurnsSpent) turns log now ends newest = refused_client_goes kind turns newest ends.cause.0
  only_client kind (Err errors.InsufficientMemory) turns log now ends newest = elim ends.cause [
    | for_a_turn going left entries within calm ↦ absurd (refused_client_goes kind turns newest going)
    | for_a_message going entries fit calm ↦ absurd (refused_client_goes kind turns newest going)
    | by_the_client refusal entries calm ↦
        newest_one Client (IsClientRefusal kind) (IsClientRefusal kinds.InsufficientMemory) (kind ≡ kinds.InsufficientMemory)
        (one_client_refusal kind kinds.InsufficientMemory) turns newest refusal
    | by_the_server refusal given ↦
        absurd (newest_ends (IsClientRefusal kind) (IsServerRefusal kinds.InsufficientMemory) turns newest refusal)
  ]

  refused_server_goes : (kind : ErrorKind) (turns : List Turn) → NewestIs Server (IsServerRefusal kind) turns → AllGoOn turns → ⊥
  refused_server_goes kind turns newest going = newest_goes_apart Server (IsServerRefusal kind) (server_refusal_goes kind) turns
      newest going

  only_server : (kind : ErrorKind) (result : Result Delegation DelegateError) (turns : List Turn) (log : List Carried) (now : ℕ) →
      RunEnds base start limit result turns log now → NewestIs Server (IsServerRefusal kind) turns →
      IsAnswerOf kind (IsServerError kind) result
  only_server kind (Ok delegation) turns log now ends newest =
      newest_apart Server (IsServerRefusal kind) IsFinished (server_refusal_finished kind) turns newest ends.0.newest
  only_server kind (Err (errors.Client error)) turns log now ends newest =
      newest_ends (IsClientRefusal error.error_type) (IsServerRefusal kind) turns ends.cause.1 newest
  only_server kind (Err (errors.Server error)) turns log now ends newest =
      newest_one Server (IsServerRefusal error.error_type) (IsServerRefusal kind) (error.error_type ≡ kind)
      (one_server_refusal error.error_type kind) turns ends.cause.1 newest
  only_server kind (Err (errors.Read end wire)) turns log now ends newest = refused_server_goes kind turns newest ends.cause.0
  only_server kind (Err (errors.Write end)) turns log now ends newest = refused_server_goes kind turns newest ends.cause.0
  only_server kind (Err errors.LinkFault) turns log now ends newest = refused_server_goes kind turns newest ends.cause.0
  only_server kind (Err errors.TurnsSpent) turns log now ends newest = refused_server_goes kind turns newest ends.cause.0
  only_server kind (Err errors.InsufficientMemory) turns log now ends newest = elim ends.cause [
    | for_a_turn going left entries within calm ↦ absurd (refused_server_goes kind turns newest going)
    | for_a_message going entries fit calm ↦ absurd (refused_server_goes kind turns newest going)
    | by_the_client refusal entries calm ↦
        absurd (newest_ends (IsClientRefusal kinds.InsufficientMemory) (IsServerRefusal kind) turns refusal newest)
    | by_the_server refusal given ↦
        newest_one Server (IsServerRefusal kind) (IsServerRefusal kinds.InsufficientMemory) (kind ≡ kinds.InsufficientMemory)
        (one_server_refusal kind kinds.InsufficientMemory) turns newest refusal
  ]

  only_read : (kind : WireKind) (result : Result Delegation DelegateError) (turns : List Turn) (log : List Carried) (now : ℕ) →
      RunEnds base start limit result turns log now → AllGoOn turns → Logged base turns log → IsUnreadable turns log kind →
      IsOnly (λ error. error ≡ errors.Read (next_end turns) kind) result
  only_read kind (Ok delegation) turns log now ends going entries unreadable = absurd (logged_apart base turns log entries ends.0.entries)
  only_read kind (Err (errors.Client error)) turns log now ends going entries unreadable =
      absurd (logged_apart base turns log entries ends.cause.2)
  only_read kind (Err (errors.Server error)) turns log now ends going entries unreadable =
      absurd (newest_goes_apart Server (IsServerRefusal error.error_type) (server_refusal_goes error.error_type) turns ends.cause.1 going)
  only_read kind (Err (errors.Read end wire)) turns log now ends going entries unreadable =
      let one : wire ≡ kind = one_unreadable turns log wire kind ends.cause.4 unreadable in
      let next : next_end turns ≡ end = ends.cause.1 in cc
  only_read kind (Err (errors.Write end)) turns log now ends going entries unreadable =
      absurd (logged_apart base turns log entries ends.cause.2)
  only_read kind (Err errors.LinkFault) turns log now ends going entries unreadable = elim ends.cause.2 [
    | inl unread ↦ absurd (taken_open turns log kind unreadable unread.1)
    | inr unsent ↦ absurd (logged_apart base turns log entries unsent.0)
  ]
  only_read kind (Err errors.TurnsSpent) turns log now ends going entries unreadable =
      absurd (taken_unread turns log kind unreadable ends.cause.4)
  only_read kind (Err errors.InsufficientMemory) turns log now ends going entries unreadable = tt

  only_write : (end : End) (result : Result Delegation DelegateError) (turns : List Turn) (log : List Carried) (now : ℕ) →
      RunEnds base start limit result turns log now → NewestIs end (λ outcome. Unit {0}) turns → AllGoOn turns →
      LoggedButLast base turns log →
      NewestFits turns false → result ≡ Err (errors.Write end)
  only_write end (Ok delegation) turns log now ends newest going entries long =
      absurd (newest_goes_apart Server IsFinished finished_goes turns ends.0.newest going)
  only_write end (Err (errors.Client error)) turns log now ends newest going entries long =
      absurd (newest_goes_apart Client (IsClientRefusal error.error_type) (client_refusal_goes error.error_type) turns ends.cause.1 going)
  only_write end (Err (errors.Server error)) turns log now ends newest going entries long =
      absurd (newest_goes_apart Server (IsServerRefusal error.error_type) (server_refusal_goes error.error_type) turns ends.cause.1 going)
  only_write end (Err (errors.Read other_end wire)) turns log now ends newest going entries long =
      absurd (logged_apart base turns log ends.cause.3 entries)
  only_write end (Err (errors.Write named)) turns log now ends newest going entries long =
      ap (λ (from : End). Err (errors.Write from)) (written_by end named turns newest ends.cause.1)
  only_write end (Err errors.LinkFault) turns log now ends newest going entries long = elim ends.cause.2 [
    | inl unread ↦ absurd (logged_apart base turns log unread.0 entries)
    | inr unsent ↦ absurd (fits_apart turns unsent.1 long)
  ]
  only_write end (Err errors.TurnsSpent) turns log now ends newest going entries long =
      absurd (logged_apart base turns log ends.cause.3 entries)
  only_write end (Err errors.InsufficientMemory) turns log now ends newest going entries long = elim ends.cause [
    | for_a_turn _ left whole within calm ↦ absurd (logged_apart base turns log whole entries)
    | for_a_message _ rest fit calm ↦ absurd (fits_apart turns fit long)
    | by_the_client refusal rest calm ↦ absurd (refused_client_goes kinds.InsufficientMemory turns refusal going)
    | by_the_server refusal given ↦ absurd (refused_server_goes kinds.InsufficientMemory turns refusal going)
  ]

  only_carry : (result : Result Delegation DelegateError) (turns : List Turn) (log : List Carried) (now : ℕ) →
      RunEnds base start limit result turns log now → AllGoOn turns → LoggedButLast base turns log → NewestFits turns true →
      IsOnly (λ error. error ≡ errors.LinkFault) result
  only_carry (Ok delegation) turns log now ends going entries fit =
      absurd (newest_goes_apart Server IsFinished finished_goes turns ends.0.newest going)
  only_carry (Err (errors.Client error)) turns log now ends going entries fit =
      absurd (newest_goes_apart Client (IsClientRefusal error.error_type) (client_refusal_goes error.error_type) turns ends.cause.1 going)
  only_carry (Err (errors.Server error)) turns log now ends going entries fit =
      absurd (newest_goes_apart Server (IsServerRefusal error.error_type) (server_refusal_goes error.error_type) turns ends.cause.1 going)
  only_carry (Err (errors.Read end wire)) turns log now ends going entries fit = absurd (logged_apart base turns log ends.cause.3 entries)
  only_carry (Err (errors.Write named)) turns log now ends going entries fit = absurd (fits_apart turns fit ends.cause.3)
  only_carry (Err errors.LinkFault) turns log now ends going entries fit = refl
  only_carry (Err errors.TurnsSpent) turns log now ends going entries fit = absurd (logged_apart base turns log ends.cause.3 entries)
  only_carry (Err errors.InsufficientMemory) turns log now ends going entries fit = tt

  only_piece : (result : Result Delegation DelegateError) (turns : List Turn) (log : List Carried) (now : ℕ) →
      RunEnds base start limit result turns log now → AllGoOn turns → Logged base turns log → OpenFor turns log → TurnLeft limit turns →
      IsOnly (λ error. error ≡ errors.LinkFault) result
  only_piece (Ok delegation) turns log now ends going entries part left = absurd (logged_apart base turns log entries ends.0.entries)
  only_piece (Err (errors.Client error)) turns log now ends going entries part left =
      absurd (logged_apart base turns log entries ends.cause.2)
  only_piece (Err (errors.Server error)) turns log now ends going entries part left =
      absurd (newest_goes_apart Server (IsServerRefusal error.error_type) (server_refusal_goes error.error_type) turns ends.cause.1 going)
  only_piece (Err (errors.Read end wire)) turns log now ends going entries part left = absurd (taken_open turns log wire ends.cause.4 part)
  only_piece (Err (errors.Write end)) turns log now ends going entries part left = absurd (logged_apart base turns log entries ends.cause.2)
  only_piece (Err errors.LinkFault) turns log now ends going entries part left = refl
  only_piece (Err errors.TurnsSpent) turns log now ends going entries part left =
      absurd (spent_apart limit turns ends.cause.1 ends.cause.2 left)
  only_piece (Err errors.InsufficientMemory) turns log now ends going entries part left = tt

  only_spent : (result : Result Delegation DelegateError) (turns : List Turn) (log : List Carried) (now : ℕ) →
      RunEnds base start limit result turns log now → AllGoOn turns → Logged base turns log → next_end turns ≡ Client →
      turns_of Client turns ≡ limit → result ≡ Err errors.TurnsSpent
  only_spent (Ok delegation) turns log now ends going entries next spent = absurd (logged_apart base turns log entries ends.0.entries)
  only_spent (Err (errors.Client error)) turns log now ends going entries next spent =
      absurd (logged_apart base turns log entries ends.cause.2)
  only_spent (Err (errors.Server error)) turns log now ends going entries next spent =
      absurd (newest_goes_apart Server (IsServerRefusal error.error_type) (server_refusal_goes error.error_type) turns ends.cause.1 going)
  only_spent (Err (errors.Read end wire)) turns log now ends going entries next spent =
      absurd (spent_apart limit turns next spent ends.cause.2)
  only_spent (Err (errors.Write end)) turns log now ends going entries next spent =
      absurd (logged_apart base turns log entries ends.cause.2)
  only_spent (Err errors.LinkFault) turns log now ends going entries next spent = elim ends.cause.2 [
    | inl unread ↦ absurd (spent_apart limit turns next spent unread.2)
    | inr unsent ↦ absurd (logged_apart base turns log entries unsent.0)
  ]
  only_spent (Err errors.TurnsSpent) turns log now ends going entries next spent = refl
  only_spent (Err errors.InsufficientMemory) turns log now ends going entries next spent = elim ends.cause [
    | for_a_turn _ left whole within calm ↦ absurd (spent_apart limit turns next spent left)
    | for_a_message _ rest fit calm ↦ absurd (logged_apart base turns log entries rest)
    | by_the_client refusal rest calm ↦ absurd (refused_client_goes kinds.InsufficientMemory turns refusal going)
    | by_the_server refusal given ↦ absurd (refused_server_goes kinds.InsufficientMemory turns refusal going)
  ]

  pub exactly : (result : Result Delegation DelegateError) (turns : List Turn) (log : List Carried) (now : ℕ) →
      RunEnds base start limit result turns log now → Exactly base limit result turns log
  exactly result turns log now ends = record {
    ok = only_ok result turns log now ends;
    client = λ kind. only_client kind result turns log now ends;
    server = λ kind. only_server kind result turns log now ends;
    read = λ kind. only_read kind result turns log now ends;
    write = λ end. only_write end result turns log now ends;
    carry = only_carry result turns log now ends;
    piece = only_piece result turns log now ends;
    spent = only_spent result turns log now ends;
  }
