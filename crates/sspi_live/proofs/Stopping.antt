-- Why an end over a channel stops.
use Rattle.std.proofs.Common.{◌≡◌, ℕ, ◌<◌, inl, inr, List, [], ◌∷◌, length, Option, None, Some, Result, Err, refl, sym, subst}
use Rattle.std.specs.Io.KnownBytes.{Keeps}
use Rattle.sspi_types.specs.declared.error.Error.{Error}
use Rattle.sspi_types.specs.declared.error_kind.ErrorKind.{ErrorKind}
use Rattle.sspi_tsreq.specs.declared.request.TsRequest.{TsRequest}
use Rattle.sspi_credssp.specs.declared.turn.End.{End}
use Rattle.sspi_credssp.specs.declared.turn.End.TheVariants.{Client, Server}
use Rattle.sspi_credssp.specs.declared.turn.Outcome.{Outcome}
use Rattle.sspi_credssp.specs.declared.turn.Outcome.TheVariants as outcome
use Rattle.sspi_credssp.specs.declared.turn.Turn.{Turn}
use Rattle.sspi_credssp.specs.Turn.{message_of}
use Rattle.sspi_delegate.specs.declared.answer.DelegateError.{DelegateError}
use Rattle.sspi_delegate.specs.declared.answer.DelegateError.TheVariants as errors
use Rattle.sspi_delegate.specs.Halves.{IsAnswerTo}
use Rattle.sspi_delegate.specs.Link.{newest_message}
use Rattle.sspi_delegate.specs.Log.{IsServerRefusal, NewestIs}
use Rattle.sspi_delegate.specs.Recorded.{PushedSuch}
use Rattle.sspi_live.specs.Answers.{FailsToRead, FailsToWrite, IsDue, IsOwn, IsTurned, Refuses, SoFar, Stops, WritesMessage}
use Rattle.sspi_live.specs.Answers.{for_a_message, for_a_refusal, for_a_request, for_a_turn, of_the_end}
use Rattle.sspi_live.specs.Channel.{Carries, Channel}
use Rattle.sspi_live.specs.Sides.{messages_in, read_for, received_by}
use Rattle.sspi_live.specs.Steps.{AnswersTold, WritesNewest, refusal_by}
use Rattle.sspi_live.proofs.Carrying.{read_on}
use Rattle.sspi_live.proofs.Stepping.{pushed_newest}

-- ---- no request came

pub read_stops : (end : End) (limit : ℕ) (error : DelegateError) (turns : List Turn) (first c : Channel) →
    FailsToRead end limit error turns first c → Stops end limit error turns first c
read_stops end limit (errors.Client error) turns first c f = let no = f.reads in absurd no
read_stops end limit (errors.Server error) turns first c f = let no = f.reads in absurd no
read_stops end limit (errors.Read to kind) turns first c f = f
read_stops end limit (errors.Write from) turns first c f = let no = f.reads in absurd no
read_stops end limit errors.LinkFault turns first c f = inl f
read_stops end limit errors.TurnsSpent turns first c f = let no = f.reads in absurd no
read_stops end limit errors.InsufficientMemory turns first c f = for_a_request f

-- ---- the newest turn's message

pub message_written : (end : End) (message : Option TsRequest) (turns : List Turn) (first b c : Channel) (error : DelegateError) →
    newest_message turns ≡ message → IsTurned end turns first b →
    WritesNewest end message b.written c.written b.write_faults c.write_faults (Err error) → Keeps b.left c.left →
    c.read_faults ≡ b.read_faults → WritesMessage end turns first c (Err error)
message_written end None turns first b c error is turn w left reading = absurd w
message_written end (Some m) turns first b c error is turn w left reading =
    record { now = b; turned = turn; message = m; newest = is; writes = w; left = left; reading = reading }

pub write_stops : (end : End) (limit : ℕ) (error : DelegateError) (turns : List Turn) (first c : Channel) →
    FailsToWrite end error turns first c → Stops end limit error turns first c
write_stops end limit (errors.Client error) turns first c f = let no = f.1.writes in absurd no
write_stops end limit (errors.Server error) turns first c f = let no = f.1.writes in absurd no
write_stops end limit (errors.Read to kind) turns first c f = let no = f.1.writes in absurd no
write_stops end limit (errors.Write from) turns first c f = f
write_stops end limit errors.LinkFault turns first c f = inr f
write_stops end limit errors.TurnsSpent turns first c f = let no = f.1.writes in absurd no
write_stops end limit errors.InsufficientMemory turns first c f = for_a_message f

-- ---- the end refused its turn

-- a server has a message that reports its refusal
told_message : (kind : ErrorKind) (out : Outcome) → IsServerRefusal kind out → (m : TsRequest) × (message_of out ≡ Some m)
told_message kind (outcome.Reply reply) r = absurd r
told_message kind (outcome.Final reply) r = absurd r
told_message kind outcome.Finished r = absurd r
told_message kind (outcome.Refused refused None) r = absurd r
told_message kind (outcome.Refused refused (Some reply)) r = (reply, refl)

refusal_told : (d : TsRequest) (kind : ErrorKind) (old new : List Turn) → PushedSuch Server d (IsServerRefusal kind) old new →
    (m : TsRequest) × (newest_message new ≡ Some m)
refusal_told d kind old [] pushed = absurd pushed
refusal_told d kind old (t ∷ past) pushed = told_message kind t.outcome pushed.3

pub server_refuses : (d : TsRequest) (kind : ErrorKind) (old new : List Turn) (first b c : Channel)
    (result : Result (Unit {0}) DelegateError) → PushedSuch Server d (IsServerRefusal kind) old new → IsTurned Server new first b →
    WritesNewest Server (newest_message new) b.written c.written b.write_faults c.write_faults result → Keeps b.left c.left →
    c.read_faults ≡ b.read_faults →
    NewestIs Server (IsServerRefusal kind) new × WritesMessage Server new first c result
server_refuses d kind old new first b c result pushed turn w left reading =
    let told = refusal_told d kind old new pushed in (
      pushed_newest Server d (IsServerRefusal kind) old new pushed,
      record {
        now = b;
        turned = turn;
        message = told.0;
        newest = told.1;
        writes = subst (λ (m : Option TsRequest). WritesNewest Server m b.written c.written b.write_faults c.write_faults result) told.1 w;
        left = left;
        reading = reading;
      },
    )

pub refusal_stops : (end : End) (limit : ℕ) (error : Error) (answer : DelegateError) (turns : List Turn) (first c : Channel) →
    IsAnswerTo error.error_type (refusal_by end error) answer → Refuses end error.error_type turns first c →
    Stops end limit answer turns first c
refusal_stops Client limit error answer turns first c (inl memory) r =
    rw memory.1 (of_the_end (subst (λ (k : ErrorKind). Refuses Client k turns first c) memory.0 r))
refusal_stops Client limit error answer turns first c (inr refusal) r = rw refusal.1 (refl, refusal.0, r)
refusal_stops Server limit error answer turns first c (inl memory) r =
    rw memory.1 (of_the_end (subst (λ (k : ErrorKind). Refuses Server k turns first c) memory.0 r))
refusal_stops Server limit error answer turns first c (inr refusal) r = rw refusal.1 (refl, refusal.0, r)

-- the message of a refusal was written, or why not
pub told_stops : (limit : ℕ) (error : Error) (told : Result (Unit {0}) DelegateError) (answer : DelegateError) (turns : List Turn)
    (first c : Channel) → AnswersTold error told answer →
    NewestIs Server (IsServerRefusal error.error_type) turns × WritesMessage Server turns first c told →
    Stops Server limit answer turns first c
told_stops limit error told answer turns first c (inl memory) r =
    rw memory.1
    (for_a_refusal error.error_type
    (r.0, subst (λ (w : Result (Unit {0}) DelegateError). WritesMessage Server turns first c w) memory.0 r.1))
told_stops limit error told answer turns first c (inr (had, answers)) r =
    refusal_stops Server limit error answer turns first c answers (r.0, told, had, r.1)

-- ---- out of memory for a turn

pub is_due : (end : End) (d : TsRequest) (turns : List Turn) (first a b : Channel) → SoFar end turns first a →
    Carries a b (read_for end turns d) [] → IsOwn end turns d → IsDue end turns first b d
is_due end d turns first a b s c own = record {
  going = s.going;
  unended = s.unended;
  own = own;
  carried = read_on first a b (received_by end turns) (read_for end turns d) (messages_in turns) s.carried c;
}

pub lost_stops : (end : End) (limit : ℕ) (d : TsRequest) (old new : List Turn) (first a b : Channel) → SoFar end old first a →
    length old < limit → Carries a b (read_for end old d) [] → IsOwn end old d → new ≡ old →
    Stops end limit errors.InsufficientMemory new first b
lost_stops end limit d old new first a b s within c own same =
    subst (λ (l : List Turn). Stops end limit errors.InsufficientMemory l first b) (sym same)
    (for_a_turn d within (is_due end d old first a b s c own))
