-- What the calls of a link answer, and what its edits make of what was sent, if it exposes them.
use Rattle.std.specs.Prelude.{◌≡◌, ℕ, ◌==◌, true, if◌then◌else◌, List, [], ◌∷◌, ◌++◌, map, reverse}
use Rattle.std.specs.Prelude.{length, take, slice_get, slice_set}
use Rattle.std.specs.Prelude.{Option, Some, None, option_and_then, unwrap_or, ◌≤◌, Bool, false}
use Rattle.std.specs.Prelude.{Result, Ok, Err, IfOk, ◌⊎◌}
use Rattle.sspi_types.specs.declared.error_kind.ErrorKind.{ErrorKind}
use Rattle.sspi_types.specs.declared.error_kind.ErrorKind.TheVariants as kinds
use Rattle.sspi_types.specs.Counting.{Counts}
use Rattle.sspi_tsreq.specs.declared.request.TsRequest.{TsRequest}
use Rattle.sspi_tsreq.specs.Spelling.{spelled}
use Rattle.sspi_credssp.specs.declared.turn.End.TheVariants as ends
use Rattle.sspi_credssp.specs.declared.turn.Turn.{Turn}
use Rattle.sspi_credssp.specs.Turn.{message_of}
use Rattle.sspi_delegate.specs.declared.answer.DelegateError.{DelegateError}
use Rattle.sspi_delegate.specs.declared.answer.DelegateError.TheVariants.{Server, LinkFault}
use Rattle.sspi_delegate.specs.declared.answer.DelegateError.TheVariants.{InsufficientMemory}
use Rattle.sspi_delegate.specs.declared.carried.Carried.{Carried}
use Rattle.sspi_delegate.specs.declared.edit.Edit.{Edit}
use Rattle.sspi_delegate.specs.declared.edit.EditKind.{EditKind}
use Rattle.sspi_delegate.specs.declared.edit.EditKind.TheVariants.{Drop, Cut, Set, Add, Give, Again}
use Rattle.sspi_delegate.specs.declared.edit.EditKind.TheVariants.{Fail}
use Rattle.sspi_delegate.specs.declared.link.LinkError.{LinkError}
use Rattle.sspi_delegate.specs.declared.link.LinkError.TheVariants.{Failed, InsufficientMemory}
use Rattle.sspi_delegate.specs.Log.{NewestIs, IsServerRefusal}
use Rattle.sspi_delegate.specs.Log.{Grows}

-- ---- the edits

-- what entries sent, in order
abbrev pub sent_texts : List Carried → List (List ℕ)
sent_texts entries = map (λ e. e.sent) entries

-- the text at a place, or nothing past the end
abbrev pub text_at : List (List ℕ) → ℕ → List ℕ
text_at texts place = unwrap_or (slice_get texts place) []

-- what one edit makes of a text, if the earlier entries sent these texts, the first entry first;
-- None: the carry fails
abbrev pub edited_once : EditKind → List (List ℕ) → List ℕ → Option (List ℕ)
edited_once Drop earlier text = Some []
edited_once (Cut count) earlier text = Some (take count text)
edited_once (Set place byte) earlier text = Some (slice_set text place byte)
edited_once (Add more) earlier text = Some (text ++ more)
edited_once (Give bytes) earlier text = Some bytes
edited_once (Again entry) earlier text = Some (text_at earlier entry)
edited_once Fail earlier text = None

-- what the edits of the entry after the earlier ones make of what it sent: each, in order, changes
-- what the one before gives
abbrev pub edited : List Edit → List (List ℕ) → List ℕ → Option (List ℕ)
edited [] earlier text = Some text
edited (edit ∷ edits) earlier text = option_and_then (edited edits earlier)
    (if edit.entry == length earlier then edited_once edit.kind earlier text else Some text)

-- the delivery is a prefix of this text, and has ended only if it is the whole; None: there is no
-- such entry
abbrev pub Delivers : Option (List ℕ) → Carried → Type 0
Delivers None e = ⊥
Delivers (Some text) e = (e.delivered ≡ take (length e.delivered) text) ×
    (e.ended ≡ true → e.delivered ≡ text)

-- each entry of a log, the newest first, delivers what the edits give
abbrev pub FollowsEdits : List Edit → List Carried → Type 0
FollowsEdits edits [] = Unit {0}
FollowsEdits edits (e ∷ log) = Delivers (edited edits (sent_texts (reverse log)) e.sent) e ×
    FollowsEdits edits log

-- this text is what the edits give for the newest entry
abbrev pub IsNewestText : List Edit → List Carried → List ℕ → Type 0
IsNewestText edits [] text = Unit {0}
IsNewestText edits (e ∷ log) text = edited edits (sent_texts (reverse log)) e.sent ≡ Some text

-- a link in memory: its log, the newest entry first, its edits, how often it failed, and how many
-- bytes a piece may have
pub record MemoryLinkView : Type 0 where
  pub log : List Carried
  pub edits : List Edit
  pub faults : ℕ
  -- None: any number
  pub most : Option ℕ

-- what a link in memory keeps: its log follows its edits, and the text that is served is that of
-- the newest entry
pub record IsServed (edits : List Edit) (log : List Carried) (text : List ℕ) : Type 0 where
  pub follows : FollowsEdits edits log
  pub newest : IsNewestText edits log text

-- ---- What the calls of a link answer.

-- a failure counts one fault, and no other answer counts any
abbrev pub LinkCause : {X : Type 0} → ℕ → ℕ → Result X LinkError → Type 0
LinkCause before now (Ok x) = now ≡ before
LinkCause before now (Err Failed) = Counts before now
LinkCause before now (Err InsufficientMemory) = now ≡ before

-- what `piece` does to the log: a refusal leaves it unchanged
abbrev pub PieceGives : List Carried → List Carried → Result ℕ LinkError → List ℕ → Type 0
PieceGives old new (Ok n) into = (n ≤ length into) × Grows old new n into
PieceGives old new (Err error) into = new ≡ old

-- a piece has at most this many bytes, if the link exposes a limit
abbrev pub IsWithin : Option ℕ → Result ℕ LinkError → Type 0
IsWithin None result = Unit {0}
IsWithin (Some most) result = IfOk result (λ n. n ≤ most)

-- given what the edits give: `carry` fails only if they give nothing, and is then never Ok; only a
-- failure counts a fault, and it counts one
abbrev pub CarriesEdited : Option (List ℕ) → ℕ → ℕ → Result (Unit {0}) LinkError → Type 0
CarriesEdited None before now (Ok done) = ⊥
CarriesEdited None before now (Err Failed) = Counts before now
CarriesEdited None before now (Err InsufficientMemory) = now ≡ before
CarriesEdited (Some text) before now (Ok done) = now ≡ before
CarriesEdited (Some text) before now (Err Failed) = ⊥
CarriesEdited (Some text) before now (Err InsufficientMemory) = now ≡ before

-- the same for a link that exposes its edits; one that does not claims nothing
abbrev pub CarryTold : Option (List Edit) → List Carried → List ℕ → ℕ → ℕ →
    Result (Unit {0}) LinkError → Type 0
CarryTold None log sent before now result = Unit {0}
CarryTold (Some edits) log sent before now result =
    CarriesEdited (edited edits (sent_texts (reverse log)) sent) before now result

-- if the edits are exposed, reading never fails, and no fault is counted
abbrev pub NeverFails : {X : Type 0} → Option (List Edit) → ℕ → ℕ → Result X LinkError → Type 0
NeverFails None before now result = Unit {0}
NeverFails (Some edits) before now (Ok x) = now ≡ before
NeverFails (Some edits) before now (Err Failed) = ⊥
NeverFails (Some edits) before now (Err InsufficientMemory) = now ≡ before

-- if the edits are exposed, the log follows them
abbrev pub FollowsTold : Option (List Edit) → List Carried → Type 0
FollowsTold None log = Unit {0}
FollowsTold (Some edits) log = FollowsEdits edits log

-- no call changes the exposed edits, and a log that follows them still does
pub record StaysTold (edits edits2 : Option (List Edit)) (log log2 : List Carried) : Type 0 where
  pub same : edits2 ≡ edits
  pub follows : FollowsTold edits log → FollowsTold edits2 log2

-- a carrier gave these bytes of a delivery, unless that had ended
abbrev pub IsReceivedOf : {R : Type 0} → (R → ℕ → List ℕ → R → Type 0) → Bool → R → ℕ → List ℕ → R →
    Type 0
IsReceivedOf receives true before count into now = now ≡ before
IsReceivedOf receives false before count into now = receives before count into now

-- the same for the newest entry of a log; if there is none, nothing is asked of the carrier
abbrev pub IsReceived : {R : Type 0} → (R → ℕ → List ℕ → R → Type 0) → List Carried → R → ℕ →
    List ℕ → R → Type 0
IsReceived receives [] before count into now = now ≡ before
IsReceived receives (e ∷ log) before count into now =
    IsReceivedOf receives e.ended before count into now

-- a carrier did this and answered this error; or memory ran out before it was asked, and it is
-- unchanged
abbrev pub DidOrKept : LinkError → Type 0 → Type 0 → Type 0
DidOrKept Failed Did Kept = Did
DidOrKept InsufficientMemory Did Kept = Did ⊎ Kept

-- ---- How the message of a turn is sent.

-- the message of the newest turn
abbrev pub newest_message : List Turn → Option TsRequest
newest_message [] = None
newest_message (t ∷ past) = message_of t.outcome

-- the edits of the next entry fail the carry of this message
abbrev pub CarryFails : List Edit → List Carried → Option TsRequest → Type 0
CarryFails edits log None = ⊥
CarryFails edits log (Some message) = edited edits (sent_texts (reverse log))
    (spelled message) ≡ None

-- the edits failed the carry of the newest turn's message, and one fault was counted
abbrev pub HasFailed : List Edit → ℕ → ℕ → List Carried → List Turn → Type 0
HasFailed edits before now log turns = CarryFails edits log (newest_message turns) ×
    Counts before now

-- that turn is a server's that was refused with this kind, and the message was to inform its client
abbrev pub HasFailedToTell : ErrorKind → List Edit → ℕ → ℕ → List Carried → List Turn → Type 0
HasFailedToTell kind edits before now log turns =
    NewestIs ends.Server (IsServerRefusal kind) turns × HasFailed edits before now log turns

-- if the edits are exposed, only a carry that they fail counts a fault; if it carries a server's
-- refusal, that fault does not change the answer
abbrev pub AnswerTold : {X : Type 0} → Option (List Edit) → ℕ → ℕ → Result X DelegateError →
    List Carried → List Turn → Type 0
AnswerTold None before now result log turns = Unit {0}
AnswerTold (Some edits) before now (Err (Server error)) log turns =
    (now ≡ before) ⊎ HasFailedToTell error.error_type edits before now log turns
AnswerTold (Some edits) before now (Err LinkFault) log turns = HasFailed edits before now log turns
AnswerTold (Some edits) before now (Err InsufficientMemory) log turns =
    (now ≡ before) ⊎ HasFailedToTell kinds.InsufficientMemory edits before now log turns
AnswerTold (Some edits) before now result log turns = now ≡ before
