-- One call on a server (MS-CSSP 3.1.5.2): bytes are read, the server takes their request, and its
-- message is encoded.
use Rattle.std.specs.Prelude.{◌≡◌, ◌≢◌, ◌⊎◌, ℕ, List, Option, None, Some, Result, Ok, Err, true}
use Rattle.std.specs.Prelude.{false}
use Rattle.sspi_types.specs.declared.error_kind.ErrorKind.TheVariants as kinds
use Rattle.sspi_ber.specs.Pieces.{Ended, Invalid}
use Rattle.sspi_ber.specs.declared.wire_kind.WireKind.{WireKind}
use Rattle.sspi_ber.specs.declared.wire_kind.WireKind.TheVariants as wire
use Rattle.sspi_mech.specs.Meaning.{Meaning}
use Rattle.sspi_tsreq.specs.declared.request.TsRequest.{TsRequest}
use Rattle.sspi_tsreq.specs.Reading.{fault}
use Rattle.sspi_tsreq.specs.Grammar.{IsRequest}
use Rattle.sspi_tsreq.specs.Quiet.{HasOctets}
use Rattle.sspi_tsreq.specs.Spelling.{fits, spelled}
use Rattle.sspi_credssp.specs.declared.server_state.ServerError.{ServerError}
use Rattle.sspi_credssp.specs.declared.server_state.ServerState.{ServerState}
use Rattle.sspi_credssp.specs.declared.server_state.ServerState.TheVariants.{ReplyNeeded, Finished}
use Rattle.sspi_credssp.specs.Context.{ContextSetting}
use Rattle.sspi_credssp.specs.Proxy.{ProxyMeaning}
use Rattle.sspi_credssp.specs.Ends.{ServerView}
use Rattle.sspi_credssp.specs.ServerCall.{ServerCall}
use Rattle.sspi_desk.specs.declared.answer.DeskError.{DeskError}
use Rattle.sspi_desk.specs.declared.answer.DeskError.TheVariants.{NoSession, Unread, Refused}
use Rattle.sspi_desk.specs.declared.answer.DeskError.TheVariants.{TooLong, InsufficientMemory}
use Rattle.sspi_desk.specs.declared.answer.Served.{Served}
use Rattle.sspi_desk.specs.declared.answer.Served.TheVariants as served

-- ---- reading and encoding

-- the bytes do not begin with a request, for this reason
abbrev pub HasFault : List ℕ → WireKind → Type 0
HasFault bytes wire.UnexpectedEof = fault bytes ≡ Some Ended
HasFault bytes wire.InvalidData = fault bytes ≡ Some Invalid
HasFault bytes wire.ReadFault = ⊥
HasFault bytes wire.WriteFault = ⊥
HasFault bytes wire.InsufficientMemory = ⊥

-- there was no memory, needed only for its OCTET STRINGs, to copy the request that the bytes begin
-- with
pub record HasNoRoom (bytes : List ℕ) : Type 0 where
  pub request : TsRequest
  pub count : ℕ
  pub read : IsRequest bytes request count
  pub octets : HasOctets request

-- a message is encoded, or it is too long; memory can run out only for one that is not
abbrev pub Spells : {E : Type 0} → TsRequest → Result (Option (List ℕ)) E → Type 0
Spells message (Ok (Some text)) = (fits message ≡ true) × (text ≡ spelled message)
Spells message (Ok None) = fits message ≡ false
Spells message (Err error) = fits message ≡ true

-- the same for a message that may be absent
abbrev pub SpellsAny : {E : Type 0} → Option TsRequest → Result (Option (List ℕ)) E → Type 0
SpellsAny None (Ok None) = Unit {0}
SpellsAny None (Ok (Some text)) = ⊥
SpellsAny None (Err error) = ⊥
SpellsAny (Some message) answer = Spells message answer

-- ---- the turn

module _ {C P : Type 0} (c : Meaning ContextSetting C) (p : ProxyMeaning P) where
  -- the bytes begin with a request, which the server took with this result
  pub record Takes (old : ServerView C P) (bytes : List ℕ) (result : Result ServerState ServerError)
      (new : ServerView C P) :
      Type 0 where
    pub request : TsRequest
    pub count : ℕ
    pub read : IsRequest bytes request count
    pub process : ServerCall c p old request result new

  -- ---- the answer

  -- the result of a server that took its request, and then ran out of memory
  abbrev pub HasNoAnswer : {E : Type 0} → E → Result ServerState ServerError → Type 0
  HasNoAnswer error (Ok (ReplyNeeded reply)) = Spells reply (Err error)
  HasNoAnswer error (Ok (Finished identity)) = ⊥
  HasNoAnswer error (Err refusal) = (refusal.error.error_type ≡ kinds.InsufficientMemory) ⊎
      SpellsAny refusal.ts_request (Err error)

  -- What a server on its own answers to these bytes, and what it is then.
  abbrev pub IsServed : ServerView C P → List ℕ → Result Served DeskError → ServerView C P → Type 0
  IsServed old bytes (Ok (served.Answer text)) new =
      (reply : TsRequest) × Takes old bytes (Ok (ReplyNeeded reply)) new × (fits reply ≡ true) ×
      (text ≡ spelled reply)
  IsServed old bytes (Ok (served.Finished identity)) new =
      Takes old bytes (Ok (Finished identity)) new
  IsServed old bytes (Err NoSession) new = ⊥
  IsServed old bytes (Err (Unread kind)) new = HasFault bytes kind × (new ≡ old)
  IsServed old bytes (Err (Refused error text)) new =
      (request : Option TsRequest) × Takes old bytes
      (Err (record { ts_request = request; error = error })) new
      × (error.error_type ≢ kinds.InsufficientMemory) × SpellsAny {E = DeskError} request (Ok text)
  IsServed old bytes (Err TooLong) new = (reply : TsRequest) ×
      Takes old bytes (Ok (ReplyNeeded reply)) new × (fits reply ≡ false)
  IsServed old bytes (Err InsufficientMemory) new = (HasNoRoom bytes × (new ≡ old))
      ⊎ ((result : Result ServerState ServerError) × Takes old bytes result new ×
      HasNoAnswer InsufficientMemory result)
