-- All that recorded bytes can show of a run of two ends, whatever its key, nonce and contexts
-- (MS-CSSP 3.1.5): what is shown of each turn, what its end heeds and how it refuses, and what was
-- taken of the last delivery. Turns are newest first, the log is oldest first.
use Rattle.std.specs.Prelude.{◌≡◌, ◌≤◌, ℕ, Option, None, Some, true, false, List, [], ◌∷◌, length}
use Rattle.std.specs.Prelude.{nat_lt, slice_get, IfSome}
use Rattle.std.specs.Prelude.{if◌then◌else◌}
use Rattle.sspi_types.specs.declared.error_kind.ErrorKind.{ErrorKind}
use Rattle.sspi_tsreq.specs.declared.request.TsRequest.{TsRequest}
use Rattle.sspi_credssp.specs.declared.turn.End.{End}
use Rattle.sspi_credssp.specs.declared.turn.End.TheVariants.{Client, Server}
use Rattle.sspi_credssp.specs.declared.turn.Outcome.{Outcome}
use Rattle.sspi_credssp.specs.declared.turn.Outcome.TheVariants as outcome
use Rattle.sspi_credssp.specs.declared.turn.Turn.{Turn}
use Rattle.sspi_credssp.specs.Acts.{no_acts}
use Rattle.sspi_credssp.specs.Noted.{differs}
use Rattle.sspi_credssp.specs.Requests.{is_code}
use Rattle.sspi_credssp.specs.Turn.{ShownFrame, AtNoted, HasNonce}
use Rattle.sspi_delegate.specs.declared.carried.Carried.{Carried}
use Rattle.sspi_delegate.specs.Log.{delivery_limit}
use Rattle.sspi_delegate.specs.Turns.{client_turns, server_turns}
use Rattle.sspi_audit.specs.Refusals.{ClientRefuses, ServerRefuses}
use Rattle.sspi_audit.specs.Shown.{ShownTurn, IsCounted}
use Rattle.sspi_audit.specs.Frames.{client_before, server_before, server_note}

-- a fact about the kind, if the turn was refused
abbrev pub IfRefused : Outcome → (ErrorKind → Type 0) → Type 0
IfRefused (outcome.Reply reply) P = Unit {0}
IfRefused (outcome.Final reply) P = Unit {0}
IfRefused outcome.Finished P = Unit {0}
IfRefused (outcome.Refused kind reply) P = P kind

-- f: what is known of the end before the turn

-- given an error, or a version other than the pinned one, a client does nothing; a step without an
-- answer gives no token
pub record ClientHeeds (f : ShownFrame) (t : Turn) : Type 0 where
  pub told : is_code t.delivered.error_code ≡ true → t.acts ≡ no_acts
  pub altered : differs f.noted t.delivered.version ≡ true → t.acts ≡ no_acts
  pub unanswered : t.acts.status ≡ None → t.output ≡ []
  pub refused : IfRefused t.outcome (ClientRefuses f t)

-- the version of an error request, if the server's own is known: the delivered one if that is not
-- the pinned one, otherwise its own
abbrev pub TellsVersion : Option ℕ → Option ℕ → ℕ → ℕ → Type 0
TellsVersion None noted delivered version = Unit {0}
TellsVersion (Some own) noted delivered version =
    version ≡ (if differs noted delivered then delivered else own)

abbrev pub ErrorTells : ShownFrame → TsRequest → Outcome → Type 0
ErrorTells f d (outcome.Refused kind (Some reply)) =
    TellsVersion f.version f.noted d.version reply.version
ErrorTells f d other = Unit {0}

-- given a version other than the pinned one, a server does nothing; from version 5 on it opens no
-- proof without a nonce
pub record ServerHeeds (f : ShownFrame) (t : Turn) : Type 0 where
  pub altered : differs f.noted t.delivered.version ≡ true → t.acts ≡ no_acts
  pub unanswered : t.acts.status ≡ None → t.output ≡ []
  pub checked : t.acts.checked ≡ true →
      AtNoted (server_note f.noted t.delivered.version)
      (λ noted. HasNonce (nat_lt noted 5) t.delivered.client_nonce)
  pub refused : IfRefused t.outcome (ServerRefuses f t)
  pub tells : ErrorTells f t.delivered t.outcome

abbrev pub HeedsPeer : End → List Turn → Turn → Type 0
HeedsPeer Client past t = ClientHeeds (client_before (client_turns past)) t
HeedsPeer Server past t = ServerHeeds (server_before (server_turns past)) t

-- one turn, after these
pub record RunTurn (log : List Carried) (past : List Turn) (t : Turn) : Type 0 where
  pub shown : ShownTurn log past t
  pub heeds : HeedsPeer t.end past t

abbrev pub EachRunTurn : List Carried → List Turn → Type 0
EachRunTurn log [] = Unit {0}
EachRunTurn log (t ∷ past) = RunTurn log past t × EachRunTurn log past

-- what was taken of a delivered message that no later turn was given: up to the limit; of a
-- refusal, nothing, since no end reads on
abbrev pub IsLeftBehind : Outcome → Carried → Type 0
IsLeftBehind (outcome.Reply reply) e = length e.delivered ≤ delivery_limit
IsLeftBehind (outcome.Final reply) e = length e.delivered ≤ delivery_limit
IsLeftBehind outcome.Finished e = Unit {0}
IsLeftBehind (outcome.Refused kind reply) e = (e.delivered ≡ []) × (e.ended ≡ false)

abbrev pub LastLeft : List Turn → List Carried → Type 0
LastLeft [] log = Unit {0}
LastLeft (t ∷ past) log = IfSome (slice_get log (length past)) (IsLeftBehind t.outcome)

-- as many entries as turns, or one fewer, and the last delivery not taken past the limit
pub record LogEnds (turns : List Turn) (log : List Carried) : Type 0 where
  pub counted : IsCounted turns log
  pub last : LastLeft turns log

pub record IsShownRun (turns : List Turn) (log : List Carried) : Type 0 where
  pub each : EachRunTurn log turns
  pub ends : LogEnds turns log
