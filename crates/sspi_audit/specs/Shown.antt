-- What recorded bytes can show of an exchange: what its turns and its log have if two ends made
-- them, whatever their key, nonce and contexts. Turns are a list, newest first; the log is oldest
-- first, so that entry i belongs to turn i.
use Rattle.std.specs.Prelude.{◌≡◌, ◌+◌, ◌≤◌, true, List, [], ◌∷◌, length, slice_get, IfSome}
use Rattle.sspi_tsreq.specs.declared.request.TsRequest.{TsRequest}
use Rattle.sspi_tsreq.specs.Grammar.{first_request}
use Rattle.sspi_credssp.specs.declared.turn.End.{End}
use Rattle.sspi_credssp.specs.declared.turn.End.TheVariants.{Client, Server}
use Rattle.sspi_credssp.specs.declared.turn.Outcome.{Outcome}
use Rattle.sspi_credssp.specs.declared.turn.Outcome.TheVariants as outcome
use Rattle.sspi_credssp.specs.declared.turn.Turn.{Turn}
use Rattle.sspi_credssp.specs.Requests.{IsLong}
use Rattle.sspi_credssp.specs.Turn.{ShowsClient, ShowsServer}
use Rattle.sspi_delegate.specs.declared.carried.Carried.{Carried}
use Rattle.sspi_delegate.specs.Log.{delivery_limit, is_taken, IsRead, IsEntry}
use Rattle.sspi_delegate.specs.Turns.{client_turns, server_turns, next_end, AllGoOn}
use Rattle.sspi_audit.specs.Frames.{client_frame, server_frame}

-- given its end's earlier turns, a turn has only effects that it may have, and the message that it
-- owes
abbrev pub ShowsTurn : End → List Turn → Turn → Type 0
ShowsTurn Client past t = ShowsClient (client_frame (client_turns past) t) t
ShowsTurn Server past t = ShowsServer (server_frame (server_turns past) t) t

-- a sealed blob is long enough to hold its tag of 16 octets
abbrev pub HasLongBlobs : Turn → Outcome → Type 0
HasLongBlobs t (outcome.Reply r) = t.acts.proved ≡ true → IsLong r.pub_key_auth
HasLongBlobs t (outcome.Final r) = IsLong r.auth_info
HasLongBlobs t outcome.Finished = Unit {0}
HasLongBlobs t (outcome.Refused kind reply) = Unit {0}

-- a turn after these was given what the entry before it delivered, if that is recorded: taken to
-- its end or to the limit and no further; the first turn was given its end's own first request
abbrev pub IsGiven : List Turn → List Carried → TsRequest → Type 0
IsGiven [] log request = request ≡ first_request
IsGiven (t ∷ past) log request =
    IfSome (slice_get log (length past)) (λ e. (is_taken e ≡ true) × IsRead e.delivered request ×
    (length e.delivered ≤ delivery_limit))

-- one turn, after these
pub record ShownTurn (log : List Carried) (past : List Turn) (t : Turn) : Type 0 where
  -- the ends alternate, and no earlier turn was the last
  pub order : t.end ≡ next_end past
  pub going : AllGoOn past
  pub given : IsGiven past log t.delivered
  pub shows : ShowsTurn t.end past t
  pub long : HasLongBlobs t t.outcome
  -- its entry, if that is recorded, has its message
  pub entry : IfSome (slice_get log (length past)) (IsEntry t)

abbrev pub EachShown : List Carried → List Turn → Type 0
EachShown log [] = Unit {0}
EachShown log (t ∷ past) = ShownTurn log past t × EachShown log past

-- there are as many entries as turns, or one fewer
pub record IsCounted (turns : List Turn) (log : List Carried) : Type 0 where
  pub most : length log ≤ length turns
  pub least : length turns ≤ length log + 1

pub record ShownRun (turns : List Turn) (log : List Carried) : Type 0 where
  pub each : EachShown log turns
  pub counted : IsCounted turns log
